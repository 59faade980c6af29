use Rattle.std.proofs.Common.{◌≤◌, ◌∙◌, ◌^◌, ◌∷◌, ap, sym, subst, refl}
use Rattle.std.proofs.lemmas.Result.{on_ok_weaker}
use Rattle.qm_merkle.specs.Batches.{IsHistory}
use Rattle.qm_merkle.specs.Mems.{Stands}
use Rattle.qm_store.proofs.Kept.{tree-of, rest-of, rest-stop, rest-list}
use Rattle.qm_store.proofs.kept_tree.KeptTree.put_into.Goals as goal

pub returns-in-Some : goal.returns-in-Some
returns-in-Some g c =
    let is = tree-of c.args.self.now c.self.inside.leaves c.self.inside.batch c.in-Some.batch (sym c.self.view_is) c.in-Some.is c.self.invariant.1 in
    let leaves = sym (ap (λ t. t.leaves) is) in
    let few = subst (λ n. n ≤ 2 ^ 62) (ap (λ t. t.leaves) c.self.view_is ∙ sym leaves) c.self.invariant.0 in
    let done = c.apply_batch in
    record {
      start = on_ok_weaker done.result (λ ends. ends.0) done.ensures.bounds;
      leaves = on_ok_weaker done.result (λ ends. ends.1 ∙ leaves) done.ensures.bounds;
      few = on_ok_weaker done.result (λ ends. subst (λ n. n ≤ 2 ^ 62) (sym ends.1) few) done.ensures.bounds;
      stands = λ hash list new lists history found stands.
          done.ensures.stands hash list new lists (subst (λ l. IsHistory g.F.Family.shape g.D.Digest.bytes hash l (new ∷ lists)) (ap (λ t. t.layers) is) history) found stands;
      err = done.ensures.err;
    }

pub returns-in-None : goal.returns-in-None
returns-in-None g c =
    let shape = g.F.Family.shape in
    let bytes = g.D.Digest.bytes in
    let tree = c.args.self.now in
    let grown = c.args.tree.now in
    let is = rest-of tree c.self.inside.leaves c.self.inside.batch (sym c.self.view_is) c.in-None.is in
    let none = ap (λ t. t.layers) is in
    let last = sym (rest-stop tree.leaves grown.leaves tree.layers none c.requires.reach) in
    record {
      start = refl;
      leaves = last;
      few = subst (λ n. n ≤ 2 ^ 62) (ap (λ t. t.leaves) c.self.view_is ∙ sym last) c.self.invariant.0;
      stands = λ hash list new lists history found stands. subst (Stands shape bytes hash grown) (sym (rest-list hash shape bytes tree.layers new list lists none history found)) stands;
      err = tt;
    }
