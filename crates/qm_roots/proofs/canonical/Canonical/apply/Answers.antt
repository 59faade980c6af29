use Rattle.std.proofs.Common.{◌∙◌, ◌<◌, ◌≤◌, ℕ, List, get_or, arith, ap, sym, subst}
use Rattle.std.specs.Prelude.{Contains}
use Rattle.std.proofs.lemmas.List.Elements.{All-contains}
use Rattle.qm_model.specs.Grafted.{grafted_chunks, needed_size}
use Rattle.qm_model.proofs.Speaking.{get_or_default}
use Rattle.qm_merkle.specs.Batches.{stops}
use Rattle.qm_merkle.specs.Mems.{Stands}
use Rattle.qm_graft.specs.Grafting.{grafting, kept_shape}
use Rattle.qm_roots.specs.Canonical.{Canonical, IsSized, values_of}
use Rattle.qm_roots.specs.Kept.{AreFalling, sizes_of}
use Rattle.qm_roots.proofs.Resting.{among-list, first-size}
use Rattle.qm_roots.proofs.canonical.Canonical.apply.Goals as goal

-- no size is greater than the newest
size-most : (sizes : List ℕ) (n : ℕ) → AreFalling sizes → Contains sizes n → n ≤ get_or sizes 0 0
size-most sizes n falling found =
    let down = falling 0 found.0 (omega arith) found.1 in
    omega (arith, down, get_or_default sizes found.0 n 0 found.1, found.2)

pub put_into-requires : goal.put_into-requires
put_into-requires g c =
    let shape = g.F.Family.shape in
    let height = grafting g.N.Chunks.LEN in
    let batch = c.args.batch.now in
    let agreed = c.size_before-size.ensures.agreed in
    let sized = subst (IsSized {D = g.row.D.Denot} shape height) c.self.view_is c.self.invariant in
    let reached = All-contains (λ n. Contains (stops batch.leaves batch.layers) (grafted_chunks shape height n)) (sizes_of batch) c.args.self.now.size agreed.reached c.requires in
    subst (Contains (stops batch.leaves batch.layers)) (sym (ap (λ (o : Canonical g.row.D.Denot). o.tree.leaves) c.self.view_is ∙ sized.leaves)) reached

pub invariant_of-self : goal.invariant_of-self
invariant_of-self g c =
    subst (λ t. IsSized {D = g.row.D.Denot} g.F.Family.shape (grafting g.N.Chunks.LEN) (record { tree = t; size = c.self.inside.size; root = g.D.Digest.bytes c.self.inside.root })) (sym c.in_err-put_into.ensures.err) c.self.invariant

pub invariant_of-self-2 : goal.invariant_of-self-2
invariant_of-self-2 g c =
    let shape = g.F.Family.shape in
    let height = grafting g.N.Chunks.LEN in
    let agreed = c.size_before-size.ensures.agreed in
    let sized = subst (IsSized {D = g.row.D.Denot} shape height) c.self.view_is c.self.invariant in
    let size = c.size_before-size.ensures.size in
    let bounds = c.in_ok-put_into.ensures.bounds in
    let start = bounds.0 ∙ ap (λ (o : Canonical g.row.D.Denot). o.tree.start) c.self.view_is in record {
      few = omega (arith, size, agreed.few);
      leaves = bounds.1 ∙ agreed.leaves ∙ ap (grafted_chunks shape height) (sym size);
      may_go = λ more.
          let old = subst (λ n. 0 < n → needed_size shape height n ≤ c.args.self.now.size) (sym start) sized.may_go more in
          omega (arith, old, size, size-most (sizes_of c.args.batch.now) c.args.self.now.size agreed.falling c.requires);
    }

pub returns : goal.returns
returns g c =
    let batch = c.args.batch.now in
    let size = c.size_before-size.ensures.size in
    let bounds = c.in_ok-put_into.ensures.bounds in record {
      start = bounds.0 ∙ ap (λ (o : Canonical g.row.D.Denot). o.tree.start) c.self.view_is;
      size = size;
      stands = λ hash form list tip bases is found at.
          let kshape = kept_shape g.F.Family.shape (grafting g.N.Chunks.LEN) in
          let values = values_of hash g.F.Family.shape (grafting g.N.Chunks.LEN) form in
          let stood = subst (λ t. Stands kshape g.D.Digest.bytes hash t (values list)) (sym (ap (λ (o : Canonical g.row.D.Denot). o.tree) c.self.view_is)) at.tree in record {
            size_is = size ∙ first-size g.D.Digest.bytes hash g.F.Family.shape g.N.Chunks.LEN form batch tip bases is;
            tree = c.in_ok-put_into.ensures.stands hash (values list) (values tip) is.lists is.history (among-list g.D.Digest.bytes hash g.F.Family.shape g.N.Chunks.LEN form batch tip bases is list found) stood;
            root = c.root-root.ensures ∙ is.root;
          };
      err = tt;
    }
