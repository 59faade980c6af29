use Rattle.std.proofs.Common.{◌≡◌, ◌≤◌, ◌∙◌, None, OnOk, IfErr, length, sym, ap, subst, arith, IfOk}
use Rattle.std.proofs.lemmas.List.{take_all}
use Rattle.qm_model.specs.Proofs.{proof_of}
use Rattle.qm_merkle.specs.Batches.{all_layers}
use Rattle.qm_merkle.specs.Mems.{Stands, node_at}
use Rattle.qm_proofs.specs.Proofs.{proof_view, needed_positions, first_lacked}
use Rattle.qm_store.specs.Log.{IsLacked}
use Rattle.qm_store.specs.KeptTrees.{KeptTree, leaves_of, held_at}
use Rattle.qm_store.proofs.Leaves.{length-digests_from}
use Rattle.qm_store.proofs.Kept.{tree-of, rest-of, kept-through, rest-same}
use Rattle.qm_store.proofs.kept_tree.KeptTree.proof.Goals as goal

pub returns-in-Some : goal.returns-in-Some
returns-in-Some g c =
    let hash = g.H.Hasher.hash in
    let shape = g.F.Family.shape in
    let bytes = g.D.Digest.bytes in
    let tree = c.args.self.now in
    let log = c.args.log.now.tree in
    let layers = all_layers c.in-Some.batch in
    let is = tree-of tree c.self.inside.leaves c.self.inside.batch c.in-Some.batch (sym c.self.view_is) c.in-Some.is c.self.invariant.1 in
    let made = c.speculative_proof in
    record {
      value = λ list tip older stands kept found.
          let through = kept-through hash shape bytes tree tip older kept layers (ap (λ t. t.layers) is) list found in
          made.ensures.value list (leaves_of hash shape tip) kept.lists stands through.0 through.1;
      held = subst (λ (t : KeptTree _). OnOk made.result (first_lacked (held_at shape t log) (needed_positions shape t.leaves c.args.start c.args.end) ≡ None)) (sym is) made.ensures.held;
      cause = subst (λ (t : KeptTree _). IfErr made.result (IsLacked (held_at shape t log) (needed_positions shape t.leaves c.args.start c.args.end))) (sym is) made.ensures.cause;
      whole = λ first list tip older stands kept found.
          let through = kept-through hash shape bytes tree tip older kept layers (ap (λ t. t.layers) is) list found in
          made.ensures.whole first list (leaves_of hash shape tip) kept.lists stands through.0 through.1;
    }

pub returns-in-None : goal.returns-in-None
returns-in-None g c =
    let hash = g.H.Hasher.hash in
    let shape = g.F.Family.shape in
    let bytes = g.D.Digest.bytes in
    let tree = c.args.self.now in
    let log = c.args.log.now.tree in
    let size = c.self.inside.leaves in
    let is = rest-of tree size c.self.inside.batch (sym c.self.view_is) c.in-None.is in
    let made = c.kept_proof in
    let needed = needed_positions shape size c.args.start c.args.end in
    record {
      value = λ list tip older stands kept found.
          let own = leaves_of hash shape list in
          let same = rest-same hash shape bytes tree tip older kept list (ap (λ t. t.layers) is) found in
          let long : size ≡ length own = sym (ap (λ t. t.leaves) is) ∙ kept.leaves ∙ sym (length-digests_from hash shape 0 tip) ∙ sym (ap length same) in
          subst (λ ds. IfOk made.result (λ p. proof_view bytes p ≡ proof_of hash shape ds c.args.inactive c.args.start c.args.end))
          (take_all size own (omega (arith, long)) ∙ same)
          (made.ensures.value hash own (subst (λ t. Stands shape bytes hash t own) (sym c.tree.ensures) stands.tree));
      held = subst (λ (t : KeptTree _). OnOk made.result (first_lacked (held_at shape t log) (needed_positions shape t.leaves c.args.start c.args.end) ≡ None)) (sym is)
          (subst (λ m. OnOk made.result (first_lacked (node_at shape m) needed ≡ None)) c.tree.ensures made.ensures.held);
      cause = subst (λ (t : KeptTree _). IfErr made.result (IsLacked (held_at shape t log) (needed_positions shape t.leaves c.args.start c.args.end))) (sym is)
          (subst (λ m. IfErr made.result (IsLacked (node_at shape m) needed)) c.tree.ensures made.ensures.cause);
      whole = λ first list tip older stands kept found. made.ensures.whole (subst (λ m. m.start ≤ c.args.start) (sym c.tree.ensures) first);
    }
