use Rattle.std.proofs.Common.{◌≡◌, ◌∙◌, ◌<◌, All, length, arith, ap, sym, subst}
use Rattle.std.proofs.lemmas.List.Elements.{All-nil}
use Rattle.qm_merkle.specs.Batches.{AreLinked, IsHistory, all_layers, stops, layers_since, lists_since}
use Rattle.qm_merkle.proofs.Since.{linked-since, stops-since, batch-since}
use Rattle.qm_merkle.proofs.batch.MerkleizedBatch.new_batch_since.Goals as goal

pub invariant_of-result : goal.invariant_of-result
invariant_of-result g c =
    let shape = g.F.Family.shape in
    let batch = c.args.self.now in
    let linked = subst (λ b. AreLinked shape b.newest.tree.leaves (all_layers b)) c.self.view_is c.self.invariant.1 in
    let count : c.leaves.result ≡ batch.newest.tree.leaves = c.leaves.ensures.count in (
      omega (arith, c.self.invariant.0, c.self.invariant.1.1.order, count, ap (λ b. b.newest.tree.leaves) c.self.view_is),
      omega (arith, c.leaves.ensures.few, ap length c.new-2.ensures.items),
      subst (All (λ e. e.0 < c.leaves.result)) (sym c.new.ensures.empty) (All-nil (λ e. e.0 < c.leaves.result)),
      subst (AreLinked shape c.leaves.result) (sym c.in_ok-layers_since.ensures)
          (subst (λ n. AreLinked shape n (layers_since c.args.leaves (all_layers batch))) (sym count) (linked-since shape c.args.leaves batch.newest.tree.leaves (all_layers batch) linked)),
    )

pub returns-clause-stops : goal.returns-clause-stops
returns-clause-stops g c =
    let shape = g.F.Family.shape in
    let batch = c.args.self.now in
    let n = batch.newest.tree.leaves in
    let linked = subst (λ b. AreLinked shape b.newest.tree.leaves (all_layers b)) c.self.view_is c.self.invariant.1 in
    ap (λ layers. stops c.leaves.result layers) c.in_ok-layers_since.ensures ∙ ap (λ m. stops m (layers_since c.args.leaves (all_layers batch))) c.leaves.ensures.count
    ∙ stops-since shape c.args.leaves n (all_layers batch) linked c.requires

pub returns-clause-history : goal.returns-clause-history
returns-clause-history g c = λ hash lists history.
    let shape = g.F.Family.shape in
    let batch = c.args.self.now in
    let linked = subst (λ b. AreLinked shape b.newest.tree.leaves (all_layers b)) c.self.view_is c.self.invariant.1 in
    subst (λ layers. IsHistory shape g.D.Digest.bytes hash layers (lists_since c.args.leaves lists)) (sym c.in_ok-layers_since.ensures)
    (batch-since shape g.F.Family.births g.met.F.Family.numbered g.met.F.Family.peaked g.D.Digest.bytes hash c.args.leaves batch.newest.tree.leaves batch.newest batch.older lists linked c.requires history)
