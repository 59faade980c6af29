use Rattle.std.proofs.Common.{◌∙◌, Some, ap, length, map, sym}
use Rattle.std.proofs.lemmas.List.{length-map}
use Rattle.std.proofs.lemmas.Result.{IfOk-from_err, IfOk-weaker}
use Rattle.qm_model.specs.Trees.{Shape, peak_positions, peaks}
use Rattle.qm_graft.proofs.root.peak_values.Goals as goal

pub returns-in_err-positions : goal.returns-in_err-positions
returns-in_err-positions g c = record {
  held = IfOk-from_err c.from_residual.result _ c.from_residual.ensures.0;
  count = IfOk-from_err c.from_residual.result _ c.from_residual.ensures.0;
}

pub returns : goal.returns
returns g c = record {
  held =
      let node = g.V.Nodes.node_at c.args.view.now in
      let positions = ap (map node) (c.deref.ensures.value ∙ c.in_ok-positions.ensures) in
      IfOk-weaker c.held_at.result _ _ (λ v same. same ∙ positions) c.held_at.ensures;
  count =
      let node = g.V.Nodes.node_at c.args.view.now in
      let positions = ap (map node) (c.deref.ensures.value ∙ c.in_ok-positions.ensures) in
      let shape = g.F.Family.shape in
      IfOk-weaker c.held_at.result _ _
      (λ v same. sym (length-map v.items Some) ∙ ap length (same ∙ positions) ∙ length-map (peak_positions shape c.args.leaves) node ∙ length-map (peaks shape c.args.leaves) (Shape.position shape))
      c.held_at.ensures;
}
