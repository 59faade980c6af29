use Rattle.std.proofs.Common.{◌≡◌, ◌∙◌, length, map, ap, sym}
use Rattle.std.proofs.lemmas.Result.{IfOk-from_err}
use Rattle.qm_model.specs.Trees.{Shape, peaks, peak_positions, leaves_from}
use Rattle.qm_model.specs.Grafted.{chunk_of, grafted_value, grafted_inactive, grafted_root_of}
use Rattle.qm_graft.specs.Grafting.{grafting}
use Rattle.qm_graft.proofs.Rooting.{told-values, length-leaves}
use Rattle.qm_graft.proofs.root.root_of.Goals as goal

pub returns-clause-root : goal.returns-clause-root
returns-clause-root g c = λ form ops long floor tells.
    let hash = g.H.Hasher.hash in
    let shape = g.F.Family.shape in
    let height = grafting g.N.Chunks.LEN in
    let list = leaves_from hash shape form 0 ops in
    let count : c.args.leaves ≡ length list = long ∙ sym (length-leaves hash shape form 0 ops) in
    let values = ap (map g.H.Digest.Digest.bytes) c.deref.ensures.value
    ∙ told-values g.H.Digest.Digest.bytes (Shape.position shape) (g.V.Nodes.node_at c.args.view.now) (grafted_value hash shape height list (chunk_of height ops)) (peaks shape (length list)) c.in_ok-values.values.items
    (c.in_ok-values.ensures.held ∙ ap (λ n. map (g.V.Nodes.node_at c.args.view.now) (peak_positions shape n)) count) tells in
    c.grafted_root.ensures.root height list (chunk_of height ops) count values
    ∙ ap (grafted_root_of hash shape height list (chunk_of height ops)) (c.grafted_inactive-inactive.ensures.list ops long floor ∙ ap (λ h. grafted_inactive shape h ops) c.height.ensures.exact)

pub returns-in_err-values : goal.returns-in_err-values
returns-in_err-values g c = record {
  root = λ form ops long floor tells. IfOk-from_err c.from_residual.result _ c.from_residual.ensures.0;
  made = IfOk-from_err c.from_residual.result _ c.from_residual.ensures.0;
}
