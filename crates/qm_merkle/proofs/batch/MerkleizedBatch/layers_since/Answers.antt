use Rattle.std.proofs.Common.{◌≡◌, ◌≤◌, ◌∷◌, ◌∙◌, List, sym, ap, subst, map, take, arith}
use Rattle.std.specs.Prelude.{IfOk}
use Rattle.std.proofs.lemmas.List.{take-map}
use Rattle.qm_merkle.specs.Batches.{Layer, layers_since, all_layers}
use Rattle.qm_merkle.proofs.Putting.{since-here}
use Rattle.qm_merkle.proofs.batch.MerkleizedBatch.layers_since.Goals as goal

pub returns : goal.returns
returns g c =
    let newest = c.self.inside.newest.value in
    let older = c.self.inside.older.items in
    let from : c.args.leaves ≤ newest.tree.start = omega (arith, c.if-get.false, c.get.ensures, c.base.ensures.start, c.get-2.ensures, ap (λ l. l.tree.start) c.deref.ensures) in
    subst (λ (layers : List (Layer g.row.D.Denot)). IfOk c.first_of.result (λ v. map (λ r. r.value) v.items ≡ layers))
    (ap (λ layers. newest ∷ layers) (ap (map (λ r. r.value)) (c.split_at.ensures.front ∙ ap (take c.count_since.result) c.deref-2.ensures.value)
    ∙ sym (take-map (λ r. r.value) c.count_since.result older)
    ∙ ap (λ l. take c.count_since.result (map (λ r. r.value) l)) (sym c.deref-3.ensures.value)
    ∙ c.count_since.ensures.since
    ∙ ap (λ l. layers_since c.args.leaves (map (λ r. r.value) l)) c.deref-3.ensures.value)
    ∙ sym (since-here c.args.leaves newest (map (λ r. r.value) older) from)
    ∙ ap (λ b. layers_since c.args.leaves (all_layers b)) c.self.view_is)
    c.first_of.ensures
