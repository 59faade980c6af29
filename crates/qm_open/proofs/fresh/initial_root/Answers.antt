use Rattle.std.proofs.Common.{◌∙◌, ap, ap₂, None}
use Rattle.qm_model.specs.Forms.{spelling}
use Rattle.qm_model.specs.Operations.{commit}
use Rattle.qm_model.specs.Trees.{leaf, leaf_digest}
use Rattle.qm_open.proofs.Empty.{fresh-rooted}
use Rattle.qm_open.proofs.fresh.initial_root.Goals as goal

pub returns : goal.returns
returns g c =
    let hash = g.H.Hasher.hash in
    c.root_of_one.ensures
    ∙ fresh-rooted g.F.Family.shape g.F.Family.births g.met.F.Family.numbered g.met.F.Family.peaked hash g.U.Update.form (g.H.Digest.Digest.bytes c.leaf_of-leaf.result)
    (c.leaf_of-leaf.ensures
    ∙ ap₂ (λ p n. leaf_digest hash p (spelling g.U.Update.form (commit None n))) (c.get.ensures ∙ c.location_to_position-position.ensures.place ∙ ap (λ n. g.F.Family.shape.position (leaf n)) c.new-2.ensures) c.new.ensures)
