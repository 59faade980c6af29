use Rattle.std.proofs.Common.{◌∙◌, ap, ap₂, map, ◌∷◌}
use Rattle.qm_merkle.proofs.Histories.{values-same}
use Rattle.qm_merkle.proofs.batch.first_of.Goals as goal

pub returns : goal.returns
returns g c =
    ap (map (λ r. r.value)) c.in_ok-insert.ensures.items
    ∙ ap₂ (λ a b. a ∷ b) c.in_ok-clone.ensures.cases (values-same (λ r. r.value) c.args.others.now c.in_ok-all.all.items c.in_ok-all.ensures.ok)
