use Rattle.std.proofs.Common.{◌∙◌, ◌∷◌, ap, map, sym, take}
use Rattle.std.proofs.lemmas.List.{take-map}
use Rattle.qm_merkle.proofs.Histories.{values-same}
use Rattle.qm_roots.specs.Kept.{Kept}
use Rattle.qm_roots.proofs.kept.Kept.over.Goals as goal

pub returns : goal.returns
returns g c =
    ap (map (λ r. r.value)) c.in_ok-insert.ensures.items
    ∙ ap (λ ls. c.args.own.value ∷ ls) (values-same (λ r. r.value) c.split_at.result.0.now c.in_ok-overlays.overlays.items c.in_ok-overlays.ensures.ok
    ∙ ap (map (λ r. r.value)) (c.split_at.ensures.front ∙ ap (take c.args.keep) c.deref.ensures.value)
    ∙ sym (take-map (λ r. r.value) c.args.keep c.self.inside.overlays.items)
    ∙ ap (λ (k : Kept g.row.D.Denot). take c.args.keep k.overlays) c.self.view_is)
