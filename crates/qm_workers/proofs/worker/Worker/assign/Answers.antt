use Rattle.std.proofs.Common.{ap, map, ◌∙◌, [], ◌∷◌}
use Rattle.std.proofs.lemmas.List.{map-append}
use Rattle.qm_workers.specs.Working.{move_of, work_of}
use Rattle.qm_workers.specs.declared.worker.Task.{Task}
use Rattle.qm_workers.proofs.worker.Worker.assign.Goals as goal

pub returns : goal.returns
returns g c =
    let bytes = g.K.ByteString.bytes in
    let task : Task g.row.K.Denot = record { at = c.args.at; key = c.args.key; is_update = c.args.is_update } in
    ap (λ ms. record (work_of g.I.Unordered.entries bytes c.args.self.now) { coming = ms })
    (ap (map (move_of bytes)) c.in_ok-push_back.ensures.items ∙ map-append (move_of bytes) c.args.self.now.coming.items (task ∷ []))
