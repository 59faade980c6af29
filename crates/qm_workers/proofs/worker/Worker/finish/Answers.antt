use Rattle.std.proofs.Common.{◌≡◌, ap, ◌∙◌, refl, true, false, Bool, map, ◌++◌}
use Rattle.std.specs.Prelude.{option_to_list}
use Rattle.qm_workers.specs.Working.{move_of, work_of, Goes}
use Rattle.qm_workers.proofs.Doing.{goes-on, goes-nowhere}
use Rattle.qm_workers.proofs.worker.Worker.finish.Goals as goal

pub returns-in-Some-clause-goes : goal.returns-in-Some-clause-goes
returns-in-Some-clause-goes g c =
    let bytes = g.K.ByteString.bytes in
    let index_key = g.I.Unordered.index_key in
    let old = work_of g.I.Unordered.entries bytes c.args.self.now in
    let new = work_of g.I.Unordered.entries bytes c.settle.new.self in
    let items = c.pop_front.ensures.items ∙ ap (λ o. option_to_list o ++ c.pop_front.new.self.items) c.in-Some.is in
    let by : (t : Bool) → c.settle.result ≡ t → Goes index_key old new = elim [
      | true ↦ λ is. goes-on index_key (move_of bytes c.in-Some.task) (map (move_of bytes) c.pop_front.new.self.items) old _ new (ap (map (move_of bytes)) items) refl (c.settle.ensures.did is)
      | false ↦ λ is. goes-nowhere index_key old new (c.settle.ensures.failed is).0
    ] in
    by c.settle.result refl
