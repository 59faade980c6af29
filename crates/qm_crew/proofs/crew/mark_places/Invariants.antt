use Rattle.std.proofs.Common.{◌≡◌, [], take}
use Rattle.qm_crew.specs.Views.{worker}
use Rattle.qm_crew.proofs.crew.mark_places.Given as goal

abbrev pub invariant-loop-place : goal.invariant-loop-place
invariant-loop-place g l = (l.seat.table_id ≡ l.initial.seat.table_id) × (l.seat.me ≡ (worker (take l.place-index l.places), [])) × (l.step ≡ l.place-index)
