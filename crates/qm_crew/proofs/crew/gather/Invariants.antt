use Rattle.std.proofs.Common.{◌≡◌, ℕ, ◌+◌, true, All, vec_len}
use Rattle.qm_crew.specs.Crews.{IsDone, places_of}
use Rattle.qm_crew.proofs.Times.{times, sum_times}
use Rattle.qm_crew.proofs.crew.gather.Given as goal

abbrev pub invariant-loop-marker : goal.invariant-loop-marker
invariant-loop-marker l =
    (l.lead.table_id ≡ l.initial.lead.table_id)
    × ((l.lead.me.0.lead ≡ true) × (l.lead.me.0.out ≡ vec_len l.crew))
    × All (IsDone l.board.table_id) l.crew.items
    × ((p : ℕ) → times p l.lead.me.0.marks + sum_times p (places_of l.crew.items) ≡ sum_times p (places_of l.initial.crew.items))

abbrev pub decreases-loop-marker : goal.decreases-loop-marker
decreases-loop-marker l = vec_len l.crew
