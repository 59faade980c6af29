use Rattle.std.proofs.Common.{◌≡◌, ◌<◌, ◌≤◌, ℕ, length}
use Rattle.std.specs.Prelude.{slice_index_or}
use Rattle.qm_crew.specs.Crews.{IsDone}
use Rattle.qm_crew.proofs.crew.mark_each.Given as goal

abbrev pub invariant-loop-i : goal.invariant-loop-i
invariant-loop-i g l =
    (length l.crew ≡ length l.initial.crew)
    × ((j : ℕ) (d : _) → j < l.i → IsDone l.board.table_id (slice_index_or l.crew j d))
    × ((j : ℕ) (d : _) → j < l.i → (slice_index_or l.crew j d).places.items ≡ (slice_index_or l.initial.crew j d).places.items)
    × ((j : ℕ) (d : _) → l.i ≤ j → slice_index_or l.crew j d ≡ slice_index_or l.initial.crew j d)
