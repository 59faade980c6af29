use Rattle.std.proofs.Common.{◌≡◌, ◌<◌, ◌≤◌, ℕ, length}
use Rattle.std.specs.Prelude.{slice_index_or}
use Rattle.qm_crew.specs.Turned.{Turns}
use Rattle.qm_crew.proofs.turns.turn_each.Given as goal

abbrev pub invariant-loop-i : goal.invariant-loop-i
invariant-loop-i g l =
    (length l.crew ≡ length l.initial.crew)
    × ((j : ℕ) (d : _) → j < l.i → Turns g.W.Turning.left g.W.Turning.may_turn (slice_index_or l.initial.crew j d) (slice_index_or l.crew j d))
    × ((j : ℕ) (d : _) → l.i ≤ j → slice_index_or l.crew j d ≡ slice_index_or l.initial.crew j d)
