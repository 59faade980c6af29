use Rattle.std.proofs.Common.{◌≡◌, ◌+◌, ◌<◌, ℕ, get_or}
use Rattle.qm_fill.specs.Draws.{draw}
use Rattle.qm_fill.proofs.rounds.draw_into.Given as goal

abbrev pub invariant-loop-place : goal.invariant-loop-place
invariant-loop-place l = (l.last ≡ draw l.before l.place-index) × ((k : ℕ) → k < l.place-index → get_or l.places k 0 ≡ draw l.before (k + 1))
