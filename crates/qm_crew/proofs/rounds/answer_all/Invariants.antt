use Rattle.std.proofs.Common.{◌≡◌, ◌<◌, ◌≤◌, ℕ, true, false, length}
use Rattle.std.specs.Prelude.{slice_index_or, sum_by}
use Rattle.qm_crew.proofs.rounds.answer_all.Given as goal

abbrev pub invariant-loop-i : goal.invariant-loop-i
invariant-loop-i g l =
    (length l.crew ≡ length l.initial.crew)
    × (sum_by g.A.Answers.left l.crew ≤ sum_by g.A.Answers.left l.initial.crew)
    × (l.any ≡ true → sum_by g.A.Answers.left l.crew < sum_by g.A.Answers.left l.initial.crew)
    × (l.any ≡ false → (j : ℕ) (d : _) → j < l.i → g.A.Answers.asks (slice_index_or l.crew j d) ≡ false)
    × g.A.Answers.leaves l.initial.answers l.answers
    × ((j : ℕ) (d : _) → j < l.i → g.A.Answers.tells l.initial.answers (slice_index_or l.initial.crew j d) (slice_index_or l.crew j d))
    × ((j : ℕ) (d : _) → l.i ≤ j → slice_index_or l.crew j d ≡ slice_index_or l.initial.crew j d)
