use Rattle.std.proofs.Common.{◌≡◌, ℕ, length}
use Rattle.std.specs.Prelude.{sum_by}
use Rattle.qm_crew.specs.Turned.{AreTurned, Leads}
use Rattle.qm_crew.proofs.rounds.turn_until_quiet.Given as goal

abbrev pub invariant-loop : goal.invariant-loop
invariant-loop g l =
    g.T.Runs.ready l.run
    × (length l.crew ≡ length l.initial.crew)
    × g.A.Answers.leaves l.initial.answers l.answers
    × ((n : ℕ) × AreTurned (Leads g.T.Runs.turns (g.A.Answers.tells l.initial.answers) n) l.initial.crew l.crew)

abbrev pub decreases-loop : goal.decreases-loop
decreases-loop g l = sum_by g.A.Answers.left l.crew
