use Rattle.std.proofs.Common.{◌≡◌, Ok}
use Rattle.qm_fill.specs.Commands.{rounds}
use Rattle.qm_filling.specs.Filled.{Fills}
use Rattle.qm_filling.proofs.parts.fill_rounds.Given as goal

abbrev pub invariant-loop-round : goal.invariant-loop-round
invariant-loop-round g l = record {
  seed : l.rounds.seed ≡ l.fn.fill.seed;
  given : l.rounds.given ≡ l._round;
  so_far : Fills g.C.Store g.X.Meaning (rounds l.fn.fill.seed l._round) l.fn.session l.fn.tally l.session (Ok l.tally);
}
