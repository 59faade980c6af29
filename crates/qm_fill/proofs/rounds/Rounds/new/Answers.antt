use Rattle.std.proofs.Common.{sym}
use Rattle.qm_fill.proofs.Drawn.{no_draw}
use Rattle.qm_fill.proofs.rounds.Rounds.new.Goals as goal

pub invariant_of-result : goal.invariant_of-result
invariant_of-result c = sym (no_draw c.args.seed)
