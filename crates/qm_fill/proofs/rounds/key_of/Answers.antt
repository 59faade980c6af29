use Rattle.std.proofs.Common.{rules}
use Rattle.qm_fill.specs.Commands.{key_of}
use Rattle.qm_fill.proofs.rounds.key_of.Goals as goal

pub returns : goal.returns
unfolding key_of
returns c = search rules
