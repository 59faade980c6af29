use Rattle.qm_fill.proofs.Sizes.{length-commands}
use Rattle.qm_fill.proofs.laws.a_fill_has_so_many_commands.Goals as goal

pub returns : goal.returns
returns c = length-commands
