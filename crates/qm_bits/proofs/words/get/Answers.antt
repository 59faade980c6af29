use Rattle.qm_bits.proofs.Places.{tested}
use Rattle.qm_bits.proofs.words.get.Goals as goal

pub returns : goal.returns
returns c = tested c.args.words.now c.args.at
