use Rattle.qm_bits.proofs.Held.{long}
use Rattle.qm_bits.proofs.bitmap.BitMap.len.Goals as goal

pub returns-clause-value : goal.returns-clause-value
returns-clause-value c = long c.self.inside.length c.self.inside.words.items c.args.self.now c.self.view_is
