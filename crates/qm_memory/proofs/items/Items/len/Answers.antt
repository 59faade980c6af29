use Rattle.std.proofs.Common.{length, ap, arith}
use Rattle.qm_memory.proofs.Cuts.{length-cut}
use Rattle.qm_memory.proofs.items.Items.len.Goals as goal

pub returns : goal.returns
returns c = omega (arith, c.len.ensures, c.self.inside.ends.ok.0, ap length c.self.view_is, length-cut 0 c.self.inside.ends.items c.self.inside.bytes.items)
