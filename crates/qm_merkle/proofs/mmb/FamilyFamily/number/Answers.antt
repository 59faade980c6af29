use Rattle.std.proofs.Common.{arith}
use Rattle.qm_merkle.proofs.Growth.{height_within}
use Rattle.qm_merkle.proofs.mmb.FamilyFamily.number.Goals as goal

pub position-requires-clause-low : goal.position-requires-clause-low
position-requires-clause-low c = omega (arith, height_within c.args.node c.requires, c.height.ensures)
