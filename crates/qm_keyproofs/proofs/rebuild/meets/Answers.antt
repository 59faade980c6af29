use Rattle.std.proofs.Common.{arith}
use Rattle.qm_merkle.proofs.Growth.{height_within}
use Rattle.qm_keyproofs.proofs.rebuild.meets.Goals as goal

pub overflow_shl-first : goal.overflow_shl-first
overflow_shl-first c = omega (arith, height_within c.args.node c.requires, c.height.ensures)

pub overflow_shl-past : goal.overflow_shl-past
overflow_shl-past c = omega (arith, height_within c.args.node c.requires, c.height-2.ensures)
