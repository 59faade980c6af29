use Rattle.std.proofs.Common.{arith}
use Rattle.qm_merkle.proofs.Growth.{height_within}
use Rattle.qm_merkle.proofs.family.end_of.Goals as goal

pub overflow_shl-result : goal.overflow_shl-result
overflow_shl-result c = omega (arith, height_within c.args.node c.requires)
