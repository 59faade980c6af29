use Rattle.std.proofs.Common.{arith}
use Rattle.qm_merkle.proofs.Growth.{height_within}
use Rattle.qm_merkle.proofs.family.place.Goals as goal

pub overflow_shl-index : goal.overflow_shl-index
overflow_shl-index g c = omega (arith, height_within c.args.node c.requires)
