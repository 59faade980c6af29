use Rattle.std.proofs.Common.{arith}
use Rattle.qm_merkle.proofs.Growth.{height_within}
use Rattle.qm_graft.proofs.grafted.GraftedFamily.number.Goals as goal

pub raised-requires : goal.raised-requires
raised-requires g c = let low = height_within c.args.node c.requires in omega (arith, low, c.height-height.ensures.most)
