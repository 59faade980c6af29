use Rattle.std.proofs.Common.{arith}
use Rattle.qm_merkle.proofs.MmrCalls.{within_place}
use Rattle.qm_merkle.proofs.mmb.FamilyFamily.subtree_root_position.Goals as goal

pub overflow_shl-height : goal.overflow_shl-height
overflow_shl-height c = omega (arith, within_place c.args.height (omega arith))

pub position-requires-clause-low : goal.position-requires-clause-low
position-requires-clause-low c = within_place c.args.height (omega arith)
