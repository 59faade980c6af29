use Rattle.std.proofs.Common.{◌+◌, arith}
use Rattle.qm_chunks.proofs.Spans.{height_within}
use Rattle.qm_graft.proofs.places.operations_position.Goals as goal

pub raised-requires : goal.raised-requires
raised-requires g c = omega (arith, height_within (c.args.node.height + c.args.height) c.args.node.index c.requires)
