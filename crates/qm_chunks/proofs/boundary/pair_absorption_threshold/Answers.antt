use Rattle.std.proofs.Common.{arith}
use Rattle.qm_chunks.proofs.Spans.{pair_within}
use Rattle.qm_chunks.proofs.boundary.pair_absorption_threshold.Goals as goal

pub pair_threshold-requires : goal.pair_threshold-requires
pair_threshold-requires g c = rw (c.new.ensures) (pair_within c.args.height c.args.chunks c.requires.low (omega (arith, c.if-chunks-eq0.false)) c.requires.within)
