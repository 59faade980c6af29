use Rattle.std.proofs.Common.{◌*◌, arith, sym}
use Rattle.qm_model.proofs.MmbFamily.{log_is}
use Rattle.qm_any.proofs.open.chunk_height.Goals as goal

pub returns : goal.returns
returns g c =
    let k = c.ilog2.result in
    sym (log_is (8 * g.N.Chunks.LEN) k (omega (arith, c.ilog2.ensures.power_le, c.span.ensures)) (omega (arith, c.ilog2.ensures.next_power_gt, c.span.ensures)))
