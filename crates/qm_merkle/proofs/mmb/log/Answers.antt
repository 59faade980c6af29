use Rattle.std.proofs.Common.{arith, sym, ◌<◌, ◌^◌, suc}
use Rattle.std.proofs.Math.Nat.{pow-suc}
use Rattle.qm_model.proofs.MmbFamily.{log_is}
use Rattle.qm_merkle.proofs.mmb.log.Goals as goal

pub returns-clause-exact : goal.returns-clause-exact
returns-clause-exact c =
    let wide = pow-suc 2 c.ilog2.result in
    let high : c.args.number < 2 ^ suc c.ilog2.result = omega (arith, c.ilog2.ensures.next_power_gt) in
    sym (log_is c.args.number c.ilog2.result c.ilog2.ensures.power_le high)
