use Rattle.std.proofs.Common.{arith, ◌-◌, ◌≤◌, ◌^◌, pow_mono}
use Rattle.qm_merkle.proofs.mmb.birth.Goals as goal

pub returns-else-height-eq0-clause-within : goal.returns-else-height-eq0-clause-within
returns-else-height-eq0-clause-within c =
    let small : 2 ^ (c.args.height - 1) ≤ 2 ^ 61 = pow_mono {i = c.args.height - 1} {j = 61} (omega arith) in
    omega arith
