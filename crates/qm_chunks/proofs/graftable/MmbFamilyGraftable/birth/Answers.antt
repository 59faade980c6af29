use Rattle.std.proofs.Common.{◌-◌, ◌^◌, ◌≤◌, arith, pow_mono}
use Rattle.qm_merkle.proofs.Growth.{height_within}
use Rattle.qm_chunks.proofs.graftable.MmbFamilyGraftable.birth.Goals as goal

pub overflow_shl-result : goal.overflow_shl-result
overflow_shl-result c = omega (arith, height_within c.args.node c.requires, c.height-else-height-eq0.ensures)

pub overflow_add-result : goal.overflow_add-result
overflow_add-result c =
    let low = height_within c.args.node c.requires in
    let half = c.height-else-height-eq0.result - 1 in
    let few : 2 ^ half ≤ 2 ^ 62 = pow_mono {i = half} {j = 62} (omega (arith, low, c.height-else-height-eq0.ensures)) in
    omega (arith, few, c.requires, c.end_of-end.ensures)
