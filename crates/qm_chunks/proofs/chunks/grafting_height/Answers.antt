use Rattle.std.proofs.Common.{◌≡◌, ◌^◌, ap, arith}
use Rattle.std.proofs.lemmas.Nat.{pow-add}
use Rattle.qm_chunks.proofs.Spans.{power_is, power_most}
use Rattle.qm_chunks.proofs.chunks.grafting_height.Goals as goal

pub returns-clause-span : goal.returns-clause-span
returns-clause-span c =
    let k = c.ilog2.result in
    let e = c.requires.power.0 in
    let is = c.requires.power.1 in
    let same : 2 ^ k ≡ 2 ^ e = ap (λ n. 2 ^ n) (power_is k e (omega (arith, is, c.ilog2.ensures.power_le)) (omega (arith, is, c.ilog2.ensures.next_power_gt))) in
    omega (arith, pow-add 2 k 3, same, is)

pub returns-clause-size : goal.returns-clause-size
returns-clause-size c = omega (arith, returns-clause-span c)

pub returns-clause-most : goal.returns-clause-most
returns-clause-most c = omega (arith, power_most c.ilog2.result 58 (omega (arith, c.ilog2.ensures.power_le, c.requires.few)))
