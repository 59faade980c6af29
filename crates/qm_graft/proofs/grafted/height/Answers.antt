use Rattle.std.proofs.Common.{◌≡◌, ◌≤◌, ◌<◌, ◌^◌, ◌*◌, ◌+◌, suc, ap, sym, arith}
use Rattle.std.proofs.lemmas.Nat.{pow-add}
use Rattle.qm_model.proofs.MmbFamily.{log_is}
use Rattle.qm_chunks.proofs.Spans.{power_is, power_most}
use Rattle.qm_graft.proofs.grafted.height.Goals as goal

pub returns-clause-exact : goal.returns-clause-exact
returns-clause-exact g c =
    let k = c.ilog2.result in
    sym (log_is (8 * g.N.Chunks.LEN) k (omega (arith, c.ilog2.ensures.power_le, c.span.ensures)) (omega (arith, c.ilog2.ensures.next_power_gt, c.span.ensures)))

pub returns-clause-span : goal.returns-clause-span
returns-clause-span g c =
    let k = c.ilog2.result in
    let e = g.met.N.Chunks.power.0 in
    let is = g.met.N.Chunks.power.1 in
    let whole : 8 * g.N.Chunks.LEN ≡ 2 ^ (e + 3) = omega (arith, pow-add 2 e 3, is) in
    let low : 2 ^ k ≤ 2 ^ (e + 3) = omega (arith, whole, c.ilog2.ensures.power_le, c.span.ensures) in
    let high : 2 ^ (e + 3) < 2 ^ suc k = omega (arith, whole, c.ilog2.ensures.next_power_gt, c.span.ensures) in
    let same : 2 ^ k ≡ 2 ^ (e + 3) = ap (λ n. 2 ^ n) (power_is k (e + 3) low high) in
    omega (arith, same, whole)

pub returns-clause-least : goal.returns-clause-least
returns-clause-least g c = power_most 3 c.ilog2.result (omega (arith, returns-clause-span g c, g.met.N.Chunks.least))

pub returns-clause-most : goal.returns-clause-most
returns-clause-most g c = omega (arith, power_most c.ilog2.result 19 (omega (arith, returns-clause-span g c, g.met.N.Chunks.most)))
