use Rattle.std.proofs.Common.{◌≡◌, ◌+◌, ◌≤◌, ◌^◌, ◌-◌, ◌*◌, ◌%◌, ap₂, ◌∙◌, arith, nat_lt, pow_mono}
use Rattle.std.proofs.lemmas.Bool.{lt-leb}
use Rattle.qm_merkle.proofs.Growth.{height_within}
use Rattle.qm_graft.proofs.Fitting.{fits-low, fits-high}
use Rattle.qm_graft.proofs.grafted.fits.Goals as goal

pub overflow_add-high : goal.overflow_add-high
overflow_add-high c = let low = height_within c.args.node c.requires.within in omega (arith, low, c.height.ensures, c.requires.low)

pub returns-then-high-le62 : goal.returns-then-high-le62
returns-then-high-le62 c =
    let high = c.args.height + c.height.result in
    let is : high ≡ c.args.height + c.args.node.height = omega (arith, c.height.ensures) in
    let low : high ≤ 62 = c.if-high-le62.true in
    let small : 2 ^ (62 - high) ≤ 2 ^ 62 = pow_mono {i = 62 - high} {j = 62} (omega arith) in
    let whole : 1 * 2 ^ (62 - high) % 18446744073709551616 ≡ 2 ^ (62 - high) = omega (arith, small) in
    ap₂ nat_lt c.index.ensures whole ∙ fits-low c.args.height high c.args.node is low

pub returns-else-high-le62 : goal.returns-else-high-le62
returns-else-high-le62 c =
    let high = c.args.height + c.height.result in
    let is : high ≡ c.args.height + c.args.node.height = omega (arith, c.height.ensures) in
    let above = c.if-high-le62.false in
    lt-leb high 62 (omega (arith, above)) ∙ fits-high c.args.height high c.args.node is (omega (arith, above))
