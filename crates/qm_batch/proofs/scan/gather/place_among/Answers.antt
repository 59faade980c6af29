use Rattle.std.proofs.Common.{◌≡◌, ◌∙◌, ◌∷◌, ◌+◌, ap, sym, arith, drop, map, suc}
use Rattle.std.specs.Prelude.{if◌then◌else◌}
use Rattle.std.proofs.lemmas.List.{drop_all, drop_more}
use Rattle.qm_model.specs.Keys.{key_lt}
use Rattle.qm_base.specs.Views.{pair_view}
use Rattle.qm_batch.specs.Gathered.{place_among}
use Rattle.qm_batch.proofs.scan.gather.place_among.Goals as goal

pub loop-pair-preserved : goal.loop-pair-preserved
loop-pair-preserved g c =
    let view = pair_view g.K.ByteString.bytes g.V.ByteString.bytes in
    let key = c.args.key.now in
    let rest = drop (c.loop-pair.pair-index + 1) c.args.pairs.now in
    let here = drop_more c.args.pairs.now c.loop-pair.pair-index c.pair-item.result c.loop-pair-test.true ∙ ap (λ x. x ∷ rest) (sym c.pair-item.is) in
    let below = ap (key_lt key) (sym c.as_bytes.ensures.value) ∙ sym c.is_below.ensures ∙ c.if-is_below.false in
    let later : place_among key (map view (drop c.loop-pair.pair-index c.args.pairs.now)) ≡ suc (place_among key (map view rest)) =
    ap (λ ps. place_among key (map view ps)) here ∙ ap (λ t. if t then 0 else suc (place_among key (map view rest))) below in
    let count = c.loop-pair.invariant.count in
    let value = c.loop-pair.invariant.value in
    record { count = omega (arith, count); value = omega (arith, value, later) }

pub returns-then-is_below : goal.returns-then-is_below
returns-then-is_below g c =
    let view = pair_view g.K.ByteString.bytes g.V.ByteString.bytes in
    let key = c.args.key.now in
    let rest = drop (c.loop-pair.pair-index + 1) c.args.pairs.now in
    let here = drop_more c.args.pairs.now c.loop-pair.pair-index c.pair-item.result c.loop-pair-test.true ∙ ap (λ x. x ∷ rest) (sym c.pair-item.is) in
    let below = ap (key_lt key) (sym c.as_bytes.ensures.value) ∙ sym c.is_below.ensures ∙ c.if-is_below.true in
    let first : place_among key (map view (drop c.loop-pair.pair-index c.args.pairs.now)) ≡ 0 =
    ap (λ ps. place_among key (map view ps)) here ∙ ap (λ t. if t then 0 else suc (place_among key (map view rest))) below in
    let count = c.loop-pair.invariant.count in
    let value = c.loop-pair.invariant.value in
    omega (arith, count, value, first)

pub returns : goal.returns
returns g c =
    let view = pair_view g.K.ByteString.bytes g.V.ByteString.bytes in
    let key = c.args.key.now in
    let none : place_among key (map view (drop c.loop-pair.pair-index c.args.pairs.now)) ≡ 0 = ap (λ ps. place_among key (map view ps)) (drop_all c.loop-pair.pair-index c.args.pairs.now c.loop-pair-test.false) in
    let count = c.loop-pair.invariant.count in
    let value = c.loop-pair.invariant.value in
    omega (arith, count, value, none)
