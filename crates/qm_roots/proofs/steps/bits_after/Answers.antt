use Rattle.std.proofs.Common.{◌≡◌, ◌∙◌, ◌-◌, ◌<◌, ◌≤◌, ℕ, suc, List, map, drop, length, get_or, arith, ap, sym, subst}
use Rattle.std.proofs.lemmas.List.{get_or-map, length-map}
use Rattle.qm_bits.specs.Bitmaps.{bit_count}
use Rattle.qm_overlay.specs.Layers.{Overlay, laid}
use Rattle.qm_roots.specs.Steps.{laid_over}
use Rattle.qm_roots.proofs.Stacked.{one-more, stands-over}
use Rattle.qm_roots.proofs.steps.bits_after.Goals as goal

value_at : {R : Type 0} (value : R → Overlay) (xs : List R) (k : ℕ) (r : R) (o : Overlay) → k < length (map value xs) → r ≡ get_or xs k r → o ≡ value r → o ≡ get_or (map value xs) k o
value_at value xs k r o lt at is = is ∙ ap value at ∙ sym (get_or-map value xs k r o (omega (arith, lt, length-map xs value)))

pub push-requires : goal.push-requires
push-requires g c =
    let size = g.N.Chunks.LEN in
    let overlays = map (λ r. r.value) c.args.overlays.now in
    let bits = c.args.bits.now in
    let k = c.loop-left.left - 1 in
    let own = c.in_ok-overlay.overlay.value in
    let lt : k < length overlays = omega (arith, c.loop-left.invariant.0, c.loop-left-test.true) in
    let next : c.loop-left.left ≡ suc k = omega (arith, c.loop-left-test.true) in
    let at = value_at (λ r. r.value) c.args.overlays.now k c.index-overlays-left.result own lt c.index-overlays-left.is c.in_ok-overlay.ensures.cases in
    subst (λ b. bit_count size b ≤ own.count) (sym (c.loop-left.invariant.1 ∙ ap (λ n. laid_over size (drop n overlays) bits) next)) (stands-over size overlays bits k own c.requires lt at)

pub loop-left-preserved : goal.loop-left-preserved
loop-left-preserved g c =
    let size = g.N.Chunks.LEN in
    let overlays = map (λ r. r.value) c.args.overlays.now in
    let bits = c.args.bits.now in
    let k = c.loop-left.left - 1 in
    let own = c.in_ok-overlay.overlay.value in
    let lt : k < length overlays = omega (arith, c.loop-left.invariant.0, c.loop-left-test.true) in
    let next : c.loop-left.left ≡ suc k = omega (arith, c.loop-left-test.true) in
    let at = value_at (λ r. r.value) c.args.overlays.now k c.index-overlays-left.result own lt c.index-overlays-left.is c.in_ok-overlay.ensures.cases in (
      omega (arith, c.loop-left.invariant.0),
      c.in_ok-push.ensures.bits ∙ ap (laid size own) (c.loop-left.invariant.1 ∙ ap (λ n. laid_over size (drop n overlays) bits) next) ∙ sym (one-more size overlays bits k own lt at),
    )
