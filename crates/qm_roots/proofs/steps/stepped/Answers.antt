use Rattle.std.proofs.Common.{◌≡◌, ◌∙◌, ◌*◌, ◌<◌, ◌≤◌, ℕ, arith, ap, sym, subst}
use Rattle.qm_bits.specs.Bitmaps.{Bitmap, bit_count}
use Rattle.qm_overlay.specs.Layers.{Overlay, laid, seen}
use Rattle.qm_overlay.proofs.Laying.{count-laid, pruned-laid}
use Rattle.qm_roots.specs.Steps.{IsOverlay}
use Rattle.qm_roots.proofs.Overlays.{made-overlay}
use Rattle.qm_roots.proofs.steps.stepped.Goals as goal

-- a bitmap with a step that was put over it
total : (size n : ℕ) (own pushed : Overlay) (old new : Bitmap) → pushed ≡ own → own.count ≡ n → bit_count size old ≤ n → new ≡ laid size pushed old → bit_count size new ≡ n
total size n own pushed old new same count least is =
    let long : pushed.count ≡ n = ap (λ (o : Overlay). o.count) same ∙ count in
    ap (bit_count size) is ∙ count-laid size pushed old (omega (arith, least, long)) ∙ long

pub returns-clause-total : goal.returns-clause-total
returns-clause-total g c =
    let same = c.in_ok-clone.ensures.cases ∙ c.in_ok-overlay-2.ensures.ok in
    total g.N.Chunks.LEN c.args.size c.in_ok-overlay.overlay c.in_ok-clone.field-0.value (seen g.N.Chunks.LEN c.args.bits.now) (seen g.N.Chunks.LEN c.push.new.self) same c.in_ok-overlay.ensures.count c.requires.not_below c.in_ok-push.ensures.bits

pub returns-clause-pruned : goal.returns-clause-pruned
returns-clause-pruned g c =
    ap (λ (m : Bitmap). m.pruned) c.in_ok-push.ensures.bits ∙ pruned-laid g.N.Chunks.LEN c.in_ok-clone.field-0.value (seen g.N.Chunks.LEN c.args.bits.now)

pub returns-clause-overlay : goal.returns-clause-overlay
returns-clause-overlay g c = λ base tip lead ended long before.
    let own = c.in_ok-overlay.overlay in
    let least = g.met.N.Chunks.least in
    let some : 0 < 8 * g.N.Chunks.LEN = omega (arith, least) in
    let count = c.in_ok-overlay.ensures.count in
    let made = made-overlay g.N.Chunks.LEN some own (seen g.N.Chunks.LEN c.args.bits.now) base tip c.get.ensures.clear c.in_ok-overlay.ensures.from (omega (arith, count, c.requires.not_below)) (count ∙ long) before (c.in_ok-overlay.ensures.active base tip lead ended long before) in
    subst (λ o. IsOverlay g.N.Chunks.LEN o base tip) (sym c.in_ok-overlay-2.ensures.ok) made
