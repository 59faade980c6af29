-- The bits of a batch's list, over a bitmap of one of the lists that it comes from.
use Rattle.std.proofs.Common.{◌≡◌, ◌∙◌, ◌*◌, ◌<◌, ◌≤◌, ℕ, List, [], ◌∷◌, length, take, get_or, ap, sym, subst}
use Rattle.qm_model.specs.Operations.{Operation}
use Rattle.qm_model.specs.Trees.{Shape}
use Rattle.qm_model.specs.Bits.{bits}
use Rattle.qm_bits.specs.Bitmaps.{Bitmap, all_bits, bit_count}
use Rattle.qm_overlay.specs.Layers.{Overlay}
use Rattle.qm_roots.specs.Steps.{laid_over, AreOver, AreOverlays, AreRising}
use Rattle.qm_roots.specs.Kept.{Kept, AreAgreed, sizes_of}
use Rattle.qm_roots.proofs.Overlays.{bits-over}
use Rattle.qm_roots.proofs.Sizes.{over-sizes, pruned-over}

module _ {D : Type 0} (shape : Shape) (g size : ℕ) (some : 0 < 8 * size) (kept : Kept D) (agreed : AreAgreed shape g kept) (map : Bitmap) (lacking : ℕ) (within : lacking ≤ length kept.overlays)
    (at : bit_count size map ≡ get_or (sizes_of kept) lacking 0) (newest : List Overlay) (is : newest ≡ take lacking kept.overlays) where
  over : AreOver size (take lacking kept.overlays) map × (bit_count size (laid_over size (take lacking kept.overlays) map) ≡ get_or (sizes_of kept) 0 0)
  over = over-sizes size kept.overlays kept.base map lacking within agreed.falling at

  pub stacked : AreOver size newest map
  stacked = subst (λ os. AreOver size os map) (sym is) over.0

  module _ (seen : Bitmap) (after : seen ≡ laid_over size newest map) where
    seen-is : seen ≡ laid_over size (take lacking kept.overlays) map
    seen-is = after ∙ ap (λ os. laid_over size os map) is

    pub seen-count : bit_count size seen ≡ get_or (sizes_of kept) 0 0
    seen-count = ap (bit_count size) seen-is ∙ over.1

    pub seen-pruned : seen.pruned ≡ map.pruned
    seen-pruned = ap (λ (m : Bitmap). m.pruned) seen-is ∙ pruned-over size (take lacking kept.overlays) map

    pub seen-active : (tip : List Operation) (bases : List (List Operation)) → AreOverlays size kept.overlays tip bases → AreRising tip bases → all_bits size map ≡ bits (get_or (tip ∷ bases) lacking []) → all_bits size seen ≡ bits tip
    seen-active tip bases are rising same = ap (all_bits size) seen-is ∙ bits-over size some lacking kept.overlays map tip bases are rising over.0 within same
