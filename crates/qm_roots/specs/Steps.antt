-- What steps do to the bits of lists, whichever of their chunks a bitmap has pruned.
use Rattle.std.specs.Prelude.{◌≡◌, ◌≤◌, ◌*◌, ◌/◌, ◌%◌, ℕ, false, List, [], ◌∷◌, length, slice_index_or, ⊤}
use Rattle.qm_model.specs.Operations.{Operation}
use Rattle.qm_model.specs.Batches.{Begins}
use Rattle.qm_model.specs.Bits.{bits}
use Rattle.qm_bits.specs.Bitmaps.{Bitmap, bit_count}
use Rattle.qm_overlay.specs.Layers.{Overlay, laid, changed_at, bit_over, IsClearBehind}

-- the bitmap after steps over one, the newest first
abbrev pub laid_over : ℕ → List Overlay → Bitmap → Bitmap
laid_over size [] base = base
laid_over size (overlay ∷ older) base = laid size overlay (laid_over size older base)

-- none of them has fewer bits than what it stands over
abbrev pub AreOver : ℕ → List Overlay → Bitmap → Type 0
AreOver size [] base = ⊤
AreOver size (overlay ∷ older) base = (bit_count size (laid_over size older base) ≤ overlay.count) × AreOver size older base

-- the step makes the bits of the second list of those of the first
pub record IsOverlay (size : ℕ) (overlay : Overlay) (base tip : List Operation) : Type 0 where
  pub count : overlay.count ≡ length tip
  pub clear : IsClearBehind size overlay
  pub bits : (i : ℕ) → slice_index_or (bits tip) i false ≡ bit_over (changed_at overlay.changed (i / (8 * size))) (i % (8 * size)) (slice_index_or (bits base) i false)

-- steps, the newest first, lead to this list through the older ones
abbrev pub AreOverlays : ℕ → List Overlay → List Operation → List (List Operation) → Type 0
AreOverlays size [] tip [] = ⊤
AreOverlays size [] tip (base ∷ bases) = ⊥
AreOverlays size (overlay ∷ older) tip [] = ⊥
AreOverlays size (overlay ∷ older) tip (base ∷ bases) = IsOverlay size overlay base tip × AreOverlays size older base bases

-- each of these lists, the newest first, begins with the next one, and this one with the first
abbrev pub AreRising : List Operation → List (List Operation) → Type 0
AreRising tip [] = ⊤
AreRising tip (base ∷ bases) = Begins base tip × AreRising base bases
