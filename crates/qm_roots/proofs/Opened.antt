-- The grafted tree of a list that is taken up.
use Rattle.std.proofs.Common.{◌≡◌, ◌∙◌, ◌*◌, ◌^◌, ◌≤◌, ℕ, List, length, map, arith, ap, ap₂, sym, le_refl}
use Rattle.qm_model.specs.Operations.{Bytes, Operation}
use Rattle.qm_model.specs.Forms.{Form}
use Rattle.qm_model.specs.Trees.{Shape, digest_of, leaves_from, peaks}
use Rattle.qm_model.specs.Families.{Births, IsFamily, HasPeaks}
use Rattle.qm_model.specs.Bits.{bits, chunk}
use Rattle.qm_model.specs.Grafted.{chunk_of, chunk_size, chunk_values, grafted_chunks, grafted_pins}
use Rattle.qm_bits.specs.Bitmaps.{Bitmap, all_bits}
use Rattle.qm_graft.specs.Grafting.{grafting, kept_shape}
use Rattle.qm_roots.specs.Canonical.{values_of}
use Rattle.qm_roots.proofs.Pins.{pins-are}

module _ (hash : Bytes → Bytes) (shape : Shape) (births : Births) (family : IsFamily shape births) (peaked : HasPeaks shape) (size : ℕ) (span : 2 ^ grafting size ≡ 8 * size) (form : Form) (map_of : Bitmap) (list : List Operation)
    (same : all_bits size map_of ≡ bits list) where
  sized : chunk_size (grafting size) ≡ size
  sized = omega (arith, span)

  -- chunks of its bits
  pub chunks-are : chunk size (all_bits size map_of) ≡ chunk_of (grafting size) list
  chunks-are = ap₂ (λ k bs. chunk k bs) (sym sized) same

  -- the digests over its pruned chunks
  pub pins-told : (ds : List Bytes) → map_of.pruned * 2 ^ grafting size ≤ 2 ^ 62 → map_of.pruned ≤ 2 ^ 62 → ds ≡ grafted_pins hash shape (grafting size) form list map_of.pruned
      → ds ≡ map (digest_of hash (kept_shape shape (grafting size)) (chunk_values hash shape (grafting size) (leaves_from hash shape form 0 list) (chunk size (all_bits size map_of)) 0 map_of.pruned)) (peaks shape map_of.pruned)
  pins-told ds within few is =
      is ∙ sym (pins-are hash shape births family peaked (grafting size) (leaves_from hash shape form 0 list) (chunk_of (grafting size) list) map_of.pruned map_of.pruned (le_refl map_of.pruned) few within)
      ∙ ap (λ f. map (digest_of hash (kept_shape shape (grafting size)) (chunk_values hash shape (grafting size) (leaves_from hash shape form 0 list) f 0 map_of.pruned)) (peaks shape map_of.pruned)) (sym chunks-are)

  -- the values over as many operations
  pub values-told : (n : ℕ) → n ≡ length list
      → chunk_values hash shape (grafting size) (leaves_from hash shape form 0 list) (chunk size (all_bits size map_of)) 0 (grafted_chunks shape (grafting size) n) ≡ values_of hash shape (grafting size) form list
  values-told n count = ap₂ (λ f k. chunk_values hash shape (grafting size) (leaves_from hash shape form 0 list) f 0 (grafted_chunks shape (grafting size) k)) chunks-are count
