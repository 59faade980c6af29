-- Bits that are set where keys stand.
use Rattle.std.specs.Prelude.{◌≡◌, ◌<◌, ℕ, Bool, true, false, List, length, set, slice_index_or, Option, Some, None}
use Rattle.qm_model.specs.Operations.{Bytes, Operation}
use Rattle.qm_bits.specs.Bitmaps.{Bitmap, start, bit_count, all_bits}
use Rattle.qm_step.specs.Changes.{place_in}

-- a bit is set exactly where a key stands
pub record AreMarked (bits : List Bool) (place : Bytes → Option ℕ) : Type 0 where
  pub found : (i : ℕ) → slice_index_or bits i false ≡ true → (key : Bytes) × (place key ≡ Some i)
  pub stands : (key : Bytes) (i : ℕ) → place key ≡ Some i → slice_index_or bits i false ≡ true

-- bits with this one cleared, and with this one set
abbrev pub cleared : List Bool → Option ℕ → List Bool
cleared bits None = bits
cleared bits (Some at) = set bits at false

abbrev pub marked : List Bool → Option ℕ → List Bool
marked bits None = bits
marked bits (Some at) = set bits at true

-- the set bits are those of the list's live updates, and the list goes past what is pruned
pub record HasLive (size : ℕ) (map : Bitmap) (list : List Operation) : Type 0 where
  pub live : AreMarked (all_bits size map) (place_in list)
  pub kept : start size map < length list

-- as many bits, and as many of them pruned
pub record IsAlike (size : ℕ) (old new : Bitmap) : Type 0 where
  pub pruned : new.pruned ≡ old.pruned
  pub count : bit_count size new ≡ bit_count size old
