-- What layers of changed chunks make of a bitmap.
use Rattle.std.specs.Prelude.{◌≡◌, ℕ, ◌+◌, ◌-◌, ◌*◌, ◌/◌, ◌%◌, ◌<◌, ◌≤◌, Bool, false, List, [], ◌∷◌, ◌++◌, map, length, replicate, Option, Some, None, ⊤, slice_index_or}
use Rattle.std.specs.List.{range_with_len}
use Rattle.std.specs.Map.{lookup}
use Rattle.std.specs.BTreeMap.{is_at}
use Rattle.std.specs.Ordering.{nat_cmp}
use Rattle.qm_model.specs.Bits.{has_bit}
use Rattle.qm_bits.specs.Bitmaps.{Bitmap, start, bit_count, all_bits}

-- the chunks that a step changes, by number, each with all its bits, and how many bits there are after the step
pub record Overlay : Type 0 where
  pub count : ℕ
  pub changed : List (ℕ × List Bool)

-- the bits of a chunk, if the step changes it
abbrev pub changed_at : List (ℕ × List Bool) → ℕ → Option (List Bool)
changed_at changed c = lookup (is_at (nat_cmp c)) changed

-- the bit at a place of a changed chunk, or else the one below
abbrev pub bit_over : Option (List Bool) → ℕ → Bool → Bool
bit_over None place below = below
bit_over (Some bits) place below = slice_index_or bits place false

-- the bit at a place after the step: that of the changed chunk, or else that of the bitmap
abbrev pub laid_bit : ℕ → Overlay → Bitmap → ℕ → Bool
laid_bit size overlay base i = bit_over (changed_at overlay.changed (i / (8 * size))) (i % (8 * size)) (slice_index_or (all_bits size base) i false)

-- the bitmap after the step
unfoldable pub laid : ℕ → Overlay → Bitmap → Bitmap
laid size overlay base = record { pruned = base.pruned; kept = map (laid_bit size overlay base) (range_with_len (start size base) (overlay.count - start size base)) }

-- a bitmap with clear bits after it, up to so many
abbrev pub longer : ℕ → Bitmap → ℕ → Bitmap
longer size base len = record { pruned = base.pruned; kept = base.kept ++ replicate (len - bit_count size base) false }

-- a bitmap, and a step over it
pub record Laid : Type 0 where
  pub base : Bitmap
  pub overlay : Overlay

-- the bitmap after several steps, the oldest first
abbrev pub layered : ℕ → List Overlay → Bitmap → Bitmap
layered size [] base = base
layered size (overlay ∷ newer) base = layered size newer (laid size overlay base)

-- a bitmap, and the steps over it, the oldest first
pub record Batch : Type 0 where
  pub base : Bitmap
  pub layers : List Overlay

-- the bitmap after all of them
abbrev pub seen : ℕ → Batch → Bitmap
seen size batch = layered size batch.layers batch.base

-- no step takes bits away
abbrev pub AreStacked : ℕ → List Overlay → Bitmap → Type 0
AreStacked size [] base = ⊤
AreStacked size (overlay ∷ newer) base = (bit_count size base ≤ overlay.count) × AreStacked size newer (laid size overlay base)

-- the step changes no chunk before this one
abbrev pub IsFrom : ℕ → Overlay → Type 0
IsFrom least overlay = (c : ℕ) → c < least → changed_at overlay.changed c ≡ None

-- after the last bit, the changed chunks have clear ones
abbrev pub IsClearBehind : ℕ → Overlay → Type 0
IsClearBehind size overlay = (c : ℕ) (bits : List Bool) → changed_at overlay.changed c ≡ Some bits → (i : ℕ) → i < 8 * size → overlay.count ≤ c * (8 * size) + i → slice_index_or bits i false ≡ false

-- the bits of bytes
unfoldable pub bits_in : ℕ → List ℕ → List Bool
bits_in n bytes = map (has_bit bytes) (range_with_len 0 n)

-- so many bytes
pub record IsWhole (size : ℕ) (bytes : List ℕ) : Type 0 where
  pub long : length bytes ≡ size
  pub small : (k : ℕ) → slice_index_or bytes k 0 < 256
