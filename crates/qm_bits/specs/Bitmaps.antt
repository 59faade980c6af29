-- The bits of a list whose first chunks are no longer kept.
use Rattle.std.specs.Prelude.{◌≡◌, ℕ, ◌+◌, ◌*◌, ◌≤◌, Bool, false, List, ◌++◌, length, replicate, drop}
use Rattle.qm_model.specs.Operations.{Operation}
use Rattle.qm_model.specs.Live.{floor}
use Rattle.qm_model.specs.Bits.{bits}

pub record Bitmap : Type 0 where
  -- how many chunks are no longer kept
  pub pruned : ℕ
  -- the bits after them
  pub kept : List Bool

-- where the kept bits begin, for chunks of so many bytes
abbrev pub start : ℕ → Bitmap → ℕ
start size map = map.pruned * (8 * size)

-- how many bits there are, with those that are no longer kept
abbrev pub bit_count : ℕ → Bitmap → ℕ
bit_count size map = start size map + length map.kept

-- all bits, clear ones where they are no longer kept
abbrev pub all_bits : ℕ → Bitmap → List Bool
all_bits size map = replicate (start size map) false ++ map.kept

-- a bitmap has the activity bits of a list, and no pruned chunk reaches past the list's floor
pub record IsActivity (size : ℕ) (map : Bitmap) (ops : List Operation) : Type 0 where
  pub bits_are : map.kept ≡ drop (start size map) (bits ops)
  pub below : start size map ≤ floor ops
