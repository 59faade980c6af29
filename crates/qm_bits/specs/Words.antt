-- Bits in words of 64, the lowest first.
use Rattle.std.specs.Prelude.{◌≡◌, ℕ, ◌*◌, ◌/◌, ◌%◌, ◌^◌, ◌≤◌, ◌==◌, Bool, false, List, map, length, slice_index}
use Rattle.std.specs.List.{range_with_len}
use Rattle.std.specs.Int.{bit_at}

-- bit i of words, clear if no word is left
unfoldable pub is_set : List ℕ → ℕ → Bool
is_set words i = bit_at (slice_index words (i / 64)) (i % 64) == 1

-- the first n bits of words
unfoldable pub bits_of : ℕ → List ℕ → List Bool
bits_of n words = map (is_set words) (range_with_len 0 n)

-- words hold n bits, and after them clear ones
pub record AreHeld (n : ℕ) (words : List ℕ) : Type 0 where
  pub within : n ≤ 64 * length words
  pub clear : (i : ℕ) → n ≤ i → is_set words i ≡ false
  pub bounded : n ≤ 2 ^ 62
