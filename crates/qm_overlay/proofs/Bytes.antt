-- Bytes of a chunk, and their bits.
use Rattle.std.proofs.Common.{◌≡◌, ◌≢◌, ℕ, ◌+◌, ◌*◌, ◌/◌, ◌%◌, ◌<◌, ◌≤◌, Bool, true, false, List, length, drop, get_or, set, replicate, arith, ap, sym, ◌∙◌, refl, ⊎_elim}
use Rattle.std.specs.Prelude.{◌==◌, if◌then◌else◌}
use Rattle.std.specs.Int.{bit_at}
use Rattle.std.proofs.lemmas.Bool.{cases_lt, cases_eq}
use Rattle.std.proofs.lemmas.List.{length-set, length-replicate, get_or-set_same, get_or-set_other, get_or-replicate, get_or_past, get_or-drop}
use Rattle.std.proofs.lemmas.List.FromFn.{length-map-range_with_len, get_or-map-range_with_len, fill_by_all}
use Rattle.std.proofs.lemmas.Nat.Bits.{bit_at-zero}
use Rattle.qm_model.specs.Bits.{packed, chunk, has_bit}
use Rattle.qm_model.proofs.BitLemmas.{chunk_bit, length-packed}
use Rattle.qm_bits.proofs.Packing.{packed_small, same_bytes}
use Rattle.qm_overlay.specs.Layers.{bits_in, IsWhole}

pub length-bits_in : (n : ℕ) (bytes : List ℕ) → length (bits_in n bytes) ≡ n
unfolding bits_in
length-bits_in n bytes = length-map-range_with_len (has_bit bytes) 0 n

pub bit_in : (n : ℕ) (bytes : List ℕ) (i : ℕ) → i < n → get_or (bits_in n bytes) i false ≡ has_bit bytes i
unfolding bits_in
bit_in n bytes i lt = get_or-map-range_with_len (has_bit bytes) 0 n i i false lt (omega arith)

bits_are : (n : ℕ) (bytes : List ℕ) (bits : List Bool) → length bits ≡ n → ((i : ℕ) → i < n → get_or bits i false ≡ has_bit bytes i) → bits_in n bytes ≡ bits
unfolding bits_in
bits_are n bytes bits long same = sym (fill_by_all (has_bit bytes) bits n false long same)

pub packed_whole : (n : ℕ) (bs : List Bool) → IsWhole n (packed n bs)
packed_whole n bs = record { long = length-packed n bs; small = packed_small n bs }

pub packed_bit : (n : ℕ) (bs : List Bool) (i : ℕ) → i < 8 * n → has_bit (packed n bs) i ≡ get_or bs i false
packed_bit n bs i lt =
    let none : 0 ≡ 0 * (8 * n) = omega arith in
    let place : 0 * (8 * n) + i ≡ i = omega arith in
    ap (λ d. has_bit (packed n (drop d bs)) i) none ∙ chunk_bit n bs 0 i lt ∙ ap (λ j. get_or bs j false) place

-- whole bytes are those of their bits
pub whole_packed : (n : ℕ) (bytes : List ℕ) → IsWhole n bytes → bytes ≡ packed n (bits_in (8 * n) bytes)
whole_packed n bytes whole = same_bytes n bytes (bits_in (8 * n) bytes) whole.long whole.small (λ i lt. sym (bit_in (8 * n) bytes i lt))

-- bytes of bits that are the same below their end
pub packed_same : (n : ℕ) (bs cs : List Bool) → ((i : ℕ) → i < 8 * n → get_or bs i false ≡ get_or cs i false) → packed n bs ≡ packed n cs
packed_same n bs cs same = same_bytes n (packed n bs) cs (length-packed n bs) (packed_small n bs) (λ i lt. packed_bit n bs i lt ∙ same i lt)

-- zeros are the bytes of clear bits
pub zeros_packed : (n : ℕ) (bs : List Bool) → ((i : ℕ) → i < 8 * n → get_or bs i false ≡ false) → replicate n 0 ≡ packed n bs
zeros_packed n bs clear = same_bytes n (replicate n 0) bs (length-replicate {A = ℕ} n 0) (λ k. let none = zero_at k in omega arith) (λ i lt.
    ap (λ b. bit_at b (i % 8) == 1) (zero_at (i / 8)) ∙ ap (λ b. b == 1) (bit_at-zero (i % 8)) ∙ sym (clear i lt))
  where
    zero_at : (k : ℕ) → get_or {A = ℕ} (replicate n 0) k 0 ≡ 0
    zero_at k = ⊎_elim (λ (low : k < n). get_or-replicate n k 0 0 low) (λ (past : n ≤ k). let long = length-replicate {A = ℕ} n 0 in get_or_past (replicate n 0) k 0 (omega arith)) (cases_lt k n)

-- zeros are a chunk after the last bit
pub zeros_behind : (n : ℕ) (bs : List Bool) (c : ℕ) → length bs ≤ c * (8 * n) → replicate n 0 ≡ chunk n bs c
zeros_behind n bs c past = zeros_packed n (drop (c * (8 * n)) bs) (λ i lt. get_or-drop (c * (8 * n)) bs i false ∙ get_or_past bs (c * (8 * n) + i) false (omega (arith, past)))

-- the bits of a chunk's bytes
pub chunk_bits : (n : ℕ) (bytes : List ℕ) (bs : List Bool) (c : ℕ) → bytes ≡ chunk n bs c → (i : ℕ) → i < 8 * n → get_or (bits_in (8 * n) bytes) i false ≡ get_or bs (c * (8 * n) + i) false
chunk_bits n bytes bs c is i lt = bit_in (8 * n) bytes i lt ∙ ap (λ b. has_bit b i) is ∙ chunk_bit n bs c i lt

-- A byte of which one bit is changed.
module _ (n : ℕ) (bytes : List ℕ) (whole : IsWhole n bytes) (at byte : ℕ) (value : Bool) (within : at < 8 * n) where
  place : at / 8 < length bytes
  place = omega (arith, whole.long)

  put_here : bit_at byte (at % 8) ≡ (if value then 1 else 0) → has_bit (set bytes (at / 8) byte) at ≡ value
  put_here bit = ap (λ w. bit_at w (at % 8) == 1) (get_or-set_same bytes (at / 8) byte 0 place) ∙ ap (λ m. m == 1) bit ∙ is_one value
    where
      is_one : (t : Bool) → ((if t then 1 else 0) == 1) ≡ t
      is_one true = refl
      is_one false = refl

  put_other : ((i : ℕ) → i < 8 → i ≢ at % 8 → bit_at byte i ≡ bit_at (get_or bytes (at / 8) 0) i) → (i : ℕ) → i ≢ at → has_bit (set bytes (at / 8) byte) i ≡ has_bit bytes i
  put_other same i other = ⊎_elim
      (λ (here : i / 8 ≡ at / 8).
      ap (λ k. bit_at (get_or (set bytes (at / 8) byte) k 0) (i % 8) == 1) here
      ∙ ap (λ w. bit_at w (i % 8) == 1) (get_or-set_same bytes (at / 8) byte 0 place)
      ∙ ap (λ m. m == 1) (same (i % 8) (omega arith) (λ e. other (omega arith)))
      ∙ ap (λ k. bit_at (get_or bytes k 0) (i % 8) == 1) (sym here))
      (λ (apart : i / 8 ≢ at / 8). ap (λ w. bit_at w (i % 8) == 1) (get_or-set_other bytes (at / 8) (i / 8) byte 0 apart))
      (cases_eq (i / 8) (at / 8))

  pub put_bits : bit_at byte (at % 8) ≡ (if value then 1 else 0) → ((i : ℕ) → i < 8 → i ≢ at % 8 → bit_at byte i ≡ bit_at (get_or bytes (at / 8) 0) i)
      → bits_in (8 * n) (set bytes (at / 8) byte) ≡ set (bits_in (8 * n) bytes) at value
  put_bits here others =
      let long = length-bits_in (8 * n) bytes in
      bits_are (8 * n) (set bytes (at / 8) byte) (set (bits_in (8 * n) bytes) at value) (length-set (bits_in (8 * n) bytes) at value ∙ long) (λ i lt. ⊎_elim
      (λ (e : i ≡ at). ap (λ j. get_or (set (bits_in (8 * n) bytes) at value) j false) e ∙ get_or-set_same (bits_in (8 * n) bytes) at value false (omega (arith, long, within)) ∙ sym (put_here here) ∙ ap (has_bit (set bytes (at / 8) byte)) (sym e))
      (λ (apart : i ≢ at). get_or-set_other (bits_in (8 * n) bytes) at i value false apart ∙ bit_in (8 * n) bytes i lt ∙ sym (put_other others i apart))
      (cases_eq i at))
