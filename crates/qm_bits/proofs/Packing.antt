-- Bytes of words, and bytes of bits.
use Rattle.std.proofs.Common.{◌≡◌, ℕ, zero, suc, ◌+◌, ◌-◌, ◌*◌, ◌/◌, ◌%◌, ◌^◌, ◌<◌, ◌≤◌, Bool, true, false, List, [], ◌∷◌, ◌++◌, length, take, drop, get_or, min, arith, ap, ap₂, sym, subst, ◌∙◌, refl, ⊎_elim, w64}
use Rattle.std.specs.Prelude.{◌==◌, if◌then◌else◌}
use Rattle.std.specs.Int.{bit_at, byte_at, bytes_low_first, to_le_bytes}
use Rattle.std.proofs.lemmas.Bool.{cases_lt}
use Rattle.std.proofs.lemmas.List.{length-append, get_or_append_left, get_or-append_right, ext_get_or, get_or_past}
use Rattle.std.proofs.lemmas.Nat.{and_mask, shr-shr, pow-add, pow_pos}
use Rattle.std.proofs.lemmas.Nat.Bits.{bit_at_and, bit_at_ones, bit_at-lt, same_from_bits_below}
use Rattle.qm_model.specs.Bits.{byte_of, packed, has_bit}
use Rattle.qm_model.proofs.BitLemmas.{chunk_bit, length-packed}
use Rattle.qm_bits.specs.Words.{is_set}

-- the bits of a word's bytes
low_bits : (n j : ℕ) → j < 8 → bit_at (n % 256) j ≡ bit_at n j
low_bits n j low =
    let below = bit_at-lt n j in
    ap (λ m. bit_at m j) (sym (and_mask n 8)) ∙ bit_at_and n (2 ^ 8 - 1) j ∙ ap (λ b. min (bit_at n j) b) (bit_at_ones 8 j low) ∙ omega arith

base : (k : ℕ) → 256 ^ k ≡ 2 ^ (8 * k)
base zero = refl
base (suc k) =
    let one : suc k ≡ 1 + k = omega arith in
    let eight : 8 * suc k ≡ 8 + 8 * k = omega arith in
    ap (λ n. 256 ^ n) one ∙ pow-add 256 1 k ∙ ap (λ n. 256 * n) (base k) ∙ sym (pow-add 2 8 (8 * k)) ∙ ap (λ n. 2 ^ n) (sym eight)

byte_bits : (k n j : ℕ) → j < 8 → bit_at (byte_at k n) j ≡ bit_at n (8 * k + j)
byte_bits zero n j low = let none : j ≡ 8 * zero + j = omega arith in low_bits n j low ∙ ap (bit_at n) none
byte_bits (suc k) n j low = low_bits (n / 256 ^ suc k) j low ∙ ap (λ d. bit_at (n / d) j) (base (suc k)) ∙ ap (λ m. m % 2) (shr-shr n (8 * suc k) j)

byte_small : (k n : ℕ) → byte_at k n < 256
byte_small zero n = omega arith
byte_small (suc k) n = omega arith

byte_read : (from count k n : ℕ) → k < count → get_or (bytes_low_first from count n) k 0 ≡ byte_at (from + k) n
byte_read from zero k n lt = absurd (omega arith)
byte_read from (suc count) zero n lt = let here : from ≡ from + zero = omega arith in ap (λ i. byte_at i n) here
byte_read from (suc count) (suc k) n lt = let there : suc from + k ≡ from + suc k = omega arith in byte_read (suc from) count k n (omega arith) ∙ ap (λ i. byte_at i n) there

word_read : (word k : ℕ) → k < 8 → get_or (to_le_bytes w64 word) k 0 ≡ byte_at k word
word_read word k low = let here : 0 + k ≡ k = omega arith in byte_read 0 8 k word low ∙ ap (λ i. byte_at i word) here

-- the bytes of words, and those of one more
pub record AreBytes (words : List ℕ) (first count : ℕ) (bytes : List ℕ) : Type 0 where
  pub long : length bytes ≡ 8 * count
  pub small : (k : ℕ) → get_or bytes k 0 < 256
  pub same : (i : ℕ) → i < 64 * count → has_bit bytes i ≡ is_set words (64 * first + i)

pub bytes_none : (words : List ℕ) (first : ℕ) → AreBytes words first 0 []
bytes_none words first = record { long = refl; small = λ k. omega arith; same = λ i lt. absurd (omega arith) }

pub bytes_more : (words : List ℕ) (first count : ℕ) (bytes : List ℕ) → AreBytes words first count bytes → AreBytes words first (count + 1) (bytes ++ to_le_bytes w64 (get_or words (first + count) 0))
unfolding is_set
bytes_more words first count bytes were = record {
  long = let both = length-append bytes (to_le_bytes w64 (get_or words (first + count) 0)) in omega (arith, were.long);
  small = λ k. ⊎_elim
      (λ (old : k < length bytes). subst (λ b. b < 256) (sym (get_or_append_left bytes added 0 k old)) (were.small k))
      (λ (new : length bytes ≤ k). subst (λ b. b < 256) (sym (get_or-append_right bytes added (length bytes) k 0 refl new)) (added_small (k - length bytes)))
      (cases_lt k (length bytes));
  same = λ i lt. ⊎_elim
      (λ (old : i < 64 * count). ap (λ b. bit_at b (i % 8) == 1) (get_or_append_left bytes added 0 (i / 8) (omega (arith, were.long))) ∙ were.same i old)
      (λ (new : 64 * count ≤ i).
      let word : (64 * first + i) / 64 ≡ first + count = omega arith in
      let place : 8 * (i / 8 - 8 * count) + i % 8 ≡ (64 * first + i) % 64 = omega arith in
      ap (λ b. bit_at b (i % 8) == 1)
      (get_or-append_right bytes added (8 * count) (i / 8) 0 were.long (omega arith) ∙ word_read (get_or words (first + count) 0) (i / 8 - 8 * count) (omega arith))
      ∙ ap (λ n. n == 1) (byte_bits (i / 8 - 8 * count) (get_or words (first + count) 0) (i % 8) (omega arith))
      ∙ ap₂ (λ k p. bit_at (get_or words k 0) p == 1) (sym word) place)
      (cases_lt i (64 * count));
}
  where
    added : List ℕ
    added = to_le_bytes w64 (get_or words (first + count) 0)

    added_small : (k : ℕ) → get_or added k 0 < 256
    added_small k = ⊎_elim
        (λ (low : k < 8). subst (λ b. b < 256) (sym (word_read (get_or words (first + count) 0) k low)) (byte_small k (get_or words (first + count) 0)))
        (λ (past : 8 ≤ k). subst (λ b. b < 256) (sym (get_or_past added k 0 past)) (omega arith))
        (cases_lt k 8)

-- Bytes with the same bits.

bits_below : (m : ℕ) (bs : List Bool) → byte_of (take m bs) < 2 ^ m
bits_below zero bs = omega arith
bits_below (suc m) [] = pow_pos (suc m)
bits_below (suc m) (b ∷ bs) =
    let one : suc m ≡ 1 + m = omega arith in
    let twice : 2 ^ suc m ≡ 2 * 2 ^ m = ap (λ n. 2 ^ n) one ∙ pow-add 2 1 m in
    let rest = bits_below m bs in
    let digit = below_two b in
    omega arith
  where
    below_two : (t : Bool) → (if t then 1 else 0) < 2
    below_two true = omega arith
    below_two false = omega arith

pub packed_small : (n : ℕ) (bs : List Bool) (k : ℕ) → get_or (packed n bs) k 0 < 256
packed_small zero bs k = omega arith
packed_small (suc n) bs zero = bits_below 8 bs
packed_small (suc n) bs (suc k) = packed_small n (drop 8 bs) k

is_digit : (n : ℕ) → n < 2 → n ≡ (if n == 1 then 1 else 0)
is_digit zero lt = refl
is_digit (suc zero) lt = refl
is_digit (suc (suc n)) lt = absurd (omega arith)

same_digit : (m n : ℕ) → m < 2 → n < 2 → (m == 1) ≡ (n == 1) → m ≡ n
same_digit m n first second same = is_digit m first ∙ ap (λ t. if t then 1 else 0) same ∙ sym (is_digit n second)

pub same_bytes : (n : ℕ) (bytes : List ℕ) (bs : List Bool) → length bytes ≡ n → ((k : ℕ) → get_or bytes k 0 < 256) → ((i : ℕ) → i < 8 * n → has_bit bytes i ≡ get_or bs i false) → bytes ≡ packed n bs
same_bytes n bytes bs long small same =
    ext_get_or 0 bytes (packed n bs) (long ∙ sym (length-packed n bs)) (λ k lt.
    same_from_bits_below 8 (get_or bytes k 0) (get_or (packed n bs) k 0) (small k) (packed_small n bs k) (λ j low.
    same_digit (bit_at (get_or bytes k 0) j) (bit_at (get_or (packed n bs) k 0) j) (bit_at-lt (get_or bytes k 0) j) (bit_at-lt (get_or (packed n bs) k 0) j)
    (let byte : (8 * k + j) / 8 ≡ k = omega arith in
    let place : (8 * k + j) % 8 ≡ j = omega arith in
    let whole : 0 * (8 * n) + (8 * k + j) ≡ 8 * k + j = omega arith in
    let none : 0 * (8 * n) ≡ 0 = omega arith in
    let within : 8 * k + j < 8 * n = omega (arith, long) in
    ap₂ (λ b p. bit_at (get_or bytes b 0) p == 1) (sym byte) (sym place)
    ∙ same (8 * k + j) within
    ∙ ap (λ i. get_or bs i false) (sym whole)
    ∙ sym (chunk_bit n bs 0 (8 * k + j) within)
    ∙ ap (λ d. has_bit (packed n (drop d bs)) (8 * k + j)) none
    ∙ ap₂ (λ b p. bit_at (get_or (packed n bs) b 0) p == 1) byte place)))

-- bytes of words that have the bits are the bits' bytes
pub bytes_are : (words : List ℕ) (first count : ℕ) (bytes : List ℕ) → AreBytes words first count bytes → (bits : List Bool) → ((i : ℕ) → i < 64 * count → get_or bits i false ≡ is_set words (64 * first + i)) → bytes ≡ packed (8 * count) bits
bytes_are words first count bytes are bits same =
    same_bytes (8 * count) bytes bits are.long are.small (λ i lt. let low : i < 64 * count = omega arith in are.same i low ∙ sym (same i low))
