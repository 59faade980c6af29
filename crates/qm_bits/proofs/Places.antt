-- Bits by their place in words, and lists of bits.
use Rattle.std.proofs.Common.{◌≡◌, ◌≢◌, ℕ, ◌+◌, ◌-◌, ◌*◌, ◌/◌, ◌%◌, ◌^◌, ◌<◌, ◌≤◌, Bool, true, false, List, [], ◌++◌, length, drop, get_or, set, replicate, arith, ap, ap₂, sym, ◌∙◌, refl, subst, ⊎_elim, ◌⊎◌, inl, inr, w64}
use Rattle.std.specs.Prelude.{◌==◌, if◌then◌else◌, bit_and}
use Rattle.std.specs.Int.{bit_at, trailing_zeros}
use Rattle.std.proofs.lemmas.Bool.{cases_lt, cases_eq}
use Rattle.std.proofs.lemmas.List.{length-set, length-append, length-replicate, length-drop, get_or-drop, get_or-set_same, get_or-set_other, get_or_append_left, get_or-append_right, get_or-replicate, get_or_past}
use Rattle.std.proofs.lemmas.List.FromFn.{length-map-range_with_len, get_or-map-range_with_len, fill_by_all}
use Rattle.std.proofs.lemmas.Nat.{shr-shr, shr_le}
use Rattle.std.proofs.lemmas.Nat.Bits.{shr_and_one, bit_at-zero, bit_at-trailing_zeros, bit_at_above}
use Rattle.qm_bits.specs.Words.{is_set, bits_of}

-- Bits of words.

-- the test of one bit in its word
pub tested : (words : List ℕ) (at : ℕ) → (bit_and (get_or words (at / 64) 0 / 2 ^ (at % 64)) 1 == 1) ≡ is_set words at
unfolding is_set
tested words at = ap (λ n. n == 1) (shr_and_one (get_or words (at / 64) 0) (at % 64))

-- a word with one bit changed, put in its place
pub changed_here : (words : List ℕ) (at word : ℕ) (value : Bool) → at < 64 * length words → bit_at word (at % 64) ≡ (if value then 1 else 0) → is_set (set words (at / 64) word) at ≡ value
unfolding is_set
changed_here words at word value within bit =
    ap (λ w. bit_at w (at % 64) == 1) (get_or-set_same words (at / 64) word 0 (omega arith)) ∙ ap (λ n. n == 1) bit ∙ is_one value
  where
    is_one : (t : Bool) → ((if t then 1 else 0) == 1) ≡ t
    is_one true = refl
    is_one false = refl

pub changed_other : (words : List ℕ) (at word : ℕ) → at < 64 * length words → ((i : ℕ) → i < 64 → i ≢ at % 64 → bit_at word i ≡ bit_at (get_or words (at / 64) 0) i) → (i : ℕ) → i ≢ at → is_set (set words (at / 64) word) i ≡ is_set words i
unfolding is_set
changed_other words at word within same i other = ⊎_elim
    (λ (here : i / 64 ≡ at / 64).
    ap (λ k. bit_at (get_or (set words (at / 64) word) k 0) (i % 64) == 1) here
    ∙ ap (λ w. bit_at w (i % 64) == 1) (get_or-set_same words (at / 64) word 0 (omega arith))
    ∙ ap (λ n. n == 1) (same (i % 64) (omega arith) (λ e. other (omega arith)))
    ∙ ap (λ k. bit_at (get_or words k 0) (i % 64) == 1) (sym here))
    (λ (apart : i / 64 ≢ at / 64). ap (λ w. bit_at w (i % 64) == 1) (get_or-set_other words (at / 64) (i / 64) word 0 apart))
    (cases_eq (i / 64) (at / 64))

-- words of clear bits after others
pub with_clear : (words : List ℕ) (n i : ℕ) → is_set (words ++ replicate n 0) i ≡ is_set words i
unfolding is_set
with_clear words n i = ap (λ w. bit_at w (i % 64) == 1) (same (cases_lt (i / 64) (length words)))
  where
    zeros : (k : ℕ) → get_or {A = ℕ} (replicate n 0) k 0 ≡ 0
    zeros k = ⊎_elim (λ (low : k < n). get_or-replicate n k 0 0 low) (λ (past : n ≤ k). let long = length-replicate {A = ℕ} n 0 in get_or_past (replicate n 0) k 0 (omega arith)) (cases_lt k n)

    same : (i / 64 < length words) ⊎ (length words ≤ i / 64) → get_or (words ++ replicate n 0) (i / 64) 0 ≡ get_or words (i / 64) 0
    same (inl low) = get_or_append_left words (replicate n 0) 0 (i / 64) low
    same (inr past) = get_or-append_right words (replicate n 0) (length words) (i / 64) 0 refl past ∙ zeros (i / 64 - length words) ∙ sym (get_or_past words (i / 64) 0 past)

-- the words after the first `count`
pub behind : (words : List ℕ) (count i : ℕ) → is_set (drop count words) i ≡ is_set words (64 * count + i)
unfolding is_set
behind words count i =
    let word : count + i / 64 ≡ (64 * count + i) / 64 = omega arith in
    let place : i % 64 ≡ (64 * count + i) % 64 = omega arith in
    ap (λ w. bit_at w (i % 64) == 1) (get_or-drop count words (i / 64) 0) ∙ ap₂ (λ k p. bit_at (get_or words k 0) p == 1) word place

-- What is left of a word from a place on.

-- a bit of the rest is one of the word
rest_bit : (word from i : ℕ) → bit_at (word / 2 ^ from) i ≡ bit_at word (from + i)
rest_bit word from i = ap (λ n. n % 2) (shr-shr word from i)

-- a place of the same word, farther on
pub in_word : (words : List ℕ) (at i : ℕ) → at % 64 + i < 64 → is_set words (at + i) ≡ (bit_at (get_or words (at / 64) 0 / 2 ^ (at % 64)) i == 1)
unfolding is_set
in_word words at i low =
    let word : (at + i) / 64 ≡ at / 64 = omega arith in
    let place : (at + i) % 64 ≡ at % 64 + i = omega arith in
    ap₂ (λ k p. bit_at (get_or words k 0) p == 1) word place ∙ ap (λ n. n == 1) (sym (rest_bit (get_or words (at / 64) 0) (at % 64) i))

-- nothing is left: the word's other bits are clear
pub none_left : (words : List ℕ) (at : ℕ) → get_or words (at / 64) 0 / 2 ^ (at % 64) ≡ 0 → (i : ℕ) → at ≤ i → i < (at / 64 + 1) * 64 → is_set words i ≡ false
none_left words at none i from to =
    let there : at + (i - at) ≡ i = omega arith in
    ap (is_set words) (sym there) ∙ in_word words at (i - at) (omega arith) ∙ ap (λ w. bit_at w (i - at) == 1) none ∙ ap (λ n. n == 1) (bit_at-zero (i - at))

-- something is left: its lowest bit is the word's first set one from there on
module _ (words : List ℕ) (at : ℕ) (fits : get_or words (at / 64) 0 < 2 ^ 64) (some : 0 < get_or words (at / 64) 0 / 2 ^ (at % 64)) (rest count : ℕ) (rest_is : rest ≡ get_or words (at / 64) 0 / 2 ^ (at % 64)) (count_is : count ≡ trailing_zeros w64 rest) where
  lowest : (count < 64) × (bit_at rest count ≡ 1) × ((i : ℕ) → i < count → bit_at rest i ≡ 0)
  lowest =
      let small : rest ≤ get_or words (at / 64) 0 = subst (λ n. n ≤ get_or words (at / 64) 0) (sym rest_is) (shr_le (get_or words (at / 64) 0) (at % 64)) in
      subst (λ n. (n < 64) × (bit_at rest n ≡ 1) × ((i : ℕ) → i < n → bit_at rest i ≡ 0)) (sym count_is) (bit_at-trailing_zeros w64 rest (omega arith) (omega arith))

  low : at % 64 + count < 64
  low = ⊎_elim
      (λ (yes : at % 64 + count < 64). yes)
      (λ (past : 64 ≤ at % 64 + count).
      let none = bit_at_above (get_or words (at / 64) 0) 64 (at % 64 + count) fits past in
      let one : bit_at (get_or words (at / 64) 0) (at % 64 + count) ≡ 1 = sym (rest_bit (get_or words (at / 64) 0) (at % 64) count) ∙ ap (λ n. bit_at n count) (sym rest_is) ∙ lowest.1 in
      absurd (omega arith))
      (cases_lt (at % 64 + count) 64)

  pub found_set : is_set words (at + count) ≡ true
  found_set = in_word words at count low ∙ ap (λ n. bit_at n count == 1) (sym rest_is) ∙ ap (λ n. n == 1) lowest.1

  pub found_first : (i : ℕ) → at ≤ i → i < at + count → is_set words i ≡ false
  found_first i from before =
      let there : at + (i - at) ≡ i = omega arith in
      let under = low in
      ap (is_set words) (sym there) ∙ in_word words at (i - at) (omega arith) ∙ ap (λ n. bit_at n (i - at) == 1) (sym rest_is) ∙ ap (λ n. n == 1) (lowest.2 (i - at) (omega arith))

-- Lists of bits.

pub length-bits_of : (n : ℕ) (words : List ℕ) → length (bits_of n words) ≡ n
unfolding bits_of
length-bits_of n words = length-map-range_with_len (is_set words) 0 n

pub bit_of : (n : ℕ) (words : List ℕ) (i : ℕ) (d : Bool) → i < n → get_or (bits_of n words) i d ≡ is_set words i
unfolding bits_of
bit_of n words i d lt = get_or-map-range_with_len (is_set words) 0 n i i d lt (omega arith)

-- a list of bits that the words have one by one
pub bits_are : (n : ℕ) (words : List ℕ) (bits : List Bool) → length bits ≡ n → ((i : ℕ) → i < n → get_or bits i false ≡ is_set words i) → bits_of n words ≡ bits
unfolding bits_of
bits_are n words bits long same = sym (fill_by_all (is_set words) bits n false long same)

-- one bit changed
pub bits_set : (n : ℕ) (old new : List ℕ) (at : ℕ) (value : Bool) → at < n → is_set new at ≡ value → ((i : ℕ) → i ≢ at → is_set new i ≡ is_set old i) → bits_of n new ≡ set (bits_of n old) at value
bits_set n old new at value within here others =
    let long = length-bits_of n old in
    let same = length-set (bits_of n old) at value in
    bits_are n new (set (bits_of n old) at value) (omega arith) (λ i lt. ⊎_elim
    (λ (e : i ≡ at). ap (λ j. get_or (set (bits_of n old) at value) j false) e ∙ get_or-set_same (bits_of n old) at value false (omega arith) ∙ sym here ∙ ap (is_set new) (sym e))
    (λ (apart : i ≢ at). get_or-set_other (bits_of n old) at i value false apart ∙ bit_of n old i false lt ∙ sym (others i apart))
    (cases_eq i at))

-- clear bits after those that there were
pub bits_more : (n more : ℕ) (old new : List ℕ) → ((i : ℕ) → is_set new i ≡ is_set old i) → ((i : ℕ) → n ≤ i → is_set old i ≡ false) → bits_of (n + more) new ≡ bits_of n old ++ replicate more false
bits_more n more old new same clear =
    let long = length-bits_of n old in
    let both = length-append (bits_of n old) (replicate more false) in
    let rest = length-replicate more false in
    bits_are (n + more) new (bits_of n old ++ replicate more false) (omega arith) (λ i lt. ⊎_elim
    (λ (low : i < n). get_or_append_left (bits_of n old) (replicate more false) false i (omega arith) ∙ bit_of n old i false low ∙ sym (same i))
    (λ (past : n ≤ i). get_or-append_right (bits_of n old) (replicate more false) n i false long past ∙ get_or-replicate more (i - n) false false (omega arith) ∙ sym (same i ∙ clear i past))
    (cases_lt i n))

-- the bits after the first `count` words
pub bits_behind : (n count : ℕ) (words : List ℕ) → bits_of (n - 64 * count) (drop count words) ≡ drop (64 * count) (bits_of n words)
bits_behind n count words =
    let long = length-bits_of n words in
    let left = length-drop (64 * count) (bits_of n words) in
    bits_are (n - 64 * count) (drop count words) (drop (64 * count) (bits_of n words)) (omega arith) (λ i lt.
    get_or-drop (64 * count) (bits_of n words) i false ∙ bit_of n words (64 * count + i) false (omega arith) ∙ sym (behind words count i))

-- no words have no bit
pub no_words : (i : ℕ) → is_set [] i ≡ false
unfolding is_set
no_words i = ap (λ n. n == 1) (bit_at-zero (i % 64))
