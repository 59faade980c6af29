-- Bits that words hold.
use Rattle.std.proofs.Common.{◌≡◌, ◌≢◌, ℕ, ◌+◌, ◌-◌, ◌*◌, ◌<◌, ◌≤◌, Bool, false, List, [], ◌∷◌, ◌++◌, length, drop, get_or, set, replicate, ⊎_elim, arith, ap, sym, ◌∙◌, refl}
use Rattle.std.proofs.lemmas.List.{set_at, length-drop, get_or_past, get_or-drop}
use Rattle.std.proofs.lemmas.Bool.{cases_lt}
use Rattle.qm_bits.specs.Words.{is_set, bits_of, AreHeld}
use Rattle.qm_bits.proofs.Places.{length-bits_of, bit_of, bits_set, bits_more, bits_behind, behind}

module _ (n : ℕ) (words : List ℕ) (bits : List Bool) (is : bits_of n words ≡ bits) where
  pub long : n ≡ length bits
  long = sym (length-bits_of n words) ∙ ap length is

  pub bit_is : (at : ℕ) → at < length bits → is_set words at ≡ get_or bits at false
  bit_is at within = let count = long in sym (ap (λ b. get_or b at false) (sym is) ∙ bit_of n words at false (omega arith))

  -- also after the last one
  pub held_bit : AreHeld n words → (at : ℕ) → get_or bits at false ≡ is_set words at
  held_bit are at =
      let count = long in
      ⊎_elim
      (λ (inside : at < length bits). sym (bit_is at inside))
      (λ (past : length bits ≤ at). get_or_past bits at false past ∙ sym (are.clear at (omega arith)))
      (cases_lt at (length bits))

  pub held_from : AreHeld n words → (from at : ℕ) → get_or (drop from bits) at false ≡ is_set words (from + at)
  held_from are from at = get_or-drop from bits at false ∙ held_bit are (from + at)

  pub held_set : (new : List ℕ) (at : ℕ) (value : Bool) → at < length bits → is_set new at ≡ value → ((i : ℕ) → i ≢ at → is_set new i ≡ is_set words i) → bits_of n new ≡ set bits at value
  held_set new at value within here others = let count = long in bits_set n words new at value (omega arith) here others ∙ ap (λ b. set b at value) is

  pub held_more : (new : List ℕ) (len : ℕ) → length bits ≤ len → ((i : ℕ) → is_set new i ≡ is_set words i) → ((i : ℕ) → n ≤ i → is_set words i ≡ false) → bits_of len new ≡ bits ++ replicate (len - length bits) false
  held_more new len from same clear =
      let count = long in
      let total : len ≡ n + (len - length bits) = omega arith in
      ap (λ k. bits_of k new) total ∙ bits_more n (len - length bits) words new same clear ∙ ap (λ b. b ++ replicate (len - length bits) false) is

  pub held_behind : (count : ℕ) → bits_of (n - 64 * count) (drop count words) ≡ drop (64 * count) bits
  held_behind count = bits_behind n count words ∙ ap (drop (64 * count)) is

  pub are_behind : AreHeld n words → (count : ℕ) → 64 * count ≤ length bits → AreHeld (n - 64 * count) (drop count words)
  are_behind are count few =
      let all = long in
      let left = length-drop count words in
      record {
        within = omega (arith, are.within);
        clear = λ i past. behind words count i ∙ are.clear (64 * count + i) (omega arith);
        bounded = omega (arith, are.bounded);
      }

-- one more bit, added as a clear one and then set
pub pushed : (old more new : List Bool) (at : ℕ) (value : Bool) → at ≡ length old → more ≡ old ++ replicate (at + 1 - length old) false → new ≡ set more at value → new ≡ old ++ value ∷ []
pushed old more new at value last is set_is =
    let one : at + 1 - length old ≡ 1 = omega arith in
    set_is
    ∙ ap (λ bits. set bits at value) (is ∙ ap (λ k. old ++ replicate k false) one)
    ∙ ap (λ k. set (old ++ false ∷ []) k value) last
    ∙ set_at old false [] value (length old) refl
