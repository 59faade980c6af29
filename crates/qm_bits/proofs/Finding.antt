-- Candidates in rows of locations.
use Rattle.std.proofs.Common.{◌≡◌, ℕ, zero, suc, ◌+◌, ◌-◌, ◌<◌, ◌≤◌, Bool, true, false, List, [], ◌∷◌, ◌++◌, length, arith, ap, ap₂, sym, ◌∙◌, refl, append_assoc, cond, ⊎_elim}
use Rattle.std.proofs.lemmas.Bool.{cases_lt}
use Rattle.std.specs.List.{filter, range_with_len}
use Rattle.std.proofs.lemmas.List.{length-append, append-nil}
use Rattle.std.proofs.lemmas.List.Elements.{filter-append}
use Rattle.qm_bits.specs.Candidates.{is_candidate, candidates, IsFilled}

rows_split : (a m n : ℕ) → range_with_len a (m + n) ≡ range_with_len a m ++ range_with_len (a + m) n
rows_split a zero n =
    let none : zero + n ≡ n = omega arith in
    let here : a ≡ a + zero = omega arith in
    ap (range_with_len a) none ∙ ap (λ b. range_with_len b n) here
rows_split a (suc m) n =
    let more : suc m + n ≡ suc (m + n) = omega arith in
    let there : a + 1 + m ≡ a + suc m = omega arith in
    ap (range_with_len a) more ∙ ap (λ rest. a ∷ rest) (rows_split (a + 1) m n ∙ ap (λ b. range_with_len (a + 1) m ++ range_with_len b n) there)

-- those up to a place, and those from there on
pub candidates_split : (bits : List Bool) (a b c : ℕ) → a ≤ b → b ≤ c → candidates bits a c ≡ candidates bits a b ++ candidates bits b c
unfolding candidates
candidates_split bits a b c first second =
    let both : c - a ≡ (b - a) + (c - b) = omega arith in
    let middle : a + (b - a) ≡ b = omega arith in
    ap (λ n. filter (is_candidate bits) (range_with_len a n)) both
    ∙ ap (filter (is_candidate bits)) (rows_split a (b - a) (c - b) ∙ ap (λ m. range_with_len a (b - a) ++ range_with_len m (c - b)) middle)
    ∙ filter-append (is_candidate bits) (range_with_len a (b - a)) (range_with_len b (c - b))

pub candidates_none : (bits : List Bool) (a b : ℕ) → b ≤ a → candidates bits a b ≡ []
unfolding candidates
candidates_none bits a b past = let none : b - a ≡ 0 = omega arith in ap (λ n. filter (is_candidate bits) (range_with_len a n)) none

pub candidates_one : (bits : List Bool) (a : ℕ) → is_candidate bits a ≡ true → candidates bits a (a + 1) ≡ a ∷ []
unfolding candidates
candidates_one bits a is = let one : a + 1 - a ≡ 1 = omega arith in ap (λ n. filter (is_candidate bits) (range_with_len a n)) one ∙ ap (λ t. cond t (a ∷ []) []) is

clear_row : (bits : List Bool) (a n : ℕ) → ((i : ℕ) → a ≤ i → i < a + n → is_candidate bits i ≡ false) → filter (is_candidate bits) (range_with_len a n) ≡ []
clear_row bits a zero clear = refl
clear_row bits a (suc n) clear =
    ap (λ t. cond t (a ∷ filter (is_candidate bits) (range_with_len (a + 1) n)) (filter (is_candidate bits) (range_with_len (a + 1) n))) (clear a (omega arith) (omega arith))
    ∙ clear_row bits (a + 1) n (λ i from to. clear i (omega arith) (omega arith))

pub candidates_clear : (bits : List Bool) (a b : ℕ) → a ≤ b → ((i : ℕ) → a ≤ i → i < b → is_candidate bits i ≡ false) → candidates bits a b ≡ []
unfolding candidates
candidates_clear bits a b order clear = clear_row bits a (b - a) (λ i from to. clear i from (omega arith))

-- The steps of a walk.

pub filled_none : (bits : List Bool) (floor tip limit : ℕ) (old : List ℕ) → IsFilled bits floor tip limit old old floor
filled_none bits floor tip limit old = record {
  found = sym (append-nil old) ∙ ap (λ xs. old ++ xs) (sym (candidates_none bits floor floor (omega arith)));
  from = omega arith;
  to = omega arith;
  room = omega arith;
}

-- clear bits are passed
pub filled_past : (bits : List Bool) (floor tip limit : ℕ) (old new : List ℕ) (at next : ℕ) → IsFilled bits floor tip limit old new at → at ≤ next → next ≤ tip → ((i : ℕ) → at ≤ i → i < next → is_candidate bits i ≡ false)
    → IsFilled bits floor tip limit old new next
filled_past bits floor tip limit old new at next was from to clear = record {
  found =
      was.found
      ∙ ap (λ xs. old ++ xs) (sym (append-nil (candidates bits floor at)) ∙ ap (λ xs. candidates bits floor at ++ xs) (sym (candidates_clear bits at next from clear)) ∙ sym (candidates_split bits floor at next was.from from));
  from = omega (arith, was.from);
  to = omega arith;
  room = was.room;
}

-- a candidate is put
pub filled_more : (bits : List Bool) (floor tip limit : ℕ) (old new more : List ℕ) (at : ℕ) → IsFilled bits floor tip limit old new at → at < tip → length new < limit → is_candidate bits at ≡ true → more ≡ new ++ at ∷ []
    → IsFilled bits floor tip limit old more (at + 1)
filled_more bits floor tip limit old new more at was before room here is = record {
  found =
      is ∙ ap (λ xs. xs ++ at ∷ []) was.found ∙ append_assoc old (candidates bits floor at) (at ∷ [])
      ∙ ap (λ xs. old ++ xs) (ap (λ xs. candidates bits floor at ++ xs) (sym (candidates_one bits at here)) ∙ sym (candidates_split bits floor at (at + 1) was.from (omega arith)));
  from = omega (arith, was.from);
  to = omega arith;
  room = let long = length-append new (at ∷ []) in let same = ap length is in omega arith;
}

-- clear bits are passed, and a candidate after them is put
pub filled_behind : (bits : List Bool) (floor tip limit : ℕ) (old new more : List ℕ) (at next found : ℕ) → IsFilled bits floor tip limit old new at → at ≤ next → next < tip → ((i : ℕ) → at ≤ i → i < next → is_candidate bits i ≡ false) → length new < limit → is_candidate bits next ≡ true
    → more ≡ new ++ found ∷ [] → found ≡ next → IsFilled bits floor tip limit old more (next + 1)
filled_behind bits floor tip limit old new more at next found was from before clear room here is same =
    filled_more bits floor tip limit old new more next (filled_past bits floor tip limit old new at next was from (omega arith) clear) before room here (is ∙ ap (λ x. new ++ x ∷ []) same)

-- what is left comes after that
pub filled_rest : (bits : List Bool) (floor tip limit : ℕ) (old new : List ℕ) (next : ℕ) → IsFilled bits floor tip limit old new next → candidates bits floor tip ≡ candidates bits floor next ++ candidates bits next tip
filled_rest bits floor tip limit old new next was = ⊎_elim
    (λ (inside : floor < tip). candidates_split bits floor next tip was.from (omega (arith, was.to)))
    (λ (past : tip ≤ floor).
    candidates_none bits floor tip past
    ∙ ap₂ (λ xs ys. xs ++ ys) (sym (candidates_none bits floor next (omega (arith, was.to)))) (sym (candidates_none bits next tip (omega (arith, was.from)))))
    (cases_lt floor tip)
