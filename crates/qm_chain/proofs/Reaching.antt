-- How far a walk comes through candidates.
use Rattle.std.proofs.Common.{◌≡◌, ◌≢◌, ◌∙◌, ◌+◌, ◌-◌, ◌^◌, ◌<◌, ◌≤◌, nat_le, min, ℕ, zero, suc, true, false, List, [], ◌∷◌, length, drop, get_or, refl, sym, ap, subst, arith}
use Rattle.std.proofs.lemmas.List.{drop_more, drop_all}
use Rattle.std.proofs.lemmas.Bool.Decides.{nat_tests}
use Rattle.qm_chain.specs.Walks.{reachable_from, IsRising}

-- the first candidate is not come to
too_far : (floor entries skips at : ℕ) (later : List ℕ) → skips < at - floor → reachable_from floor entries skips (at ∷ later) ≡ 0
too_far floor zero skips at later far = refl
too_far floor (suc entries) skips at later far =
    let no : nat_le (at - floor) skips ≡ false = grind (arith, nat_tests) in
    rw no refl

-- it is, and one entry goes
one_more : (floor entries skips at : ℕ) (later : List ℕ) → 0 < entries → at - floor ≤ skips →
    reachable_from floor entries skips (at ∷ later) ≡ suc (reachable_from (at + 1) (entries - 1) (skips - (at - floor)) later)
one_more floor zero skips at later some near = absurd (omega arith)
one_more floor (suc entries) skips at later some near =
    let yes : nat_le (at - floor) skips ≡ true = grind (arith, nat_tests) in
    let fewer : entries ≡ suc entries - 1 = omega arith in
    rw yes (ap (λ e. suc (reachable_from (at + 1) e (skips - (at - floor)) later)) fewer)

-- Past the first `count` of the candidates, with these skips left: the place after them may be one past the last number.
pub record IsPast (floor entries skips : ℕ) (all : List ℕ) (here left count : ℕ) : Type 0 where
  pub next : ℕ
  pub place : here ≡ min next (2 ^ 64 - 1)
  pub few : count ≤ entries
  pub rising : IsRising next (drop count all)
  pub rest : reachable_from floor entries skips all ≡ count + reachable_from next (entries - count) left (drop count all)

pub at_first : (floor entries skips : ℕ) (all : List ℕ) → floor < 2 ^ 64 → IsRising floor all → IsPast floor entries skips all floor skips 0
at_first floor entries skips all short rising = record { next = floor; place = omega arith; few = omega arith; rising = rising; rest = first }
  where
    first : reachable_from floor entries skips all ≡ 0 + reachable_from floor (entries - 0) skips all
    first = let whole : entries ≡ entries - 0 = omega arith in let same : reachable_from floor entries skips all ≡ reachable_from floor (entries - 0) skips all = ap (λ e. reachable_from floor e skips all) whole in omega (arith, same)

module _ (floor entries skips : ℕ) (all : List ℕ) (here left count index : ℕ) (past : (count ≡ index) × IsPast floor entries skips all here left count) where
  pub at_last : length all ≤ index → count ≡ reachable_from floor entries skips all
  at_last done =
      let none : drop count all ≡ [] = drop_all count all (omega (arith, past.0)) in
      let zero_left : reachable_from past.1.next (entries - count) left (drop count all) ≡ 0 = ap (reachable_from past.1.next (entries - count) left) none in
      omega (arith, zero_left, past.1.rest)

  -- the next candidate
  module _ (item at : ℕ) (within : index < length all) (item-is : item ≡ get_or all index item) (at-is : at ≡ item) (short : at < 2 ^ 64) where
    split : drop count all ≡ at ∷ drop (count + 1) all
    split =
        let within-count : count < length all = omega (arith, past.0) in
        drop_more all count item within-count
        ∙ ap (λ c. c ∷ drop (count + 1) all) (ap (λ i. get_or all i item) past.0 ∙ sym item-is ∙ sym at-is)

    rises : IsRising past.1.next (at ∷ drop (count + 1) all)
    rises = subst (IsRising past.1.next) split past.1.rising

    same : past.1.next ≡ here
    same = omega (arith, past.1.place, rises.0)

    pub not_below : here ≤ at
    not_below = omega (arith, same, rises.0)

    here_rest : reachable_from floor entries skips all ≡ count + reachable_from here (entries - count) left (at ∷ drop (count + 1) all)
    here_rest = past.1.rest ∙ ap (λ cs. count + reachable_from past.1.next (entries - count) left cs) split ∙ ap (λ n. count + reachable_from n (entries - count) left (at ∷ drop (count + 1) all)) same

    pub stops-spent : count ≡ entries → count ≡ reachable_from floor entries skips all
    stops-spent spent =
        let none : entries - count ≡ 0 = omega arith in
        let zero_left : reachable_from here (entries - count) left (at ∷ drop (count + 1) all) ≡ 0 = ap (λ n. reachable_from here n left (at ∷ drop (count + 1) all)) none in
        omega (arith, zero_left, here_rest)

    pub stops-far : left < at - here → count ≡ reachable_from floor entries skips all
    stops-far far =
        let zero_left : reachable_from here (entries - count) left (at ∷ drop (count + 1) all) ≡ 0 = too_far here (entries - count) left at (drop (count + 1) all) far in
        omega (arith, zero_left, here_rest)

    pub comes : count ≢ entries → at - here ≤ left → (place : ℕ) → place ≡ min (at + 1) (2 ^ 64 - 1) →
        IsPast floor entries skips all place (left - (at - here)) (count + 1)
    comes more near place is_place =
        let some : 0 < entries - count = omega (arith, more, past.1.few) in
        let fewer : entries - count - 1 ≡ entries - (count + 1) = omega arith in
        let step : reachable_from here (entries - count) left (at ∷ drop (count + 1) all) ≡ suc (reachable_from (at + 1) (entries - (count + 1)) (left - (at - here)) (drop (count + 1) all)) =
        one_more here (entries - count) left at (drop (count + 1) all) some near
        ∙ ap (λ n. suc (reachable_from (at + 1) n (left - (at - here)) (drop (count + 1) all))) fewer in
        record { next = at + 1; place = is_place; few = omega (arith, some); rising = rises.1; rest = omega (arith, here_rest, step) }
