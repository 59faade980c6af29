-- What an accepted opening of a log takes up: as many operations as it says, the last of them at or after the start, and the fresh
-- list of an empty log.
use Rattle.std.proofs.Common.{◌≡◌, ℕ, zero, suc, ◌+◌, ◌-◌, ◌<◌, ◌≤◌, Bool, true, false, List, [], ◌∷◌, length, drop, Option, Some, None, refl, sym, ◌∙◌, subst, arith, le_refl}
use Rattle.std.specs.Prelude.{get_or, IfSome, ◌==◌, ◌&&◌, option_map}
use Rattle.std.specs.Option.{option_or}
use Rattle.std.proofs.lemmas.Bool.{eqb-true}
use Rattle.std.proofs.lemmas.List.{length-map, length-take, length-drop}
use Rattle.qm_model.specs.Operations.{Operation}
use Rattle.qm_model.specs.Refused.{Refused, DataCorrupted}
use Rattle.qm_model.specs.Own.{Log}
use Rattle.qm_model.specs.Opening.{Found, Selected, opens, first_refusal, commit_refusal, commit_at, last_commit, below_bound, selected, size_of, is_empty, checks, opening_of, opening}
use Rattle.qm_machine.specs.Machine.{found_in}
use Rattle.qm_model.specs.Schemes.{Scheme, layout_of}

-- no check fails
none-at : {A : Type 0} (rs : List (Option A)) (k : ℕ) → first_refusal rs ≡ None → get_or rs k None ≡ None
none-at [] k is = refl
none-at (Some r ∷ rs) k is = absurd (cc)
none-at (None ∷ rs) zero is = refl
none-at (None ∷ rs) (suc k) is = none-at rs k is

pub accepted : (r : Option Refused) (size n : ℕ) → opening_of r size ≡ opens n → (r ≡ None) × (size ≡ n)
accepted (Some r) size n is = absurd (cc)
accepted None size n is = (refl, cc)

-- where the last commit ends, of items that stand after a start

abbrev IsWithin : ℕ → ℕ → Option Selected → Type 0
IsWithin start n at = IfSome at (λ c. (start < c.size) × (c.size ≤ n))

within-more : (start n : ℕ) (at : Option Selected) → IsWithin start n at → IsWithin start (suc n) at
within-more start n None is = tt
within-more start n (Some c) is = (is.0, let low = is.1 in omega (arith, low))

within-next : (start i : ℕ) (floor : Option ℕ) (before : Option Selected) → start ≤ i → IsWithin start i before → IsWithin start (suc i) (option_or (option_map (λ f. record { size = suc i; floor = f }) floor) before)
within-next start i None before low is = within-more start i before is
within-next start i (Some f) before low is = (omega (arith, low), omega arith)

last-within : (start i : ℕ) (before : Option Selected) (items : List (Option Operation)) → start ≤ i → IsWithin start i before → IsWithin start (i + length items) (last_commit i before items)
last-within start i before [] low is = subst (λ n. IsWithin start n before) (omega arith) is
last-within start i before (item ∷ items) low is =
    subst (λ n. IsWithin start n (last_commit (suc i) (option_or (commit_at i item) before) items)) (omega arith)
    (last-within start (suc i) (option_or (commit_at i item) before) items (omega (arith, low)) (within-next start i _ before low is))

below-few : (bound : Option ℕ) (f : Found) → length (below_bound bound f) ≤ length f.items
below-few None f = omega arith
below-few (Some bound) f = let size = length-take (bound - f.start) f.items in omega (arith, size)

selected-within : (f : Found) (bound : Option ℕ) → IsWithin f.start (f.start + length f.items) (selected f bound)
selected-within f bound = up (selected f bound) (below-few bound f) (last-within f.start f.start None (below_bound bound f) (le_refl f.start) tt)
  where
    up : (at : Option Selected) → length (below_bound bound f) ≤ length f.items → IsWithin f.start (f.start + length (below_bound bound f)) at → IsWithin f.start (f.start + length f.items) at
    up None few is = tt
    up (Some c) few is = (is.0, let low = is.1 in omega (arith, low, few))

-- a log that starts within its list
module _ (m : Scheme) (log : Log) (bound : Option ℕ) (start : log.start ≤ length log.list) where
  abbrev found : Found
  found = found_in m log

  counted : found.start + length found.items ≡ length log.list
  counted = omega (arith, start, length-map (drop log.start log.list) (λ (op : Operation). Some op), length-drop log.start log.list)

  pub opens-within : (size : ℕ) → opening (layout_of m) found bound ≡ opens size → size ≤ length log.list
  opens-within size is = by (selected found bound) (accepted _ _ size is).1 (selected-within found bound)
    where
      by : (at : Option Selected) → size_of at ≡ size → IsWithin found.start (found.start + length found.items) at → size ≤ length log.list
      by None e within = omega (arith, e)
      by (Some c) e within = let low = within.1 in omega (arith, e, low, counted)

  -- a commit stands at or after the start
  pub opens-behind : (n : ℕ) → opening (layout_of m) found bound ≡ opens (suc n) → log.start ≤ suc n
  opens-behind n is = by (selected found bound) (accepted _ _ (suc n) is).1 (selected-within found bound)
    where
      by : (at : Option Selected) → size_of at ≡ suc n → IsWithin found.start (found.start + length found.items) at → log.start ≤ suc n
      by None e within = absurd (omega (arith, e))
      by (Some c) e within = let past = within.0 in omega (arith, e, past)

  pub opens-none : opening (layout_of m) found bound ≡ opens 0 → log.list ≡ []
  opens-none is = by (selected found bound) refl (accepted _ _ 0 is).1 (selected-within found bound)
    where
      bare : (ops : List Operation) → length ops ≡ 0 → ops ≡ []
      bare [] e = refl
      bare (op ∷ ops) e = absurd (omega (arith, e))

      empty : (b : Bool) → is_empty found ≡ b → option_map DataCorrupted (commit_refusal b None) ≡ None → log.list ≡ []
      empty false e due = absurd (cc)
      empty true e due = bare log.list (sym counted ∙ ends found.start (length found.items) e)
        where
          both : (p q : Bool) → (p && q) ≡ true → (p ≡ true) × (q ≡ true)
          both true true e = (refl, refl)
          both true false e = absurd (cc)
          both false q e = absurd (cc)

          ends : (a b : ℕ) → (a == 0 && b == 0) ≡ true → a + b ≡ 0
          ends a b e = let zeros = both (a == 0) (b == 0) e in omega (arith, eqb-true a 0 zeros.0, eqb-true b 0 zeros.1)

      by : (at : Option Selected) → selected found bound ≡ at → size_of at ≡ 0 → IsWithin found.start (found.start + length found.items) at → log.list ≡ []
      by None e none within =
          empty (is_empty found) refl (subst (λ at. option_map DataCorrupted (commit_refusal (is_empty found) at) ≡ None) e (none-at (checks (layout_of m) found bound) 3 (accepted _ _ 0 is).0))
      by (Some c) e none within = let some = within.0 in absurd (omega (arith, some, none))
