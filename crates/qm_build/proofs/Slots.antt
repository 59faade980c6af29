-- Keys in slots, by look-ups.
use Rattle.std.proofs.Common.{◌≡◌, ◌≢◌, ℕ, zero, suc, ◌<◌, ◌≤◌, List, [], ◌∷◌, length, get_or, refl, ap, ap₂, sym, ◌∙◌, Option, Some, None, arith, ◌⊎◌, inl, inr}
use Rattle.std.proofs.lemmas.Bool.{cases_eq}
use Rattle.std.proofs.lemmas.Option.{same_Some, none-some}
use Rattle.qm_build.specs.Cached.{key_for, with_key, kept_in}
use Rattle.qm_build.proofs.Keeping.{Ascending, ascending-put, key-put, key-other, long-put, longer-put}

module _ {K : Type 0} where
  -- no location is in two slots
  abbrev pub Apart : List (Option (ℕ × K)) → Type 0
  Apart slots = (i j : ℕ) (p q : ℕ × K) → get_or slots i None ≡ Some p → get_or slots j None ≡ Some q → p.0 ≡ q.0 → i ≡ j

  -- a slot that has a key for a location
  abbrev pub SlotOf : List (Option (ℕ × K)) → ℕ → K → Type 0
  SlotOf slots at key = (i : ℕ) × (get_or slots i None ≡ Some (at, key))

  rest-apart : (o : Option (ℕ × K)) (slots : List (Option (ℕ × K))) → Apart (o ∷ slots) → Apart slots
  rest-apart o slots apart i j p q here there same = let one = apart (suc i) (suc j) p q here there same in omega (arith, one)

  pub ascending-kept : (slots : List (Option (ℕ × K))) → Ascending (kept_in slots)
  ascending-kept [] = tt
  ascending-kept (None ∷ slots) = ascending-kept slots
  ascending-kept (Some e ∷ slots) = ascending-put e.0 e.1 (kept_in slots) (ascending-kept slots)

  -- what is looked up is in a slot
  pub slot-found : (slots : List (Option (ℕ × K))) (at : ℕ) (key : K) → key_for (kept_in slots) at ≡ Some key → SlotOf slots at key
  slot-found [] at key is = absurd (none-some key is)
  slot-found (None ∷ slots) at key is = let there = slot-found slots at key is in (suc there.0, there.1)
  slot-found (Some e ∷ slots) at key is = by (slot-found slots at key) (cases_eq e.0 at)
    where
      by : (key_for (kept_in slots) at ≡ Some key → SlotOf slots at key) → (e.0 ≡ at) ⊎ (e.0 ≢ at) → SlotOf (Some e ∷ slots) at key
      by later (inl here) = (0, ap₂ (λ (n : ℕ) (k : K). Some (n, k)) here (same_Some e.1 key (sym (ap (λ q. key_for (with_key e.0 e.1 (kept_in slots)) q) (sym here) ∙ key-put e.0 e.1 (kept_in slots)) ∙ is)))
      by later (inr other) = let there = later (sym (key-other e.0 e.1 (kept_in slots) at other) ∙ is) in (suc there.0, there.1)

  -- what is in a slot is looked up
  pub slot-key : (slots : List (Option (ℕ × K))) (at : ℕ) (key : K) → Apart slots → (i : ℕ) → get_or slots i None ≡ Some (at, key) → key_for (kept_in slots) at ≡ Some key
  slot-key [] at key apart i is = absurd (none-some (at, key) is)
  slot-key (None ∷ slots) at key apart zero is = absurd (none-some (at, key) is)
  slot-key (None ∷ slots) at key apart (suc i) is = slot-key slots at key (rest-apart None slots apart) i is
  slot-key (Some e ∷ slots) at key apart zero is =
      let own : e ≡ (at, key) = same_Some e (at, key) is in
      ap (λ (u : ℕ × K). key_for (with_key u.0 u.1 (kept_in slots)) at) own ∙ key-put at key (kept_in slots)
  slot-key (Some e ∷ slots) at key apart (suc i) is =
      key-other e.0 e.1 (kept_in slots) at (λ same. absurd (let one = apart 0 (suc i) e (at, key) refl is same in omega (arith, one)))
      ∙ slot-key slots at key (rest-apart (Some e) slots apart) i is

  -- how many keys slots have
  pub long-kept : (slots : List (Option (ℕ × K))) → length (kept_in slots) ≤ length slots
  long-kept [] = omega arith
  long-kept (None ∷ slots) = let rest = long-kept slots in omega (arith, rest)
  long-kept (Some e ∷ slots) = let rest = long-kept slots in let one = long-put e.0 e.1 (kept_in slots) in omega (arith, rest, one)

  pub fewer-kept : (slots : List (Option (ℕ × K))) (i : ℕ) → i < length slots → get_or slots i None ≡ None → length (kept_in slots) < length slots
  fewer-kept [] i less none = absurd (omega (arith, less))
  fewer-kept (None ∷ slots) i less none = let rest = long-kept slots in omega (arith, rest)
  fewer-kept (Some e ∷ slots) zero less none = absurd (none-some e (sym none))
  fewer-kept (Some e ∷ slots) (suc i) less none = let rest = fewer-kept slots i (omega (arith, less)) none in let one = long-put e.0 e.1 (kept_in slots) in omega (arith, rest, one)

  pub full-kept : (slots : List (Option (ℕ × K))) → Apart slots → ((i : ℕ) → i < length slots → get_or slots i None ≢ None) → length (kept_in slots) ≡ length slots
  full-kept [] apart full = refl
  full-kept (None ∷ slots) apart full = absurd (full 0 (omega arith) refl)
  full-kept (Some e ∷ slots) apart full =
      let rest = full-kept slots (rest-apart (Some e) slots apart) (λ i less. full (suc i) (omega (arith, less))) in
      longer-put e.0 e.1 (kept_in slots) (by (key_for (kept_in slots) e.0) refl) ∙ ap suc rest
    where
      by : (o : Option K) → o ≡ key_for (kept_in slots) e.0 → key_for (kept_in slots) e.0 ≡ None
      by None is = sym is
      by (Some key) is = let there = slot-found slots e.0 key (sym is) in let one = apart 0 (suc there.0) e (e.0, key) refl there.1 refl in absurd (omega (arith, one))
