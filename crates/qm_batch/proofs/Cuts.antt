-- Keys in key order that pass tests.
use Rattle.std.proofs.Common.{◌≡◌, ◌∙◌, refl, sym, ap, ap₂, subst, ℕ, Bool, true, false, List, [], ◌∷◌, ◌++◌, map, ◌||◌, inl, inr}
use Rattle.std.specs.Prelude.{cond, filter, nat_eq}
use Rattle.std.specs.List.{AllByRecursion as Each}
use Rattle.std.specs.List.Sorted.{IsStrictlySortedBy}
use Rattle.std.specs.Cmp.Lexicographic.{slice_cmp}
use Rattle.std.specs.Ordering.{nat_cmp}
use Rattle.std.specs.declared.cmp.Ordering.TheVariants.{Less}
use Rattle.qm_model.specs.Operations.{Bytes}
use Rattle.qm_model.specs.Keys.{key_lt}
use Rattle.qm_model.proofs.KeyOrder.{Has, Has-first, Has-later, Has-either, apart, false-not, lt-irrefl, or-either, or-left, or-right}
use Rattle.qm_model.proofs.KeySorts.{NeverFalls}
use Rattle.qm_model.proofs.OrderedLists.{Each-all, Each-filter}
use Rattle.qm_index.proofs.Picks.{has, same_number, number_same}

-- what holds of each of the keys holds of one of them
pub each-has : (P : Bytes → Type 0) (ks : List Bytes) → Each P ks → (x : Bytes) → Has ks x → P x
each-has P [] h x at = absurd (cc)
each-has P (k ∷ ks) h x at = elim (Has-either k ks x at) [ inl e ↦ subst P e h.0 | inr e ↦ each-has P ks h.1 x e ]

-- a number of the keys' is that of one of them
pub from-number : (f : Bytes → ℕ) (ks : List Bytes) (n : ℕ) → has (map f ks) n ≡ true → (x : Bytes) × Has ks x × (f x ≡ n)
from-number f [] n h = absurd (cc)
from-number f (k ∷ ks) n h =
    elim (or-either (nat_eq n (f k)) (has (map f ks) n) h) [
      | inl e ↦ (k, Has-first k ks, sym (same_number n (f k) e))
      | inr e ↦ let found = from-number f ks n e in (found.0, Has-later k ks found.0 found.1, found.2)
    ]

pub to-number : (f : Bytes → ℕ) (ks : List Bytes) (x : Bytes) → Has ks x → has (map f ks) (f x) ≡ true
to-number f [] x at = absurd (cc)
to-number f (k ∷ ks) x at =
    elim (Has-either k ks x at) [
      | inl e ↦ or-left (nat_eq (f x) (f k)) (has (map f ks) (f x)) (number_same (f x) (f k) (ap f (sym e)))
      | inr e ↦ or-right (nat_eq (f x) (f k)) (has (map f ks) (f x)) (to-number f ks x e)
    ]

-- the same keys pass two tests that agree on them
pub filter-agrees : (p q : Bytes → Bool) (ks : List Bytes) → ((x : Bytes) → Has ks x → p x ≡ q x) → filter p ks ≡ filter q ks
filter-agrees p q [] h = refl
filter-agrees p q (k ∷ ks) h =
    ap₂ (λ t xs. cond t (k ∷ filter p ks) xs) (h k (Has-first k ks)) (filter-agrees p q ks (λ x at. h x (Has-later k ks x at)))
    ∙ ap (λ xs. cond (q k) (k ∷ xs) (filter q ks)) (filter-agrees p q ks (λ x at. h x (Has-later k ks x at)))

-- none pass a test that fails on all of them
pub filter-fails : (p : Bytes → Bool) (ks : List Bytes) → ((x : Bytes) → Has ks x → p x ≡ false) → filter p ks ≡ []
filter-fails p [] h = refl
filter-fails p (k ∷ ks) h = ap (λ t. cond t (k ∷ filter p ks) (filter p ks)) (h k (Has-first k ks)) ∙ filter-fails p ks (λ x at. h x (Has-later k ks x at))

-- of keys in order, those that pass one of two tests: those that pass the first and after them those that pass the second,
-- if each of those is below each of these
pub cut : (p q : Bytes → Bool) (ks : List Bytes) → NeverFalls ks → ((x y : Bytes) → Has ks x → Has ks y → p x ≡ true → q y ≡ true → key_lt x y ≡ true) →
    filter (λ k. p k || q k) ks ≡ filter p ks ++ filter q ks
cut p q [] up low = refl
cut p q (k ∷ ks) up low = by (p k) (q k) refl refl (cut p q ks up.1 (λ x y a b. low x y (Has-later k ks x a) (Has-later k ks y b)))
  where
    by : (s t : Bool) → p k ≡ s → q k ≡ t → filter (λ k. p k || q k) ks ≡ filter p ks ++ filter q ks →
        cond (s || t) (k ∷ filter (λ k. p k || q k) ks) (filter (λ k. p k || q k) ks) ≡ cond s (k ∷ filter p ks) (filter p ks) ++ cond t (k ∷ filter q ks) (filter q ks)
    by true true is at later = absurd (apart (key_lt k k) (low k k (Has-first k ks) (Has-first k ks) is at) (lt-irrefl k))
    by true false is at later = ap (λ xs. k ∷ xs) later
    by false true is at later =
        let none : filter p ks ≡ [] = filter-fails p ks (λ x in_ks. false-not (p x) (λ passes.
        apart (key_lt x k) (low x k (Has-later k ks x in_ks) (Has-first k ks) passes at) (each-has (λ y. key_lt y k ≡ false) ks up.0 x in_ks))) in
        ap (λ xs. k ∷ xs) (later ∙ ap (λ xs. xs ++ filter q ks) none) ∙ sym (ap (λ xs. xs ++ k ∷ filter q ks) none)
    by false false is at later = later

-- keys that rise still do if some are left out
pub rising-filter : (p : Bytes → Bool) (ks : List Bytes) → IsStrictlySortedBy (slice_cmp nat_cmp) ks → IsStrictlySortedBy (slice_cmp nat_cmp) (filter p ks)
unfolding IsStrictlySortedBy
rising-filter p [] up = tt
rising-filter p (k ∷ ks) up = by (p k) (rising-filter p ks up.1)
  where
    by : (t : Bool) → IsStrictlySortedBy (slice_cmp nat_cmp) (filter p ks) → IsStrictlySortedBy (slice_cmp nat_cmp) (cond t (k ∷ filter p ks) (filter p ks))
    by true later =
        (Each-filter (λ x. slice_cmp nat_cmp k x ≡ Less) p ks (Each-all (λ x. slice_cmp nat_cmp k x ≡ Less) (λ x. p x ≡ true → slice_cmp nat_cmp k x ≡ Less) (λ x h _. h) ks up.0), later)
    by false later = later
