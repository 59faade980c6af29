-- What is picked of numbers, and which numbers a list has.
use Rattle.std.proofs.Common.{◌≡◌, ℕ, ◌≤◌, min, max, Bool, true, false, cond, nat_eq, nat_lt, ◌<◌, List, [], ◌∷◌, Option, Some, None, refl, ap, sym, ◌∙◌, subst, ◌||◌, ◌&&◌, ◌⊎◌, inl, inr, arith}
use Rattle.std.specs.Prelude.{filter, fold}
use Rattle.std.specs.List.{list_any}
use Rattle.std.specs.Map.{lookup, keys_of}
use Rattle.std.specs.Option.{is_some}
use Rattle.std.proofs.Math.Nat.{min-eq_left, min_comm, max-eq_left, max-eq_right}
use Rattle.std.proofs.lemmas.Bool.{cases_lt}
use Rattle.std.proofs.lemmas.Bool.Decides.{nat_tests}
use Rattle.std.proofs.lemmas.Map.Views.{exact_unsigned_eq}
use Rattle.qm_model.proofs.KeyOrder.{or-left, or-right, or-either, and-right, apart}
use Rattle.qm_index.specs.Neighbours.{picked}

-- the list has the number
abbrev pub has : List ℕ → ℕ → Bool
has keys n = list_any (nat_eq n) keys

pub same_number : (a b : ℕ) → nat_eq a b ≡ true → a ≡ b
same_number a b h = exact_unsigned_eq a b h

pub number_same : (a b : ℕ) → a ≡ b → nat_eq a b ≡ true
number_same a b h = grind (arith, nat_tests, h)

pub number_below : (a b : ℕ) → nat_lt a b ≡ true → a < b
number_below a b h = grind (arith, nat_tests, h)

pub number_from : (a b : ℕ) → nat_lt a b ≡ false → b ≤ a
number_from a b h = grind (arith, nat_tests, h)

pub has-filter : (p : ℕ → Bool) (keys : List ℕ) (x : ℕ) → has (filter p keys) x ≡ (has keys x && p x)
has-filter p [] x = refl
has-filter p (k ∷ ks) x = cases (p k) (nat_eq x k) refl refl (has-filter p ks x)
  where
    cases : (t u : Bool) → p k ≡ t → nat_eq x k ≡ u → has (filter p ks) x ≡ (has ks x && p x) → has (cond t (k ∷ filter p ks) (filter p ks)) x ≡ ((u || has ks x) && p x)
    cases true true at is later = ap (λ b. b || has (filter p ks) x) is ∙ sym (ap p (same_number x k is) ∙ at)
    cases true false at is later = ap (λ b. b || has (filter p ks) x) is ∙ later
    cases false true at is later = let gone : p x ≡ false = ap p (same_number x k is) ∙ at in later ∙ and-right (has ks x) (p x) gone ∙ sym gone
    cases false false at is later = later

-- the keys of entries are those that a look-up finds
pub has-lookup : {X : Type 0} (es : List (ℕ × X)) (q : ℕ) → has (keys_of es) q ≡ is_some (lookup (nat_eq q) es)
has-lookup [] q = refl
has-lookup (e ∷ es) q = cases (nat_eq q e.0) (has-lookup es q)
  where
    cases : (t : Bool) → has (keys_of es) q ≡ is_some (lookup (nat_eq q) es) → (t || has (keys_of es) q) ≡ is_some (cond t (Some e.1) (lookup (nat_eq q) es))
    cases true later = refl
    cases false later = later

-- of two numbers one is picked, which comes before both
pub record IsPick (pick : ℕ → ℕ → ℕ) (R : ℕ → ℕ → Type 0) : Type 0 where
  pub either : (a b : ℕ) → (pick a b ≡ a) ⊎ (pick a b ≡ b)
  pub first : (a b : ℕ) → R (pick a b) a
  pub second : (a b : ℕ) → R (pick a b) b
  pub same : (a : ℕ) → R a a
  pub trans : (a b c : ℕ) → R a b → R b c → R a c
  pub one : (a b : ℕ) → R a b → R b a → a ≡ b

pub picks_least : IsPick min (λ a b. a ≤ b)
picks_least = record {
  either = λ a b. elim (cases_lt a b) [ inl h ↦ inl (min-eq_left (omega (arith, h))) | inr h ↦ inr (min_comm a b ∙ min-eq_left h) ];
  first = λ a b. omega arith;
  second = λ a b. omega arith;
  same = λ a. omega arith;
  trans = λ a b c p q. omega (arith, p, q);
  one = λ a b p q. omega (arith, p, q);
}

pub picks_greatest : IsPick max (λ a b. b ≤ a)
picks_greatest = record {
  either = λ a b. elim (cases_lt a b) [ inl h ↦ inr (max-eq_right (omega (arith, h))) | inr h ↦ inl (max-eq_left h) ];
  first = λ a b. omega arith;
  second = λ a b. omega arith;
  same = λ a. omega arith;
  trans = λ a b c p q. omega (arith, p, q);
  one = λ a b p q. omega (arith, p, q);
}

module _ {pick : ℕ → ℕ → ℕ} {R : ℕ → ℕ → Type 0} (o : IsPick pick R) where
  fold-has : (k : ℕ) (ks : List ℕ) → has (k ∷ ks) (fold pick k ks) ≡ true
  fold-has k [] = or-left (nat_eq k k) false (number_same k k refl)
  fold-has k (x ∷ ks) = elim (or-either (nat_eq m (pick k x)) (has ks m) (fold-has (pick k x) ks)) [
    | inl e ↦
        elim (o.either k x) [
          | inl f ↦ or-left (nat_eq m k) (has (x ∷ ks) m) (number_same m k (same_number m (pick k x) e ∙ f))
          | inr f ↦ or-right (nat_eq m k) (has (x ∷ ks) m) (or-left (nat_eq m x) (has ks m) (number_same m x (same_number m (pick k x) e ∙ f)))
        ]
    | inr e ↦ or-right (nat_eq m k) (has (x ∷ ks) m) (or-right (nat_eq m x) (has ks m) e)
  ]
    where
      m : ℕ
      m = fold pick (pick k x) ks

  fold-before : (k : ℕ) (ks : List ℕ) (y : ℕ) → has (k ∷ ks) y ≡ true → R (fold pick k ks) y
  fold-before k [] y h = elim (or-either (nat_eq y k) false h) [ inl e ↦ subst (R k) (sym (same_number y k e)) (o.same k) | inr e ↦ absurd (cc) ]
  fold-before k (x ∷ ks) y h =
      let a = pick k x in
      let m = fold pick a ks in
      let low : R m a = fold-before a ks a (or-left (nat_eq a a) (has ks a) (number_same a a refl)) in
      elim (or-either (nat_eq y k) (has (x ∷ ks) y) h) [
        | inl e ↦ subst (R m) (sym (same_number y k e)) (o.trans m a k low (o.first k x))
        | inr e ↦
            elim (or-either (nat_eq y x) (has ks y) e) [
              | inl f ↦ subst (R m) (sym (same_number y x f)) (o.trans m a x low (o.second k x))
              | inr f ↦ fold-before a ks y (or-right (nat_eq y a) (has ks y) f)
            ]
      ]

  -- what is picked is there, before all others
  pub picked-is : (keys : List ℕ) (m : ℕ) → picked pick keys ≡ Some m → (has keys m ≡ true) × ((x : ℕ) → has keys x ≡ true → R m x)
  picked-is [] m h = absurd (cc)
  picked-is (k ∷ ks) m h =
      let same : fold pick k ks ≡ m = cc in
      (subst (λ z. has (k ∷ ks) z ≡ true) same (fold-has k ks), λ x at. subst (λ z. R z x) same (fold-before k ks x at))

  pub picked-none : (keys : List ℕ) → picked pick keys ≡ None → (x : ℕ) → has keys x ≡ false
  picked-none [] h x = refl
  picked-none (k ∷ ks) h x = absurd (cc)

  pub is-picked : (keys : List ℕ) (m : ℕ) → has keys m ≡ true → ((x : ℕ) → has keys x ≡ true → R m x) → picked pick keys ≡ Some m
  is-picked keys m at low = cases (picked pick keys) refl
    where
      cases : (p : Option ℕ) → picked pick keys ≡ p → p ≡ Some m
      cases None h = absurd (apart (has keys m) at (picked-none keys h m))
      cases (Some n) h = let other = picked-is keys n h in ap (λ x. Some x) (o.one n m (other.1 m at) (low n other.0))

  pub none-picked : (keys : List ℕ) → ((x : ℕ) → has keys x ≡ false) → picked pick keys ≡ None
  none-picked [] h = refl
  none-picked (k ∷ ks) h = absurd (apart (has (k ∷ ks) k) (or-left (nat_eq k k) (has ks k) (number_same k k refl)) (h k))
