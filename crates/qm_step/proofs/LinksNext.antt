-- The nearest keys among those that stay, by what stood before and after keys that go or come.
use Rattle.std.proofs.Common.{◌≡◌, Bool, true, false, List, [], ◌∷◌, ◌++◌, ap, sym, ◌∙◌, refl, Option, Some, None, ◌⊎◌, inl, inr, ◌&&◌}
use Rattle.std.specs.Prelude.{not, if◌then◌else◌}
use Rattle.qm_model.specs.Operations.{Bytes}
use Rattle.qm_model.specs.Keys.{successor, predecessor, contains_key, without, IsNext, IsPrevious}
use Rattle.qm_model.proofs.KeyOrder.{Has, Has-first, Has-later, or-left, or-right, or-either, and-true, and-both, not-true, apart, contains-append, contains-without, successor-is, is-successor, successor-some, predecessor-is, is-predecessor, predecessor-some, predecessor-none, before-fewer, after-fewer, successor-predecessor, predecessor-successor, successor-only, predecessor-only, successor-append, predecessor-append, predecessor-new, successor-skips}

-- if keys go, the key before one among those kept is its own neighbour or that of a key that went
before-kept : (all kept : List Bytes) → ((x : Bytes) → Has kept x → Has all x) → (x q : Bytes) → predecessor kept x ≡ Some q →
    (predecessor all x ≡ Some q) ⊎ ((s : Bytes) × Has all s × (contains_key kept s ≡ false) × (predecessor all s ≡ Some q))
before-kept all kept part x q h = cases (contains_key kept next.0) refl
  where
    is : IsPrevious kept x q
    is = predecessor-is kept x q h

    next : (s : Bytes) × (successor all q ≡ Some s)
    next = successor-some all q q (part q is.has)

    cases : (t : Bool) → contains_key kept next.0 ≡ t → (predecessor all x ≡ Some q) ⊎ ((s : Bytes) × Has all s × (contains_key kept s ≡ false) × (predecessor all s ≡ Some q))
    cases false gone = let at = successor-is all q next.0 next.1 in inr (next.0, at.has, gone, successor-predecessor all q next.0 (part q is.has) next.1)
    cases true stays =
        let both : successor (x ∷ all) q ≡ Some x = successor-append (x ∷ []) all q x next.0 (successor-only x q) next.1 ∙ ap (λ t. Some (if t then next.0 else x)) (is.near next.0 stays) in
        let first = successor-is (x ∷ all) q x both in
        inl (is-predecessor all x q (record { has = part q is.has; near = λ y at. first.near y (Has-later x all y at) }))

-- and a key that stays is named by the key itself after which it comes, or by one that went
after-kept : (all kept more : List Bytes) → ((x : Bytes) → Has kept x → Has all x) → ((x : Bytes) → Has kept x → Has more x) → (k s : Bytes) → Has kept s → successor more k ≡ Some s →
    (successor all k ≡ Some s) ⊎ ((t : Bytes) × Has all t × (contains_key kept t ≡ false) × (successor all t ≡ Some s))
after-kept all kept more part into k s stays h = cases (contains_key kept back.0) refl
  where
    is : IsNext more k s
    is = successor-is more k s h

    back : (t : Bytes) × (predecessor all s ≡ Some t)
    back = predecessor-some all s s (part s stays)

    cases : (b : Bool) → contains_key kept back.0 ≡ b → (successor all k ≡ Some s) ⊎ ((t : Bytes) × Has all t × (contains_key kept t ≡ false) × (successor all t ≡ Some s))
    cases false gone = let at = predecessor-is all s back.0 back.1 in inr (back.0, at.has, gone, predecessor-successor all s back.0 (part s stays) back.1)
    cases true there =
        let both : predecessor (k ∷ all) s ≡ Some k = predecessor-append (k ∷ []) all s k back.0 (predecessor-only k s) back.1 ∙ ap (λ t. Some (if t then back.0 else k)) (is.near back.0 (into back.0 there)) in
        let first = predecessor-is (k ∷ all) s k both in
        inl (is-successor all k s (record { has = part s stays; near = λ y at. first.near y (Has-later k all y at) }))

-- the key before one that is not there names the key after it
pub neighbour-names : (all : List Bytes) (k p s : Bytes) → contains_key all k ≡ false → predecessor all k ≡ Some p → successor all k ≡ Some s → successor all p ≡ Some s
neighbour-names all k p s none before behind =
    let alone = successor-is (k ∷ []) p k (successor-only k p) in
    let still : predecessor (k ∷ all) k ≡ Some p = predecessor-new all k p k before ∙ ap (λ t. Some (if t then k else p)) (alone.near k (Has-first k [])) in
    successor-skips (k ∷ all) all p k (λ x at. Has-later k all x at) (predecessor-successor (k ∷ all) k p (Has-first k all) still) none ∙ behind

-- keys of which some go and others come
module _ (all gone new : List Bytes) where
  abbrev pub stay : List Bytes
  stay = without gone all

  in_stay : (x : Bytes) → contains_key stay x ≡ (contains_key all x && not (contains_key gone x))
  in_stay x = contains-without gone all x

  stay-all : (x : Bytes) → Has stay x → Has all x
  stay-all x h = (and-true (contains_key all x) (not (contains_key gone x)) (sym (in_stay x) ∙ h)).0

  went : (x : Bytes) → Has all x → contains_key stay x ≡ false → Has gone x
  went x has none = cases (contains_key gone x) refl
    where
      cases : (t : Bool) → contains_key gone x ≡ t → Has gone x
      cases true e = e
      cases false e = absurd (apart (contains_key stay x) (in_stay x ∙ and-both (contains_key all x) (not (contains_key gone x)) has (not-true (contains_key gone x) e)) none)

  -- among those that stay the key before one that goes or comes is the nearest neighbour of such keys
  pub before-among : (befores : List Bytes) → ((x : Bytes) → Has befores x → Has stay x) → ((x q : Bytes) → Has (new ++ gone) x → predecessor all x ≡ Some q → Has stay q → Has befores q) →
      (x : Bytes) → Has (new ++ gone) x → predecessor stay x ≡ predecessor befores x
  before-among befores within have x at = cases (predecessor stay x) (predecessor befores x) refl refl
    where
      cases : (a b : Option Bytes) → predecessor stay x ≡ a → predecessor befores x ≡ b → a ≡ b
      cases None None p q = refl
      cases None (Some t) p q = let is = predecessor-is befores x t q in absurd (apart (contains_key stay t) (within t is.has) (predecessor-none stay x p t))
      cases (Some t) b p q =
          let is = predecessor-is stay x t p in
          let has : Has befores t = elim (before-kept all stay stay-all x t p) [
            | inl own ↦ have x t at own is.has
            | inr other ↦ have other.0 t (contains-append new gone other.0 ∙ or-right (contains_key new other.0) (contains_key gone other.0) (went other.0 other.1 other.2)) other.3 is.has
          ] in
          sym (is-predecessor befores x t (before-fewer stay befores x t within has is)) ∙ q

  -- and the key after one is the nearest that is new or is named by a key that goes, or by the key itself
  pub after-among : (afters : List Bytes) → ((x : Bytes) → Has afters x → Has (stay ++ new) x) → ((t s : Bytes) → Has gone t → successor all t ≡ Some s → Has stay s → Has afters s) → ((s : Bytes) → Has new s → Has afters s) →
      (k s : Bytes) → (successor all k ≡ Some s → Has stay s → Has afters s) → successor (stay ++ new) k ≡ Some s → successor afters k ≡ Some s
  after-among afters within named fresh k s own h =
      let is = successor-is (stay ++ new) k s h in
      let has : Has afters s = elim (or-either (contains_key stay s) (contains_key new s) (sym (contains-append stay new s) ∙ is.has)) [
        | inl old ↦ elim (after-kept all stay (stay ++ new) stay-all (λ x at. contains-append stay new x ∙ or-left (contains_key stay x) (contains_key new x) at) k s old h) [
          | inl mine ↦ own mine old
          | inr other ↦ named other.0 s (went other.0 other.1 other.2) other.3 old
        ]
        | inr made ↦ fresh s made
      ] in
      is-successor afters k s (after-fewer (stay ++ new) afters k s within has is)
