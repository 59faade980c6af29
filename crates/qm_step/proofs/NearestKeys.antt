-- The entry next to a key, from ranges of a map by key.
use Rattle.std.proofs.Common.{◌≡◌, ℕ, zero, suc, ◌-◌, Bool, true, false, cond, List, [], ◌∷◌, ◌++◌, length, map, refl, ap, sym, ◌∙◌, subst, Some, arith, Bor, ◌&&◌, inl, inr, true≢false, ◌<◌}
use Rattle.std.specs.Prelude.{not, filter, slice_get, Contains}
use Rattle.std.specs.Cmp.Lexicographic.{slice_cmp}
use Rattle.std.specs.Ordering.{nat_cmp, is_lt, is_le, ordering_reverse}
use Rattle.std.specs.List.{AllByRecursion as Each}
use Rattle.std.specs.List.Sorted.{IsStrictlySortedBy}
use Rattle.std.specs.declared.cmp.Ordering.{Ordering}
use Rattle.std.specs.declared.cmp.Ordering.TheVariants.{Less, Equal, Greater}
use Rattle.std.proofs.lemmas.Cmp.{nat_list_cmp_total}
use Rattle.std.proofs.lemmas.List.{map-append}
use Rattle.std.proofs.lemmas.List.Elements.{Contains-append_right}
use Rattle.std.proofs.lemmas.Option.{same_Some, slice_get_within}
use Rattle.qm_index.proofs.Members.{Contains-first}
use Rattle.qm_model.specs.Operations.{Bytes}
use Rattle.qm_model.specs.Keys.{key_lt, successor, predecessor, contains_key}
use Rattle.qm_model.proofs.KeyOrder.{Has, Has-either}
use Rattle.qm_model.proofs.KeySorts.{successor-cut, successor-wraps, predecessor-cut, predecessor-wraps}

-- a list cut at an element, if no key of one part passes
record Cut {E : Type 0} (name : E → Bytes) (test : Bytes → Bool) (es : List E) (e : E) : Type 0 where
  front : List E
  back : List E
  whole : es ≡ front ++ e ∷ back
  here : test (name e) ≡ true

module _ {E : Type 0} (name : E → Bytes) (p : E → Bool) (test : Bytes → Bool) (same : (e : E) → p e ≡ test (name e)) where
  abbrev None_of : List E → Type 0
  None_of es = (x : Bytes) → Has (map name es) x → test x ≡ false

  none-more : (e : E) (es : List E) → p e ≡ false → None_of es → None_of (e ∷ es)
  none-more e es fails none = λ x h. elim (Has-either (name e) (map name es) x h) [ inl at ↦ ap test (sym at) ∙ sym (same e) ∙ fails | inr later ↦ none x later ]

  none-pass : (es : List E) → filter p es ≡ [] → None_of es
  none-pass [] h = λ x at. cc
  none-pass (e ∷ es) h = by (p e) refl h (none-pass es)
    where
      by : (t : Bool) → p e ≡ t → cond t (e ∷ filter p es) (filter p es) ≡ [] → (filter p es ≡ [] → None_of es) → None_of (e ∷ es)
      by true is h later = cc
      by false is h later = none-more e es is (later h)

  first-cut : (es : List E) (e : E) (rest : List E) → filter p es ≡ e ∷ rest → (cut : Cut name test es e) × None_of cut.front
  first-cut [] e rest h = cc
  first-cut (x ∷ es) e rest h = by (p x) refl h (first-cut es e rest)
    where
      by : (t : Bool) → p x ≡ t → cond t (x ∷ filter p es) (filter p es) ≡ e ∷ rest → (filter p es ≡ e ∷ rest → (cut : Cut name test es e) × None_of cut.front) → (cut : Cut name test (x ∷ es) e) × None_of cut.front
      by true is h later =
          let at : x ≡ e = cc in
          (record { front = []; back = es; whole = ap (λ y. y ∷ es) at; here = ap (λ y. test (name y)) (sym at) ∙ sym (same x) ∙ is }, λ y none. cc)
      by false is h later =
          let found = later h in
          let cut = found.0 in
          (record { front = x ∷ cut.front; back = cut.back; whole = ap (λ ys. x ∷ ys) cut.whole; here = cut.here }, none-more x cut.front is found.1)

  last-cut : (es : List E) (seen : List E) (e : E) → filter p es ≡ seen ++ e ∷ [] → (cut : Cut name test es e) × None_of cut.back
  last-cut [] [] e h = cc
  last-cut [] (y ∷ seen) e h = cc
  last-cut (x ∷ es) seen e h = by (p x) refl h (λ s. last-cut es s e)
    where
      longer : (cut : Cut name test es e) × None_of cut.back → (cut : Cut name test (x ∷ es) e) × None_of cut.back
      longer found = let cut = found.0 in (record { front = x ∷ cut.front; back = cut.back; whole = ap (λ ys. x ∷ ys) cut.whole; here = cut.here }, found.1)

      passed : (s : List E) → p x ≡ true → x ∷ filter p es ≡ s ++ e ∷ [] → ((s : List E) → filter p es ≡ s ++ e ∷ [] → (cut : Cut name test es e) × None_of cut.back) → (cut : Cut name test (x ∷ es) e) × None_of cut.back
      passed [] is h later =
          let at : x ≡ e = cc in
          let none : filter p es ≡ [] = cc in
          (record { front = []; back = es; whole = ap (λ y. y ∷ es) at; here = ap (λ y. test (name y)) (sym at) ∙ sym (same x) ∙ is }, none-pass es none)
      passed (y ∷ s) is h later = let rest : filter p es ≡ s ++ e ∷ [] = cc in longer (later s rest)

      by : (t : Bool) → p x ≡ t → cond t (x ∷ filter p es) (filter p es) ≡ seen ++ e ∷ [] → ((s : List E) → filter p es ≡ s ++ e ∷ [] → (cut : Cut name test es e) × None_of cut.back) → (cut : Cut name test (x ∷ es) e) × None_of cut.back
      by true is h later = passed seen is h later
      by false is h later = longer (later seen h)

last-at : {E : Type 0} (es : List E) (n : ℕ) (e : E) → suc n ≡ length es → slice_get es n ≡ Some e → (front : List E) × (es ≡ front ++ e ∷ [])
last-at [] n e long h = absurd (omega (arith, long))
last-at (x ∷ []) zero e long h = ([], ap (λ y. y ∷ []) (same_Some x e h))
last-at (x ∷ []) (suc n) e long h = absurd (omega (arith, long))
last-at (x ∷ y ∷ es) zero e long h = absurd (omega (arith, long))
last-at (x ∷ y ∷ es) (suc n) e long h =
    let more = last-at (y ∷ es) n e (omega (arith, long)) h in
    (x ∷ more.0, ap (λ ys. x ∷ ys) more.1)

last-split : {E : Type 0} (es : List E) (e : E) → slice_get es (length es - 1) ≡ Some e → (front : List E) × (es ≡ front ++ e ∷ [])
last-split es e h =
    let within = slice_get_within es (length es - 1) e h in
    last-at es (length es - 1) e (omega (arith, within)) h

pub contains-middle : {E : Type 0} (front : List E) (e : E) (back : List E) → Contains (front ++ e ∷ back) e
contains-middle front e back = Contains-append_right front (e ∷ back) e (Contains-first e back)

-- an entry of a map by key
abbrev Entry : Type 0 → Type 0
Entry X = Bor Bytes × X

abbrev entry_key : {X : Type 0} → Entry X → Bytes
entry_key e = e.0.now

abbrev key_list : {X : Type 0} → List (Entry X) → List Bytes
key_list es = map (λ e. e.0.now) es

module _ {X : Type 0} where
  -- the keys of a map by key rise
  pub sorted-keys : (es : List (Entry X)) → IsStrictlySortedBy (λ x y. slice_cmp nat_cmp x.now y.now) (map (λ e. e.0) es) → IsStrictlySortedBy (slice_cmp nat_cmp) (key_list es)
  unfolding IsStrictlySortedBy
  sorted-keys [] h = tt
  sorted-keys (e ∷ es) h = (each es h.0, sorted-keys es h.1)
    where
      each : (us : List (Entry X)) → Each (λ (y : Bor Bytes). slice_cmp nat_cmp e.0.now y.now ≡ Less) (map (λ e. e.0) us) → Each (λ y. slice_cmp nat_cmp e.0.now y ≡ Less) (key_list us)
      each [] h = tt
      each (u ∷ us) h = (h.0, each us h.1)

  above-test : (key : Bytes) (e : Entry X) → (is_lt (slice_cmp nat_cmp key e.0.now) && true) ≡ key_lt key e.0.now
  above-test key e = by (is_lt (slice_cmp nat_cmp key e.0.now))
    where
      by : (t : Bool) → (t && true) ≡ t
      by true = refl
      by false = refl

  below-test : (key : Bytes) (e : Entry X) → not (is_le (slice_cmp nat_cmp key e.0.now)) ≡ key_lt e.0.now key
  below-test key e = by (slice_cmp nat_cmp key e.0.now) ∙ ap is_lt (sym (nat_list_cmp_total.antisymm e.0.now key))
    where
      by : (o : Ordering) → not (is_le o) ≡ is_lt (ordering_reverse o)
      by Less = refl
      by Equal = refl
      by Greater = refl

  module _ (es : List (Entry X)) (key : Bytes) (sorted : IsStrictlySortedBy (λ x y. slice_cmp nat_cmp x.now y.now) (map (λ e. e.0) es)) where
    cut-keys : (front : List (Entry X)) (e : Entry X) (back : List (Entry X)) → es ≡ front ++ e ∷ back → key_list es ≡ key_list front ++ e.0.now ∷ key_list back
    cut-keys front e back whole = ap key_list whole ∙ map-append entry_key front (e ∷ back)

    up : (ks : List Bytes) → key_list es ≡ ks → IsStrictlySortedBy (slice_cmp nat_cmp) ks
    up ks is = subst (IsStrictlySortedBy (slice_cmp nat_cmp)) is (sorted-keys es sorted)

    -- the first above a key
    pub behind-found : (e : Entry X) (rest : List (Entry X)) → filter (λ e. is_lt (slice_cmp nat_cmp key e.0.now) && true) es ≡ e ∷ rest → Some e.0.now ≡ successor (key_list es) key
    behind-found e rest h =
        let found = first-cut entry_key (λ e. is_lt (slice_cmp nat_cmp key e.0.now) && true) (key_lt key) (above-test key) es e rest h in
        let cut = found.0 in
        let keys = cut-keys cut.front e cut.back cut.whole in
        sym (ap (λ ks. successor ks key) keys ∙ successor-cut (key_list cut.front) key e.0.now (key_list cut.back) (up (key_list cut.front ++ e.0.now ∷ key_list cut.back) keys) found.1 cut.here)

    -- the first of all, if none is above
    pub behind-wraps : (e : Entry X) → filter (λ e. is_lt (slice_cmp nat_cmp key e.0.now) && true) es ≡ [] → slice_get es 0 ≡ Some e → Some e.0.now ≡ successor (key_list es) key
    behind-wraps e h first = by es refl first
      where
        by : (xs : List (Entry X)) → es ≡ xs → slice_get xs 0 ≡ Some e → Some e.0.now ≡ successor (key_list es) key
        by [] is at = cc
        by (x ∷ xs) is at =
            let none = none-pass entry_key (λ e. is_lt (slice_cmp nat_cmp key e.0.now) && true) (key_lt key) (above-test key) es h in
            let keys = ap key_list is in
            ap (λ y. Some y.0.now) (sym (same_Some x e at))
            ∙ sym (ap (λ ks. successor ks key) keys ∙ successor-wraps key x.0.now (key_list xs) (up (x.0.now ∷ key_list xs) keys) (λ y has. none y (ap (λ ks. contains_key ks y) keys ∙ has)))

    -- the last below a key
    pub before-found : (seen : List (Entry X)) (e : Entry X) → filter (λ e. not (is_le (slice_cmp nat_cmp key e.0.now))) es ≡ seen ++ e ∷ [] → Contains es e × (predecessor (key_list es) key ≡ Some e.0.now)
    before-found seen e h =
        let found = last-cut entry_key (λ e. not (is_le (slice_cmp nat_cmp key e.0.now))) (λ k. key_lt k key) (below-test key) es seen e h in
        let cut = found.0 in
        let keys = cut-keys cut.front e cut.back cut.whole in (
          subst (λ xs. Contains xs e) (sym cut.whole) (contains-middle cut.front e cut.back),
          ap (λ ks. predecessor ks key) keys ∙ predecessor-cut (key_list cut.front) key e.0.now (key_list cut.back) (up (key_list cut.front ++ e.0.now ∷ key_list cut.back) keys) cut.here found.1,
        )

    -- the last of all, if none is below
    pub before-wraps : (e : Entry X) → filter (λ e. not (is_le (slice_cmp nat_cmp key e.0.now))) es ≡ [] → slice_get es (length es - 1) ≡ Some e → Contains es e × (predecessor (key_list es) key ≡ Some e.0.now)
    before-wraps e h last =
        let split = last-split es e last in
        let front = split.0 in
        let keys = cut-keys front e [] split.1 in
        let none = none-pass entry_key (λ e. not (is_le (slice_cmp nat_cmp key e.0.now))) (λ k. key_lt k key) (below-test key) es h in (
          subst (λ xs. Contains xs e) (sym split.1) (contains-middle front e []),
          ap (λ ks. predecessor ks key) keys ∙ predecessor-wraps (key_list front) key e.0.now (up (key_list front ++ e.0.now ∷ []) keys) (λ y has. none y (ap (λ ks. contains_key ks y) keys ∙ has)),
        )

-- no entries if none can be taken
pub none-left : {E : Type 0} (es : List E) → (0 < length es → false ≡ true) → es ≡ []
none-left [] none = refl
none-left (e ∷ es) none = absurd (true≢false (sym (none (omega arith))))
