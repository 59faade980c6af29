-- The entry after a key, from the part of a map above it.
use Rattle.std.proofs.Common.{◌≡◌, Bool, true, false, cond, List, [], ◌∷◌, ◌++◌, map, refl, ap, sym, ◌∙◌, subst, Some, ◌&&◌, inl, inr, Less}
use Rattle.std.specs.Prelude.{filter, slice_get}
use Rattle.std.specs.Cmp.Lexicographic.{slice_cmp}
use Rattle.std.specs.Ordering.{nat_cmp, is_lt}
use Rattle.std.specs.List.{AllByRecursion as Each}
use Rattle.std.specs.List.Sorted.{IsStrictlySortedBy}
use Rattle.std.proofs.lemmas.List.{map-append}
use Rattle.std.proofs.lemmas.Option.{same_Some}
use Rattle.qm_model.specs.Operations.{Bytes}
use Rattle.qm_model.specs.Keys.{key_lt, successor, contains_key}
use Rattle.qm_model.proofs.KeyOrder.{Has, Has-either}
use Rattle.qm_model.proofs.KeySorts.{successor-cut, successor-wraps}

-- a list cut at an element above a key, if those in front are not
record Cut {E : Type 0} (name : E → Bytes) (key : Bytes) (es : List E) (e : E) : Type 0 where
  front : List E
  back : List E
  whole : es ≡ front ++ e ∷ back
  here : key_lt key (name e) ≡ true
  low : (x : Bytes) → Has (map name front) x → key_lt key x ≡ false

module _ {K X : Type 0} (bytes : K → Bytes) (key : Bytes) where
  abbrev entry_key : K × X → Bytes
  entry_key e = bytes e.0

  abbrev above : K × X → Bool
  above e = is_lt (slice_cmp nat_cmp key (bytes e.0)) && true

  above-test : (e : K × X) → above e ≡ key_lt key (bytes e.0)
  above-test e = by (is_lt (slice_cmp nat_cmp key (bytes e.0)))
    where
      by : (t : Bool) → (t && true) ≡ t
      by true = refl
      by false = refl

  abbrev None_above : List (K × X) → Type 0
  None_above es = (x : Bytes) → Has (map entry_key es) x → key_lt key x ≡ false

  none-more : (e : K × X) (es : List (K × X)) → above e ≡ false → None_above es → None_above (e ∷ es)
  none-more e es fails none = λ x h. elim (Has-either (bytes e.0) (map entry_key es) x h) [ inl at ↦ ap (key_lt key) (sym at) ∙ sym (above-test e) ∙ fails | inr later ↦ none x later ]

  none-pass : (es : List (K × X)) → filter above es ≡ [] → None_above es
  none-pass [] h = λ x at. cc
  none-pass (e ∷ es) h = by (above e) refl h (none-pass es)
    where
      by : (t : Bool) → above e ≡ t → cond t (e ∷ filter above es) (filter above es) ≡ [] → (filter above es ≡ [] → None_above es) → None_above (e ∷ es)
      by true is h later = cc
      by false is h later = none-more e es is (later h)

  first-cut : (es : List (K × X)) (e : K × X) (rest : List (K × X)) → filter above es ≡ e ∷ rest → Cut entry_key key es e
  first-cut [] e rest h = cc
  first-cut (x ∷ es) e rest h = by (above x) refl h (first-cut es e rest)
    where
      by : (t : Bool) → above x ≡ t → cond t (x ∷ filter above es) (filter above es) ≡ e ∷ rest → (filter above es ≡ e ∷ rest → Cut entry_key key es e) → Cut entry_key key (x ∷ es) e
      by true is h later =
          let at : x ≡ e = cc in
          record { front = []; back = es; whole = ap (λ y. y ∷ es) at; here = ap (λ y. key_lt key (bytes y.0)) (sym at) ∙ sym (above-test x) ∙ is; low = λ y none. cc }
      by false is h later =
          let cut = later h in
          record { front = x ∷ cut.front; back = cut.back; whole = ap (λ ys. x ∷ ys) cut.whole; here = cut.here; low = none-more x cut.front is cut.low }

  -- the keys of a map by key rise
  sorted-keys : (es : List (K × X)) → IsStrictlySortedBy (λ a b. slice_cmp nat_cmp (bytes a) (bytes b)) (map (λ e. e.0) es) → IsStrictlySortedBy (slice_cmp nat_cmp) (map entry_key es)
  unfolding IsStrictlySortedBy
  sorted-keys [] h = tt
  sorted-keys (e ∷ es) h = (each es h.0, sorted-keys es h.1)
    where
      each : (us : List (K × X)) → Each (λ b. slice_cmp nat_cmp (bytes e.0) (bytes b) ≡ Less) (map (λ e. e.0) us) → Each (λ y. slice_cmp nat_cmp (bytes e.0) y ≡ Less) (map entry_key us)
      each [] h = tt
      each (u ∷ us) h = (h.0, each us h.1)

  module _ (es : List (K × X)) (sorted : IsStrictlySortedBy (λ a b. slice_cmp nat_cmp (bytes a) (bytes b)) (map (λ e. e.0) es)) where
    up : (ks : List Bytes) → map entry_key es ≡ ks → IsStrictlySortedBy (slice_cmp nat_cmp) ks
    up ks is = subst (IsStrictlySortedBy (slice_cmp nat_cmp)) is (sorted-keys es sorted)

    -- the first above the key
    pub behind-found : (e : K × X) (rest : List (K × X)) → filter (λ e. is_lt (slice_cmp nat_cmp key (bytes e.0)) && true) es ≡ e ∷ rest → Some (bytes e.0) ≡ successor (map (λ e. bytes e.0) es) key
    behind-found e rest h =
        let cut = first-cut es e rest h in
        let keys = ap (map entry_key) cut.whole ∙ map-append entry_key cut.front (e ∷ cut.back) in
        let front = map entry_key cut.front in
        let back = map entry_key cut.back in
        sym (ap (λ ks. successor ks key) keys ∙ successor-cut front key (bytes e.0) back (up (front ++ bytes e.0 ∷ back) keys) cut.low cut.here)

    -- the first of all, if none is above
    pub behind-wraps : (e : K × X) → filter (λ e. is_lt (slice_cmp nat_cmp key (bytes e.0)) && true) es ≡ [] → slice_get es 0 ≡ Some e → Some (bytes e.0) ≡ successor (map (λ e. bytes e.0) es) key
    behind-wraps e h first = by es refl first
      where
        by : (xs : List (K × X)) → es ≡ xs → slice_get xs 0 ≡ Some e → Some (bytes e.0) ≡ successor (map (λ e. bytes e.0) es) key
        by [] is at = cc
        by (x ∷ xs) is at =
            let keys = ap (map entry_key) is in
            ap (λ y. Some (bytes y.0)) (sym (same_Some x e at))
            ∙ sym (ap (λ ks. successor ks key) keys ∙ successor-wraps key (bytes x.0) (map entry_key xs) (up (bytes x.0 ∷ map entry_key xs) keys) (λ y has. none-pass es h y (ap (λ ks. contains_key ks y) keys ∙ has)))
