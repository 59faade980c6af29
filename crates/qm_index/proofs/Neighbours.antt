-- Neighbours of an index: what it has of them, and that they have the nearest keys of all.
use Rattle.std.proofs.Common.{◌≡◌, ℕ, Bool, true, false, cond, nat_eq, nat_lt, List, [], ◌∷◌, map, length, Option, Some, None, refl, ap, sym, ◌∙◌, subst, ◌||◌, inl, inr, arith}
use Rattle.std.specs.Prelude.{filter, option_and_then, unwrap_or, All, ◌==◌, bytes_eq}
use Rattle.std.specs.List.{AllByRecursion as Each}
use Rattle.std.specs.Map.{lookup, keys_of}
use Rattle.std.specs.Option.{option_or, is_some}
use Rattle.std.proofs.lemmas.List.Elements.{recursion_from_All}
use Rattle.std.proofs.lemmas.List.Sorted.{length_permutation}
use Rattle.qm_model.specs.Operations.{Bytes, AreBytes}
use Rattle.qm_model.specs.Keys.{key_lt, contains_key, successor, predecessor, least, greatest}
use Rattle.qm_model.proofs.KeyOrder.{Has, Has-either, IsOrder, rises, falls, front, nearest, front-is, front-none, is-front, Has-first, Has-later, contains-filter, and-true, and-both, or-left, or-right, or-either, false-not, apart, successor-nearest, predecessor-nearest, least-front, greatest-front}
use Rattle.qm_model.proofs.Maps.{same_key}
use Rattle.qm_index.specs.Buckets.{bucket_at, IsIndex}
use Rattle.qm_index.specs.Translated.{IsMonotone}
use Rattle.qm_index.specs.Neighbours.{picked, least_key, near_or_wrapped, next_key, prev_key, keys_at, next_by_index, prev_by_index, first_by_index, values_at, StandsFor}
use Rattle.qm_index.proofs.Picks.{has, number_below, number_from, same_number, number_same, has-filter, has-lookup, IsPick, picks_least, picks_greatest, picked-is, picked-none}

-- the key is among those that have its index key
has-keys_at : (index_key : Bytes → ℕ) (keys : List Bytes) (n : ℕ) (x : Bytes) → Has keys x → index_key x ≡ n → Has (keys_at index_key keys n) x
has-keys_at index_key keys n x at is = contains-filter (λ key. index_key key == n) keys x ∙ and-both (contains_key keys x) (index_key x == n) at (number_same (index_key x) n is)

keys_at-has : (index_key : Bytes → ℕ) (keys : List Bytes) (n : ℕ) (x : Bytes) → Has (keys_at index_key keys n) x → Has keys x × (index_key x ≡ n)
keys_at-has index_key keys n x h = let both = and-true (contains_key keys x) (index_key x == n) (sym (contains-filter (λ key. index_key key == n) keys x) ∙ h) in (both.0, same_number (index_key x) n both.1)

-- the index keys of keys
has-index_key : (index_key : Bytes → ℕ) (keys : List Bytes) (x : Bytes) → Has keys x → has (map index_key keys) (index_key x) ≡ true
has-index_key index_key [] x h = absurd (cc)
has-index_key index_key (k ∷ ks) x h = elim (or-either (bytes_eq k x) (contains_key ks x) h) [
  | inl e ↦ or-left (nat_eq (index_key x) (index_key k)) (has (map index_key ks) (index_key x)) (number_same (index_key x) (index_key k) (ap index_key (sym (same_key k x e))))
  | inr e ↦ or-right (nat_eq (index_key x) (index_key k)) (has (map index_key ks) (index_key x)) (has-index_key index_key ks x e)
]

index_key-has : (index_key : Bytes → ℕ) (keys : List Bytes) (n : ℕ) → has (map index_key keys) n ≡ true → (x : Bytes) × Has keys x × (index_key x ≡ n)
index_key-has index_key [] n h = absurd (cc)
index_key-has index_key (k ∷ ks) n h = elim (or-either (nat_eq n (index_key k)) (has (map index_key ks) n) h) [
  | inl e ↦ (k, Has-first k ks, sym (same_number n (index_key k) e))
  | inr e ↦ let found = index_key-has index_key ks n e in (found.0, Has-later k ks found.0 found.1, found.2)
]

-- in either direction: keys by lt, index keys by R, of which pick picks the first, and beside the ones past an index key
module _ {lt : Bytes → Bytes → Bool} (o : IsOrder lt) {pick : ℕ → ℕ → ℕ} {R : ℕ → ℕ → Type 0} (p : IsPick pick R) (beside : ℕ → ℕ → Bool)
    (past : (a b : ℕ) → R b a → beside a b ≡ true → ⊥) (not_past : (a b : ℕ) → beside a b ≡ false → R b a)
    (index_key : Bytes → ℕ) (keys : List Bytes) (index_keys : List ℕ) (same : (n : ℕ) → has index_keys n ≡ has (map index_key keys) n) where
  -- if the index key keeps the order of the keys, the first of them is among those of the first index key
  pub front-picked : ((a b : Bytes) → Has keys a → Has keys b → lt a b ≡ true → R (index_key a) (index_key b)) → front lt keys ≡ option_and_then (λ n. front lt (keys_at index_key keys n)) (picked pick index_keys)
  front-picked keeps = cases (picked pick index_keys) refl
    where
      cases : (f : Option ℕ) → picked pick index_keys ≡ f → front lt keys ≡ option_and_then (λ n. front lt (keys_at index_key keys n)) f
      cases None h = none (front lt keys) refl
        where
          none : (f : Option Bytes) → front lt keys ≡ f → f ≡ None
          none None e = refl
          none (Some m) e =
              let is = front-is o keys m e in
              absurd (apart (has index_keys (index_key m)) (same (index_key m) ∙ has-index_key index_key keys m is.has) (picked-none p index_keys h (index_key m)))
      cases (Some n) h = some (front lt (keys_at index_key keys n)) refl
        where
          is : (has index_keys n ≡ true) × ((x : ℕ) → has index_keys x ≡ true → R n x)
          is = picked-is p index_keys n h

          some : (f : Option Bytes) → front lt (keys_at index_key keys n) ≡ f → front lt keys ≡ f
          some None e =
              let found = index_key-has index_key keys n (sym (same n) ∙ is.0) in
              absurd (apart (contains_key (keys_at index_key keys n) found.0) (has-keys_at index_key keys n found.0 found.1 found.2) (front-none o (keys_at index_key keys n) e found.0))
          some (Some m) e =
              let first = front-is o (keys_at index_key keys n) m e in
              let there = keys_at-has index_key keys n m first.has in
              let low : (x : Bytes) → Has keys x → lt x m ≡ false =
              λ x at. false-not (lt x m) (λ before.
              let upto : R (index_key x) n = subst (R (index_key x)) there.1 (keeps x m at there.0 before) in
              let from : R n (index_key x) = is.1 (index_key x) (same (index_key x) ∙ has-index_key index_key keys x at) in
              apart (lt x m) before (first.low x (has-keys_at index_key keys n x at (p.one (index_key x) n upto from)))) in
              is-front o keys m (record { has = there.0; low = low })

  -- the nearest key past a key is among those of its own index key, or else the first of those of the neighbour
  pub nearest-picked : (key : Bytes) → ((a b : Bytes) → Has (key ∷ keys) a → Has (key ∷ keys) b → lt a b ≡ true → R (index_key a) (index_key b)) →
      nearest lt keys key ≡ option_or (front lt (filter (λ k. lt key k) (keys_at index_key keys (index_key key)))) (option_and_then (λ n. front lt (keys_at index_key keys n.0)) (near_or_wrapped (picked pick (filter (beside (index_key key)) index_keys)) (picked pick index_keys)))
  nearest-picked key keeps = own (front lt (filter (λ k. lt key k) (keys_at index_key keys (index_key key)))) refl
    where
      i : ℕ
      i = index_key key

      above : List Bytes
      above = filter (λ k. lt key k) keys

      later : (x : Bytes) → Has keys x → Has (key ∷ keys) x
      later x h = Has-later key keys x h

      in_above : (x : Bytes) → Has above x → Has keys x × (lt key x ≡ true)
      in_above x h = and-true (contains_key keys x) (lt key x) (sym (contains-filter (λ k. lt key k) keys x) ∙ h)

      above_has : (x : Bytes) → Has keys x → lt key x ≡ true → Has above x
      above_has x at up = contains-filter (λ k. lt key k) keys x ∙ and-both (contains_key keys x) (lt key x) at up

      from_key : (x : Bytes) → Has keys x → lt key x ≡ true → R i (index_key x)
      from_key x at up = keeps key x (Has-first key keys) (later x at) up

      own_has : (x : Bytes) → Has keys x → lt key x ≡ true → index_key x ≡ i → Has (filter (λ k. lt key k) (keys_at index_key keys (index_key key))) x
      own_has x at up is =
          contains-filter (λ k. lt key k) (keys_at index_key keys i) x ∙ and-both (contains_key (keys_at index_key keys i) x) (lt key x) (has-keys_at index_key keys i x at is) up

      -- if no key of its own index key is past it, those past it have an index key past its own
      lies_beside : ((x : Bytes) → contains_key (filter (λ k. lt key k) (keys_at index_key keys (index_key key))) x ≡ false) → (x : Bytes) → Has keys x → lt key x ≡ true → beside i (index_key x) ≡ true
      lies_beside none x at up = cases (beside i (index_key x)) refl
        where
          cases : (t : Bool) → beside i (index_key x) ≡ t → t ≡ true
          cases true e = refl
          cases false e =
              absurd (apart (contains_key (filter (λ k. lt key k) (keys_at index_key keys (index_key key))) x) (own_has x at up (p.one (index_key x) i (not_past i (index_key x) e) (from_key x at up))) (none x))

      beside_has : (n : ℕ) → has (filter (beside i) index_keys) n ≡ true → has index_keys n ≡ true × (beside i n ≡ true)
      beside_has n h = and-true (has index_keys n) (beside i n) (sym (has-filter (beside i) index_keys n) ∙ h)

      has_beside : (x : Bytes) → Has keys x → beside i (index_key x) ≡ true → has (filter (beside i) index_keys) (index_key x) ≡ true
      has_beside x at past_it =
          has-filter (beside i) index_keys (index_key x) ∙ and-both (has index_keys (index_key x)) (beside i (index_key x)) (same (index_key x) ∙ has-index_key index_key keys x at) past_it

      own : (f : Option Bytes) → front lt (filter (λ k. lt key k) (keys_at index_key keys (index_key key))) ≡ f →
          nearest lt keys key ≡ option_or f (option_and_then (λ n. front lt (keys_at index_key keys n.0)) (near_or_wrapped (picked pick (filter (beside (index_key key)) index_keys)) (picked pick index_keys)))
      own (Some m) e =
          let first = front-is o (filter (λ k. lt key k) (keys_at index_key keys (index_key key))) m e in
          let both = and-true (contains_key (keys_at index_key keys i) m) (lt key m) (sym (contains-filter (λ k. lt key k) (keys_at index_key keys i) m) ∙ first.has) in
          let there = keys_at-has index_key keys i m both.0 in
          let low : (x : Bytes) → Has above x → lt x m ≡ false =
          λ x at. false-not (lt x m) (λ before.
          let parts = in_above x at in
          let upto : R (index_key x) i = subst (R (index_key x)) there.1 (keeps x m (later x parts.0) (later m there.0) before) in
          apart (lt x m) before (first.low x (own_has x parts.0 parts.1 (p.one (index_key x) i upto (from_key x parts.0 parts.1))))) in
          ap (λ f. option_or f (front lt keys)) (is-front o above m (record { has = above_has m there.0 both.1; low = low }))
      own None e = beyond (picked pick (filter (beside i) index_keys)) refl
        where
          none : (x : Bytes) → contains_key (filter (λ k. lt key k) (keys_at index_key keys (index_key key))) x ≡ false
          none x = front-none o (filter (λ k. lt key k) (keys_at index_key keys (index_key key))) e x

          beyond : (f : Option ℕ) → picked pick (filter (beside i) index_keys) ≡ f →
              option_or (front lt above) (front lt keys) ≡ option_and_then (λ n. front lt (keys_at index_key keys n.0)) (near_or_wrapped f (picked pick index_keys))
          beyond None h =
              ap (λ f. option_or f (front lt keys)) (empty (front lt above) refl)
              ∙ front-picked (λ a b in_a in_b up. keeps a b (later a in_a) (later b in_b) up)
              ∙ flagged (picked pick index_keys)
            where
              empty : (f : Option Bytes) → front lt above ≡ f → f ≡ None
              empty None k = refl
              empty (Some m) k =
                  let is = front-is o above m k in
                  let parts = in_above m is.has in
                  absurd (apart (has (filter (beside i) index_keys) (index_key m)) (has_beside m parts.0 (lies_beside none m parts.0 parts.1)) (picked-none p (filter (beside i) index_keys) h (index_key m)))

              flagged : (g : Option ℕ) → option_and_then (λ n. front lt (keys_at index_key keys n)) g ≡ option_and_then (λ n. front lt (keys_at index_key keys n.0)) (near_or_wrapped None g)
              flagged None = refl
              flagged (Some n) = refl
          beyond (Some n) h = some (front lt (keys_at index_key keys n)) refl
            where
              is : (has (filter (beside i) index_keys) n ≡ true) × ((x : ℕ) → has (filter (beside i) index_keys) x ≡ true → R n x)
              is = picked-is p (filter (beside i) index_keys) n h

              at_n : has index_keys n ≡ true × (beside i n ≡ true)
              at_n = beside_has n is.0

              some : (f : Option Bytes) → front lt (keys_at index_key keys n) ≡ f → option_or (front lt above) (front lt keys) ≡ f
              some None k =
                  let found = index_key-has index_key keys n (sym (same n) ∙ at_n.0) in
                  absurd (apart (contains_key (keys_at index_key keys n) found.0) (has-keys_at index_key keys n found.0 found.1 found.2) (front-none o (keys_at index_key keys n) k found.0))
              some (Some m) k =
                  let first = front-is o (keys_at index_key keys n) m k in
                  let there = keys_at-has index_key keys n m first.has in
                  let low : (x : Bytes) → Has above x → lt x m ≡ false =
                  λ x at. false-not (lt x m) (λ before.
                  let parts = in_above x at in
                  let upto : R (index_key x) n = subst (R (index_key x)) there.1 (keeps x m (later x parts.0) (later m there.0) before) in
                  let from : R n (index_key x) = is.1 (index_key x) (has_beside x parts.0 (lies_beside none x parts.0 parts.1)) in
                  apart (lt x m) before (first.low x (has-keys_at index_key keys n x parts.0 (p.one (index_key x) n upto from)))) in
                  ap (λ f. option_or f (front lt keys)) (is-front o above m (record { has = above_has m there.0 (past_key (lt key m) refl); low = low }))
                where
                  past_key : (t : Bool) → lt key m ≡ t → t ≡ true
                  past_key true up = refl
                  past_key false up =
                      let first = front-is o (keys_at index_key keys n) m k in
                      let there = keys_at-has index_key keys n m first.has in
                      absurd (past i n (back (lt m key) refl there) at_n.1)
                    where
                      back : (t : Bool) → lt m key ≡ t → Has keys m × (index_key m ≡ n) → R n i
                      back true down there = subst (λ z. R z i) there.1 (keeps m key (later m there.0) (Has-first key keys) down)
                      back false down there = subst (λ z. R z i) (ap index_key (o.total key m up down) ∙ there.1) (p.same i)

-- whether a list has an element
abbrev some_of : {X : Type 0} → List X → Bool
some_of [] = false
some_of (x ∷ xs) = true

some_of-length : {X : Type 0} (xs ys : List X) → length ys ≡ length xs → some_of xs ≡ some_of ys
some_of-length [] [] h = refl
some_of-length [] (y ∷ ys) h = absurd (cc)
some_of-length (x ∷ xs) [] h = absurd (cc)
some_of-length (x ∷ xs) (y ∷ ys) h = refl

module _ {E V : Type 0} (index_key : Bytes → ℕ) (key : E → Bytes) (value : E → V) where
  -- an index key is one of the elements' keys if it has values of them
  has-values : (elements : List E) (n : ℕ) → some_of (values_at index_key key value elements n) ≡ has (map index_key (map key elements)) n
  has-values [] n = refl
  has-values (e ∷ es) n = cases (index_key (key e) == n) refl (has-values es n)
    where
      cases : (t : Bool) → (index_key (key e) == n) ≡ t → some_of (values_at index_key key value es n) ≡ has (map index_key (map key es)) n →
          some_of (map value (cond t (e ∷ filter (λ e. index_key (key e) == n) es) (filter (λ e. index_key (key e) == n) es))) ≡ (nat_eq n (index_key (key e)) || has (map index_key (map key es)) n)
      cases true is later = sym (or-left (nat_eq n (index_key (key e))) (has (map index_key (map key es)) n) (number_same n (index_key (key e)) (sym (same_number (index_key (key e)) n is))))
      cases false is later =
          later
          ∙ sym (ap (λ t. t || has (map index_key (map key es)) n) (false-not (nat_eq n (index_key (key e))) (λ e_is. apart (index_key (key e) == n) (number_same (index_key (key e)) n (sym (same_number n (index_key (key e)) e_is))) is)))

  -- so an index that stands for elements has the index keys of their keys, and no other
  pub stood-same : (entries : List (ℕ × List V)) (elements : List E) → IsIndex entries → StandsFor index_key key value entries elements → (n : ℕ) → has (keys_of entries) n ≡ has (map index_key (map key elements)) n
  stood-same entries elements is stands n =
      has-lookup entries n
      ∙ found (lookup (nat_eq n) entries) (is.1 n)
      ∙ sym (some_of-length (values_at index_key key value elements n) (bucket_at entries n) (length_permutation (values_at index_key key value elements n) (bucket_at entries n) (stands n)))
      ∙ has-values elements n
    where
      found : (o : Option (List V)) → (o ≡ Some [] → ⊥) → is_some o ≡ some_of (unwrap_or o [])
      found None some = refl
      found (Some []) some = absurd (some refl)
      found (Some (v ∷ vs)) some = refl

module _ (index_key : Bytes → ℕ) (keys : List Bytes) (index_keys : List ℕ) (same : (n : ℕ) → has index_keys n ≡ has (map index_key keys) n) (monotone : IsMonotone index_key) where
  bytes-of : (ks : List Bytes) → All AreBytes ks → (x : Bytes) → Has ks x → AreBytes x
  bytes-of ks all x at = go ks (recursion_from_All AreBytes ks all) at
    where
      go : (ks : List Bytes) → Each AreBytes ks → Has ks x → AreBytes x
      go [] h at = absurd (cc)
      go (k ∷ ks) h at = elim (Has-either k ks x at) [ inl e ↦ subst AreBytes e h.0 | inr e ↦ go ks h.1 e ]

  pub nearest-next : (key : Bytes) → All AreBytes (key ∷ keys) → successor keys key ≡ next_by_index index_key index_keys keys key
  nearest-next key bytes =
      successor-nearest keys key
      ∙ nearest-picked rises picks_least (λ i q. nat_lt i q) (λ a b le lt. absurd (omega (arith, le, number_below a b lt))) (λ a b not_lt. number_from a b not_lt) index_key keys index_keys same key
      (λ a b in_a in_b up. monotone a b (bytes-of (key ∷ keys) bytes a in_a) (bytes-of (key ∷ keys) bytes b in_b) up)
      ∙ ap (λ f. option_or f (option_and_then (λ n. front key_lt (keys_at index_key keys n.0)) (next_key index_keys (index_key key)))) (sym (least-front (filter (λ k. key_lt key k) (keys_at index_key keys (index_key key)))))
      ∙ ap (option_or (least (filter (λ k. key_lt key k) (keys_at index_key keys (index_key key))))) (fronts (next_key index_keys (index_key key)))
    where
      fronts : (f : Option (ℕ × Bool)) → option_and_then (λ n. front key_lt (keys_at index_key keys n.0)) f ≡ option_and_then (λ n. least (keys_at index_key keys n.0)) f
      fronts None = refl
      fronts (Some n) = sym (least-front (keys_at index_key keys n.0))

  pub nearest-prev : (key : Bytes) → All AreBytes (key ∷ keys) → predecessor keys key ≡ prev_by_index index_key index_keys keys key
  nearest-prev key bytes =
      predecessor-nearest keys key
      ∙ nearest-picked falls picks_greatest (λ i q. nat_lt q i) (λ a b le lt. absurd (omega (arith, le, number_below b a lt))) (λ a b not_lt. number_from b a not_lt) index_key keys index_keys same key
      (λ a b in_a in_b up. monotone b a (bytes-of (key ∷ keys) bytes b in_b) (bytes-of (key ∷ keys) bytes a in_a) up)
      ∙ ap (λ f. option_or f (option_and_then (λ n. front (λ a b. key_lt b a) (keys_at index_key keys n.0)) (prev_key index_keys (index_key key)))) (sym (greatest-front (filter (λ k. key_lt k key) (keys_at index_key keys (index_key key)))))
      ∙ ap (option_or (greatest (filter (λ k. key_lt k key) (keys_at index_key keys (index_key key))))) (fronts (prev_key index_keys (index_key key)))
    where
      fronts : (f : Option (ℕ × Bool)) → option_and_then (λ n. front (λ a b. key_lt b a) (keys_at index_key keys n.0)) f ≡ option_and_then (λ n. greatest (keys_at index_key keys n.0)) f
      fronts None = refl
      fronts (Some n) = sym (greatest-front (keys_at index_key keys n.0))

  pub least-first : All AreBytes keys → least keys ≡ first_by_index index_key index_keys keys
  least-first bytes =
      least-front keys
      ∙ front-picked rises picks_least (λ i q. nat_lt i q) (λ a b le lt. absurd (omega (arith, le, number_below a b lt))) (λ a b not_lt. number_from a b not_lt) index_key keys index_keys same
      (λ a b in_a in_b up. monotone a b (bytes-of keys bytes a in_a) (bytes-of keys bytes b in_b) up)
      ∙ fronts (least_key index_keys)
    where
      fronts : (f : Option ℕ) → option_and_then (λ n. front key_lt (keys_at index_key keys n)) f ≡ option_and_then (λ n. least (keys_at index_key keys n)) f
      fronts None = refl
      fronts (Some n) = sym (least-front (keys_at index_key keys n))
