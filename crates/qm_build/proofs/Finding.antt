-- What a look through a key's bucket finds.
use Rattle.std.proofs.Common.{◌≡◌, ℕ, zero, suc, ◌+◌, ◌-◌, ◌<◌, ◌≤◌, Bool, true, false, cond, List, [], ◌∷◌, ◌++◌, length, take, drop, map, get_or, refl, ap, sym, ◌∙◌, subst, Option, Some, None, arith, true≢false, ◌⊎◌, inl, inr, ◌≢◌}
use Rattle.std.specs.Prelude.{◌==◌, Contains, filter, slice_get, option_and_then, bytes_eq, if◌then◌else◌}
use Rattle.std.specs.List.{cons_option, AllByRecursion as Each}
use Rattle.std.proofs.lemmas.List.{take_more, length-take, length-drop, get_or-drop}
use Rattle.std.proofs.lemmas.List.Elements.{All-contains, All-from_recursion}
use Rattle.std.proofs.lemmas.List.Sorted.{Contains-permutation, IsPermutation-sym}
use Rattle.std.proofs.lemmas.Option.{same_Some, slice_get_within, get_or_from_slice_get}
use Rattle.qm_model.specs.Operations.{Bytes, Operation, update, delete, commit}
use Rattle.qm_model.specs.Live.{live_from, touched}
use Rattle.qm_model.proofs.LastWrites.{bytes_same}
use Rattle.qm_model.proofs.Maps.{same_key}
use Rattle.qm_operations.specs.Parts.{update_key}
use Rattle.qm_index.specs.Buckets.{bucket_at}
use Rattle.qm_index.specs.Places.{Places, AreApart, HasPlaces, place_of}
use Rattle.qm_index.proofs.Members.{first_or_later, from_image, from_filtered}
use Rattle.qm_index.proofs.Placing.{place_of-cons}
use Rattle.qm_index.proofs.Moving.{place-among, place-within}
use Rattle.qm_build.specs.Building.{key_at, between, places_from, IsFound}
use Rattle.qm_build.proofs.Pushing.{pairs}

-- The operations between two locations.

get-take : {X : Type 0} (n : ℕ) (xs : List X) (i : ℕ) → i < n → slice_get (take n xs) i ≡ slice_get xs i
get-take zero xs i low = absurd (omega (arith, low))
get-take (suc n) [] i low = refl
get-take (suc n) (x ∷ xs) zero low = refl
get-take (suc n) (x ∷ xs) (suc i) low = get-take n xs i (omega (arith, low))

get-drop : {X : Type 0} (n : ℕ) (xs : List X) (i : ℕ) → slice_get (drop n xs) i ≡ slice_get xs (n + i)
get-drop zero xs i = let same : i ≡ 0 + i = omega arith in ap (slice_get xs) same
get-drop (suc n) [] i = refl
get-drop (suc n) (x ∷ xs) i = let same : suc n + i ≡ suc (n + i) = omega arith in get-drop n xs i ∙ sym (ap (slice_get (x ∷ xs)) same)

key-between : (from to : ℕ) (ops : List Operation) (at : ℕ) → from ≤ at → at < to → key_at (between from to ops) (at - from) ≡ key_at ops at
key-between from to ops at low high =
    let there : from + (at - from) ≡ at = omega arith in
    ap (option_and_then update_key) (get-take (to - from) (drop from ops) (at - from) (omega arith) ∙ get-drop from ops (at - from) ∙ ap (slice_get ops) there)

pub between-more : (from at : ℕ) (ops : List Operation) (op : Operation) → from ≤ at → slice_get ops at ≡ Some op → between from (at + 1) ops ≡ between from at ops ++ op ∷ []
between-more from at ops op low is =
    let within = slice_get_within ops at op is in
    let left = length-drop from ops in
    let next : at + 1 - from ≡ at - from + 1 = omega arith in
    let there : from + (at - from) ≡ at = omega arith in
    ap (λ n. take n (drop from ops)) next ∙ take_more (drop from ops) (at - from) op (omega arith)
    ∙ ap (λ x. between from at ops ++ x ∷ []) (get_or-drop from ops (at - from) op ∙ ap (λ i. get_or ops i op) there ∙ get_or_from_slice_get ops at op op is)

-- Where live keys stand.

Stands : ℕ → List Operation → Bytes × ℕ → Type 0
Stands first ops p = (first ≤ p.1) × (p.1 < first + length ops) × (key_at ops (p.1 - first) ≡ Some p.0)

later-stands : (first : ℕ) (op : Operation) (rest : List Operation) (ps : Places) → Each (Stands (suc first) rest) ps → Each (Stands first (op ∷ rest)) ps
unfolding Stands
later-stands first op rest [] h = tt
later-stands first op rest (p ∷ ps) h =
    let low = (h.0).0 in
    let high = (h.0).1 in
    let next : p.1 - first ≡ suc (p.1 - suc first) = omega (arith, low) in
    ((omega (arith, low), omega (arith, high), ap (key_at (op ∷ rest)) next ∙ (h.0).2), later-stands first op rest ps h.1)

places-stand : (first : ℕ) (ops : List Operation) → Each (Stands first ops) (places_from first ops)
unfolding Stands
places-stand first [] = tt
places-stand first (update k v n ∷ rest) = by (touched k rest) (later-stands first (update k v n) rest (places_from (suc first) rest) (places-stand (suc first) rest))
  where
    by : (t : Bool) → Each (Stands first (update k v n ∷ rest)) (places_from (suc first) rest) → Each (Stands first (update k v n ∷ rest)) (pairs (cons_option (if t then None else Some (record { location = first; key = k; value = v; next = n })) (live_from (suc first) rest)))
    by true later = later
    by false later =
        let here : first - first ≡ 0 = omega arith in
        ((omega arith, omega arith, ap (key_at (update k v n ∷ rest)) here), later)
places-stand first (delete k ∷ rest) = later-stands first (delete k) rest (places_from (suc first) rest) (places-stand (suc first) rest)
places-stand first (commit m f ∷ rest) = later-stands first (commit m f) rest (places_from (suc first) rest) (places-stand (suc first) rest)

-- a place of a list in which no key stands twice
pub apart-place : (ps : Places) (p : Bytes × ℕ) → AreApart ps → Contains ps p → place_of ps p.0 ≡ Some p.1
apart-place [] p apart (i, within, is) = absurd (omega (arith, within))
apart-place (u ∷ ps) p apart h = by (first_or_later u ps p h) (apart-place ps p apart.1)
  where
    by : (u ≡ p) ⊎ Contains ps p → (Contains ps p → place_of ps p.0 ≡ Some p.1) → place_of (u ∷ ps) p.0 ≡ Some p.1
    by (inl same) later = place_of-cons u ps p.0 ∙ ap (λ k. cond (bytes_eq u.0 k) (Some u.1) (place_of ps p.0)) (ap (λ (q : Bytes × ℕ). q.0) (sym same)) ∙ ap (λ t. cond t (Some u.1) (place_of ps p.0)) (bytes_same u.0) ∙ ap (λ (q : Bytes × ℕ). Some q.1) same
    by (inr within) later = place_of-cons u ps p.0 ∙ other (bytes_eq u.0 p.0) refl
      where
        other : (t : Bool) → bytes_eq u.0 p.0 ≡ t → cond t (Some u.1) (place_of ps p.0) ≡ Some p.1
        other false is = later within
        other true is =
            let apart_from = All-contains (λ (q : Bytes × ℕ). bytes_eq q.0 u.0 ≡ false) ps p (All-from_recursion (λ (q : Bytes × ℕ). bytes_eq q.0 u.0 ≡ false) ps apart.0) within in
            absurd (true≢false (sym (ap (bytes_eq p.0) (same_key u.0 p.0 is) ∙ bytes_same p.0) ∙ apart_from))

module _ (index_key : Bytes → ℕ) (entries : List (ℕ × List ℕ)) (from to : ℕ) (ops : List Operation) (low : from ≤ to) (high : to ≤ length ops) (apart : AreApart (places_from from (between from to ops))) (has : HasPlaces index_key entries (places_from from (between from to ops))) (key : Bytes) where
  abbrev ps : Places
  ps = places_from from (between from to ops)

  abbrev bucket : List ℕ
  bucket = bucket_at entries (index_key key)

  stands : (p : Bytes × ℕ) → Contains ps p → Stands from (between from to ops) p
  stands p within = All-contains (Stands from (between from to ops)) ps p (All-from_recursion (Stands from (between from to ops)) ps (places-stand from (between from to ops))) within

  -- a live key has its update in the list
  key-there : (p : Bytes × ℕ) → Contains ps p → key_at ops p.1 ≡ Some p.0
  unfolding Stands
  key-there p within =
      let s = stands p within in
      let lowest = s.0 in
      let highest = s.1 in
      let long = length-take (to - from) (drop from ops) in
      sym (key-between from to ops p.1 lowest (omega (arith, highest, long))) ∙ s.2

  pub found-place : (found : Option ℕ) → IsFound ops key bucket found → (at : ℕ) → found ≡ Some at → Contains bucket at → place_of ps key ≡ Some at
  found-place found is at same within =
      let own : key_at ops at ≡ Some key = subst (IsFound ops key bucket) same is in
      let image = from_image (λ (p : Bytes × ℕ). p.1) (filter (λ p. index_key p.0 == index_key key) ps) at
      (Contains-permutation bucket (map (λ p. p.1) (filter (λ p. index_key p.0 == index_key key) ps)) at (IsPermutation-sym _ bucket (has (index_key key))) within) in
      let p = image.0 in
      let inside = (from_filtered (λ (p : Bytes × ℕ). index_key p.0 == index_key key) ps p image.1).0 in
      let key_is : p.0 ≡ key = same_Some p.0 key (sym (key-there p inside) ∙ ap (key_at ops) image.2 ∙ own) in
      ap (place_of ps) (sym key_is) ∙ apart-place ps p apart inside ∙ ap Some image.2

  pub nowhere : IsFound ops key bucket None → place_of ps key ≡ None
  nowhere none = by (place_of ps key) refl
    where
      by : (o : Option ℕ) → place_of ps key ≡ o → place_of ps key ≡ None
      by None is = is
      by (Some at) is = absurd (All-contains (λ n. key_at ops n ≢ Some key) bucket at none (place-within index_key entries entries ps key apart has at is) (key-there (key, at) (place-among ps key at is)))
