-- Slots of keys by location, and what is put in and taken out.
use Rattle.std.proofs.Common.{◌≡◌, ◌≢◌, ℕ, zero, suc, ◌+◌, ◌-◌, ◌*◌, ◌/◌, ◌<◌, ◌≤◌, List, [], ◌∷◌, ◌++◌, length, get_or, set, take, drop, refl, ap, ap₂, sym, ◌∙◌, subst, Option, Some, None, true, ltb, arith, ◌⊎◌, inl, inr}
use Rattle.std.specs.Prelude.{IfSome, IfNone, IsSomeAnd, option_map, slice_get, option_and_then}
use Rattle.std.proofs.lemmas.Bool.{cases_eq, cond-true, cond-false, lt-ltb, le-ltb}
use Rattle.std.proofs.lemmas.List.{length-set, length-take, length-drop, get_or-set_same, get_or-set_other, get_or-take, get_or-drop}
use Rattle.std.proofs.lemmas.Nat.{div-add-mod', div-mul-add, mod_below, row_fits}
use Rattle.std.proofs.lemmas.Option.{same_Some, none-some}
use Rattle.qm_model.specs.Operations.{Bytes, Operation, update, delete, commit}
use Rattle.qm_operations.specs.Parts.{key_of, update_key, is_update}
use Rattle.qm_build.specs.Building.{key_at}
use Rattle.qm_build.specs.Cached.{Cached, Kept, ways_of, sets_of, empty_cache, put, removed, set_of, key_for, without, with_key, with_room, in_set, smallest, kept_in, IsFirst, AreSlots}
use Rattle.qm_build.proofs.Keeping.{Ascending, HasKeys, ascending-put, ascending-filter, key-put, key-other, key-without, key-left, key-in_set, key-out_of_set, same-kept, smallest-is}
use Rattle.qm_build.proofs.Slots.{Apart, ascending-kept, slot-found, slot-key, fewer-kept, full-kept}

abbrev cache_with : {K : Type 0} → ℕ → ℕ → Kept K → Cached K
cache_with ways sets kept = record { ways = ways; sets = sets; kept = kept }

-- a cache of these slots
abbrev pub cache_of : {K : Type 0} → ℕ → ℕ → List (Option (ℕ × K)) → Cached K
cache_of ways sets slots = cache_with ways sets (kept_in slots)

pub empty-is : {K : Type 0} (capacity ways sets : ℕ) (slots : List (Option (ℕ × K))) → ways ≡ ways_of capacity → sets ≡ sets_of capacity → kept_in slots ≡ [] → cache_of ways sets slots ≡ empty_cache capacity
empty-is {K} capacity ways sets slots one two none = ap₂ (λ (w s : ℕ). cache_with w s (kept_in slots)) one two ∙ ap (λ (m : Kept K). cache_with (ways_of capacity) (sets_of capacity) m) none

-- one more empty slot
pub none-push : {X : Type 0} (slots : List (Option X)) → ((i : ℕ) → get_or slots i None ≡ None) → (i : ℕ) → get_or (slots ++ None ∷ []) i None ≡ None
none-push [] none zero = refl
none-push [] none (suc i) = refl
none-push (x ∷ xs) none zero = none 0
none-push (x ∷ xs) none (suc i) = none-push xs (λ j. none (suc j)) i

-- empty slots have no key
pub kept-none : {K : Type 0} (slots : List (Option (ℕ × K))) → ((i : ℕ) → get_or slots i None ≡ None) → kept_in slots ≡ []
kept-none [] none = refl
kept-none (None ∷ slots) none = kept-none slots (λ i. none (suc i))
kept-none (Some e ∷ slots) none = absurd (none-some e (sym (none 0)))

pub slots-none : {K : Type 0} (ways sets : ℕ) (slots : List (Option (ℕ × K))) → 0 < ways → 0 < sets → length slots ≡ sets * ways → ((i : ℕ) → get_or slots i None ≡ None) → AreSlots ways sets slots
slots-none ways sets slots some_ways some_sets long none = record {
  some_ways = some_ways;
  some_sets = some_sets;
  long = long;
  placed = λ i. subst (λ o. IfSome o (λ p. i / ways ≡ set_of sets p.0)) (sym (none i)) tt;
  apart = λ i j p q here there same. absurd (none-some p (sym (none i) ∙ here));
}

-- the slots of a set
pub set-ends : (set sets ways : ℕ) → set < sets → set * ways + ways ≤ sets * ways
set-ends set sets ways below = row_fits set ways sets ways below (omega arith)

in-set : (i set ways : ℕ) → 0 < ways → i / ways ≡ set → (set * ways ≤ i) × (i < set * ways + ways)
in-set i set ways some is =
    let parts = div-add-mod' i ways in
    let rest = mod_below i ways some in
    let row = ap (λ q. q * ways) is in
    (omega arith, omega arith)

set-of-slot : (i set ways : ℕ) → set * ways ≤ i → i < set * ways + ways → i / ways ≡ set
set-of-slot i set ways low high =
    let there : i ≡ set * ways + (i - set * ways) = omega arith in
    ap (λ n. n / ways) there ∙ div-mul-add set ways (i - set * ways) (omega arith)

-- a key in a slot is past no end
within : {X : Type 0} (slots : List (Option X)) (i : ℕ) (x : X) → get_or slots i None ≡ Some x → i < length slots
within [] i x is = absurd (none-some x is)
within (o ∷ slots) zero x is = omega arith
within (o ∷ slots) (suc i) x is = let rest = within slots i x is in omega (arith, rest)

some-and : {X : Type 0} (o : Option X) (P : X → Type 0) → IsSomeAnd o P → (x : X) × (o ≡ Some x) × P x
some-and None P h = absurd h
some-and (Some x) P h = (x, refl, h)

-- what comes first among slots
pub first-self : {K : Type 0} (slot : Option (ℕ × K)) → IsFirst slot slot
first-self None = tt
first-self (Some p) = omega arith

first-then : {K : Type 0} (a b c : Option (ℕ × K)) → IsFirst a b → IsFirst b c → IsFirst a c
first-then None b c ab bc = tt
first-then (Some p) None c ab bc = absurd ab
first-then (Some p) (Some q) None ab bc = absurd bc
first-then (Some p) (Some q) (Some r) ab bc = omega (arith, ab, bc)

pub first-more : {K : Type 0} (slots : List (Option (ℕ × K))) (first here room : ℕ) → ((i : ℕ) → first ≤ i → i < here → IsFirst (get_or slots room None) (get_or slots i None))
    → (new : ℕ) → IsFirst (get_or slots new None) (get_or slots room None) → IsFirst (get_or slots new None) (get_or slots here None) → (i : ℕ) → first ≤ i → i < here + 1 → IsFirst (get_or slots new None) (get_or slots i None)
first-more slots first here room least new before now i low high = by (cases_eq i here)
  where
    by : (i ≡ here) ⊎ (i ≢ here) → IsFirst (get_or slots new None) (get_or slots i None)
    by (inl same) = subst (λ j. IsFirst (get_or slots new None) (get_or slots j None)) (sym same) now
    by (inr other) = first-then (get_or slots new None) (get_or slots room None) (get_or slots i None) before (least i low (omega (arith, high, other)))

-- the slots of the set of a location
module _ {K : Type 0} (ways sets location : ℕ) (slots : List (Option (ℕ × K))) (are : AreSlots ways sets slots) where
  -- a location's key is in a slot of its set
  own-slot : (at place : ℕ) (key : K) (i : ℕ) → place ≡ set_of sets at → get_or slots i None ≡ Some (at, key) → (place * ways ≤ i) × (i < place * ways + ways)
  own-slot at place key i place_is is =
      in-set i place ways are.some_ways (subst (λ o. IfSome o (λ p. i / ways ≡ set_of sets p.0)) is (are.placed i) ∙ sym place_is)

  key-none : (place : ℕ) → place ≡ set_of sets location → ((i : ℕ) → place * ways ≤ i → i < place * ways + ways → IfSome (get_or slots i None) (λ p. p.0 ≢ location)) → None ≡ key_for (kept_in slots) location
  key-none place place_is none = by (key_for (kept_in slots) location) refl
    where
      by : (o : Option K) → o ≡ key_for (kept_in slots) location → None ≡ key_for (kept_in slots) location
      by None is = is
      by (Some key) is =
          let there = slot-found slots location key (sym is) in
          let ends = own-slot location place key there.0 place_is there.1 in
          absurd (subst (λ o. IfSome o (λ p. p.0 ≢ location)) there.1 (none there.0 ends.0 ends.1) refl)

  -- what is found among the slots of its set is what is kept
  pub slot-given : {R : Type 0} (now : R → K) (place : ℕ) → place ≡ set_of sets location → (result : Option R)
      → IfSome result (λ r. (i : ℕ) × (get_or slots i None ≡ Some (location, now r)))
      → IfNone result ((i : ℕ) → place * ways ≤ i → i < place * ways + ways → IfSome (get_or slots i None) (λ p. p.0 ≢ location))
      → option_map now result ≡ key_for (kept_in slots) location
  slot-given now place place_is None found none = key-none place place_is none
  slot-given now place place_is (Some r) found none = sym (slot-key slots location (now r) are.apart found.0 found.1)

-- slots that were emptied of a location
module _ {K : Type 0} (ways sets location place : ℕ) (old new : List (Option (ℕ × K))) (are : AreSlots ways sets old) (place_is : place ≡ set_of sets location) (long : length new ≡ length old)
    (kept : (i : ℕ) → (get_or new i None ≡ None) ⊎ (get_or new i None ≡ get_or old i None)) (others : (i : ℕ) → IfSome (get_or old i None) (λ p. p.0 ≢ location) → get_or new i None ≡ get_or old i None)
    (clear : (i : ℕ) → place * ways ≤ i → i < place * ways + ways → IfSome (get_or new i None) (λ p. p.0 ≢ location)) where
  was-there : (i : ℕ) (p : ℕ × K) → get_or new i None ≡ Some p → get_or old i None ≡ Some p
  was-there i p is = by (kept i)
    where
      by : (get_or new i None ≡ None) ⊎ (get_or new i None ≡ get_or old i None) → get_or old i None ≡ Some p
      by (inl none) = absurd (none-some p (sym none ∙ is))
      by (inr same) = sym same ∙ is

  pub cleared-slots : AreSlots ways sets new
  cleared-slots = record {
    some_ways = are.some_ways;
    some_sets = are.some_sets;
    long = long ∙ are.long;
    placed = λ i. by i (kept i);
    apart = λ i j p q here there same. are.apart i j p q (was-there i p here) (was-there j q there) same;
  }
    where
      by : (i : ℕ) → (get_or new i None ≡ None) ⊎ (get_or new i None ≡ get_or old i None) → IfSome (get_or new i None) (λ p. i / ways ≡ set_of sets p.0)
      by i (inl none) = subst (λ o. IfSome o (λ p. i / ways ≡ set_of sets p.0)) (sym none) tt
      by i (inr same) = subst (λ o. IfSome o (λ p. i / ways ≡ set_of sets p.0)) (sym same) (are.placed i)

  -- no slot has the location
  cleared-none : (i at : ℕ) (key : K) → get_or new i None ≡ Some (at, key) → at ≢ location
  cleared-none i at key is same =
      let ends = own-slot ways sets location new cleared-slots at place key i (place_is ∙ ap (set_of sets) (sym same)) is in
      subst (λ o. IfSome o (λ p. p.0 ≢ location)) is (clear i ends.0 ends.1) same

  pub cleared-kept : kept_in new ≡ without location (kept_in old)
  cleared-kept = same-kept (kept_in new) (without location (kept_in old)) (ascending-kept new) (ascending-filter _ (kept_in old) (ascending-kept old)) there back
    where
      there : HasKeys (kept_in new) (without location (kept_in old))
      there at key is =
          let slot = slot-found new at key is in
          key-without location (kept_in old) at (cleared-none slot.0 at key slot.1) ∙ slot-key old at key are.apart slot.0 (was-there slot.0 (at, key) slot.1)

      back : HasKeys (without location (kept_in old)) (kept_in new)
      back at key is = by (cases_eq at location)
        where
          by : (at ≡ location) ⊎ (at ≢ location) → key_for (kept_in new) at ≡ Some key
          by (inl same) = absurd (none-some key (sym (ap (key_for (without location (kept_in old))) same ∙ key-left location (kept_in old)) ∙ is))
          by (inr other) =
              let slot = slot-found old at key (sym (key-without location (kept_in old) at other) ∙ is) in
              slot-key new at key cleared-slots.apart slot.0 (others slot.0 (subst (λ o. IfSome o (λ p. p.0 ≢ location)) (sym slot.1) other) ∙ slot.1)

  pub removed-is : cache_of ways sets new ≡ removed (cache_of ways sets old) location
  removed-is = ap (λ (m : Kept K). cache_with ways sets m) cleared-kept

  -- a key put in a slot of its set
  module _ (room : ℕ) (own : K) (from : place * ways ≤ room) (to : room < place * ways + ways) (inside : room < length new) where
    abbrev filled : List (Option (ℕ × K))
    filled = set new room (Some (location, own))

    at-room : get_or filled room None ≡ Some (location, own)
    at-room = get_or-set_same new room (Some (location, own)) None inside

    off-room : (i : ℕ) → i ≢ room → get_or filled i None ≡ get_or new i None
    off-room i other = get_or-set_other new room i (Some (location, own)) None other

    pub filled-slots : AreSlots ways sets filled
    filled-slots = record {
      some_ways = are.some_ways;
      some_sets = are.some_sets;
      long = length-set new room (Some (location, own)) ∙ long ∙ are.long;
      placed = λ i. by i (cases_eq i room);
      apart = λ i j p q here there same. two i j p q here there same (cases_eq i room) (cases_eq j room);
    }
      where
        by : (i : ℕ) → (i ≡ room) ⊎ (i ≢ room) → IfSome (get_or filled i None) (λ p. i / ways ≡ set_of sets p.0)
        by i (inl same) =
            subst (λ o. IfSome o (λ p. i / ways ≡ set_of sets p.0)) (sym (ap (λ j. get_or filled j None) same ∙ at-room)) (ap (λ j. j / ways) same ∙ set-of-slot room place ways from to ∙ place_is)
        by i (inr other) = subst (λ o. IfSome o (λ p. i / ways ≡ set_of sets p.0)) (sym (off-room i other)) (cleared-slots.placed i)

        -- the location stands in no other slot
        alone : (i j : ℕ) (p q : ℕ × K) → get_or filled i None ≡ Some p → get_or filled j None ≡ Some q → p.0 ≡ q.0 → i ≡ room → j ≢ room → ⊥
        alone i j p q here there same is other =
            let own_is : p ≡ (location, own) = same_Some p (location, own) (sym here ∙ ap (λ k. get_or filled k None) is ∙ at-room) in
            cleared-none j q.0 q.1 (sym (off-room j other) ∙ there) (sym same ∙ ap (λ (u : ℕ × K). u.0) own_is)

        two : (i j : ℕ) (p q : ℕ × K) → get_or filled i None ≡ Some p → get_or filled j None ≡ Some q → p.0 ≡ q.0 → (i ≡ room) ⊎ (i ≢ room) → (j ≡ room) ⊎ (j ≢ room) → i ≡ j
        two i j p q here there same (inl a) (inl b) = a ∙ sym b
        two i j p q here there same (inl a) (inr b) = absurd (alone i j p q here there same a b)
        two i j p q here there same (inr a) (inl b) = absurd (alone j i q p there here (sym same) b a)
        two i j p q here there same (inr a) (inr b) = cleared-slots.apart i j p q (sym (off-room i a) ∙ here) (sym (off-room j b) ∙ there) same

    -- what is kept, where these are the keys of the other slots
    filled-kept : (rest : Kept K) → Ascending rest
        → ((at : ℕ) (key : K) → key_for rest at ≡ Some key → (i : ℕ) × (i ≢ room) × (get_or new i None ≡ Some (at, key)))
        → ((at : ℕ) (key : K) (i : ℕ) → i ≢ room → get_or new i None ≡ Some (at, key) → key_for rest at ≡ Some key)
        → kept_in filled ≡ with_key location own rest
    filled-kept rest up slot_of key_of = same-kept (kept_in filled) (with_key location own rest) (ascending-kept filled) (ascending-put location own rest up) there back
      where
        there : HasKeys (kept_in filled) (with_key location own rest)
        there at key is = by (slot-found filled at key is).0 (slot-found filled at key is).1 (cases_eq (slot-found filled at key is).0 room)
          where
            by : (i : ℕ) → get_or filled i None ≡ Some (at, key) → (i ≡ room) ⊎ (i ≢ room) → key_for (with_key location own rest) at ≡ Some key
            by i slot (inl same) =
                let own_is : (location, own) ≡ (at, key) = same_Some (location, own) (at, key) (sym at-room ∙ ap (λ j. get_or filled j None) (sym same) ∙ slot) in
                subst (λ (u : ℕ × K). key_for (with_key location own rest) u.0 ≡ Some u.1) own_is (key-put location own rest)
            by i slot (inr other) =
                let was = sym (off-room i other) ∙ slot in
                key-other location own rest at (λ same. cleared-none i at key was (sym same)) ∙ key_of at key i other was

        back : HasKeys (with_key location own rest) (kept_in filled)
        back at key is = by (cases_eq location at)
          where
            by : (location ≡ at) ⊎ (location ≢ at) → key_for (kept_in filled) at ≡ Some key
            by (inl same) =
                let own_is : own ≡ key = same_Some own key (sym (key-put location own rest) ∙ ap (key_for (with_key location own rest)) same ∙ is) in
                slot-key filled at key filled-slots.apart room (at-room ∙ ap₂ (λ (n : ℕ) (k : K). Some (n, k)) same own_is)
            by (inr other) =
                let slot = slot_of at key (sym (key-other location own rest at other) ∙ is) in
                slot-key filled at key filled-slots.apart slot.0 (off-room slot.0 slot.1 ∙ slot.2)

    -- the slots of the set
    abbrev row : List (Option (ℕ × K))
    row = take ways (drop (place * ways) new)

    row-at : (j : ℕ) → j < ways → get_or row j None ≡ get_or new (place * ways + j) None
    row-at j less = get_or-take ways (drop (place * ways) new) j None less ∙ get_or-drop (place * ways) new j None

    row-long : place * ways + ways ≤ length new → length row ≡ ways
    row-long fits = let t = length-take ways (drop (place * ways) new) in let d = length-drop (place * ways) new in omega (arith, t, d, fits)

    row-within : (j : ℕ) (p : ℕ × K) → get_or row j None ≡ Some p → j < ways
    row-within j p is = let l = within row j p is in let t = length-take ways (drop (place * ways) new) in omega (arith, l, t)

    row-apart : Apart row
    row-apart i j p q here there same =
        let one = cleared-slots.apart (place * ways + i) (place * ways + j) p q (sym (row-at i (row-within i p here)) ∙ here) (sym (row-at j (row-within j q there)) ∙ there) same in
        omega (arith, one)

    row-kept : in_set sets place (kept_in new) ≡ kept_in row
    row-kept = same-kept (in_set sets place (kept_in new)) (kept_in row) (ascending-filter _ (kept_in new) (ascending-kept new)) (ascending-kept row) there back
      where
        there : HasKeys (in_set sets place (kept_in new)) (kept_in row)
        there at key is = by (cases_eq (set_of sets at) place)
          where
            by : (set_of sets at ≡ place) ⊎ (set_of sets at ≢ place) → key_for (kept_in row) at ≡ Some key
            by (inl same) =
                let slot = slot-found new at key (sym (key-in_set sets place (kept_in new) at same) ∙ is) in
                let ends = own-slot ways sets location new cleared-slots at place key slot.0 (sym same) slot.1 in
                let here : place * ways + (slot.0 - place * ways) ≡ slot.0 = omega (arith, ends.0) in
                slot-key row at key row-apart (slot.0 - place * ways) (row-at (slot.0 - place * ways) (omega (arith, ends.0, ends.1)) ∙ ap (λ i. get_or new i None) here ∙ slot.1)
            by (inr other) = absurd (none-some key (sym (key-out_of_set sets place (kept_in new) at other) ∙ is))

        back : HasKeys (kept_in row) (in_set sets place (kept_in new))
        back at key is =
            let slot = slot-found row at key is in
            let less = row-within slot.0 (at, key) slot.1 in
            let was = sym (row-at slot.0 less) ∙ slot.1 in
            let set_is = subst (λ o. IfSome o (λ p. (place * ways + slot.0) / ways ≡ set_of sets p.0)) was (cleared-slots.placed (place * ways + slot.0)) in
            key-in_set sets place (kept_in new) at (sym set_is ∙ div-mul-add place ways slot.0 less)
            ∙ slot-key new at key cleared-slots.apart (place * ways + slot.0) was

    -- the slot is empty, or no key of its set has a smaller location

    pub put-kept : place * ways + ways ≤ length new → ((i : ℕ) → place * ways ≤ i → i < place * ways + ways → IsFirst (get_or new room None) (get_or new i None)) → kept_in filled ≡ with_key location own (with_room ways sets place (kept_in new))
    put-kept fits least = by (get_or new room None) refl
      where
        here : place * ways + (room - place * ways) ≡ room
        here = omega arith

        by : (o : Option (ℕ × K)) → o ≡ get_or new room None → kept_in filled ≡ with_key location own (with_room ways sets place (kept_in new))
        by None is =
            let long_row = row-long fits in
            let few : length (in_set sets place (kept_in new)) < ways =
            let count = fewer-kept row (room - place * ways) (omega (arith, long_row, from, to)) (row-at (room - place * ways) (omega (arith, from, to)) ∙ ap (λ i. get_or new i None) here ∙ sym is) in
            let same = ap length row-kept in omega (arith, count, long_row, same) in
            filled-kept (kept_in new) (ascending-kept new)
            (λ at key there. let slot = slot-found new at key there in (slot.0, (λ same. none-some (at, key) (is ∙ ap (λ i. get_or new i None) (sym same) ∙ slot.1)), slot.1))
            (λ at key i other slot. slot-key new at key cleared-slots.apart i slot)
            ∙ ap (with_key location own) (sym (cond-true (ltb (length (in_set sets place (kept_in new))) ways) _ _ (lt-ltb _ ways few)))
        by (Some p) is =
            let long_row = row-long fits in
            let each : (i : ℕ) → place * ways ≤ i → i < place * ways + ways → (q : ℕ × K) × (get_or new i None ≡ Some q) × (p.0 ≤ q.0) =
            λ i low high. some-and (get_or new i None) (λ q. p.0 ≤ q.0) (subst (λ o. IfSome o (λ u. IsSomeAnd (get_or new i None) (λ q. u.0 ≤ q.0))) (sym is) (least i low high)) in
            let full : ways ≤ length (in_set sets place (kept_in new)) =
            let count = full-kept row row-apart (λ j less none. let q = each (place * ways + j) (omega arith) (omega (arith, less, long_row)) in none-some q.0 (sym none ∙ row-at j (omega (arith, less, long_row)) ∙ q.1)) in
            let same = ap length row-kept in omega (arith, count, long_row, same) in
            let set_is : set_of sets p.0 ≡ place =
            sym (subst (λ o. IfSome o (λ u. room / ways ≡ set_of sets u.0)) (sym is) (cleared-slots.placed room)) ∙ set-of-slot room place ways from to in
            let first : smallest (in_set sets place (kept_in new)) ≡ p.0 =
            smallest-is (in_set sets place (kept_in new)) p.0 p.1 (ascending-filter _ (kept_in new) (ascending-kept new))
            (key-in_set sets place (kept_in new) p.0 set_is ∙ slot-key new p.0 p.1 cleared-slots.apart room (sym is))
            (λ at key there.
            let slot = slot-found row at key (ap (λ m. key_for m at) (sym row-kept) ∙ there) in
            let less = row-within slot.0 (at, key) slot.1 in
            let q = each (place * ways + slot.0) (omega arith) (omega (arith, less)) in
            let one : q.0 ≡ (at, key) = same_Some q.0 (at, key) (sym q.1 ∙ sym (row-at slot.0 less) ∙ slot.1) in
            let low = ap (λ (u : ℕ × K). u.0) one in
            omega (arith, low, q.2)) in
            filled-kept (without p.0 (kept_in new)) (ascending-filter _ (kept_in new) (ascending-kept new))
            (λ at key there. left at key p is (cases_eq at p.0) there)
            (λ at key i other slot. key-without p.0 (kept_in new) at (λ same. other (cleared-slots.apart i room (at, key) p slot (sym is) same)) ∙ slot-key new at key cleared-slots.apart i slot)
            ∙ ap (with_key location own) (ap (λ n. without n (kept_in new)) (sym first) ∙ sym (cond-false (ltb (length (in_set sets place (kept_in new))) ways) _ _ (le-ltb _ ways full)))
          where
            left : (at : ℕ) (key : K) (p : ℕ × K) → Some p ≡ get_or new room None → (at ≡ p.0) ⊎ (at ≢ p.0) → key_for (without p.0 (kept_in new)) at ≡ Some key → (i : ℕ) × (i ≢ room) × (get_or new i None ≡ Some (at, key))
            left at key p is (inl same) there = absurd (none-some key (sym (ap (key_for (without p.0 (kept_in new))) same ∙ key-left p.0 (kept_in new)) ∙ there))
            left at key p is (inr other) there =
                let slot = slot-found new at key (sym (key-without p.0 (kept_in new) at other) ∙ there) in
                (slot.0, (λ same. other (sym (ap (λ (u : ℕ × K). u.0) (same_Some p (at, key) (is ∙ ap (λ i. get_or new i None) (sym same) ∙ slot.1))))), slot.1)

    pub put-is : place * ways + ways ≤ length new → ((i : ℕ) → place * ways ≤ i → i < place * ways + ways → IsFirst (get_or new room None) (get_or new i None)) → cache_of ways sets filled ≡ put (cache_of ways sets old) location own
    put-is fits least = ap (λ (m : Kept K). cache_with ways sets m)
        (put-kept fits least ∙ ap₂ (λ (n : ℕ) (m : Kept K). with_key location own (with_room ways sets n m)) place_is cleared-kept)

-- an update's key is that of its location
pub own-key : {K : Type 0} (bytes : K → Bytes) (ops : List Operation) (op : Operation) (here at : ℕ) (own key : K) → slice_get ops here ≡ Some op → is_update op ≡ true → key_of op ≡ Some (bytes own) → at ≡ here → key ≡ own → key_at ops at ≡ Some (bytes key)
own-key bytes ops op here at own key stands is of_key place same =
    ap (key_at ops) place ∙ ap (option_and_then update_key) stands ∙ by op is of_key ∙ ap (λ k. Some (bytes k)) (sym same)
  where
    by : (op : Operation) → is_update op ≡ true → key_of op ≡ Some (bytes own) → update_key op ≡ Some (bytes own)
    by (update k v n) is of_key = of_key
    by (delete k) is of_key = cc
    by (commit m f) is of_key = cc
