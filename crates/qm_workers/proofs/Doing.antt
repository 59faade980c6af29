-- A worker does its first operation.
use Rattle.std.proofs.Common.{◌≡◌, ◌≢◌, ◌⊎◌, ⊎_elim, inl, inr, ◌↔◌, ℕ, suc, ◌+◌, ◌*◌, ◌^◌, ◌<◌, ◌≤◌, Bool, true, false, List, [], ◌∷◌, length, refl, ap, sym, ◌∙◌, subst, Option, Some, None, arith, map}
use Rattle.std.specs.Prelude.{All, is_none, Contains, IfSome, filter, not, bytes_eq, ◌==◌}
use Rattle.std.specs.Bool.{then_some}
use Rattle.std.proofs.lemmas.List.Elements.{All-contains, Contains-append_cases, Contains-append_left, Contains-append_right}
use Rattle.std.proofs.lemmas.List.Sums.{count_by-le-length}
use Rattle.std.proofs.lemmas.List.Sorted.{Contains-permutation, IsPermutation-sym}
use Rattle.std.proofs.lemmas.Bool.{true≢false}
use Rattle.std.proofs.lemmas.Option.{same_Some, none-some}
use Rattle.qm_model.specs.Operations.{Bytes, Operation, update, delete}
use Rattle.qm_index.specs.Buckets.{bucket_at}
use Rattle.qm_index.specs.Places.{Places, AreApart, HasPlaces, place_of, without, moved}
use Rattle.qm_index.proofs.Members.{first_or_later, Contains-first, Contains-later, from_image, in_image, from_filtered, in_filtered}
use Rattle.std.proofs.lemmas.List.{map-append}
use Rattle.qm_model.proofs.LastWrites.{bytes_same}
use Rattle.qm_model.proofs.Maps.{same_key}
use Rattle.qm_index.proofs.Placing.{apart-moved}
use Rattle.qm_index.proofs.Moving.{place-among, place-within}
use Rattle.qm_build.specs.Building.{key_at, AreWithin, counted_after, IsFound}
use Rattle.qm_build.proofs.Finding.{apart-place}
use Rattle.qm_build.proofs.Pushing.{length-moved}
use Rattle.qm_workers.specs.Known.{Knowledge, told, IsTrueOf}
use Rattle.qm_workers.specs.Working.{Move, Work, with_front, left_by, HasDone, IsWithin, IsReplaced, Does, Goes}

module _ (index_key : Bytes → ℕ) (entries : List (ℕ × List ℕ)) (ops : List Operation) (ps : Places) (has : HasPlaces index_key entries ps) (apart : AreApart ps) (stand : (p : Bytes × ℕ) → Contains ps p → key_at ops p.1 ≡ Some p.0) (key : Bytes) where
  abbrev bucket : List ℕ
  bucket = bucket_at entries (index_key key)

  found-place : (at : ℕ) → key_at ops at ≡ Some key → Contains bucket at → place_of ps key ≡ Some at
  found-place at own within =
      let image = from_image (λ (p : Bytes × ℕ). p.1) (filter (λ p. index_key p.0 == index_key key) ps) at
      (Contains-permutation bucket (map (λ p. p.1) (filter (λ p. index_key p.0 == index_key key) ps)) at (IsPermutation-sym _ bucket (has (index_key key))) within) in
      let p = image.0 in
      let inside = (from_filtered (λ (p : Bytes × ℕ). index_key p.0 == index_key key) ps p image.1).0 in
      let key_is : p.0 ≡ key = same_Some p.0 key (sym (stand p inside) ∙ ap (key_at ops) image.2 ∙ own) in
      ap (place_of ps) (sym key_is) ∙ apart-place ps p apart inside ∙ ap Some image.2

  nowhere : All (λ n. key_at ops n ≢ Some key) bucket → place_of ps key ≡ None
  nowhere none = by (place_of ps key) refl
    where
      by : (o : Option ℕ) → place_of ps key ≡ o → place_of ps key ≡ None
      by None is = is
      by (Some at) is = absurd (All-contains (λ n. key_at ops n ≢ Some key) bucket at none (place-within index_key entries entries ps key apart has at is) (stand (key, at) (place-among ps key at is)))

  -- where a key that was looked for stands
  pub stood : (found : Option ℕ) → IsFound ops key bucket found → IfSome found (λ at. Contains bucket at) → place_of ps key ≡ found
  stood None is within = nowhere is
  stood (Some at) is within = found-place at is within

-- a key that moves leaves the others where they stand
stand-moved : (ops : List Operation) (ps : Places) (key : Bytes) (now : Option ℕ) → ((p : Bytes × ℕ) → Contains ps p → key_at ops p.1 ≡ Some p.0) → IfSome now (λ at. key_at ops at ≡ Some key)
    → (p : Bytes × ℕ) → Contains (moved ps key now) p → key_at ops p.1 ≡ Some p.0
stand-moved ops ps key None stand own p within = stand p (from_filtered (λ (q : Bytes × ℕ). not (bytes_eq q.0 key)) ps p within).0
stand-moved ops ps key (Some at) stand own p within = by (Contains-append_cases (without key ps) ((key, at) ∷ []) p within)
  where
    last : ((key, at) ≡ p) ⊎ Contains [] p → key_at ops p.1 ≡ Some p.0
    last (inl same) = ap (λ (q : Bytes × ℕ). key_at ops q.1) (sym same) ∙ own ∙ ap (λ (q : Bytes × ℕ). Some q.0) same
    last (inr (i, below, is)) = absurd (omega (arith, below))

    by : Contains (without key ps) p ⊎ Contains ((key, at) ∷ []) p → key_at ops p.1 ≡ Some p.0
    by (inl old) = stand p (from_filtered (λ (q : Bytes × ℕ). not (bytes_eq q.0 key)) ps p old).0
    by (inr new) = last (first_or_later (key, at) [] p new)

from_some : (P : ℕ → Type 0) (o : Option ℕ) (n : ℕ) → o ≡ Some n → IfSome o P → P n
from_some P None n is h = absurd (none-some n is)
from_some P (Some x) n is h = subst P (same_Some x n is) h

-- and the locations are those of the places
located-moved : (ops : List Operation) (ps : Places) (key : Bytes) (found now : Option ℕ) (old new : List ℕ) → AreApart ps → ((p : Bytes × ℕ) → Contains ps p → key_at ops p.1 ≡ Some p.0) → place_of ps key ≡ found
    → IsReplaced found now old new → ((at : ℕ) → Contains old at ↔ Contains (map (λ p. p.1) ps) at) → (at : ℕ) → Contains new at ↔ Contains (map (λ p. p.1) (moved ps key now)) at
located-moved ops ps key found now old new apart stand place replaced are at = (
  (λ inside. ⊎_elim (λ own. is-last now own) (λ had. kept had.0 had.1) (replaced.from at inside)),
  (λ inside. back now refl inside),
)
  where
    is-last : (o : Option ℕ) → o ≡ Some at → Contains (map (λ (p : Bytes × ℕ). p.1) (moved ps key o)) at
    is-last None own = absurd (none-some at own)
    is-last (Some n) own = subst (λ x. Contains (map (λ (p : Bytes × ℕ). p.1) (moved ps key (Some n))) x) (same_Some n at own)
        (in_image (λ (p : Bytes × ℕ). p.1) (moved ps key (Some n)) (key, n) (Contains-append_right (without key ps) ((key, n) ∷ []) (key, n) (Contains-first (key, n) [])))

    still : (o : Option ℕ) (p : Bytes × ℕ) → Contains (without key ps) p → Contains (moved ps key o) p
    still None p inside = inside
    still (Some n) p inside = Contains-append_left (without key ps) ((key, n) ∷ []) p inside

    other : (p : Bytes × ℕ) → Contains ps p → p.1 ≡ at → found ≢ Some at → (t : Bool) → bytes_eq p.0 key ≡ t → bytes_eq p.0 key ≡ false
    other p inside same none false is = is
    other p inside same none true is = absurd (none (sym place ∙ ap (place_of ps) (sym (same_key p.0 key is)) ∙ apart-place ps p apart inside ∙ ap Some same))

    kept : Contains old at → found ≢ Some at → Contains (map (λ (p : Bytes × ℕ). p.1) (moved ps key now)) at
    kept had none =
        let image = from_image (λ (p : Bytes × ℕ). p.1) ps at ((are at).0 had) in
        let p = image.0 in
        let apart_from = other p image.1 image.2 none (bytes_eq p.0 key) refl in
        subst (λ n. Contains (map (λ (q : Bytes × ℕ). q.1) (moved ps key now)) n) image.2
        (in_image (λ (q : Bytes × ℕ). q.1) (moved ps key now) p (still now p (in_filtered (λ (q : Bytes × ℕ). not (bytes_eq q.0 key)) ps p image.1 (ap not apart_from))))

    was : Contains (map (λ (p : Bytes × ℕ). p.1) (without key ps)) at → Contains new at
    was inside =
        let image = from_image (λ (p : Bytes × ℕ). p.1) (without key ps) at inside in
        let p = image.0 in
        let own = from_filtered (λ (q : Bytes × ℕ). not (bytes_eq q.0 key)) ps p image.1 in
        replaced.kept at ((are at).1 (subst (λ n. Contains (map (λ (q : Bytes × ℕ). q.1) ps) n) image.2 (in_image (λ (q : Bytes × ℕ). q.1) ps p own.0)))
        (λ is_found.
        let there = stand (key, at) (place-among ps key at (place ∙ is_found)) in
        let same : p.0 ≡ key = same_Some p.0 key (sym (stand p own.0) ∙ ap (key_at ops) image.2 ∙ there) in
        true≢false (sym own.1 ∙ ap (λ x. not (bytes_eq x key)) same ∙ ap not (bytes_same key)))

    back : (o : Option ℕ) → now ≡ o → Contains (map (λ (p : Bytes × ℕ). p.1) (moved ps key o)) at → Contains new at
    back None is inside = was inside
    back (Some n) is inside =
        ⊎_elim was (λ last. ⊎_elim (λ same. replaced.there at (is ∙ ap Some same)) (λ none. absurd (empty none)) (first_or_later n [] at last))
        (Contains-append_cases (map (λ (p : Bytes × ℕ). p.1) (without key ps)) (n ∷ []) at (subst (λ l. Contains l at) (map-append (λ (p : Bytes × ℕ). p.1) (without key ps) ((key, n) ∷ [])) inside))
      where
        empty : Contains [] at → ⊥
        empty (i, below, is) = omega (arith, below)

-- how many there are then
count-moved : (ps : Places) (key : Bytes) (before : Option ℕ) (t : Bool) (at : ℕ) → AreApart ps → place_of ps key ≡ before → counted_after (length ps) before t ≡ length (moved ps key (then_some t at))
count-moved ps key before true at apart stood = length-moved ps key before (update key [] None) at apart stood
count-moved ps key before false at apart stood = length-moved ps key before (delete key) at apart stood

no-more-after : (n : ℕ) (before : Option ℕ) (t : Bool) → counted_after n before t ≤ suc n
no-more-after n None true = omega arith
no-more-after n None false = omega arith
no-more-after n (Some at) true = omega arith
no-more-after n (Some at) false = omega arith

-- what was first is done
pub done-next : (index_key : Bytes → ℕ) (ops : List Operation) (final : Places) (most : ℕ) (old : Work) (m : Move) (ms : List Move) (found : Option ℕ) (entries : List (ℕ × List ℕ)) (located : List ℕ) (known : Knowledge) (live : ℕ) (failed : Bool)
    → most < 2 ^ 64 → HasDone index_key ops final most (record old { coming = m ∷ ms })
    → IsFound ops m.key (bucket_at old.entries (index_key m.key)) found → IfSome found (λ at. Contains (bucket_at old.entries (index_key m.key)) at)
    → ((ps : Places) → AreApart ps → HasPlaces index_key old.entries ps → place_of ps m.key ≡ found → HasPlaces index_key entries (moved ps m.key (then_some m.is_update m.at)))
    → IsReplaced found (then_some m.is_update m.at) old.located located
    → (old.live + 1 < 2 ^ 64 → live ≡ counted_after old.live found m.is_update) → (IsTrueOf ops old.known → (m.is_update ≡ true → key_at ops m.at ≡ Some m.key) → IsTrueOf ops known)
    → HasDone index_key ops final most (record { entries = entries; located = located; known = known; coming = ms; live = live; failed = failed })
done-next index_key ops final most old m ms found entries located known live failed bound has is within moves replaced counts knows =
    let ps = has.places in
    let place = stood index_key old.entries ops ps has.indexed has.apart has.stand m.key found is within in
    let own = has.coming m (Contains-first m ms) in
    let many = has.few in
    let is_live = has.counted in
    let small : old.live + 1 < 2 ^ 64 = omega (arith, many, is_live, bound) in
    let long = count-moved ps m.key found m.is_update m.at has.apart place in
    let more = no-more-after (length ps) found m.is_update in
    record {
      places = moved ps m.key (then_some m.is_update m.at);
      indexed = moves ps has.apart has.indexed place;
      located = located-moved ops ps m.key found (then_some m.is_update m.at) old.located located has.apart has.stand place replaced has.located;
      apart = apart-moved m.key ps (then_some m.is_update m.at) has.apart;
      stand = stand-moved ops ps m.key (then_some m.is_update m.at) has.stand (by m.is_update own);
      counted = counts small ∙ ap (λ n. counted_after n found m.is_update) is_live ∙ long;
      few = omega (arith, many, long, more);
      rest = has.rest;
      coming = λ n inside. has.coming n (Contains-later m ms n inside);
      known = knows has.known own;
    }
  where
    by : (t : Bool) → (t ≡ true → key_at ops m.at ≡ Some m.key) → IfSome (then_some t m.at) (λ at. key_at ops at ≡ Some m.key)
    by true own = own refl
    by false own = tt

-- what one operation more makes, when it was the first
pub goes-on : (index_key : Bytes → ℕ) (m : Move) (ms : List Move) (old popped new : Work) → old.coming ≡ m ∷ ms → popped ≡ record old { coming = ms } → Does index_key m popped new → Goes index_key old new
goes-on index_key m ms old popped new first same does = record {
  failed = λ no_more. sym (ap (λ (w : Work). w.failed) same) ∙ sym does.failed ∙ no_more;
  within = λ no_more from to within. does.within from to (subst (IsWithin from to) is within);
  done = λ no_more ops final most bound has. does.done ops final most bound (subst (HasDone index_key ops final most) is has);
}
  where
    is : old ≡ with_front m popped
    is = ap (λ ms. record old { coming = ms }) first ∙ ap (with_front m) (sym same)

-- a worker that lacked memory
pub goes-nowhere : (index_key : Bytes → ℕ) (old new : Work) → new.failed ≡ true → Goes index_key old new
goes-nowhere index_key old new failed = record {
  failed = λ no_more. absurd (true≢false (sym failed ∙ no_more));
  within = λ no_more. absurd (true≢false (sym failed ∙ no_more));
  done = λ no_more. absurd (true≢false (sym failed ∙ no_more));
}

-- an operation leaves its key at its location, or nowhere
pub now-within : (from to : ℕ) (m : Move) (old : Work) → IsWithin from to (with_front m old) → IfSome (then_some m.is_update m.at) (λ at. (from ≤ at) × (at < to))
now-within from to m old within = by m.is_update (within.coming m (Contains-first m old.coming))
  where
    by : (t : Bool) → (from ≤ m.at) × (m.at < to) → IfSome (then_some t m.at) (λ at. (from ≤ at) × (at < to))
    by true h = h
    by false h = tt

-- where an operation was the first all of those after it are within the same bounds
pub within-next : (from to : ℕ) (m : Move) (old new : Work) → IsWithin from to (with_front m old) → new.coming ≡ old.coming → (AreWithin from to old.entries → AreWithin from to new.entries)
    → (found : Option ℕ) → IsReplaced found (then_some m.is_update m.at) old.located new.located → IsWithin from to new
within-next from to m old new within same moves found replaced = record {
  standing = moves within.standing;
  located = λ at inside. ⊎_elim
      (λ own. from_some (λ n. (from ≤ n) × (n < to)) (then_some m.is_update m.at) at own (now-within from to m old within))
      (λ before. within.located at before.0)
      (replaced.from at inside);
  coming = λ n inside. within.coming n (Contains-later m old.coming n (subst (λ ms. Contains ms n) same inside));
}

-- what is left is bounded where a bucket was seen
pub left-few : (index_key : Bytes → ℕ) (entries : List (ℕ × List ℕ)) (k : Knowledge) (m : Move) (ms : List Move) → length (bucket_at entries (index_key m.key)) < 2 ^ 64 → left_by index_key entries k (m ∷ ms) < suc (length (m ∷ ms)) * 2 ^ 64
left-few index_key entries k m ms few = let most = count_by-le-length (λ at. is_none (told k at)) (bucket_at entries (index_key m.key)) in omega (arith, most, few)
