-- A worker asks about a location, and is told.
use Rattle.std.proofs.Common.{◌≡◌, ◌⊎◌, inl, inr, ℕ, suc, ◌+◌, ◌<◌, ◌≤◌, Bool, true, false, cond, List, [], ◌∷◌, ◌++◌, length-append, refl, ap, sym, ◌∙◌, subst, Option, Some, None, arith}
use Rattle.std.specs.Prelude.{Contains, is_none, option_map}
use Rattle.std.specs.Bool.{then_some}
use Rattle.std.specs.Option.{option_or}
use Rattle.std.proofs.lemmas.Bool.{cases_eq}
use Rattle.std.proofs.lemmas.List.Elements.{All-contains, Contains-append_cases}
use Rattle.std.proofs.lemmas.List.Sums.{sum_by-cons}
use Rattle.std.proofs.lemmas.Option.{same_Some, none-some}
use Rattle.qm_model.specs.Operations.{Bytes, Operation, update, delete, commit}
use Rattle.qm_operations.specs.Parts.{key_of, is_update, update_key}
use Rattle.qm_index.specs.Buckets.{bucket_at}
use Rattle.qm_index.specs.Places.{Places, moved}
use Rattle.qm_index.proofs.Members.{first_or_later, Contains-first, Contains-later}
use Rattle.qm_build.specs.Building.{key_at}
use Rattle.qm_workers.specs.declared.look.Sought.{Sought}
use Rattle.qm_workers.specs.declared.look.Sought.TheVariants.{Here, Nowhere, Unknown}
use Rattle.qm_workers.specs.Known.{Knowledge, told, is_key, Learns}
use Rattle.qm_workers.specs.Working.{Move, Work, after, sought, sought_at, asked_for, front_sought, asked, unknown, left_of, left_by, with_last, HasDone, IsWithin, IsTold}
use Rattle.qm_workers.proofs.Knowing.{learned-true}

-- What is asked about stands in the bucket, and is not known.

pub asked-unknown : (k : Knowledge) (key : Bytes) (place : ℕ) (bucket : List ℕ) (at : ℕ) → sought k key place bucket ≡ Unknown at → Contains bucket at × (told k at ≡ None)
asked-unknown k key place [] at is = cc
asked-unknown k key place (x ∷ rest) at is = by (told k x) refl is (asked-unknown k key (suc place) rest at)
  where
    later : Contains rest at × (told k at ≡ None) → Contains (x ∷ rest) at × (told k at ≡ None)
    later h = (Contains-later x rest at h.0, h.1)

    choose : (own : Option Bytes) (t : Bool) → cond t (Here (record { place = place; location = x })) (sought k key (suc place) rest) ≡ Unknown at
        → (sought k key (suc place) rest ≡ Unknown at → Contains rest at × (told k at ≡ None)) → Contains (x ∷ rest) at × (told k at ≡ None)
    choose own true is go = cc
    choose own false is go = later (go is)

    by : (o : Option (Option Bytes)) → told k x ≡ o → sought_at o key (Here (record { place = place; location = x })) (Unknown x) (sought k key (suc place) rest) ≡ Unknown at
        → (sought k key (suc place) rest ≡ Unknown at → Contains rest at × (told k at ≡ None)) → Contains (x ∷ rest) at × (told k at ≡ None)
    by None tells is go = let same : x ≡ at = cc in (subst (Contains (x ∷ rest)) same (Contains-first x rest), ap (told k) (sym same) ∙ tells)
    by (Some own) tells is go = choose own (is_key key own) is go

is-unknown : (s : Sought) (at : ℕ) → asked_for s ≡ Some at → s ≡ Unknown at
is-unknown (Here found) at is = absurd (none-some at is)
is-unknown Nowhere at is = absurd (none-some at is)
is-unknown (Unknown n) at is = ap Unknown (same_Some n at is)

-- Once it is told, fewer are unknown.

module _ (at : ℕ) (key : Option Bytes) (a b : Knowledge) (learns : Learns at key a b) where
  now-told : told b at ≡ Some key
  now-told = ap (λ o. option_or o (option_map Some (b.cached at))) learns.here

  else-same : (n : ℕ) → (n ≡ at → ⊥) → told b n ≡ told a n
  else-same n other = ap (λ o. option_or o (option_map Some (b.cached n))) (learns.others n other) ∙ ap (λ o. option_or (a.hinted n) (option_map Some o)) (learns.cache n)

  abbrev tick : Knowledge → ℕ → ℕ
  tick k n = cond (is_none (told k n)) 1 0

  tick-less : (n : ℕ) → tick b n ≤ tick a n
  tick-less n = by (cases_eq n at)
    where
      by : (n ≡ at) ⊎ (n ≡ at → ⊥) → tick b n ≤ tick a n
      by (inl same) = let e : tick b n ≡ 0 = ap (λ o. cond (is_none o) 1 0) (ap (told b) same ∙ now-told) in omega (arith, e)
      by (inr other) = let e : tick b n ≡ tick a n = ap (λ o. cond (is_none o) 1 0) (else-same n other) in omega (arith, e)

  unknown-less : (bucket : List ℕ) → unknown b bucket ≤ unknown a bucket
  unknown-less [] = omega arith
  unknown-less (x ∷ xs) =
      let later = unknown-less xs in
      let first = tick-less x in
      let one : unknown a (x ∷ xs) ≡ tick a x + unknown a xs = sum_by-cons (tick a) x xs in
      let two : unknown b (x ∷ xs) ≡ tick b x + unknown b xs = sum_by-cons (tick b) x xs in
      omega (arith, later, first, one, two)

  fewer-unknown : (bucket : List ℕ) → Contains bucket at → told a at ≡ None → unknown b bucket < unknown a bucket
  fewer-unknown [] (i, below, is) none = absurd (omega (arith, below))
  fewer-unknown (x ∷ xs) inside none = by (first_or_later x xs at inside) (fewer-unknown xs)
    where
      one : unknown a (x ∷ xs) ≡ tick a x + unknown a xs
      one = sum_by-cons (tick a) x xs

      two : unknown b (x ∷ xs) ≡ tick b x + unknown b xs
      two = sum_by-cons (tick b) x xs

      by : (x ≡ at) ⊎ Contains xs at → (Contains xs at → told a at ≡ None → unknown b xs < unknown a xs) → unknown b (x ∷ xs) < unknown a (x ∷ xs)
      by (inl same) go =
          let was : tick a x ≡ 1 = ap (λ o. cond (is_none o) 1 0) (ap (told a) same ∙ none) in
          let now : tick b x ≡ 0 = ap (λ o. cond (is_none o) 1 0) (ap (told b) same ∙ now-told) in
          let rest = unknown-less xs in
          omega (arith, was, now, rest, one, two)
      by (inr later) go = let rest = go later none in let first = tick-less x in omega (arith, rest, first, one, two)

  -- what a worker has left then
  left-told-by : (index_key : Bytes → ℕ) (entries : List (ℕ × List ℕ)) (ms : List Move) → asked_for (front_sought index_key entries a ms) ≡ Some at → left_by index_key entries b ms < left_by index_key entries a ms
  left-told-by index_key entries [] is = absurd (none-some at is)
  left-told-by index_key entries (m ∷ ms) is =
      let bucket = bucket_at entries (index_key m.key) in
      let here = asked-unknown a m.key 0 bucket at (is-unknown (sought a m.key 0 bucket) at is) in
      let fewer = fewer-unknown bucket here.0 here.1 in
      omega (arith, fewer)

pub left-told : (index_key : Bytes → ℕ) (at : ℕ) (key : Option Bytes) (old new : Work) → IsTold at key old new → asked index_key old ≡ Some at → left_of index_key new < left_of index_key old
left-told index_key at key old new tells is =
    let less = left-told-by at key old.known new.known tells.learns index_key old.entries old.coming is in
    let same = ap (left_of index_key) tells.same in
    omega (arith, less, same)

-- it is within the bounds of the index
pub asked-within : (index_key : Bytes → ℕ) (from to : ℕ) (w : Work) (at : ℕ) → IsWithin from to w → asked index_key w ≡ Some at → (from ≤ at) × (at < to)
asked-within index_key from to w at within is = by w.coming is
  where
    by : (ms : List Move) → asked_for (front_sought index_key w.entries w.known ms) ≡ Some at → (from ≤ at) × (at < to)
    by [] is = absurd (none-some at is)
    by (m ∷ ms) is =
        let bucket = bucket_at w.entries (index_key m.key) in
        let here = asked-unknown w.known m.key 0 bucket at (is-unknown (sought w.known m.key 0 bucket) at is) in
        All-contains (λ n. (from ≤ n) × (n < to)) bucket at (within.standing (index_key m.key)) here.0

-- what it has done stays done, if it was told what is true
pub done-told : (index_key : Bytes → ℕ) (ops : List Operation) (final : Places) (most : ℕ) (at : ℕ) (key : Option Bytes) (old new : Work) → IsTold at key old new → key_at ops at ≡ key → HasDone index_key ops final most old → HasDone index_key ops final most new
done-told index_key ops final most at key old new tells own has =
    subst (HasDone index_key ops final most) (sym tells.same) (record {
      places = has.places;
      indexed = has.indexed;
      located = has.located;
      apart = has.apart;
      stand = has.stand;
      counted = has.counted;
      few = has.few;
      rest = has.rest;
      coming = has.coming;
      known = learned-true ops at key old.known new.known tells.learns own has.known;
    })

pub within-told : (from to at : ℕ) (key : Option Bytes) (old new : Work) → IsTold at key old new → IsWithin from to old → IsWithin from to new
within-told from to at key old new tells within = subst (IsWithin from to) (sym tells.same) (record { standing = within.standing; located = within.located; coming = within.coming })

-- An operation more to do.

after-last : (ps : Places) (ms : List Move) (m : Move) → after ps (ms ++ m ∷ []) ≡ moved (after ps ms) m.key (then_some m.is_update m.at)
after-last ps [] m = refl
after-last ps (n ∷ ms) m = after-last (moved ps n.key (then_some n.is_update n.at)) ms m

last-of : (P : Move → Type 0) (ms : List Move) (m : Move) → ((n : Move) → Contains ms n → P n) → P m → (n : Move) → Contains (ms ++ m ∷ []) n → P n
last-of P ms m all own n inside = by (Contains-append_cases ms (m ∷ []) n inside)
  where
    one : (m ≡ n) ⊎ Contains [] n → P n
    one (inl same) = subst P same own
    one (inr (i, below, is)) = absurd (omega (arith, below))

    by : Contains ms n ⊎ Contains (m ∷ []) n → P n
    by (inl old) = all n old
    by (inr new) = one (first_or_later m [] n new)

pub done-last : (index_key : Bytes → ℕ) (ops : List Operation) (final : Places) (most : ℕ) (w : Work) (m : Move) → HasDone index_key ops final most w → (m.is_update ≡ true → key_at ops m.at ≡ Some m.key)
    → HasDone index_key ops (moved final m.key (then_some m.is_update m.at)) (suc most) (with_last m w)
done-last index_key ops final most w m has own =
    let few = has.few in
    let long = length-append w.coming (m ∷ []) in
    record {
      places = has.places;
      indexed = has.indexed;
      located = has.located;
      apart = has.apart;
      stand = has.stand;
      counted = has.counted;
      few = omega (arith, few, long);
      rest = after-last has.places w.coming m ∙ ap (λ ps. moved ps m.key (then_some m.is_update m.at)) has.rest;
      coming = last-of (λ n. n.is_update ≡ true → key_at ops n.at ≡ Some n.key) w.coming m has.coming own;
      known = has.known;
    }

pub within-last : (from to : ℕ) (w : Work) (m : Move) → IsWithin from to w → (from ≤ m.at) × (m.at < to) → IsWithin from to (with_last m w)
within-last from to w m within here = record { standing = within.standing; located = within.located; coming = last-of (λ n. (from ≤ n.at) × (n.at < to)) w.coming m within.coming here }

-- the key of an update is its key
pub key-update : (op : Operation) → is_update op ≡ true → key_of op ≡ update_key op
key-update (update k v n) is = refl
key-update (delete k) is = cc
key-update (commit m f) is = cc
