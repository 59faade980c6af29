-- What stands live at a location of a base list with more operations at its end.
use Rattle.std.proofs.Common.{◌≡◌, ℕ, zero, suc, ◌+◌, ◌-◌, ◌≤◌, ◌<◌, Bool, true, false, List, [], ◌∷◌, ◌++◌, length, take, drop, refl, ap, ap₂, sym, ◌∙◌, Option, Some, None, arith, ◌||◌}
use Rattle.std.specs.Prelude.{not, slice_get, option_map, option_and_then, if◌then◌else◌}
use Rattle.std.proofs.lemmas.List.{drop_at, drop-append-le, drop-drop, take-append-drop, length-take}
use Rattle.std.proofs.lemmas.List.Folds.{list_any-append}
use Rattle.std.proofs.lemmas.Option.{slice_get_within}
use Rattle.qm_model.specs.Operations.{Bytes, Operation, update, delete, commit}
use Rattle.qm_model.specs.Live.{live_at, touches, touched}
use Rattle.qm_step.specs.Changes.{stands_at, update_at, update_from, said_by}
use Rattle.qm_step.specs.Touches.{live_update_at, is_there}
use Rattle.qm_step.proofs.PlanLists.{there-touched}
use Rattle.qm_step.proofs.PlanWalks.{drop-here}
use Rattle.std.proofs.Math.Bool.{or-true}

-- an update, if nothing after it touches its key
abbrev pub unless_touched : List Operation → Operation → Option Operation
unless_touched rest (update k v n) = if touched k rest then None else Some (update k v n)
unless_touched rest (delete k) = None
unless_touched rest (commit m f) = None

update-at : (at : ℕ) (op : Operation) (rest : List Operation) → option_map update_from (live_at at op rest) ≡ option_and_then (unless_touched rest) (said_by op)
update-at at (update k v n) rest = by (touched k rest)
  where
    by : (t : Bool) → option_map update_from (if t then None else Some (record { location = at; key = k; value = v; next = n })) ≡ (if t then None else Some (update k v n))
    by true = refl
    by false = refl
update-at at (delete k) rest = refl
update-at at (commit m f) rest = refl

-- the live update at a location is the update there, if nothing after it touches its key
pub live_update-update : (list : List Operation) (at : ℕ) → live_update_at list at ≡ option_and_then (unless_touched (drop (at + 1) list)) (update_at list at)
live_update-update list at = by (slice_get list at)
  where
    by : (o : Option Operation) → option_and_then (λ op. option_map update_from (live_at at op (drop (at + 1) list))) o ≡ option_and_then (unless_touched (drop (at + 1) list)) (option_and_then said_by o)
    by None = refl
    by (Some op) = update-at at op (drop (at + 1) list)

pub update-here : (list : List Operation) (at : ℕ) (op : Operation) → update_at list at ≡ Some op → slice_get list at ≡ Some op
update-here list at op h = by (slice_get list at) h
  where
    by : (o : Option Operation) → option_and_then said_by o ≡ Some op → o ≡ Some op
    by None h = cc
    by (Some (update k v n)) h = h
    by (Some (delete k)) h = cc
    by (Some (commit m f)) h = cc

module _ (list : List Operation) (at : ℕ) (op : Operation) (is : slice_get list at ≡ Some op) where
  pub split-here : take at list ++ op ∷ drop (at + 1) list ≡ list
  split-here = ap (λ rest. take at list ++ rest) (sym (drop-here list at op is)) ∙ take-append-drop at list

  pub front-long : length (take at list) ≡ at
  front-long = omega (arith, length-take at list, slice_get_within list at op is)

-- the key of an update stands there if nothing after it touches the key
pub there-here : (list : List Operation) (at : ℕ) (k v : Bytes) (n : Option Bytes) → update_at list at ≡ Some (update k v n) → is_there (stands_at list k) at ≡ not (touched k (drop (at + 1) list))
there-here list at k v n h =
    let op = update k v n in
    let here = update-here list at op h in
    ap₂ (λ ops i. is_there (stands_at ops k) i) (sym (split-here list at op here)) (sym (front-long list at op here))
    ∙ there-touched (take at list) k v n (drop (at + 1) list) (touched k (drop (at + 1) list)) refl

pub slice_get-front : {X : Type 0} (xs ys : List X) (i : ℕ) → i < length xs → slice_get (xs ++ ys) i ≡ slice_get xs i
slice_get-front [] ys i h = absurd (omega (arith, h))
slice_get-front (x ∷ xs) ys zero h = refl
slice_get-front (x ∷ xs) ys (suc i) h = slice_get-front xs ys i (omega (arith, h))

pub slice_get-behind : {X : Type 0} (xs ys : List X) (i : ℕ) → length xs ≤ i → slice_get (xs ++ ys) i ≡ slice_get ys (i - length xs)
slice_get-behind [] ys i h = ap (slice_get ys) (omega arith)
slice_get-behind (x ∷ xs) ys zero h = absurd (omega (arith, h))
slice_get-behind (x ∷ xs) ys (suc i) h = slice_get-behind xs ys i (omega (arith, h)) ∙ ap (slice_get ys) (omega arith)

module _ (base made : List Operation) (at : ℕ) where
  -- below the size of the base list: a live update of the base list that the others don't touch
  module _ (within : at < length base) where
    front-said : live_update_at (base ++ made) at ≡ option_and_then (unless_touched (drop (at + 1) base ++ made)) (update_at base at)
    front-said =
        live_update-update (base ++ made) at
        ∙ ap₂ (λ rest o. option_and_then (unless_touched rest) (option_and_then said_by o)) (drop-append-le (at + 1) base made (omega arith)) (slice_get-front base made at within)

    pub front-none : None ≡ update_at base at → None ≡ live_update_at (base ++ made) at
    front-none none = sym (front-said ∙ ap (option_and_then (unless_touched (drop (at + 1) base ++ made))) (sym none))

    module _ (k v : Bytes) (n : Option Bytes) (is : update_at base at ≡ Some (update k v n)) where
      pub front-is : live_update_at (base ++ made) at ≡ (if touched k (drop (at + 1) base) || touched k made then None else Some (update k v n))
      front-is =
          front-said ∙ ap (option_and_then (unless_touched (drop (at + 1) base ++ made))) is
          ∙ ap (λ t. if t then None else Some (update k v n)) (list_any-append (touches k) (drop (at + 1) base) made)

      pub front-touched : touched k made ≡ true → None ≡ live_update_at (base ++ made) at
      front-touched h = sym (front-is ∙ ap (λ t. if t then None else Some (update k v n)) (ap (λ b. touched k (drop (at + 1) base) || b) h ∙ or-true (touched k (drop (at + 1) base))))

      not-back : (t : Bool) → not t ≡ false → t ≡ true
      not-back true h = refl
      not-back false h = cc

      not-forth : (t : Bool) → not t ≡ true → t ≡ false
      not-forth false h = refl
      not-forth true h = cc

      pub behind-touched : is_there (stands_at base k) at ≡ false → touched k (drop (at + 1) base) ≡ true
      behind-touched h = not-back (touched k (drop (at + 1) base)) (sym (there-here base at k v n is) ∙ h)

      pub front-gone : is_there (stands_at base k) at ≡ false → None ≡ live_update_at (base ++ made) at
      front-gone h = sym (front-is ∙ ap (λ t. if t || touched k made then None else Some (update k v n)) (behind-touched h))

      pub front-live : is_there (stands_at base k) at ≡ true → touched k made ≡ false → Some (update k v n) ≡ live_update_at (base ++ made) at
      front-live h free =
          sym (front-is ∙ ap₂ (λ a b. if a || b then None else Some (update k v n)) (not-forth (touched k (drop (at + 1) base)) (sym (there-here base at k v n is) ∙ h)) free)

  -- from there on: an update among the others whose key no later one touches
  module _ (past : length base ≤ at) where
    pub behind-said : live_update_at (base ++ made) at ≡ option_and_then (unless_touched (drop (at - length base + 1) made)) (update_at made (at - length base))
    behind-said =
        let place : at + 1 ≡ length base + (at - length base + 1) = omega (arith, past) in
        let rest : drop (at + 1) (base ++ made) ≡ drop (at - length base + 1) made =
        ap (λ n. drop n (base ++ made)) place ∙ sym (drop-drop (at - length base + 1) (length base) (base ++ made)) ∙ ap (drop (at - length base + 1)) (drop_at base made (length base) refl) in
        live_update-update (base ++ made) at ∙ ap₂ (λ rest o. option_and_then (unless_touched rest) (option_and_then said_by o)) rest (slice_get-behind base made at past)
