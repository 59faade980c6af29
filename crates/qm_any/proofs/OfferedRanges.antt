-- No range has more pairs than keys are live, so what as many steps of a scan gave is all of it.
use Rattle.std.proofs.Common.{◌≡◌, ◌≤◌, refl, ap, suc, arith, Bool, true, false, ◌&&◌, List, [], ◌∷◌, ◌++◌, length, map, Option, Some, None}
use Rattle.std.specs.Prelude.{cond, filter, filter_map, option_map}
use Rattle.std.specs.List.{cons_option}
use Rattle.std.proofs.lemmas.List.{length-map}
use Rattle.std.proofs.lemmas.List.Sorted.{length_permutation}
use Rattle.qm_model.specs.Operations.{Bytes, Operation}
use Rattle.qm_model.specs.Live.{live, live_keys, value_of}
use Rattle.qm_model.specs.Keys.{by_key}
use Rattle.qm_model.specs.Ranges.{Limit, is_after, is_before, keys_in, pairs_in}
use Rattle.qm_model.proofs.KeySorts.{by_key-permutation}

filter-few : {X : Type 0} (p : X → Bool) (xs : List X) → length (filter p xs) ≤ length xs
filter-few p [] = omega arith
filter-few p (x ∷ xs) = by (p x) (filter-few p xs)
  where
    by : (t : Bool) → length (filter p xs) ≤ length xs → length (cond t (x ∷ filter p xs) (filter p xs)) ≤ suc (length xs)
    by true later = omega (arith, later)
    by false later = omega (arith, later)

filter_map-few : {X Y : Type 0} (f : X → Option Y) (xs : List X) → length (filter_map f xs) ≤ length xs
filter_map-few f [] = omega arith
filter_map-few {Y = Y} f (x ∷ xs) = by (f x) (filter_map-few f xs)
  where
    by : (o : Option Y) → length (filter_map f xs) ≤ length xs → length (cons_option o (filter_map f xs)) ≤ suc (length xs)
    by (Some y) later = omega (arith, later)
    by None later = omega (arith, later)

-- a range has no more pairs than keys are live
pub few-pairs : (low high : Limit) (list : List Operation) → length (pairs_in low high list) ≤ length (live list)
few-pairs low high list =
    let keys = live_keys list in
    let pairs = filter_map-few {Y = Bytes × Bytes} (λ k. option_map (λ v. (k, v)) (value_of list k)) (keys_in low high list) in
    let within = filter-few (λ k. is_after low k && is_before high k) (by_key keys) in
    let sorted = length_permutation keys (by_key keys) (by_key-permutation keys) in
    let each = length-map (live list) (λ e. e.key) in
    omega (arith, pairs, within, sorted, each)

-- one more of them
pub one-more : {X Y : Type 0} (view : X → Y) (items : List X) (x : X) (rest : List Y) → map view items ++ view x ∷ rest ≡ map view (items ++ x ∷ []) ++ rest
one-more view [] x rest = refl
one-more view (item ∷ items) x rest = ap (λ ys. view item ∷ ys) (one-more view items x rest)
