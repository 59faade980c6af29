-- The places of a crew, and what its words are in the end.
use Rattle.std.proofs.Common.{◌≡◌, ◌↔◌, ℕ, zero, suc, ◌+◌, ◌*◌, ◌<◌, List, [], ◌∷◌, ◌++◌, length, refl, sym, subst, arith}
use mathlib.Core.Option.{some, some-ne-none, some-injective}
use lib.ListN.{get_elem?}
use Rattle.std.specs.Prelude.{slice_index, slice_index_or, Contains, All, take, drop}
use Rattle.qm_crew.proofs.Times.{times, times_from, times_to, sum_times, any_from, any_to}
use Rattle.qm_crew.specs.Crews.{AreFrom, AreUnion, places_of}
use Rattle.qm_crew.specs.Views.{IsSet}
use Rattle.qm_crew.specs.declared.crew.Marker.{Marker}

pub are_from : (xs : List ℕ) (ls : List (List ℕ)) → ((p : ℕ) → times p xs ≡ sum_times p ls) → AreFrom xs ls
are_from xs ls same p = let e = same p in ((λ has. let t = times_from p xs has in any_from p ls (omega arith)), (λ any. let t = any_to p ls any in times_to p xs (omega arith)))

pub copied : (bits ws : List ℕ) (word : ℕ) → get_elem? ws word ≡ some (slice_index bits word) → slice_index bits word ≡ slice_index ws word
copied bits [] word e = absurd (some-ne-none _ (sym e))
copied bits (x ∷ xs) zero e = sym (some-injective _ _ e)
copied bits (x ∷ xs) (suc word) e = reads xs word (slice_index bits (suc word)) e
  where
    reads : (l : List ℕ) (i a : ℕ) → get_elem? l i ≡ some a → a ≡ slice_index l i
    reads [] i a e = absurd (some-ne-none a (sym e))
    reads (y ∷ ys) zero a e = sym (some-injective y a e)
    reads (y ∷ ys) (suc i) a e = reads ys i a e

pub no_sum : (p : ℕ) (ws : List Marker) → length ws ≡ 0 → sum_times p (places_of ws) ≡ 0
no_sum p [] e = refl
no_sum p (w ∷ ws) e = absurd (omega arith)

pub same_places : (xs ys : List Marker) → length ys ≡ length xs → ((i : ℕ) (d : Marker) → i < length xs → (slice_index_or ys i d).places.items ≡ (slice_index_or xs i d).places.items) → places_of ys ≡ places_of xs
same_places [] [] len same = refl
same_places [] (y ∷ ys) len same = absurd (omega arith)
same_places (x ∷ xs) [] len same = absurd (omega arith)
same_places (x ∷ xs) (y ∷ ys) len same = λ k. same 0 x (omega arith) k ∷ same_places xs ys (omega arith) (λ i d below. same (suc i) d (omega arith)) k

-- what a slice that is lent whole leaves of a vector
pub written : {X : Type 0} (n : ℕ) (xs ys : List X) → length xs ≡ n → length ys ≡ n → take n (xs ++ drop (length xs) ys) ≡ xs
written zero [] [] e f = refl
written zero [] (y ∷ ys) e f = absurd (omega arith)
written zero (x ∷ xs) ys e f = absurd (omega arith)
written (suc n) [] ys e f = absurd (omega arith)
written (suc n) (x ∷ xs) [] e f = absurd (omega arith)
written (suc n) (x ∷ xs) (y ∷ ys) e f = λ k. x ∷ written n xs ys (omega arith) (omega arith) k

pub all_middle : {X : Type 0} (P : X → Type 0) (ys : List X) (x : X) (zs xs : List X) → ys ++ x ∷ zs ≡ xs → All P xs → P x
all_middle {X = X} P ys x zs xs e all = go ys (subst (λ l. All P l) (sym e) all)
  where
    go : (ys : List X) → All P (ys ++ x ∷ zs) → P x
    go [] a = a 0 x (omega arith)
    go (w ∷ ws) a = go ws (λ k d below. a (suc k) d (omega arith))

pub are_union : (words marks : List ℕ) (ls : List (List ℕ)) → ((word bit : ℕ) → word < length words → bit < 64 → IsSet words word bit ↔ Contains marks (64 * word + bit)) → AreFrom marks ls → AreUnion words ls
are_union words marks ls bits from word bit below small =
    let b = bits word bit below small in
    let f = from (64 * word + bit) in
    ((λ is. f.0 (b.0 is)), (λ any. b.1 (f.1 any)))
