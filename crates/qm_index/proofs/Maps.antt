-- Buckets from which a value goes.
use Rattle.std.proofs.Common.{◌≡◌, ◌≢◌, ◌<◌, ◌≤◌, refl, ap, arith, sym, ℕ, List, [], ◌∷◌, ◌++◌, length, length-append}
use Rattle.std.specs.List.{remove}
use Rattle.std.proofs.lemmas.List.Edits.{length-remove}
use Rattle.qm_index.specs.Held.{values_in, IsHeld}
use Rattle.qm_index.specs.declared.bucket.Held.{Held}
use Rattle.qm_index.specs.declared.bucket.Held.TheVariants.{One, More}

-- several values without one are not none
pub remove_filled : {V : Type 0} (values : List V) (i : ℕ) → i < length values → 1 < length values → remove values i ≢ []
remove_filled values i place several = λ none. let gone : length (remove values i) ≡ 0 = ap length none in absurd (omega (arith, length-remove values i place, gone, several))

-- one value without itself is none
pub remove_last : {V : Type 0} (values : List V) (i : ℕ) → i < length values → length values ≤ 1 → remove values i ≡ []
remove_last values i place one = none (remove values i) (omega (arith, length-remove values i place, one))
  where
    none : {V : Type 0} (left : List V) → length left ≡ 0 → left ≡ []
    none [] h = refl
    none (x ∷ left) h = absurd (cc)

-- the last of one value
pub only-last : {V : Type 0} (front all : List V) (x : V) → all ≡ front ++ x ∷ [] → length all ≡ 1 → x ∷ [] ≡ all
only-last [] all x is one = sym is
only-last (y ∷ ys) all x is one = let more = ap length is in absurd (omega (arith, one, more, length-append ys (x ∷ [])))

-- a bucket has a value
pub held-some : {V : Type 0} (held : Held V) → IsHeld held → values_in held ≢ []
held-some (One v) is = λ none. cc
held-some (More vs) is = λ none. let no = ap length none in absurd (omega (arith, is, no))
