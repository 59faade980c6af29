-- Places of a list.
use Rattle.std.proofs.Common.{◌≡◌, ℕ, zero, suc, ◌+◌, ◌≤◌, List, [], ◌∷◌, length, drop, ap, ◌∙◌, Some, None, arith}
use Rattle.std.specs.Prelude.{slice_get}
use Rattle.std.proofs.lemmas.List.{drop_more}
use Rattle.std.proofs.lemmas.Option.{slice_get_within, get_or_from_slice_get}

pub none-past : {X : Type 0} (xs : List X) (i : ℕ) → slice_get xs i ≡ None → length xs ≤ i
none-past [] i h = omega arith
none-past (x ∷ xs) zero h = cc
none-past (x ∷ xs) (suc i) h = omega (arith, none-past xs i h)

-- the operation at a place, before the others
pub drop-here : {X : Type 0} (list : List X) (at : ℕ) (op : X) → slice_get list at ≡ Some op → drop at list ≡ op ∷ drop (at + 1) list
drop-here list at op is = drop_more list at op (slice_get_within list at op is) ∙ ap (λ z. z ∷ drop (at + 1) list) (get_or_from_slice_get list at op op is)
