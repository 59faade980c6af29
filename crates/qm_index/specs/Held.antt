-- The values of a bucket, from how they are held.
use Rattle.std.specs.Prelude.{◌≤◌, List, [], ◌∷◌, length, ⊤}
use Rattle.qm_index.specs.declared.bucket.Held.{Held}
use Rattle.qm_index.specs.declared.bucket.Held.TheVariants.{One, More}

-- its values in order
abbrev pub values_in : {V : Type 0} → Held V → List V
values_in (One v) = v ∷ []
values_in (More vs) = vs.items

-- only two and more have a vector
abbrev pub IsHeld : {V : Type 0} → Held V → Type 0
IsHeld (One v) = ⊤
IsHeld (More vs) = 2 ≤ length vs.items
