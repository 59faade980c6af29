-- The locations that a walk over a list looks at.
use Rattle.std.specs.Prelude.{◌≡◌, ℕ, ◌-◌, ◌≤◌, max, Bool, true, List, ◌++◌, length, slice_index_or}
use Rattle.std.specs.List.{filter, range_with_len}

-- a location may hold a live update if its bit is set, and if it has none yet
abbrev pub is_candidate : List Bool → ℕ → Bool
is_candidate bits at = slice_index_or bits at true

-- the candidates from `floor` up to, and without, `tip`
unfoldable pub candidates : List Bool → ℕ → ℕ → List ℕ
candidates bits floor tip = filter (is_candidate bits) (range_with_len floor (tip - floor))

-- the candidates from `floor` up to `next` were appended to a list, and it got no longer than the limit by that
pub record IsFilled (bits : List Bool) (floor tip limit : ℕ) (old new : List ℕ) (next : ℕ) : Type 0 where
  pub found : new ≡ old ++ candidates bits floor next
  pub from : floor ≤ next
  pub to : next ≤ max floor tip
  pub room : length new ≤ max limit (length old)
