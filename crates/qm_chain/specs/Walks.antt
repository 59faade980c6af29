-- Where a walk can come to.
use Rattle.std.specs.Prelude.{ℕ, zero, suc, ◌+◌, ◌-◌, nat_le, if◌then◌else◌, List, [], ◌∷◌, ◌≤◌, ⊤}

-- how many of these locations, which ascend from `floor` on, a walk comes to that decides each of them, with so many
-- entries and skips left
abbrev pub reachable_from : ℕ → ℕ → ℕ → List ℕ → ℕ
reachable_from floor entries skips [] = 0
reachable_from floor zero skips (at ∷ later) = 0
reachable_from floor (suc entries) skips (at ∷ later) =
    if nat_le (at - floor) skips then suc (reachable_from (at + 1) entries (skips - (at - floor)) later) else 0

-- these locations ascend, from `floor` on
abbrev pub IsRising : ℕ → List ℕ → Type 0
IsRising floor [] = ⊤
IsRising floor (at ∷ later) = (floor ≤ at) × IsRising (at + 1) later
