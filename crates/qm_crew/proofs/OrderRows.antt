-- Worked orders of marks.
use Rattle.std.specs.Prelude.{◌≡◌, ℕ, refl, List, [], ◌∷◌}
use Rattle.qm_crew.specs.Orders.{after, begun}

-- two workers, of which both mark 5
abbrev lists : List (List ℕ)
lists = (3 ∷ 5 ∷ []) ∷ (5 ∷ 70 ∷ []) ∷ []

by_turns : (after (0 ∷ 1 ∷ 0 ∷ 1 ∷ []) (begun lists)).marked ≡ 3 ∷ 5 ∷ 5 ∷ 70 ∷ []
by_turns = refl

the_second_first : (after (1 ∷ 1 ∷ 0 ∷ 0 ∷ []) (begun lists)).marked ≡ 5 ∷ 70 ∷ 3 ∷ 5 ∷ []
the_second_first = refl

nothing_is_left : (after (1 ∷ 1 ∷ 0 ∷ 0 ∷ []) (begun lists)).left ≡ [] ∷ [] ∷ []
nothing_is_left = refl

-- a worker that has nothing left, or is none, marks nothing
no_more : (after (0 ∷ 0 ∷ 0 ∷ 2 ∷ []) (begun lists)).marked ≡ 3 ∷ 5 ∷ []
no_more = refl
