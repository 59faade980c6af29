-- Worked neighbours.
use Rattle.std.specs.Prelude.{ℕ, ◌≡◌, refl, true, false, [], ◌∷◌, None, Some}
use Rattle.qm_index.specs.Translated.{capped}
use Rattle.qm_index.specs.Neighbours.{least_key, greatest_key, next_key, prev_key, neighbour_at, next_by_index, prev_by_index, first_by_index}

none_of_none : (next_key [] 5 ≡ None) × (prev_key [] 5 ≡ None) × (least_key [] ≡ None) × (greatest_key [] ≡ None)
none_of_none = (refl, refl, refl, refl)

alone : (next_key (5 ∷ []) 5 ≡ Some (5, true)) × (prev_key (5 ∷ []) 5 ≡ Some (5, true)) × (next_key (5 ∷ []) 4 ≡ Some (5, false)) × (prev_key (5 ∷ []) 4 ≡ Some (5, true))
alone = (refl, refl, refl, refl)

inside : (next_key (7 ∷ 2 ∷ 9 ∷ 5 ∷ []) 5 ≡ Some (7, false)) × (prev_key (7 ∷ 2 ∷ 9 ∷ 5 ∷ []) 5 ≡ Some (2, false)) × (next_key (7 ∷ 2 ∷ 9 ∷ 5 ∷ []) 6 ≡ Some (7, false)) × (prev_key (7 ∷ 2 ∷ 9 ∷ 5 ∷ []) 6 ≡ Some (5, false))
inside = (refl, refl, refl, refl)

wrapped : (next_key (7 ∷ 2 ∷ 9 ∷ 5 ∷ []) 9 ≡ Some (2, true)) × (prev_key (7 ∷ 2 ∷ 9 ∷ 5 ∷ []) 2 ≡ Some (9, true)) × (least_key (7 ∷ 2 ∷ 9 ∷ 5 ∷ []) ≡ Some 2) × (greatest_key (7 ∷ 2 ∷ 9 ∷ 5 ∷ []) ≡ Some 9)
wrapped = (refl, refl, refl, refl)

buckets : neighbour_at {V = ℕ} ((7, 1 ∷ []) ∷ (2, 3 ∷ 4 ∷ []) ∷ []) (next_key (7 ∷ 2 ∷ []) 7) ≡ Some (3 ∷ 4 ∷ [], true)
buckets = refl

-- keys by their first byte: two in one bucket, one in another
in_its_own_bucket : (next_by_index (capped 1) (97 ∷ 98 ∷ []) ((97 ∷ 2 ∷ []) ∷ (98 ∷ []) ∷ (97 ∷ 1 ∷ []) ∷ []) (97 ∷ 1 ∷ []) ≡ Some (97 ∷ 2 ∷ []))
    × (prev_by_index (capped 1) (97 ∷ 98 ∷ []) ((97 ∷ 2 ∷ []) ∷ (98 ∷ []) ∷ (97 ∷ 1 ∷ []) ∷ []) (97 ∷ 2 ∷ []) ≡ Some (97 ∷ 1 ∷ []))
in_its_own_bucket = (refl, refl)

in_the_neighbour : (next_by_index (capped 1) (97 ∷ 98 ∷ []) ((97 ∷ 2 ∷ []) ∷ (98 ∷ []) ∷ (97 ∷ 1 ∷ []) ∷ []) (98 ∷ []) ≡ Some (97 ∷ 1 ∷ []))
    × (prev_by_index (capped 1) (97 ∷ 98 ∷ []) ((97 ∷ 2 ∷ []) ∷ (98 ∷ []) ∷ (97 ∷ 1 ∷ []) ∷ []) (98 ∷ []) ≡ Some (97 ∷ 2 ∷ []))
    × (first_by_index (capped 1) (97 ∷ 98 ∷ []) ((97 ∷ 2 ∷ []) ∷ (98 ∷ []) ∷ (97 ∷ 1 ∷ []) ∷ []) ≡ Some (97 ∷ 1 ∷ []))
in_the_neighbour = (refl, refl, refl)
