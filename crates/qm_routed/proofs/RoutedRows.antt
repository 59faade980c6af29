-- Worked parts.
use Rattle.std.specs.Prelude.{◌≡◌, true, false, bytes_eq, refl, [], ◌∷◌, map, None}
use Rattle.qm_model.specs.Operations.{Bytes, update, delete, commit}
use Rattle.qm_routed.specs.Routed.{Routed, located, routed, places_routed, begin_of, owner_of, owners, has_partition}

abbrev a : Bytes
a = 97 ∷ []

abbrev b : Bytes
b = 98 ∷ []

-- two keys, of which the one is updated twice and the other deleted and made again, from location 5 on
abbrev all : Routed
all = located 5 (update a [] None ∷ update b [] None ∷ delete b ∷ update a [] None ∷ update b [] None ∷ commit None 5 ∷ [])

one_part : routed (bytes_eq a) all ≡ (5, update a [] None) ∷ (8, update a [] None) ∷ []
one_part = refl

its_places : places_routed (routed (bytes_eq a) all) ≡ (a, 8) ∷ []
its_places = refl

all_places : places_routed all ≡ (a, 8) ∷ (b, 9) ∷ []
all_places = refl

-- three workers of 256 partitions
begins : map (begin_of 256 3) (0 ∷ 1 ∷ 2 ∷ 3 ∷ []) ≡ 0 ∷ 85 ∷ 170 ∷ 256 ∷ []
begins = refl

whose : map (owner_of 256 3) (0 ∷ 84 ∷ 85 ∷ 169 ∷ 170 ∷ 255 ∷ []) ≡ 0 ∷ 0 ∷ 1 ∷ 1 ∷ 2 ∷ 2 ∷ []
whose = refl

once : (owners 256 3 85 3 ≡ 1) × (map (λ w. has_partition 256 3 w 85) (0 ∷ 1 ∷ 2 ∷ []) ≡ false ∷ true ∷ false ∷ [])
once = (refl, refl)

-- as many workers as partitions
each_its_own : map (owner_of 4 4) (0 ∷ 1 ∷ 2 ∷ 3 ∷ []) ≡ 0 ∷ 1 ∷ 2 ∷ 3 ∷ []
each_its_own = refl
