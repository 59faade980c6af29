-- Worked caches.
use Rattle.std.specs.Prelude.{◌≡◌, ℕ, ◌+◌, refl, List, [], ◌∷◌, map, Some, None}
use Rattle.qm_build.specs.Cached.{Cached, empty_cache, sets_of, ways_of, set_of, given, put, removed}

abbrev putting : Cached ℕ → List ℕ → Cached ℕ
putting c [] = c
putting c (at ∷ ats) = putting (put c at (at + 1000)) ats

abbrev sixteen : Cached ℕ
sixteen = putting (empty_cache 16) (0 ∷ 1 ∷ 2 ∷ 3 ∷ 4 ∷ 5 ∷ 6 ∷ 7 ∷ 8 ∷ 9 ∷ 10 ∷ 11 ∷ 12 ∷ 13 ∷ 14 ∷ 15 ∷ [])

the_smallest_leaves : (given (put sixteen 100 1100) 0 ≡ None)
    × (map (given (put sixteen 100 1100)) (1 ∷ 2 ∷ 3 ∷ 4 ∷ 5 ∷ 6 ∷ 7 ∷ 8 ∷ 9 ∷ 10 ∷ 11 ∷ 12 ∷ 13 ∷ 14 ∷ 15 ∷ 100 ∷ [])
    ≡ Some 1001 ∷ Some 1002 ∷ Some 1003 ∷ Some 1004 ∷ Some 1005 ∷ Some 1006 ∷ Some 1007 ∷ Some 1008 ∷ Some 1009 ∷ Some 1010
    ∷ Some 1011 ∷ Some 1012 ∷ Some 1013 ∷ Some 1014 ∷ Some 1015 ∷ Some 1100 ∷ [])
unfolding set_of
the_smallest_leaves = (refl, refl)

room_after_a_remove : map (given (put (removed sixteen 3) 100 1100)) (0 ∷ 3 ∷ 100 ∷ []) ≡ Some 1000 ∷ None ∷ Some 1100 ∷ []
unfolding set_of
room_after_a_remove = refl

only_one : (putting (empty_cache 1) (1 ∷ 2 ∷ [])).kept ≡ (2, 1002) ∷ []
unfolding set_of
only_one = refl

put_twice : map (given (put sixteen 5 7)) (0 ∷ 5 ∷ []) ≡ Some 1000 ∷ Some 7 ∷ []
unfolding set_of
put_twice = refl

two_sets : (ways_of 33 ≡ 16) × (sets_of 33 ≡ 2) × (map (set_of 2) (0 ∷ 1 ∷ 2 ∷ 3 ∷ []) ≡ 0 ∷ 1 ∷ 0 ∷ 1 ∷ [])
unfolding set_of
two_sets = (refl, refl, refl)

-- one of 4,096 has 256 sets of 16
many_sets : (ways_of 4096 ≡ 16) × (sets_of 4096 ≡ 256)
many_sets = (refl, refl)
