-- Worked rows of what a walk comes to.
use Rattle.std.specs.Prelude.{◌≡◌, ◌∷◌, [], refl}
use Rattle.qm_chain.specs.Walks.{reachable_from}

two_skips : reachable_from 0 3 2 (1 ∷ 2 ∷ 5 ∷ 6 ∷ []) ≡ 2
two_skips = refl

one_entry : reachable_from 0 1 10 (3 ∷ 4 ∷ []) ≡ 1
one_entry = refl

no_skip : reachable_from 0 2 0 (0 ∷ 2 ∷ []) ≡ 1
no_skip = refl

none_at_once : reachable_from 0 2 0 (1 ∷ []) ≡ 0
none_at_once = refl

no_entry : reachable_from 0 0 10 (0 ∷ []) ≡ 0
no_entry = refl
