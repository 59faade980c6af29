-- The tree of a batch on a log's tree reaches back to that.
use Rattle.std.proofs.Common.{◌≡◌, ℕ, List, [], ◌∷◌, Contains, arith, refl, sym, subst}
use Rattle.qm_merkle.specs.Batches.{Layer, stops}

pub reaches : {D : Type 0} (leaves start at : ℕ) (older : List (Layer D)) → older ≡ [] → start ≡ at → Contains (leaves ∷ stops start older) at
reaches leaves start at older none is =
    subst (λ l. Contains (leaves ∷ stops start l) at) (sym none) (subst (λ (s : ℕ). Contains (leaves ∷ s ∷ []) at) (sym is) (1, omega arith, refl))
