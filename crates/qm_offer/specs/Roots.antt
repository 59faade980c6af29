-- The roots of a list.
use Rattle.std.specs.Prelude.{◌≡◌, List}
use Rattle.qm_model.specs.Operations.{Bytes, Operation}
use Rattle.qm_model.specs.Schemes.{Scheme}
use Rattle.qm_offer.specs.declared.offer.Roots.{Roots}

-- these are those of a list
pub record AreRoots {D : Type 0} (m : Scheme) (bytes : D → Bytes) (list : List Operation) (roots : Roots D) : Type 0 where
  pub root : bytes roots.root ≡ m.canonical list
  pub operations : bytes roots.operations ≡ m.root list
