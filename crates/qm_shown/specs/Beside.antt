-- An any database and what a current one keeps beside it, of whose list proofs are made.
use Rattle.std.specs.Prelude.{◌≡◌, List}
use Rattle.qm_model.specs.Operations.{Operation}
use Rattle.qm_store.specs.declared.Store as store
use Rattle.qm_any.specs.Databases as anys
use Rattle.qm_any.specs.Layouts.{Layout}
use Rattle.qm_roots.specs.Canonical.{Canonical, IsCanonical}

-- their numbers agree: the canonical root is that of as many operations as there are, and the grafted tree forgot the chunks whose
-- bits are pruned
pub record HasEnds {C D : Type 0} (db : anys.Database C D) (own : Canonical D) : Type 0 where
  pub size_is : own.size ≡ db.commitment.size
  pub forgotten : own.tree.start ≡ db.activity.pruned

module _ {C D : Type 0} (members : store.Ghosts C) (layout : Layout D) where
  -- of each list for which both stand
  abbrev pub AtBoth : anys.Database C D → Canonical D → (List Operation → Type 0) → Type 0
  AtBoth db own P = (list : List Operation) → anys.IsDatabase members layout db list
      → IsCanonical layout.hashing.bytes layout.hashing.hash layout.hashing.shape layout.chunk layout.hashing.form own list → P list
