-- Proofs of what a current database has.
use Rattle.std.specs.Prelude.{List}
use Rattle.qm_model.specs.Operations.{Operation}
use Rattle.qm_store.specs.declared.Store as store
use Rattle.qm_any.specs.Layouts.{Layout}
use Rattle.qm_current.specs.Databases.{Database, IsDatabase}

module _ {C D : Type 0} (members : store.Ghosts C) (layout : Layout D) where
  -- of each list for which the database stands
  abbrev pub AtList : Database C D → (List Operation → Type 0) → Type 0
  AtList db P = (list : List Operation) → IsDatabase members layout db list → P list
