-- What comes of making the list of a batch.
use Rattle.std.specs.Prelude.{◌≡◌, ◌==◌, ◌&&◌, Bool, List}
use Rattle.qm_model.specs.Operations.{Operation}
use Rattle.qm_model.specs.Batches.{Chain, IsOnChain}
use Rattle.qm_store.specs.declared.Store as store
use Rattle.qm_any.specs.Databases as anys
use Rattle.qm_any.specs.Layouts.{Layout}
use Rattle.qm_current.specs.Databases.{Begun, Database, Staged, IsBegun, IsDatabase, IsStaged}

-- the batch's chain began on this instance, and the database is at its boundary or at a kept ancestor's tip
abbrev pub can_make : {C D : Type 0} → Database C D → Begun D → Bool
can_make db batch = (db.instance == batch.instance) && anys.is_on db.any.commitment batch.any

module _ {C D : Type 0} (members : store.Ghosts C) (layout : Layout D) where
  -- of each chain of a batch that began on this instance, and has the list for which the database stands
  abbrev pub OnBegun : Database C D → Begun D → (Chain → Type 0) → Type 0
  OnBegun db batch P = (list : List Operation) (chain above : Chain) → IsDatabase members layout db list → IsBegun layout.hashing layout.chunk batch chain above → chain.instance ≡ db.instance → IsOnChain list chain → P chain

  -- the same of a staged batch
  abbrev pub OnStaged : Database C D → Staged D → (Chain → Type 0) → Type 0
  OnStaged db batch P = (list : List Operation) (chain above : Chain) → IsDatabase members layout db list → IsStaged layout.hashing layout.chunk batch chain above → chain.instance ≡ db.instance → IsOnChain list chain → P chain

  -- reads left the database as it was, but for its store's count of faults
  pub record IsLeft (old new : Database C D) : Type 0 where
    pub any : anys.IsLeft members layout.hashing old.any new.any
    pub rest : new ≡ record old { any = new.any }
