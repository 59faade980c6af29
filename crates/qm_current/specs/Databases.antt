-- Current databases and their batches, and the lists that these stand for.
use Rattle.std.specs.Prelude.{◌≡◌, ◌<◌, ◌*◌, ℕ, suc, List, map, IfSome}
use Rattle.qm_model.specs.Operations.{Bytes, Operation}
use Rattle.qm_model.specs.Opening.{count_in}
use Rattle.qm_model.specs.StoreModel.{metadata_in}
use Rattle.qm_model.specs.Batches.{Chain}
use Rattle.qm_bits.specs.Bitmaps.{bit_count}
use Rattle.qm_store.specs.declared.Store as store
use Rattle.qm_any.specs.Layouts.{Hashing, Layout}
use Rattle.qm_any.specs.Databases as anys
use Rattle.qm_roots.specs.Canonical.{Canonical, IsCanonical}
use Rattle.qm_roots.specs.Kept.{Kept, IsKept, sizes_of}

-- a database: the any one, the grafted tree and the canonical root of its list, which instance it is, and the name of its metadata
pub record Database (C D : Type 0) : Type 0 where
  pub any : anys.Database C D
  pub canonical : Canonical D
  pub instance : ℕ
  pub name : Bytes

-- a merkleized batch: the any one, what it does to bits and to the grafted tree, and on which instance its chain began
pub record Made (D : Type 0) : Type 0 where
  pub any : anys.Made D
  pub kept : Kept D
  pub instance : ℕ

-- a batch: the any one, what its parent keeps, and on which instance its chain began
pub record Begun (D : Type 0) : Type 0 where
  pub any : anys.Begun D
  pub parent : Kept D
  pub instance : ℕ

-- a staged batch: the any one, what its parent keeps, and on which instance its chain began
pub record Staged (D : Type 0) : Type 0 where
  pub any : anys.Staged D
  pub parent : Kept D
  pub instance : ℕ

-- a staged batch without its keys
abbrev pub begun_of : {D : Type 0} → Staged D → Begun D
begun_of batch = record { any = batch.any.batch; parent = batch.parent; instance = batch.instance }

-- The numbers of a database agree: its root is that of as many operations as it has, and there are as many bits. The grafted tree forgot
-- the chunks whose bits are pruned, and the log has the nodes over the others.
pub record IsJoined {C D : Type 0} (chunk : ℕ) (db : Database C D) : Type 0 where
  pub size_is : db.canonical.size ≡ db.any.commitment.size
  pub bits : bit_count chunk db.any.activity ≡ db.any.commitment.size
  pub forgotten : db.canonical.tree.start ≡ db.any.activity.pruned
  pub over : db.any.log.tree.start < suc db.any.activity.pruned * (8 * chunk)

-- those of a batch agree: what it keeps leads through lists of the sizes at which it can be read
abbrev pub AreSized : {D : Type 0} → anys.Made D → Kept D → Type 0
AreSized batch kept = sizes_of kept ≡ map (λ c. c.size) (anys.states batch.bounds)

module _ {D : Type 0} (hashing : Hashing D) (chunk : ℕ) where
  -- the batch is of this chain, and makes this list
  pub record IsMade (batch : Made D) (chain : Chain) (tip : List Operation) : Type 0 where
    pub any : anys.IsMade hashing batch.any chain tip
    pub kept : IsKept hashing.bytes hashing.hash hashing.shape chunk hashing.form batch.kept tip (anys.bases_of chain)
    pub numbered : batch.instance ≡ chain.instance

  -- the same, and these are the keys that its step evicted, each with the value that it had
  abbrev pub IsMadeWith : Made D → Chain → List Operation → List (Bytes × Bytes) → Type 0
  IsMadeWith batch chain tip evicted = IsMade batch chain tip × (batch.any.evicted ≡ evicted)

  -- the batch is of this chain, and its parent of that one
  pub record IsBegun (batch : Begun D) (chain above : Chain) : Type 0 where
    pub any : anys.IsBegun hashing batch.any chain above
    pub parent : IsKept hashing.bytes hashing.hash hashing.shape chunk hashing.form batch.parent chain.base (anys.bases_of above)
    pub numbered : batch.instance ≡ chain.instance

  -- the staged batch is of this chain, and its parent of that one
  pub record IsStaged (batch : Staged D) (chain above : Chain) : Type 0 where
    pub any : anys.IsStaged hashing batch.any chain above
    pub parent : IsKept hashing.bytes hashing.hash hashing.shape chunk hashing.form batch.parent chain.base (anys.bases_of above)
    pub numbered : batch.instance ≡ chain.instance

-- the database, of this layout, stands for this list, and its root is the list's
pub record IsDatabase {C D : Type 0} (members : store.Ghosts C) (layout : Layout D) (db : Database C D) (list : List Operation) : Type 0 where
  pub any : anys.IsDatabase members layout db.any list
  pub canonical : IsCanonical layout.hashing.bytes layout.hashing.hash layout.hashing.shape layout.chunk layout.hashing.form db.canonical list

-- its store's metadata counts the chunks whose bits are pruned
abbrev pub IsCounted : {C D : Type 0} → store.Ghosts C → Database C D → Type 0
IsCounted members db = IfSome (members.told db.any.log.store) (λ s. count_in (metadata_in s.metadata db.name) ≡ db.any.activity.pruned)
