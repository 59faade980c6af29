-- What a current database and its batches mean.
use Rattle.std.specs.Global.{Global}
use Rattle.std.specs.Prelude.{◌≡◌, ◌==◌, ◌≤◌, ℕ, suc, length, List}
use Rattle.std.specs.declared.rc.Rc.{Rc}
use Rattle.qm_model.specs.Batches.{Chain}
use Rattle.qm_model.specs.Grafted.{boundary, canonical}
use Rattle.qm_model.specs.Writes.{Write}
use Rattle.qm_graft.specs.Grafting.{grafting}
use Rattle.qm_store.specs.declared.Store as store
use Rattle.qm_any.specs.Layouts.{Hashing, Layout, list_root}
use Rattle.qm_current.specs.Databases.{Begun, Database, Made, IsBegun, IsDatabase, IsMade}
use Rattle.qm_databases.specs.Words.{Means}

-- a batch of this chain, whose parent is of that one, with these writes; it keeps no more ancestors than its parent has, and this
pub record IsBatch {D : Type 0} (hashing : Hashing D) (chunk : ℕ) (batch : Begun D) (chain above : Chain) (ws : List Write) : Type 0 where
  pub begun : IsBegun hashing chunk batch chain above
  pub writes : batch.any.writes ≡ ws
  pub few : batch.any.keep ≤ suc (length batch.any.parent.bounds.ancestors)

-- Its root is the canonical root, and it makes lists of batches of its own instance alone.
abbrev pub current_means : {C D : Type 0} → store.Ghosts C → Layout D → Means (Database C D) C (Begun D) (Rc (Made D) Global)
current_means members layout = record {
  inside = λ db. db.any.log.store;
  stands = IsDatabase members layout;
  numbered = λ db n. db.instance ≡ n;
  takes = λ own other. own == other;
  is_batch = IsBatch layout.hashing layout.chunk;
  is_merkleized = λ b chain tip. IsMade layout.hashing layout.chunk b.value chain tip;
  form = layout.hashing.form;
  ops_root = list_root layout.hashing;
  root = canonical layout.hashing.hash layout.hashing.shape (grafting layout.chunk) layout.hashing.form;
  boundary = boundary layout.hashing.shape (grafting layout.chunk);
}
