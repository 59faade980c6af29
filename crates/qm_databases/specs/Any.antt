-- What an any database and its batches mean.
use Rattle.std.specs.Global.{Global}
use Rattle.std.specs.Prelude.{◌≡◌, ◌≤◌, suc, length, true, List, ⊤}
use Rattle.std.specs.declared.rc.Rc.{Rc}
use Rattle.qm_model.specs.Batches.{Chain}
use Rattle.qm_model.specs.Live.{floor}
use Rattle.qm_model.specs.Writes.{Write}
use Rattle.qm_store.specs.declared.Store as store
use Rattle.qm_any.specs.Databases.{Begun, Database, Made, IsBegun, IsDatabase, IsMade}
use Rattle.qm_any.specs.Layouts.{Hashing, Layout, list_root}
use Rattle.qm_databases.specs.Words.{Means}

-- a batch of this chain, whose parent is of that one, with these writes; it keeps no more ancestors than its parent has, and this
pub record IsBatch {D : Type 0} (hashing : Hashing D) (batch : Begun D) (chain above : Chain) (ws : List Write) : Type 0 where
  pub begun : IsBegun hashing batch chain above
  pub writes : batch.writes ≡ ws
  pub few : batch.keep ≤ suc (length batch.parent.bounds.ancestors)

-- Its root is the operations root, it is an instance of every number, and takes batches of any.
abbrev pub any_means : {C D : Type 0} → store.Ghosts C → Layout D → Means (Database C D) C (Begun D) (Rc (Made D) Global)
any_means members layout = record {
  inside = λ db. db.log.store;
  stands = IsDatabase members layout;
  numbered = λ db n. ⊤;
  takes = λ own other. true;
  is_batch = IsBatch layout.hashing;
  is_merkleized = λ b chain tip. IsMade layout.hashing b.value chain tip;
  form = layout.hashing.form;
  ops_root = list_root layout.hashing;
  root = list_root layout.hashing;
  boundary = floor;
}
