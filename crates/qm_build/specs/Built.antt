-- What an opening rebuilds of a list.
use Rattle.std.specs.Prelude.{◌≡◌, ◌≢◌, ◌+◌, ◌≤◌, ℕ, Bool, true, false, List, length, drop, is_none, All, IfSome, Result, IfOk, IfErr, OnOk}
use Rattle.std.specs.List.{list_any}
use Rattle.qm_model.specs.Operations.{Bytes, Operation}
use Rattle.qm_model.specs.Forms.{Form}
use Rattle.qm_model.specs.Trees.{Shape}
use Rattle.qm_model.specs.Live.{live}
use Rattle.qm_model.specs.Bits.{bits}
use Rattle.qm_index.specs.Indexed.{IsIndexed}
use Rattle.qm_index.specs.Places.{HasPlaces}
use Rattle.qm_base.specs.declared.error.Corrupt.TheVariants.{ItemDoesNotDecode}
use Rattle.qm_base.specs.declared.error.Error.{Error}
use Rattle.qm_base.specs.declared.error.Error.TheVariants.{DataCorrupted}
use Rattle.qm_store.specs.declared.Store as store
use Rattle.qm_store.specs.Log.{Log}
use Rattle.qm_build.specs.declared.build.Snapshot.{Snapshot}
use Rattle.qm_build.specs.Building.{places_from}
use Rattle.qm_build.specs.Reads.{items_within, operations_within, HasOperations, KeepsLog, IsRebuildError}

-- no live update of the list stands below this location
abbrev pub NoneBelow : ℕ → List Operation → Type 0
NoneBelow floor ops = All (λ e. floor ≤ e.location) (live ops)

-- the entries of an index, the number of live keys and the activity bits from a floor on are those of a list
pub record IsBuilt (index_key : Bytes → ℕ) (entries : List (ℕ × List ℕ)) (live_keys : ℕ) (activity : List Bool) (floor : ℕ) (ops : List Operation) : Type 0 where
  pub indexed : IsIndexed index_key entries ops
  pub counted : live_keys ≡ length (live ops)
  pub active : activity ≡ drop floor (bits ops)

-- they are those of operations alone that stand from the floor on, whatever stood before
pub record IsRebuilt (index_key : Bytes → ℕ) (entries : List (ℕ × List ℕ)) (live_keys : ℕ) (activity : List Bool) (floor : ℕ) (ops : List Operation) : Type 0 where
  pub indexed : HasPlaces index_key entries (places_from floor ops)
  pub counted : live_keys ≡ length (places_from floor ops)
  pub active : activity ≡ bits ops

-- What comes of rebuilding a log's list from its floor on, with these entries of an index that was empty. What is rebuilt is of the operations
-- that the items from the floor on spell, of a list or not, and each of these spells one; of a list it is the list's; or reading failed, or an item spells none, which is not so of a list's spellings.
pub record Rebuilds {C D : Type 0} (members : store.Ghosts C) (shape : Shape) (bytes : D → Bytes) (hash : Bytes → Bytes) (form : Form) (index_key : Bytes → ℕ) (floor : ℕ) (old new : Log C D) (entries : List (ℕ × List ℕ)) (result : Result Snapshot Error) : Type 0 where
  pub built : (ops : List Operation) → HasOperations members shape bytes hash form old ops → NoneBelow floor ops → IfSome (members.told old.store) (λ _. IfOk result (λ s. IsBuilt index_key entries s.live s.activity floor ops))
  pub rebuilt : IfSome (members.told old.store) (λ s. IfOk result (λ made. IsRebuilt index_key entries made.live made.activity floor (operations_within form s floor old.tree.leaves)))
  pub decodes : (ops : List Operation) → HasOperations members shape bytes hash form old ops → IfSome (members.told old.store) (λ _. IfErr result (λ e. e ≢ DataCorrupted ItemDoesNotDecode))
  pub long : IfOk result (λ s. (floor + length s.activity ≡ old.tree.leaves) × (s.live ≤ length s.activity))
  pub decoded : IfSome (members.told old.store) (λ s. OnOk result (list_any is_none (items_within form s floor old.tree.leaves) ≡ false))
  pub corrupt : IfSome (members.told old.store) (λ s. IfErr result (λ e. e ≡ DataCorrupted ItemDoesNotDecode → list_any is_none (items_within form s floor old.tree.leaves) ≡ true))
  pub read : KeepsLog members shape bytes hash old new
  pub error : IfErr result (IsRebuildError members old new)
