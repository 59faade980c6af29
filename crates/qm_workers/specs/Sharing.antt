-- Which keys are whose in a crew, and what becomes of a crew to which an operation is given.
use Rattle.std.specs.Prelude.{◌≡◌, ℕ, ◌<◌, ◌≤◌, Bool, if◌then◌else◌, List, length, slice_index_or, Option, None, Some, IfSome}
use Rattle.qm_model.specs.Operations.{Bytes, Operation}
use Rattle.qm_operations.specs.Parts.{key_of, is_update}
use Rattle.qm_index.specs.Partitioned.{partition_of}
use Rattle.qm_routed.specs.Routed.{has_partition}
use Rattle.qm_workers.specs.Working.{Work, with_last}

-- so many workers have these partitions among them
pub record AreWorkers (partitions workers : ℕ) : Type 0 where
  pub some : 0 < workers
  pub few : workers ≤ partitions

module _ (index_key : Bytes → ℕ) (partitions workers : ℕ) where
  -- the key's partition is one of that worker's
  abbrev pub is_own : ℕ → Bytes → Bool
  is_own w key = has_partition partitions workers w (partition_of (index_key key))

  -- what becomes of that worker when an operation of a key, if it has one, is given to the worker that has the key
  abbrev pub given : ℕ → ℕ → Option Bytes → Bool → Work → Work
  given w at None is_update work = work
  given w at (Some key) is_update work = if is_own w key then with_last (record { at = at; key = key; is_update = is_update }) work else work

-- an operation was given to the worker that has its key
pub record IsRouted {W : Type 0} (index_key : Bytes → ℕ) (partitions : ℕ) (view : W → Work) (at : ℕ) (op : Operation) (old new : List W) : Type 0 where
  pub long : length new ≡ length old
  pub owned : IfSome (key_of op) (λ key. partition_of (index_key key) < partitions)
  pub each : (w : ℕ) (d : W) → w < length old → view (slice_index_or new w d) ≡ given index_key partitions (length old) w at (key_of op) (is_update op) (view (slice_index_or old w d))
