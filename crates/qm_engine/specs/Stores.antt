-- What a store tells, as the machine has it.
use Rattle.std.specs.Prelude.{◌≡◌, ◌⊎◌, ◌≤◌, ◌<◌, ◌==◌, ℕ, min, if◌then◌else◌, List, [], ◌++◌, length, take, drop, Option, Some}
use Rattle.qm_model.specs.Policies.{policies}
use Rattle.qm_model.specs.Own.{Log, no_log}
use Rattle.qm_model.specs.Own as own
use Rattle.qm_model.specs.StoreModel.{Stored}
use Rattle.qm_model.specs.Schemes.{Scheme, engine_of}
use Rattle.qm_model.specs.Opening.{Chunks}
use Rattle.qm_model.specs.Taken.{StayNamed}
use Rattle.qm_store.specs.declared.Store as store

-- what is told is a store that has a log, by a machine's spelling and hash
pub record HasLog (m : Scheme) (told : Option Stored) (log : Log) : Type 0 where
  pub stored : Stored
  pub is : told ≡ Some stored
  pub has : own.IsStored (engine_of m policies) log stored

-- a store tells that it has this log
pub record IsStored {C : Type 0} (members : store.Ghosts C) (m : Scheme) (c : C) (log : Log) : Type 0 where
  pub start : members.start c ≡ log.start
  pub told : HasLog m (members.told c) log

-- what a store has beside items, head and stable length: calls put no metadata but that which counts these chunks, and the rest may be gone
-- only if it was destroyed; the ends that its restarts chose stay, and these are new
pub record HasEnds (chunks : Option Chunks) (Destroyed : Type 0) (more : List ℕ) (old new : Stored) : Type 0 where
  pub metadata : StayNamed chunks old.metadata new.metadata ⊎ (Destroyed × StayNamed chunks [] new.metadata)
  pub ends : new.ends ≡ old.ends ++ more

-- What a failed command leaves.

-- the least size that a command keeps of a log's list: what was stable, or as much of it as the command keeps of the list
abbrev pub least : Log → Log → ℕ
least before after = if length after.list == 0 then before.stable else min before.stable (length after.list)

-- the command makes more stable, or the list shorter
abbrev pub IsFinal : Log → Log → Type 0
IsFinal before after = (before.stable < after.stable) ⊎ (length after.list < length before.list)

-- The log before a command, and the one after it; what may be left of it: the list before, with a first part of what the
-- command appends to it, and no more of it stable if the command leaves the log as it is; if the command makes more stable or the list shorter, a beginning of the list that has what was
-- stable before and stays; the log after it, if the command takes away what stands before a location, or that from where the store
-- started, if the command counts more pruned chunks; and nothing, if the command leaves nothing.
pub data MayBe (before after : Log) : Log → Type 0 where
  grown : (count stable : ℕ) → before.stable ≤ stable → (after ≡ before → stable ≡ before.stable) → MayBe before after (record before { list = before.list ++ take count (drop (length before.list) after.list); stable = stable })
  cut : (to stable : ℕ) → IsFinal before after → least before after ≤ to → least before after ≤ stable → MayBe before after (record before { list = take to before.list; stable = stable })
  counted : before.chunks < after.chunks → before.start ≤ after.start → MayBe before after (record after { start = before.start })
  moved : before.start < after.start → MayBe before after after
  emptied : after ≡ no_log → MayBe before after no_log

-- a store has what may be left of a command that makes one log of the other
pub record IsLeft (m : Scheme) (left : Option Stored) (before after : Log) : Type 0 where
  pub log : Log
  pub has : HasLog m left log
  pub may : MayBe before after log
