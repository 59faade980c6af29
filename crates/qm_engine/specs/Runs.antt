-- What a run of commands answers and leaves.
use Rattle.std.specs.Prelude.{◌≡◌, ◌≤◌, ℕ, suc, List, length, take, Option, Some}
use Rattle.qm_model.specs.Own.{Log, IsOwn}
use Rattle.qm_model.specs.StoreModel.{Stored}
use Rattle.qm_model.specs.Walk.{Rules}
use Rattle.qm_model.specs.Batches.{Apart}
use Rattle.qm_machine.specs.Lines.{Line, Answer}
use Rattle.qm_machine.specs.Machine.{State, initial, answers, state_after}
use Rattle.qm_model.specs.Schemes.{Scheme, engine_of}
use Rattle.qm_engine.specs.Stores.{IsLeft}

-- the machine's state after the first k commands, over a store of this log that chooses these ends
abbrev pub after : Scheme → {P : Type 0} → Rules P → Log → List ℕ → List (Line P) → ℕ → State
after m rules log choices lines k = state_after m rules (initial log choices) (take k lines)

-- what is told is a store of this log that databases under these policies leave
pub record IsOwnStore (m : Scheme) {P : Type 0} (rules : Rules P) (told : Option Stored) (log : Log) : Type 0 where
  pub stored : Stored
  pub is : told ≡ Some stored
  pub own : IsOwn (engine_of m rules) log stored

-- it is that of a log that may be left of a command that makes one log of the other, and databases under these policies leave it
pub record IsOwnLeft (m : Scheme) {P : Type 0} (rules : Rules P) (told : Option Stored) (before after : Log) : Type 0 where
  pub left : IsLeft m told before after
  pub own : IsOwnStore m rules told left.log

-- A run over a store of this log, which chose these ends, gave the machine's answers to as many of the first commands, and left
-- the machine's store, or what may be left of it by the next command, if the lists of that very run are apart.
pub record IsRun (m : Scheme) {P : Type 0} (rules : Rules P) (log : Log) (choices : List ℕ) (lines : List (Line P)) (given : List Answer) (store_left : Option Stored) : Type 0 where
  pub few : length given ≤ length lines
  pub same : Apart m.root (after m rules log choices lines (length given)).had → given ≡ answers m rules (initial log choices) (take (length given) lines)
  -- every command answered
  pub whole : length given ≡ length lines → Apart m.root (after m rules log choices lines (length given)).had → IsOwnStore m rules store_left (after m rules log choices lines (length given)).log
  pub left : Apart m.root (after m rules log choices lines (length given)).had → IsOwnLeft m rules store_left (after m rules log choices lines (length given)).log (after m rules log choices lines (suc (length given))).log
