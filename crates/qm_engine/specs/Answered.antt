-- What answering the lines of an input gives.
use Rattle.std.specs.Prelude.{◌≡◌, ◌≤◌, ℕ, suc, List, length, take, Option, Some, None}
use Rattle.qm_model.specs.Operations.{Bytes}
use Rattle.qm_model.specs.Own.{Log}
use Rattle.qm_model.specs.StoreModel.{Stored}
use Rattle.qm_model.specs.Walk.{Rules}
use Rattle.qm_model.specs.Batches.{Apart}
use Rattle.qm_machine.specs.Lines.{Line}
use Rattle.qm_machine.specs.Machine.{State, initial, turn, answers}
use Rattle.qm_model.specs.Schemes.{Scheme}
use Rattle.qm_machine.specs.Text.{text_of}
use Rattle.qm_engine.specs.Runs.{after, IsOwnStore, IsOwnLeft}

-- the machine's state after a line, which stays if that is no command
abbrev pub after_line : Scheme → {P : Type 0} → Rules P → State → Option (Line P) → State
after_line m rules s None = s
after_line m rules s (Some line) = (turn m rules s line).1

-- Over a store of this log, which chose these ends, the first k commands were answered: the text is that of the machine's
-- answers, and its store is left, or what may be left of it by the next command, if the lists of that very run are apart.
pub record IsAnswered (m : Scheme) {P : Type 0} (rules : Rules P) (log : Log) (choices : List ℕ) (lines : List (Line P)) (k : ℕ) (text : Bytes) (store_left : Option Stored) : Type 0 where
  pub few : k ≤ length lines
  pub same : Apart m.root (after m rules log choices lines k).had → text ≡ text_of (answers m rules (initial log choices) (take k lines))
  -- every command answered
  pub whole : k ≡ length lines → Apart m.root (after m rules log choices lines k).had → IsOwnStore m rules store_left (after m rules log choices lines k).log
  pub left : Apart m.root (after m rules log choices lines k).had → IsOwnLeft m rules store_left (after m rules log choices lines k).log (after m rules log choices lines (suc k)).log
