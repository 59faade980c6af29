-- What the statuses of a fill say of what was written and left.
use Rattle.std.specs.Prelude.{◌≡◌, ◌≤◌, ◌<◌, ◌⊎◌, ◌++◌, ◌∷◌, [], ℕ, suc, List, length, take, codes, Option, Some, Result, Ok, Err, IfSome, ⊤}
use Rattle.qm_model.specs.Causes.{Rose}
use Rattle.qm_model.specs.Operations.{Bytes}
use Rattle.qm_model.specs.Own.{Log, IsOwn}
use Rattle.qm_model.specs.StoreModel.{Stored, Turns}
use Rattle.qm_model.specs.Policies.{Policy, policies}
use Rattle.qm_model.specs.Batches.{Apart}
use Rattle.qm_model.specs.Schemes.{Scheme, chunks_of, engine_of}
use Rattle.qm_machine.specs.Lines.{Line}
use Rattle.qm_machine.specs.Machine.{State, initial}
use Rattle.qm_engine.specs.declared.runs.End.{End}
use Rattle.qm_engine.specs.declared.runs.End.TheVariants.{Done, Memory, StoreFault}
use Rattle.qm_engine.specs.Stores.{HasEnds}
use Rattle.qm_engine.specs.Runs.{after, IsOwnStore, IsOwnLeft}
use Rattle.qm_fill.specs.declared.words.Fill.{Fill}
use Rattle.qm_fill.specs.Commands.{commands}
use Rattle.qm_fill.specs.Summary.{Counts, exchanges, summary, summary_text}

-- the part is a first part of the whole
abbrev pub IsPartOf : Bytes → Bytes → Type 0
IsPartOf part whole = (n : ℕ) × (part ≡ take n whole)

abbrev pub fault_text : Bytes
fault_text = codes "store fault" ++ 10 ∷ []

-- the text, and the status when all of it is written
abbrev pub filled_text : Result Counts End → Bytes
filled_text (Ok counts) = summary_text counts
filled_text (Err Done) = []
filled_text (Err Memory) = []
filled_text (Err StoreFault) = fault_text

abbrev pub filled_status : Result Counts End → ℕ
filled_status (Ok counts) = 0
filled_status (Err Done) = 5
filled_status (Err Memory) = 5
filled_status (Err StoreFault) = 6

-- of this machine over a store of this log, which chooses these ends, for a fill
module _ (m : Scheme) (fill : Fill) (log : Log) (choices : List ℕ) where
  abbrev pub lines : List (Line Policy)
  lines = commands fill.seed fill.rounds

  abbrev pub count : ℕ
  count = length lines

  -- the machine's state after the first k commands
  abbrev pub state : ℕ → State
  state k = after m policies log choices lines k

  -- the lists of the machine's run over the first k commands are apart
  abbrev pub IsApart : ℕ → Type 0
  IsApart k = Apart m.root (state k).had

  -- the summary of the machine's answers to all commands
  abbrev pub model_text : Bytes
  model_text = summary (exchanges m policies (initial log choices) lines)

  -- the store is an own one with what may be left of the machine's log after the first k commands by the next one
  abbrev pub IsLeftAt : Option Stored → ℕ → Type 0
  IsLeftAt left k = IsOwnLeft m policies left (state k).log (state (suc k)).log

  -- a first part of the fault's line, if the store's count rose and a command has no reply, or else of the summary
  abbrev pub IsPartText : Type 0 → Bytes → ℕ → Type 0
  IsPartText rose written k = (rose × (k < count) × IsPartOf written fault_text) ⊎ (IsApart count → IsPartOf written model_text)

  -- What a status says of the bytes written and of what the store tells; `rose` says that the store's count rose.
  pub record SaysFilled (status : ℕ) (rose : Type 0) (written : Bytes) (left : Option Stored) : Type 0 where
    -- every command answered
    pub all : status ≡ 0 → IsApart count → (written ≡ model_text) × IsOwnStore m policies left (state count).log
    -- the store failed, and a command has no reply
    pub fault : status ≡ 6 → (written ≡ fault_text) × ((k : ℕ) × (k < count) × (IsApart k → IsLeftAt left k))
    -- the sink failed, or memory did
    pub part : (status ≡ 4) ⊎ (status ≡ 5) → (k : ℕ) × (k ≤ count) × IsPartText rose written k × (IsApart k → IsLeftAt left k)

-- It says so of a store that such databases left, or of the empty one, by the log that it has, and by the ends that its restarts chose.
abbrev pub Says : Scheme → Fill → Stored → ℕ → Type 0 → Bytes → Option Stored → Type 0
Says m fill stored status rose written left =
    (log : Log) → IsOwn (engine_of m policies) log stored
    → (choices : List ℕ) → Turns (Some stored) left (HasEnds (chunks_of m) ⊤ choices) → SaysFilled m fill log choices status rose written left

-- What a fill comes to that answers this status: what its store told and tells, its store's counts of faults, what its sink told and tells, and that one's
-- counts of faults.
pub record IsServed (m : Scheme) (fill : Fill) (status : ℕ) (told left : Option Stored) (faults later : ℕ) (text written : Option Bytes) (sunk after : ℕ) : Type 0 where
  pub headline : IfSome told (λ stored. IfSome text (λ before. (more : Bytes) × (written ≡ Some (before ++ more)) × Says m fill stored status (Rose faults later) more left))
  pub ends : (choices : List ℕ) × Turns told left (HasEnds (chunks_of m) ⊤ choices)
  pub statuses : (status ≡ 0) ⊎ ((status ≡ 4) ⊎ ((status ≡ 5) ⊎ (status ≡ 6)))
  pub write : status ≡ 4 → Rose sunk after
  pub store : status ≡ 6 → Rose faults later
