-- What the program may answer, write and leave.
use Rattle.std.specs.Prelude.{◌≡◌, ◌≤◌, ◌<◌, ◌⊎◌, ℕ, suc, Bool, true, false, ◌||◌, if◌then◌else◌, List, [], ◌∷◌, ◌++◌, length, take, codes, Option, None, Some, option_map, is_some, bytes_eq, decimal, Contains, IfSome, ⊤}
use Rattle.std.specs.Option.{option_and_then}
use Rattle.qm_model.specs.Operations.{Bytes}
use Rattle.qm_model.specs.Opening.{Chunks}
use Rattle.qm_model.specs.Own.{Log, IsOwn}
use Rattle.qm_model.specs.StoreModel.{Stored, Turns}
use Rattle.qm_model.specs.Policies.{policies}
use Rattle.qm_model.specs.Batches.{Apart}
use Rattle.qm_model.specs.Mmb.{mmb}
use Rattle.qm_model.specs.Mmr.{mmr}
use Rattle.qm_model.specs.Trees.{Shape}
use Rattle.qm_machine.specs.Machine.{State, initial, answers}
use Rattle.qm_model.specs.Schemes.{Scheme, chunks_of, engine_of}
use Rattle.qm_machine.specs.Grammar.{commands_in, bad_in}
use Rattle.qm_machine.specs.Lines.{Destroy}
use Rattle.qm_machine.specs.Text.{text_of}
use Rattle.qm_engine.specs.Stores.{HasEnds}
use Rattle.qm_engine.specs.Runs.{after, IsOwnStore, IsOwnLeft}
use Rattle.qm_fill.specs.declared.words.Fill.{Fill}
use Rattle.qm_fill.specs.Words.{fill_of_words}
use Rattle.qm_filling.specs.Says.{IsPartOf, fault_text}
use Rattle.qm_checking.specs.Checking.{Asked, asked_of_words}
use Rattle.qm_run.specs.declared.kind.Named.{Named}
use Rattle.qm_run.specs.Schemes.{current, form_of, scheme}

-- whether the word names current databases
abbrev pub family_word : Bytes → Option Bool
family_word word = if bytes_eq word (codes "any") then Some false else (if bytes_eq word (codes "current") then Some true else None)

-- whether the word names ordered databases
abbrev pub order_word : Bytes → Option Bool
order_word word = if bytes_eq word (codes "unordered") then Some false else (if bytes_eq word (codes "ordered") then Some true else None)

-- whether the word names trees whose merges are delayed, or mountain ranges
abbrev pub tree_word : Bytes → Option Bool
tree_word word = if bytes_eq word (codes "mmr") then Some false else (if bytes_eq word (codes "mmb") then Some true else None)

-- which databases three words name
abbrev pub kind_named : Bytes → Bytes → Bytes → Option Named
kind_named family order trees =
    option_and_then (λ is_current. option_and_then (λ is_ordered. option_map (λ is_delayed. record { is_current = is_current; is_ordered = is_ordered; is_delayed = is_delayed }) (tree_word trees)) (order_word order)) (family_word family)

-- the words of the command line: run, then any or current, then unordered or ordered, then mmr or mmb
abbrev pub kind_of_four : Bytes → Bytes → Bytes → Bytes → Option Named
kind_of_four a b c d = if bytes_eq a (codes "run") then kind_named b c d else None

abbrev pub kind_of_words : List Bytes → Option Named
kind_of_words [] = None
kind_of_words (a ∷ []) = None
kind_of_words (a ∷ b ∷ []) = None
kind_of_words (a ∷ b ∷ c ∷ []) = None
kind_of_words (a ∷ b ∷ c ∷ d ∷ []) = kind_of_four a b c d
kind_of_words (a ∷ b ∷ c ∷ d ∷ e ∷ ws) = None

-- which databases words name that follow those of a fill
abbrev pub kind_of_databases : List Bytes → Option Named
kind_of_databases [] = None
kind_of_databases (b ∷ []) = None
kind_of_databases (b ∷ c ∷ []) = None
kind_of_databases (b ∷ c ∷ d ∷ []) = kind_named b c d
kind_of_databases (b ∷ c ∷ d ∷ e ∷ ws) = None

-- the words of a fill: those of its seed and its rounds, and then those that follow run
abbrev pub fill_words : List Bytes → Option (Fill × Named)
fill_words ws = option_and_then (λ (found : Fill × List Bytes). option_map (λ named. (found.0, named)) (kind_of_databases found.1)) (fill_of_words ws)

abbrev pub is_run : List Bytes → Bool
is_run ws = is_some (kind_of_words ws)

abbrev pub is_fill : List Bytes → Bool
is_fill ws = is_some (fill_words ws)

abbrev pub runs_or_fills : List Bytes → Bool
runs_or_fills ws = is_run ws || is_fill ws

-- the words of a check, by a root of 32 bytes
abbrev pub check_words : List Bytes → Option Asked
check_words ws = asked_of_words 32 ws

abbrev pub is_check : List Bytes → Bool
is_check ws = is_some (check_words ws)

abbrev pub are_words : List Bytes → Bool
are_words ws = runs_or_fills ws || is_check ws

-- the machine of current databases or of any ones, ordered or unordered, over trees of this shape
abbrev pub machine_over : Shape → Bool → Bool → Scheme
machine_over shape is_current is_ordered = if is_current then current shape (form_of is_ordered) else scheme shape (form_of is_ordered)

-- trees whose merges are delayed, or mountain ranges
abbrev pub trees_of : Bool → Shape
trees_of is_delayed = if is_delayed then mmb else mmr

abbrev pub machine_of : Named → Scheme
machine_of named = machine_over (trees_of named.is_delayed) named.is_current named.is_ordered

-- the machine of the words
abbrev pub scheme_of : List Bytes → Option Scheme
scheme_of ws = option_map machine_of (kind_of_words ws)

-- the machine of the databases that words of a run or of a fill name
abbrev pub machine_asked : Option Named → Option (Fill × Named) → Option Scheme
machine_asked (Some named) fill = Some (machine_of named)
machine_asked None fill = option_map (λ (asked : Fill × Named). machine_of asked.1) fill

-- the chunks of the words' databases, if they name current ones
abbrev pub chunks_named : List Bytes → Option Chunks
chunks_named ws = option_and_then chunks_of (machine_asked (kind_of_words ws) (fill_words ws))

-- a command may destroy the store: a fill's last one does, a run's one of its lines
abbrev pub MayDestroy : List Bytes → Option Bytes → Type 0
MayDestroy ws left = (is_fill ws ≡ true) ⊎ IfSome left (λ input. Contains (commands_in input) Destroy)

abbrev pub bad_text : ℕ → Bytes
bad_text n = codes "bad line " ++ (decimal n ++ 10 ∷ [])

-- of this machine over a store of this log, which chooses these ends, for an input
module _ (m : Scheme) (log : Log) (choices : List ℕ) (input : Bytes) where
  -- how many commands there are before the first bad line
  abbrev pub count : ℕ
  count = length (commands_in input)

  -- the machine's state after the first k commands
  abbrev pub state : ℕ → State
  state k = after m policies log choices (commands_in input) k

  -- the text of the machine's answers to the first k commands
  abbrev pub model_text : ℕ → Bytes
  model_text k = text_of (answers m policies (initial log choices) (take k (commands_in input)))

  -- the lists of the machine's run over the first k commands are apart
  abbrev pub IsApart : ℕ → Type 0
  IsApart k = Apart m.root (state k).had

  -- the store has the machine's log after the first k commands, and is one that databases leave
  abbrev pub IsOwnAt : Option Stored → ℕ → Type 0
  IsOwnAt left k = IsOwnStore m policies left (state k).log

  -- it has what may be left of the machine's log after the first k commands by the next one, and is one that databases leave
  abbrev pub IsLeftAt : Option Stored → ℕ → Type 0
  IsLeftAt left k = IsOwnLeft m policies left (state k).log (state (suc k)).log

  -- k commands answered: a first part of their replies; of these and the fault, if the store's count rose and not all are answered; of
  -- these and the bad line, if there is one after them
  pub record IsPartial (rose : Type 0) (written : Bytes) (left : Option Stored) (k : ℕ) : Type 0 where
    pub few : k ≤ count
    pub part : IsApart k → IsPartOf written (model_text k)
        ⊎ (rose × (k < count) × IsPartOf written (model_text k ++ fault_text)
        ⊎ ((n : ℕ) × (bad_in input ≡ Some n) × (k ≡ count) × IsPartOf written (model_text k ++ bad_text n)))
    pub store_left : IsApart k → IsLeftAt left k

  -- What a status says of the bytes written and of what the store tells; `rose` says that the store's count rose.
  pub record SaysOver (status : ℕ) (rose : Type 0) (written : Bytes) (left : Option Stored) : Type 0 where
    -- every line answered
    pub all : status ≡ 0 → (bad_in input ≡ None) × (IsApart count → (written ≡ model_text count) × IsOwnAt left count)
    -- a bad line
    pub bad : status ≡ 2 → (n : ℕ) × (bad_in input ≡ Some n) × (IsApart count → (written ≡ model_text count ++ bad_text n) × IsOwnAt left count)
    -- the store failed, and a command has no reply
    pub fault : status ≡ 6 → (k : ℕ) × (k < count) × (IsApart k → (written ≡ model_text k ++ fault_text) × IsLeftAt left k)
    -- the sink failed, or memory did
    pub part : (status ≡ 4) ⊎ (status ≡ 5) → (k : ℕ) × IsPartial rose written left k
    -- nothing was done
    pub nothing : (status ≡ 1) ⊎ ((status ≡ 3) ⊎ (status ≡ 7)) → written ≡ []

-- It says so of a store that such databases left, or of the empty one, by the log that it has. The ends
-- that its restarts chose are those that it tells after those that it told before.
abbrev pub Says : Scheme → Stored → Bytes → ℕ → Type 0 → Bytes → Option Stored → Type 0
Says m stored input status rose written left =
    (log : Log) → IsOwn (engine_of m policies) log stored
    → (choices : List ℕ) → Turns (Some stored) left (HasEnds (chunks_of m) ⊤ choices) → SaysOver m log choices input status rose written left
