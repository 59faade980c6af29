-- A walk on its way: what it decided, where it is, and what is not live there.
use Rattle.std.specs.Prelude.{◌≡◌, ℕ, ◌+◌, ◌<◌, ◌≤◌, min, max, List, [], ◌∷◌, ◌++◌, length, map, drop, All, Option, Some, None, option_map}
use Rattle.qm_model.specs.Operations.{Bytes, Operation}
use Rattle.qm_model.specs.Live.{live, live_of, floor}
use Rattle.qm_model.specs.Writes.{Write, operation_of}
use Rattle.qm_model.specs.Step.{evicted_of}
use Rattle.qm_model.specs.Walk.{Action, Rules, Walked, walk_from, write, stop, evict}
use Rattle.qm_chain.specs.declared.walk.Walk.{Walk}
use Rattle.qm_step.specs.Changes.{place_in}
use Rattle.qm_step.specs.Touches.{Touch, live_update_at}

-- a decision: the key, its new value or none if it goes, the key that its live update names, and where its live update
-- stands in the base list
pub record Decided : Type 0 where
  pub key : Bytes
  pub value : Option Bytes
  pub next : Option Bytes
  pub before : Option ℕ

-- a decision of a walk to a list from a base list: its key is live there, and these are its next key and its place
pub record IsDecided (base list : List Operation) (d : Decided) : Type 0 where
  pub live : option_map (λ e. e.next) (live_of (live list) d.key) ≡ Some d.next
  pub before : d.before ≡ place_in base d.key

abbrev pub write_for : Decided → Write
write_for d = record { key = d.key; value = d.value }

-- in an unordered database: the operation of a decision
abbrev pub touch_for : Decided → Touch
touch_for d = record { operation = operation_of (write_for d); before = d.before }

-- what an answer has for a key: its new value, or none if it goes; nothing if the walk ends
abbrev pub value_for : Action → Option (Option Bytes)
value_for (write value) = Some (Some value)
value_for stop = None
value_for evict = Some None

abbrev pub decided_for : Bytes → Option Bytes → Option ℕ → Action → Option Decided
decided_for key next before action = option_map (λ value. record { key = key; value = value; next = next; before = before }) (value_for action)

-- what is told of an answer: a key with the value that it had, if the key goes
abbrev pub told_of : Action → Option (Bytes × Bytes) → Option (Bytes × Bytes)
told_of (write value) had = None
told_of stop had = None
told_of evict had = had

-- no live update stands from this location up to, and without, that one
abbrev pub AreDead : List Operation → ℕ → ℕ → Type 0
AreDead list from to = (i : ℕ) → from ≤ i → i < to → live_update_at list i ≡ None

-- these locations ascend, from this one up to, and without, that one
abbrev pub IsSpaced : ℕ → List ℕ → ℕ → Type 0
IsSpaced from [] to = from ≤ to
IsSpaced from (at ∷ later) to = (from ≤ at) × (at < to) × IsSpaced (at + 1) later to

-- no live update stands between them
abbrev pub AreDeadBetween : List Operation → ℕ → List ℕ → ℕ → Type 0
AreDeadBetween list from [] to = AreDead list from to
AreDeadBetween list from (at ∷ later) to = AreDead list from at × AreDeadBetween list (at + 1) later to

module _ {P : Type 0} where
  -- a walk that goes on after these decisions
  abbrev pub resumed : List Write → Walked P → Walked P
  resumed before walked = record walked { decisions = before ++ walked.decisions }

  -- these were decided over a base list, each with where its key stands there, and these keys evicted, each with the value that
  -- it had, on a walk to a list after it that has come here; what is left of it makes this whole
  pub record IsGoing {F : Type 0} (rules : Rules P) (base list : List Operation) (decided : List Decided) (evicted : List (Bytes × Bytes)) (walk : Walk F) (policy : P) (whole : Walked P) : Type 0 where
    pub from : All (IsDecided base list) decided
    pub told : evicted ≡ evicted_of list (map write_for decided)
    pub above : floor base ≤ walk.floor
    pub end : walk.end ≡ min (max (floor base) (length list)) (walk.floor + walk.entries + walk.skips)
    pub rest : resumed (map write_for decided) (walk_from rules (drop walk.floor list) walk.floor walk.entries walk.skips policy) ≡ whole

  -- these are the decisions of this whole, and the keys that it evicts, with its end and the policy that it left
  pub record AreDecided (base list : List Operation) (decided : List Decided) (evicted : List (Bytes × Bytes)) (end : ℕ) (policy : P) (whole : Walked P) : Type 0 where
    pub from : All (IsDecided base list) decided
    pub told : evicted ≡ evicted_of list (map write_for decided)
    pub makes : record { floor = end; decisions = map write_for decided; policy = policy } ≡ whole
