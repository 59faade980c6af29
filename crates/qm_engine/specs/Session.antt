-- What a run holds, and the state of the machine that it stands for.
use Rattle.std.specs.Prelude.{◌≡◌, ◌+◌, ◌≤◌, ℕ, List, [], ◌++◌, length, Contains, Option, Some, None, IfSome, slice_index_or, ⊤}
use Rattle.qm_model.specs.Causes.{IsCause, Rose}
use Rattle.qm_model.specs.Live.{floor}
use Rattle.qm_model.specs.Operations.{Bytes, Operation}
use Rattle.qm_model.specs.Batches.{IsAmong, Apart}
use Rattle.qm_machine.specs.Lines.{Line, Answer, Destroy}
use Rattle.qm_model.specs.StoreModel.{Turns, except_items}
use Rattle.qm_machine.specs.Machine.{State, slot_at, choices_after}
use Rattle.qm_machine.specs.Machine as machine
use Rattle.qm_machine.specs.Sound.{IsSteady}
use Rattle.qm_lines.specs.Views.{answer_view}
use Rattle.qm_lines.specs.declared.reply.Reply as reply
use Rattle.qm_store.specs.declared.Store as store
use Rattle.qm_offer.specs.declared.meaning.Meaning as meaning
use Rattle.qm_store.specs.declared.refusal.Given.{Given}
use Rattle.qm_store.specs.declared.refusal.Given.TheVariants.{Database, Store}
use Rattle.qm_engine.specs.declared.table.Slot.{Slot}
use Rattle.qm_engine.specs.declared.table.Slot.TheVariants.{Gone, Writing, Staged, Merkleized}
use Rattle.qm_engine.specs.declared.session.Session.{Session}
use Rattle.qm_engine.specs.declared.session.Turn.{Turn}
use Rattle.qm_engine.specs.declared.session.Turn.TheVariants.{Reply, Memory, StoreFault}
use Rattle.qm_store.specs.Given.{store_given, IsUnchanged}
use Rattle.qm_model.specs.Opening.{Chunks}
use Rattle.qm_model.specs.Schemes.{chunks_of}
use Rattle.qm_engine.specs.Stores.{IsStored, HasEnds, IsLeft}

module _ {X C B S M : Type 0} (members : store.Ghosts C) (means : meaning.Ghosts X C B S M) where
  -- the database stands for the machine's list, one of those that the run has had, and is the instance of this number; without one
  -- there is a store alone
  abbrev pub HeldIs : ℕ → List (List Operation) → Given X C → Option (List Operation) → Type 0
  HeldIs number had (Database x) (Some list) = means.stands x list × Contains had list × means.numbered x number
  HeldIs number had (Database x) None = ⊥
  HeldIs number had (Store c) (Some list) = ⊥
  HeldIs number had (Store c) None = Unit {0}

  -- a batch stands for the machine's batch of its number
  abbrev pub SlotIs : List (List Operation) → Slot B S M → machine.Slot → Type 0
  SlotIs had Gone machine.gone = Unit {0}
  SlotIs had (Writing b) (machine.writing chain above ws) = means.is_batch b chain above ws × IsAmong had chain × IsAmong had above
  SlotIs had (Staged b) (machine.staged chain above ws keys) = means.is_staged b chain above ws keys × IsAmong had chain × IsAmong had above
  SlotIs had (Merkleized b) (machine.merkleized chain tip evicted) = means.is_merkleized b chain tip × IsAmong had chain × Contains had tip × (means.evictions b ≡ evicted)
  SlotIs had slot named = ⊥

  -- what is held stands for this state
  pub record Holds (held : Given X C) (table : List (Slot B S M)) (opened : ℕ) (s : State) : Type 0 where
    pub database : HeldIs s.opened s.had held s.database
    pub store : IsStored members means.scheme (store_given means.inside held) s.log
    pub start : s.log.start ≤ s.log.stable
    pub low : IfSome s.database (λ list. s.log.start ≤ floor list)
    pub within : s.log.stable ≤ length s.log.list
    pub count : opened ≡ s.opened
    pub lengths : length table ≡ length s.table
    pub slots : (h : ℕ) → SlotIs s.had (slice_index_or table h Gone) (slot_at s.table h)

  -- a session stands for this state
  abbrev pub Stands : Session X C B S M → State → Type 0
  Stands session s = Holds session.held session.table.items session.opened s

-- P of the reply, if the turn gave one
abbrev pub IfReply : {K V D : Type 0} → Turn K V D → (reply.Reply K V D → Type 0) → Type 0
IfReply (Reply r) P = P r
IfReply Memory P = Unit {0}
IfReply StoreFault P = Unit {0}

module _ {X C B S M : Type 0} (members : store.Ghosts C) (means : meaning.Ghosts X C B S M) where
  -- However a command ends before which the run was steady, the store has what may be left of it.
  abbrev pub LeavesSteady : Session X C B S M → Session X C B S M → (State → Answer × State) → Type 0
  LeavesSteady old new next =
      (s : State) → Stands members means old s → IsSteady means.scheme s → Apart means.scheme.root s.had → IsLeft means.scheme (members.told (store_given means.inside new.held)) s.log ((next s).1).log

  -- The same of a command that takes what is held and no more, with these batches and this count of openings, steady or not.
  abbrev pub LeavesHeld : List (Slot B S M) → ℕ → Given X C → Given X C → (State → Answer × State) → Type 0
  LeavesHeld table opened old new next =
      (s : State) → Holds members means old table opened s → Apart means.scheme.root s.had → IsLeft means.scheme (members.told (store_given means.inside new)) s.log ((next s).1).log

  -- The same of one before which the run was steady.
  abbrev pub LeavesHeldSteady : List (Slot B S M) → ℕ → Given X C → Given X C → (State → Answer × State) → Type 0
  LeavesHeldSteady table opened old new next =
      (s : State) → Holds members means old table opened s → IsSteady means.scheme s → Apart means.scheme.root s.had → IsLeft means.scheme (members.told (store_given means.inside new)) s.log ((next s).1).log

  module _ {K V D : Type 0} (key : K → Bytes) (value : V → Bytes) (digest : D → Bytes) where
    -- A reply is the machine's, if the lists of this state are apart.
    abbrev pub Answers : Turn K V D → State → Answer × State → Type 0
    Answers turn s next = IfReply turn (λ r. Apart means.scheme.root s.had → answer_view key value digest r ≡ next.0)

    -- A turn does what the machine does: a reply is the machine's, and what is held stands for its next state, if that
    -- run's lists are apart.
    abbrev pub FollowsHeld : List (Slot B S M) → ℕ → Given X C → Turn K V D → Answer × State → Type 0
    FollowsHeld table opened new turn next = IfReply turn (λ r. Apart means.scheme.root (next.1).had → (answer_view key value digest r ≡ next.0) × Holds members means new table opened next.1)

    -- So does a session.
    abbrev pub Follows : Session X C B S M → Turn K V D → Answer × State → Type 0
    Follows new turn next = FollowsHeld new.table.items new.opened new.held turn next

    -- A command does so from each state that the session stood for.
    abbrev pub Obeys : Session X C B S M → Session X C B S M → Turn K V D → (State → Answer × State) → Type 0
    Obeys old new turn next = (s : State) → Stands members means old s → Follows new turn (next s)

    -- The same of a command that takes what is held and no more, with these batches and this count of openings.
    abbrev pub ObeysHeld : List (Slot B S M) → ℕ → Given X C → Given X C → Turn K V D → (State → Answer × State) → Type 0
    ObeysHeld table opened old new turn next = (s : State) → Holds members means old table opened s → FollowsHeld table opened new turn (next s)

    -- The same of a command before which the run was steady, if the store tells the ends that restarts chose in it: the machine
    -- takes these of the choices to come. It may count an opening.
    abbrev pub ObeysHeldSteady : List (Slot B S M) → ℕ → Given X C → ℕ → Given X C → Turn K V D → (State → Answer × State) → Type 0
    ObeysHeldSteady table before old after new turn next =
        (s : State) → Holds members means old table before s → IsSteady means.scheme s
        → (more rest : List ℕ) → Turns (members.told (store_given means.inside old)) (members.told (store_given means.inside new)) (HasEnds (chunks_of means.scheme) ⊤ more) → s.choices ≡ more ++ rest
        → FollowsHeld table after new turn (next s)

    -- So does a session.
    abbrev pub ObeysSteady : Session X C B S M → Session X C B S M → Turn K V D → (State → Answer × State) → Type 0
    ObeysSteady old new turn next =
        (s : State) → Stands members means old s → IsSteady means.scheme s
        → (more rest : List ℕ) → Turns (members.told (store_given means.inside old.held)) (members.told (store_given means.inside new.held)) (HasEnds (chunks_of means.scheme) ⊤ more) → s.choices ≡ more ++ rest
        → Follows new turn (next s)

    -- The same of a command that leaves the session as it is.
    abbrev pub Tells : Session X C B S M → Turn K V D → (State → Answer × State) → Type 0
    Tells session turn next = Obeys session session turn next

-- A turn uses the store: it starts where it did, and has what it had beside its items; its count has not fallen, and it rose
-- if a fault is told.
pub record Uses {C K V D : Type 0} (members : store.Ghosts C) (old new : C) (turn : Turn K V D) : Type 0 where
  pub start : members.start new ≡ members.start old
  pub beside : except_items (members.told new) ≡ except_items (members.told old)
  pub later : members.faults old ≤ members.faults new
  pub fault : turn ≡ StoreFault → Rose (members.faults old) (members.faults new)

-- A turn reads the database: what it stands for stays, and its store is as it was; if the turn is a fault of the store it tells so.
pub record TurnReads {X C B S M K V D : Type 0} (members : store.Ghosts C) (means : meaning.Ghosts X C B S M) (old new : X) (turn : Turn K V D) : Type 0 where
  pub same : (list : List Operation) → means.stands old list → means.stands new list
  pub numbered : (n : ℕ) → means.numbered old n → means.numbered new n
  pub store : IsUnchanged members (means.inside old) (means.inside new)
  pub faults : IsCause (members.faults (means.inside old)) (members.faults (means.inside new)) (turn ≡ StoreFault)

-- a database is open
abbrev pub IsOpen : {X C : Type 0} → Given X C → Type 0
IsOpen (Database x) = ⊤
IsOpen (Store c) = ⊥

-- A turn handles the store: it puts no metadata but that which counts these chunks, takes the rest away only if it destroys the store, and no
-- restart chooses an end; the count of faults has not fallen, and it rose if a fault is told.
pub record Handles {C K V D : Type 0} (chunks : Option Chunks) (Destroyed : Type 0) (members : store.Ghosts C) (old new : C) (turn : Turn K V D) : Type 0 where
  pub beside : Turns (members.told old) (members.told new) (HasEnds chunks Destroyed [])
  pub later : members.faults old ≤ members.faults new
  pub fault : turn ≡ StoreFault → Rose (members.faults old) (members.faults new)

-- these are the choices that a command takes
abbrev pub IsChosen : {P : Type 0} → Line P → List ℕ → Type 0
IsChosen line more = (rest : List ℕ) → choices_after line (more ++ rest) ≡ rest

-- A command's turn handles the store, which it destroys only if it is a `destroy`, and the ends that the command takes were chosen, if it has a reply.
pub record HandlesLine {C K V D P : Type 0} (chunks : Option Chunks) (members : store.Ghosts C) (line : Line P) (old new : C) (turn : Turn K V D) : Type 0 where
  pub more : List ℕ
  pub beside : Turns (members.told old) (members.told new) (HasEnds chunks (line ≡ Destroy) more)
  pub chosen : IfReply turn (λ _. IsChosen line more)
  pub later : members.faults old ≤ members.faults new
  pub fault : turn ≡ StoreFault → Rose (members.faults old) (members.faults new)

-- A command performs its line, as `next` does it in the machine: it does what that does, leaves what may be left of it, handles the
-- store as the line may, and opens once at most.
pub record Performs {X C B S M K V D P : Type 0} (members : store.Ghosts C) (means : meaning.Ghosts X C B S M) (key : K → Bytes) (value : V → Bytes) (digest : D → Bytes) (line : Line P) (next : State → Answer × State) (old new : Session X C B S M) (turn : Turn K V D) : Type 0 where
  pub machine : ObeysSteady members means key value digest old new turn next
  pub left : LeavesSteady members means old new next
  pub handles : HandlesLine (chunks_of means.scheme) members line (store_given means.inside old.held) (store_given means.inside new.held) turn
  pub opened : new.opened ≤ old.opened + 1

-- The same of a command that takes what is held and no more, with these batches: it may count an opening.
pub record PerformsHeld {X C B S M K V D P : Type 0} (members : store.Ghosts C) (means : meaning.Ghosts X C B S M) (key : K → Bytes) (value : V → Bytes) (digest : D → Bytes) (line : Line P) (next : State → Answer × State) (table : List (Slot B S M)) (before : ℕ) (old : Given X C) (after : ℕ) (new : Given X C) (turn : Turn K V D) : Type 0 where
  pub machine : ObeysHeldSteady members means key value digest table before old after new turn next
  pub left : LeavesHeldSteady members means table before old new next
  pub handles : HandlesLine (chunks_of means.scheme) members line (store_given means.inside old) (store_given means.inside new) turn
  pub opened : after ≤ before + 1
