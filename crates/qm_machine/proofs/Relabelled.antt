-- The same commands, with policies under another name.
use Rattle.std.specs.Prelude.{length, ◌==◌, ◌&&◌}
use Rattle.std.proofs.Common.{◌≡◌, ℕ, List, cond, Option, Some, None, refl, ap, ap₂}
use Rattle.qm_model.specs.Operations.{Bytes, Operation}
use Rattle.qm_model.specs.Walk.{Rules}
use Rattle.qm_model.specs.Writes.{Write}
use Rattle.qm_model.specs.Slots.{slotted}
use Rattle.qm_model.specs.Slots as slots
use Rattle.qm_model.specs.Batches.{Chain, commitment, fits}
use Rattle.qm_model.specs.Refused.{StaleBatch, SlotCount}
use Rattle.qm_model.specs.Refusals.{tip_refusal}
use Rattle.qm_model.specs.Step.{Kind, step, evicted_by}
use Rattle.qm_machine.specs.Lines.{Line, Open, Batch, Child, Tip, Put, Del, Merkleize, Stage, Expand, Resolve, Apply, Ops, Evicted, Get, Many, Next, Prev, Span, All, Range, Keys, Info, BatchInfo, Root, BatchRoot, BatchProof, Meta, Prove, Pins, Current, Prune, Commit, Sync, Close, Destroy, Crash}
use Rattle.qm_machine.specs.Machine.{choices_after, State, Slot, gone, writing, staged, merkleized, slot_at, with_slot, with_database, refuse, merkleize_tip, merkleize_writes, merkleize_in, merkleize, resolve_in, resolve, turn}
use Rattle.qm_model.specs.Schemes.{Scheme, kind_of, takes}

-- a line with its policy under this name
abbrev pub relabelled : {P Q : Type 0} → (P → Q) → Line P → Line Q
relabelled f (Open bound) = Open bound
relabelled f Batch = Batch
relabelled f (Child h keep) = Child h keep
relabelled f Tip = Tip
relabelled f (Put h key value) = Put h key value
relabelled f (Del h key) = Del h key
relabelled f (Merkleize h policy meta) = Merkleize h (f policy) meta
relabelled f (Stage h keys) = Stage h keys
relabelled f (Expand h keys) = Expand h keys
relabelled f (Resolve h policy meta given others) = Resolve h (f policy) meta given others
relabelled f (Apply h) = Apply h
relabelled f (Ops h) = Ops h
relabelled f (Evicted h) = Evicted h
relabelled f (Get key from) = Get key from
relabelled f (Many keys from) = Many keys from
relabelled f (Next key from) = Next key from
relabelled f (Prev key from) = Prev key from
relabelled f (Span key) = Span key
relabelled f (All key) = All key
relabelled f (Range low high) = Range low high
relabelled f (Keys low high) = Keys low high
relabelled f Info = Info
relabelled f (BatchInfo h) = BatchInfo h
relabelled f Root = Root
relabelled f (BatchRoot h) = BatchRoot h
relabelled f (BatchProof h) = BatchProof h
relabelled f Meta = Meta
relabelled f (Prove size start max) = Prove size start max
relabelled f (Pins n) = Pins n
relabelled f (Current question) = Current question
relabelled f (Prune to) = Prune to
relabelled f Commit = Commit
relabelled f Sync = Sync
relabelled f Close = Close
relabelled f Destroy = Destroy
relabelled f (Crash keep) = Crash keep

-- it takes as many of the choices to come
pub choices-relabelled : {P Q : Type 0} (f : P → Q) (line : Line P) (choices : List ℕ) → choices_after (relabelled f line) choices ≡ choices_after line choices
choices-relabelled f (Open bound) choices = refl
choices-relabelled f Batch choices = refl
choices-relabelled f (Child h keep) choices = refl
choices-relabelled f Tip choices = refl
choices-relabelled f (Put h key value) choices = refl
choices-relabelled f (Del h key) choices = refl
choices-relabelled f (Merkleize h policy meta) choices = refl
choices-relabelled f (Stage h keys) choices = refl
choices-relabelled f (Expand h keys) choices = refl
choices-relabelled f (Resolve h policy meta given others) choices = refl
choices-relabelled f (Apply h) choices = refl
choices-relabelled f (Ops h) choices = refl
choices-relabelled f (Evicted h) choices = refl
choices-relabelled f (Get key from) choices = refl
choices-relabelled f (Many keys from) choices = refl
choices-relabelled f (Next key from) choices = refl
choices-relabelled f (Prev key from) choices = refl
choices-relabelled f (Span key) choices = refl
choices-relabelled f (All key) choices = refl
choices-relabelled f (Range low high) choices = refl
choices-relabelled f (Keys low high) choices = refl
choices-relabelled f Info choices = refl
choices-relabelled f (BatchInfo h) choices = refl
choices-relabelled f Root choices = refl
choices-relabelled f (BatchRoot h) choices = refl
choices-relabelled f (BatchProof h) choices = refl
choices-relabelled f Meta choices = refl
choices-relabelled f (Prove size start max) choices = refl
choices-relabelled f (Pins n) choices = refl
choices-relabelled f (Current question) choices = refl
choices-relabelled f (Prune to) choices = refl
choices-relabelled f Commit choices = refl
choices-relabelled f Sync choices = refl
choices-relabelled f Close choices = refl
choices-relabelled f Destroy choices = refl
choices-relabelled f (Crash keep) choices = refl

-- if each policy makes the steps of its other name, and evicts as it does
module _ {P Q : Type 0} (f : P → Q) (a : Rules P) (b : Rules Q)
    (same : (kind : Kind) (ops : List Operation) (ws : List Write) (p : P) (meta : Option Bytes) → step kind a ops ws p meta ≡ step kind b ops ws (f p) meta)
    (alike : (kind : Kind) (ops : List Operation) (ws : List Write) (p : P) → evicted_by kind a ops ws p ≡ evicted_by kind b ops ws (f p)) (m : Scheme) where
  same_writes : (s : State) (h : ℕ) (policy : P) (meta : Option Bytes) (list : List Operation) (chain : Chain) (ws : List Write) → merkleize_writes m a s h policy meta list chain ws ≡ merkleize_writes m b s h (f policy) meta list chain ws
  same_writes s h policy meta list chain ws =
      ap₂ (λ tip evicted. cond (takes m.grafts s.opened chain.instance && fits m.root (commitment m.root list) chain) (merkleize_tip s h chain tip evicted (tip_refusal m.form chain tip)) (refuse (with_slot s h gone) StaleBatch))
      (same (kind_of m) chain.base ws policy meta) (alike (kind_of m) chain.base ws policy)

  same_in : (s : State) (h : ℕ) (policy : P) (meta : Option Bytes) (list : List Operation) (slot : Slot) → merkleize_in m a s h policy meta list slot ≡ merkleize_in m b s h (f policy) meta list slot
  same_in s h policy meta list (writing chain above ws) = same_writes s h policy meta list chain ws
  same_in s h policy meta list gone = refl
  same_in s h policy meta list (staged chain above ws keys) = refl
  same_in s h policy meta list (merkleized chain tip evicted) = refl

  same_merkleize : (s : State) (h : ℕ) (policy : P) (meta : Option Bytes) → merkleize m a s h policy meta ≡ merkleize m b s h (f policy) meta
  same_merkleize s h policy meta = in_database s.database
    where
      in_database : (database : Option (List Operation)) → with_database s database (λ list. merkleize_in m a s h policy meta list (slot_at s.table h)) ≡ with_database s database (λ list. merkleize_in m b s h (f policy) meta list (slot_at s.table h))
      in_database None = refl
      in_database (Some list) = same_in s h policy meta list (slot_at s.table h)

  same_resolve_in : (s : State) (h : ℕ) (policy : P) (meta : Option Bytes) (given : List slots.Slot) (others : List Write) (list : List Operation) (slot : Slot) → resolve_in m a s h policy meta given others list slot ≡ resolve_in m b s h (f policy) meta given others list slot
  same_resolve_in s h policy meta given others list gone = refl
  same_resolve_in s h policy meta given others list (writing chain above ws) = refl
  same_resolve_in s h policy meta given others list (merkleized chain tip evicted) = refl
  same_resolve_in s h policy meta given others list (staged chain above ws keys) =
      ap (λ made. cond (length keys == length given) made (refuse s (SlotCount (length keys) (length given)))) (same_writes s h policy meta list chain (slotted ws keys given others))

  same_resolve : (s : State) (h : ℕ) (policy : P) (meta : Option Bytes) (given : List slots.Slot) (others : List Write) → resolve m a s h policy meta given others ≡ resolve m b s h (f policy) meta given others
  same_resolve s h policy meta given others = in_database s.database
    where
      in_database : (database : Option (List Operation)) → with_database s database (λ list. resolve_in m a s h policy meta given others list (slot_at s.table h)) ≡ with_database s database (λ list. resolve_in m b s h (f policy) meta given others list (slot_at s.table h))
      in_database None = refl
      in_database (Some list) = same_resolve_in s h policy meta given others list (slot_at s.table h)

  pub turn_relabelled : (s : State) (line : Line P) → turn m a s line ≡ turn m b s (relabelled f line)
  turn_relabelled s (Open bound) = refl
  turn_relabelled s Batch = refl
  turn_relabelled s (Child h keep) = refl
  turn_relabelled s Tip = refl
  turn_relabelled s (Put h key value) = refl
  turn_relabelled s (Del h key) = refl
  turn_relabelled s (Merkleize h policy meta) = same_merkleize s h policy meta
  turn_relabelled s (Stage h keys) = refl
  turn_relabelled s (Expand h keys) = refl
  turn_relabelled s (Resolve h policy meta given others) = same_resolve s h policy meta given others
  turn_relabelled s (Apply h) = refl
  turn_relabelled s (Ops h) = refl
  turn_relabelled s (Evicted h) = refl
  turn_relabelled s (Get key from) = refl
  turn_relabelled s (Many keys from) = refl
  turn_relabelled s (Next key from) = refl
  turn_relabelled s (Prev key from) = refl
  turn_relabelled s (Span key) = refl
  turn_relabelled s (All key) = refl
  turn_relabelled s (Range low high) = refl
  turn_relabelled s (Keys low high) = refl
  turn_relabelled s Info = refl
  turn_relabelled s (BatchInfo h) = refl
  turn_relabelled s Root = refl
  turn_relabelled s (BatchRoot h) = refl
  turn_relabelled s (BatchProof h) = refl
  turn_relabelled s Meta = refl
  turn_relabelled s (Prove size start max) = refl
  turn_relabelled s (Pins n) = refl
  turn_relabelled s (Current question) = refl
  turn_relabelled s (Prune to) = refl
  turn_relabelled s Commit = refl
  turn_relabelled s Sync = refl
  turn_relabelled s Close = refl
  turn_relabelled s Destroy = refl
  turn_relabelled s (Crash keep) = refl
