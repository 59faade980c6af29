-- What a command does that leaves all but the items of its store, as what any command does.
use Rattle.std.proofs.Common.{◌≡◌, ◌≢◌, inl, [], List, ℕ, Option, Some, None, arith, refl, ap, sym, ◌∙◌, append-nil}
use Rattle.qm_model.specs.Operations.{Bytes}
use Rattle.qm_model.specs.Opening.{Chunks}
use Rattle.qm_model.specs.Schemes.{chunks_of}
use Rattle.qm_model.specs.StoreModel.{Stored, Turns, except_items, without_items}
use Rattle.qm_machine.specs.Lines.{Line, Answer, Destroy}
use Rattle.qm_machine.specs.Machine.{State}
use Rattle.qm_store.specs.declared.Store as stores
use Rattle.qm_store.specs.declared.refusal.Given.{Given}
use Rattle.qm_store.specs.Given.{store_given, IsUnchanged}
use Rattle.qm_offer.specs.declared.meaning.Meaning as meaning
use Rattle.qm_engine.specs.declared.session.Session.{Session}
use Rattle.qm_engine.specs.declared.table.Slot.{Slot}
use Rattle.qm_engine.specs.declared.session.Turn.{Turn}
use Rattle.qm_engine.specs.declared.session.Turn.TheVariants.{Reply, Memory, StoreFault}
use Rattle.qm_engine.specs.Stores.{HasEnds}
use Rattle.qm_engine.specs.Session.{Obeys, ObeysSteady, ObeysHeldSteady, LeavesHeldSteady, IfReply, Uses, Handles, HandlesLine, IsChosen, Performs, PerformsHeld}
use Rattle.qm_engine.proofs.Commands.{left_none, stored-same}
use Rattle.qm_engine.proofs.LastingStores.{stay-same, turns-looser}

-- it keeps what the machine does
pub obeys_steady : {X C B S M K V D : Type 0} (members : stores.Ghosts C) (means : meaning.Ghosts X C B S M) (key : K → Bytes) (value : V → Bytes) (digest : D → Bytes) (old new : Session X C B S M) (turn : Turn K V D) (next : State → Answer × State)
    → Obeys members means key value digest old new turn next → ObeysSteady members means key value digest old new turn next
obeys_steady members means key value digest old new turn next obeys = λ s k sound more rest told choices. obeys s k

-- and what stands beside the items
pub beside-items : (Destroyed : Type 0) (chunks : Option Chunks) (o new : Option Stored) → except_items new ≡ except_items o → Turns o new (HasEnds chunks Destroyed [])
beside-items Destroyed chunks None None e = refl
beside-items Destroyed chunks None (Some t) e = absurd (cc)
beside-items Destroyed chunks (Some s) None e = absurd (cc)
beside-items Destroyed chunks (Some s) (Some t) e =
    let same : without_items t ≡ without_items s = cc in
    record { metadata = inl (stay-same chunks s.metadata t.metadata (ap (λ x. x.metadata) same)); ends = ap (λ x. x.ends) same ∙ sym (append-nil s.ends) }

pub uses_handles : {C K V D : Type 0} (chunks : Option Chunks) (members : stores.Ghosts C) (old new : C) (turn : Turn K V D) → Uses members old new turn → Handles chunks ⊥ members old new turn
uses_handles chunks members old new turn uses = record { beside = beside-items ⊥ chunks (members.told old) (members.told new) uses.beside; later = uses.later; fault = uses.fault }

-- a command that takes no choice
pub handles_line : {C K V D P Destroyed : Type 0} (chunks : Option Chunks) (members : stores.Ghosts C) (line : Line P) (old new : C) (turn : Turn K V D) → IsChosen line [] → (Destroyed → line ≡ Destroy) → Handles chunks Destroyed members old new turn → HandlesLine chunks members line old new turn
handles_line chunks members line old new turn chosen destroys handles = record {
  more = [];
  beside = turns-looser chunks [] (members.told old) (members.told new) destroys handles.beside;
  chosen = if_reply turn chosen;
  later = handles.later;
  fault = handles.fault;
}
  where
    if_reply : {K V D : Type 0} (turn : Turn K V D) → IsChosen line [] → IfReply turn (λ _. IsChosen line [])
    if_reply (Reply r) chosen = chosen
    if_reply Memory chosen = tt
    if_reply StoreFault chosen = tt

pub uses_line : {C K V D P : Type 0} (chunks : Option Chunks) (members : stores.Ghosts C) (line : Line P) (old new : C) (turn : Turn K V D) → IsChosen line [] → Uses members old new turn → HandlesLine chunks members line old new turn
uses_line chunks members line old new turn chosen uses = handles_line chunks members line old new turn chosen (λ never. absurd never) (uses_handles chunks members old new turn uses)

module _ {X C B S M K V D P : Type 0} {members : stores.Ghosts C} {means : meaning.Ghosts X C B S M} {key : K → Bytes} {value : V → Bytes} {digest : D → Bytes} {line : Line P} {next : State → Answer × State} where
  -- A command that reads: its store has what it had.
  pub performs-reading : {old new : Session X C B S M} {turn : Turn K V D} → IsChosen line []
      → ObeysSteady members means key value digest old new turn next
      → IsUnchanged members (store_given means.inside old.held) (store_given means.inside new.held)
      → Uses members (store_given means.inside old.held) (store_given means.inside new.held) turn
      → new.opened ≡ old.opened → Performs members means key value digest line next old new turn
  performs-reading {old} {new} {turn} chosen obeys same uses opened = record {
    machine = obeys;
    left = λ s k sound apart. left_none means.scheme s.log _ _ (stored-same members means.scheme _ _ s.log same k.store).told;
    handles = uses_line (chunks_of means.scheme) members line _ _ turn chosen uses;
    opened = omega arith;
  }

  -- One that leaves the store alone.
  pub performs-beside : {old new : Session X C B S M} {turn : Turn K V D} → IsChosen line []
      → Obeys members means key value digest old new turn next
      → new ≡ record old { table = new.table } → turn ≢ StoreFault → Performs members means key value digest line next old new turn
  performs-beside {old} {new} {turn} chosen obeys rest never =
      let held : new.held ≡ old.held = ap (λ (x : Session X C B S M). x.held) rest in
      let opened : new.opened ≡ old.opened = ap (λ (x : Session X C B S M). x.opened) rest in
      let store = store_given means.inside new.held in
      let same : store ≡ store_given means.inside old.held = ap (store_given means.inside) held in
      performs-reading chosen (obeys_steady members means key value digest old new turn next obeys)
      (record { start = ap members.start same; told = ap members.told same })
      (record { start = ap members.start same; beside = ap (λ c. except_items (members.told c)) same; later = omega (arith, ap members.faults same); fault = λ e. absurd (never e) })
      opened

  -- And one that leaves all as it is.
  pub performs-telling : {session : Session X C B S M} {turn : Turn K V D} → IsChosen line []
      → Obeys members means key value digest session session turn next → turn ≢ StoreFault → Performs members means key value digest line next session session turn
  performs-telling chosen obeys never = performs-beside chosen obeys refl never

  -- One that takes what is held goes by no choice and counts no opening.
  pub performs-held : {Destroyed : Type 0} {table : List (Slot B S M)} {opened : ℕ} {old new : Given X C} {turn : Turn K V D} → IsChosen line []
      → (Destroyed → line ≡ Destroy)
      → ObeysHeldSteady members means key value digest table opened old opened new turn next
      → LeavesHeldSteady members means table opened old new next
      → Handles (chunks_of means.scheme) Destroyed members (store_given means.inside old) (store_given means.inside new) turn
      → PerformsHeld members means key value digest line next table opened old opened new turn
  performs-held {old} {new} {turn} chosen destroys machine left handles = record {
    machine = machine;
    left = left;
    handles = handles_line (chunks_of means.scheme) members line (store_given means.inside old) (store_given means.inside new) turn chosen destroys handles;
    opened = omega arith;
  }
