-- The commands that only an ordered database offers: what is read through a merkleized batch.
use Rattle.std.proofs.Common.{◌≡◌, ℕ, true, cond, List, get_or, Option, Some, option_map, refl, sym, ap, subst}
use Rattle.std.specs.Prelude.{Contains}
use Rattle.qm_model.specs.Operations.{Bytes, Operation}
use Rattle.qm_model.specs.Live.{live_keys}
use Rattle.qm_model.specs.Batches.{Chain, IsAmong, IsKnown}
use Rattle.qm_machine.specs.Lines.{Answer}
use Rattle.qm_machine.specs.Lines as lines
use Rattle.qm_model.specs.Refused as refusals
use Rattle.qm_machine.specs.Machine.{State, slot_at, refuse, with_database, if_readable, if_ordered, neighbour_in, neighbour_of}
use Rattle.qm_machine.specs.Machine as machine
use Rattle.qm_base.specs.declared.error.Error.{Error}
use Rattle.qm_lines.specs.declared.reply.Reply.TheVariants.{Neighbour}
use Rattle.qm_store.specs.declared.Store as stores
use Rattle.qm_offer.specs.declared.meaning.Meaning as meaning
use Rattle.qm_store.specs.declared.refusal.Given.TheVariants.{Database}
use Rattle.qm_engine.specs.declared.table.Slot.{Slot}
use Rattle.qm_engine.specs.declared.table.Slot.TheVariants.{Gone, Merkleized}
use Rattle.qm_engine.specs.declared.session.Turn.{Turn}
use Rattle.qm_engine.specs.declared.session.Turn.TheVariants.{Reply}
use Rattle.qm_engine.specs.Table.{merkleized_of}
use Rattle.qm_engine.specs.Turn.{turn_of_error}
use Rattle.qm_offer.specs.Words.{AtTip, CanRead, IsReadFailure}
use Rattle.qm_engine.specs.Session.{SlotIs, Holds, Answers}
use Rattle.qm_engine.proofs.Commands.{with_list, Keeps, Holds-kept, Turns, answered, merkleized_slot}
use Rattle.qm_engine.proofs.ReadCommands.{readable_ok, readable_err, readable_state}

module _ {X C B S M K V D : Type 0} (members : stores.Ghosts C) (means : meaning.Ghosts X C B S M) (key : K → Bytes) (value : V → Bytes) (digest : D → Bytes)
    (x after : X) (table : List (Slot B S M)) (opened h : ℕ) (s : State) (beside : List Bytes → Option Bytes) (batch : M) where
  -- the turn does what the machine does for the key beside one
  abbrev pub Finds : Turn K V D → Type 0
  Finds turn = Turns members means key value digest turn (Database after) table opened (if_ordered means.scheme s (neighbour_of means.scheme s beside (Some h)))

  -- the answer from a tip list
  abbrev found : List Operation → Answer
  found tip = lines.Neighbour (beside (live_keys tip))

  abbrev named : List Operation → machine.Slot → Answer × State
  named = neighbour_in means.scheme s h beside

  named_state : (list : List Operation) (slot : machine.Slot) → (named list slot).1 ≡ s
  named_state list machine.gone = refl
  named_state list (machine.writing chain above ws) = refl
  named_state list (machine.staged chain above ws keys) = refl
  named_state list (machine.merkleized chain tip evicted) = readable_state members means key value digest s list chain tip (found tip)

  -- over an ordered database, through the merkleized batch of this number
  on_batch : (turn : Turn K V D) → Holds members means (Database x) table opened s → Keeps members means x after → means.scheme.form.ordered ≡ true → Some batch ≡ merkleized_of (get_or table h Gone)
      → ((list : List Operation) (chain : Chain) (tip : List Operation) → means.stands x list → means.is_merkleized batch chain tip → Contains s.had list → IsAmong s.had chain → Contains s.had tip
      → Answers members means key value digest turn s (if_readable means.scheme s list chain tip (found tip)))
      → Finds turn
  on_batch turn k keeps ordered e each =
      subst (λ t. Goes (cond t (with_database s s.database offered) (refuse s refusals.NotOffered))) (sym ordered)
      (with_list members means x s.had s.database s offered Goes k.database
      (λ list stands in_had. answered members means key value digest turn (Database after) table opened s (offered list) (named_state list (slot_at s.table h)) (Holds-kept members means x after table opened s keeps k)
      (by list stands in_had (slot_at s.table h) (subst (λ a. SlotIs members means s.had a (slot_at s.table h)) (merkleized_slot members means (get_or table h Gone) batch (sym e)) (k.slots h)))))
    where
      offered : List Operation → Answer × State
      offered list = named list (slot_at s.table h)

      Goes : Answer × State → Type 0
      Goes = Turns members means key value digest turn (Database after) table opened

      by : (list : List Operation) → means.stands x list → Contains s.had list → (slot : machine.Slot) → SlotIs members means s.had (Merkleized batch) slot → Answers members means key value digest turn s (named list slot)
      by list stands in_had (machine.merkleized chain tip evicted) is = each list chain tip stands is.0 in_had is.1 is.2
      by list stands in_had slot is = absurd is

  pub neighbour_ok : (k : Option K) → Holds members means (Database x) table opened s → Keeps members means x after → means.scheme.form.ordered ≡ true → Some batch ≡ merkleized_of (get_or table h Gone)
      → AtTip means x batch (λ list chain tip. CanRead means list chain tip)
      → AtTip means x batch (λ list chain tip. IsKnown list chain tip → option_map key k ≡ beside (live_keys tip))
      → Finds (Reply (Neighbour k))
  neighbour_ok k held keeps ordered e can are = on_batch (Reply (Neighbour k)) held keeps ordered e (λ list chain tip stands is in_had among tip_in.
      readable_ok members means key value digest s list chain tip (lines.Neighbour (option_map key k)) (found tip) in_had among tip_in (can list chain tip stands is) (λ known. ap lines.Neighbour (are list chain tip stands is known)))

  pub neighbour_err : (error : Error) → Holds members means (Database x) table opened s → Keeps members means x after → means.scheme.form.ordered ≡ true → Some batch ≡ merkleized_of (get_or table h Gone)
      → AtTip means x batch (λ list chain tip. IsReadFailure means list chain tip error)
      → Finds (turn_of_error error)
  neighbour_err error held keeps ordered e why = on_batch (turn_of_error error) held keeps ordered e (λ list chain tip stands is in_had among tip_in.
      readable_err members means key value digest s list chain tip error (found tip) in_had among tip_in (why list chain tip stands is))
