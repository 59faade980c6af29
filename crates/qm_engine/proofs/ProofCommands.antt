-- The commands that prove.
use Rattle.std.proofs.Common.{◌∙◌, ◌≡◌, ◌≢◌, ◌⊎◌, inl, inr, Bool, true, cond, Option, ℕ, ◌+◌, List, length, get_or, take, drop, Some, None, refl, sym, ap₂, subst, ap}
use Rattle.std.specs.Prelude.{Contains}
use Rattle.qm_model.specs.Operations.{Bytes, Operation}
use Rattle.qm_model.specs.Batches.{Chain, Apart, IsAmong, IsKnown, commitment, readable}
use Rattle.qm_model.specs.Proofs.{Proof}
use Rattle.qm_model.specs.Refusals.{proof_refusal, proof_count}
use Rattle.qm_model.specs.Refused as refusals
use Rattle.qm_model.specs.Held.{pins_lacked, proof_lacked}
use Rattle.qm_machine.specs.Lines.{Answer}
use Rattle.qm_machine.specs.Lines as lines
use Rattle.qm_machine.specs.Machine.{State, slot_at, refuse, with_database, unless, if_any, proof_in}
use Rattle.qm_machine.specs.Machine as machine
use Rattle.qm_base.specs.declared.error.Error.{Error}
use Rattle.qm_base.specs.declared.error.Error.TheVariants as errors
use Rattle.qm_lines.specs.Views.{answer_view, refused_view}
use Rattle.qm_lines.specs.declared.reply.Reply as reply
use Rattle.qm_lines.specs.declared.reply.Refused.{Refused}
use Rattle.qm_store.specs.declared.Store as stores
use Rattle.qm_offer.specs.declared.meaning.Meaning as meaning
use Rattle.qm_store.specs.declared.refusal.Given.{Given}
use Rattle.qm_store.specs.declared.refusal.Given.TheVariants.{Database}
use Rattle.qm_engine.specs.declared.table.Slot.{Slot}
use Rattle.qm_engine.specs.declared.table.Slot.TheVariants.{Gone, Merkleized}
use Rattle.qm_engine.specs.declared.session.Turn.{Turn}
use Rattle.qm_engine.specs.declared.session.Turn.TheVariants.{Reply}
use Rattle.qm_engine.specs.Table.{merkleized_of}
use Rattle.qm_engine.specs.Turn.{turn_of_error}
use Rattle.qm_store.specs.Refusals.{refusal_of, IsDue}
use Rattle.qm_offer.specs.Words.{AtTip, CanRead, IsProofFailure}
use Rattle.qm_engine.specs.Session.{SlotIs, Holds, Answers}
use Rattle.qm_engine.proofs.Commands.{choice, none_some, due_told, refuses, by_refusal, with_list, Keeps, Holds-kept, Turns, unless_err, answered, merkleized_slot}
use Rattle.qm_engine.proofs.ReadCommands.{is_stale_read}
use Rattle.qm_model.proofs.Chains.{known-readable}

module _ {X C B S M K V D : Type 0} (members : stores.Ghosts C) (means : meaning.Ghosts X C B S M) (key : K → Bytes) (value : V → Bytes) (digest : D → Bytes) where
  abbrev root : List Operation → Bytes
  root = means.scheme.root

  abbrev Goes : Turn K V D → Given X C → List (Slot B S M) → ℕ → Answer × State → Type 0
  Goes = Turns members means key value digest

  -- proofs and pins
  pub prove_ok : (x after : X) (table : List (Slot B S M)) (opened size start max : ℕ) (proof : Proof) (ops : List Operation) (s : State) → Holds members means (Database x) table opened s
      → Keeps members means x after
      → ((list : List Operation) → means.stands x list → proof_refusal (members.start (means.inside x)) list size start ≡ None)
      → ((list : List Operation) → means.stands x list → proof ≡ means.scheme.proof (take size list) start (start + proof_count size start max))
      → ((list : List Operation) → means.stands x list → ops ≡ take (proof_count size start max) (drop start list))
      → (lines.Proved proof ops ≡ (machine.prove means.scheme s size start max).0) × Holds members means (Database after) table opened (machine.prove means.scheme s size start max).1
  prove_ok x after table opened size start max proof ops s k keeps offered is_proof are_ops =
      let count : ℕ = proof_count size start max in
      let Goal : Answer × State → Type 0 = λ next. (lines.Proved proof ops ≡ next.0) × Holds members means (Database after) table opened next.1 in
      let given : List Operation → Answer = λ list. lines.Proved (means.scheme.proof (take size list) start (start + count)) (take count (drop start list)) in
      with_list members means x s.had s.database s (λ list. unless s (proof_refusal s.log.start list size start) (given list)) Goal k.database
      (λ list stands in_had. subst (λ due. Goal (unless s due (given list))) (sym (subst (λ kept. proof_refusal kept list size start ≡ None) k.store.start (offered list stands)))
      (ap₂ lines.Proved (is_proof list stands) (are_ops list stands), Holds-kept members means x after table opened s keeps k))

  pub prove_err : (x after : X) (table : List (Slot B S M)) (opened size start max : ℕ) (error : Error) (s : State) → Holds members means (Database x) table opened s
      → Keeps members means x after
      → ((list : List Operation) → means.stands x list → IsDue error (proof_refusal (members.start (means.inside x)) list size start))
      → Goes (turn_of_error error) (Database after) table opened (machine.prove means.scheme s size start max)
  prove_err x after table opened size start max error s k keeps is =
      unless_err members means key value digest x after table opened error s (λ list. proof_refusal s.log.start list size start)
      (λ list. lines.Proved (means.scheme.proof (take size list) start (start + proof_count size start max)) (take (proof_count size start max) (drop start list))) k keeps
      (λ list stands. subst (λ kept. IsDue error (proof_refusal kept list size start)) k.store.start (is list stands))

  pub pins_ok : (x : X) (table : List (Slot B S M)) (opened n : ℕ) (digests : List Bytes) (s : State) → Holds members means (Database x) table opened s
      → ((list : List Operation) → means.stands x list → pins_lacked means.scheme.shape (members.start (means.inside x)) list n ≡ None)
      → ((list : List Operation) → means.stands x list → digests ≡ means.scheme.pins list n)
      → (lines.Pinned digests ≡ (machine.pins means.scheme s n).0) × Holds members means (Database x) table opened (machine.pins means.scheme s n).1
  pins_ok x table opened n digests s k offered are =
      let Goal : Answer × State → Type 0 = λ next. (lines.Pinned digests ≡ next.0) × Holds members means (Database x) table opened next.1 in
      with_list members means x s.had s.database s (λ list. unless s (pins_lacked means.scheme.shape s.log.start list n) (lines.Pinned (means.scheme.pins list n))) Goal k.database
      (λ list stands in_had. subst (λ due. Goal (unless s due (lines.Pinned (means.scheme.pins list n)))) (sym (subst (λ kept. pins_lacked means.scheme.shape kept list n ≡ None) k.store.start (offered list stands)))
      (ap lines.Pinned (are list stands), k))

  pub pins_err : (x : X) (table : List (Slot B S M)) (opened n : ℕ) (error : Error) (s : State) → Holds members means (Database x) table opened s
      → ((list : List Operation) → means.stands x list → IsDue error (pins_lacked means.scheme.shape (members.start (means.inside x)) list n))
      → Goes (turn_of_error error) (Database x) table opened (machine.pins means.scheme s n)
  pins_err x table opened n error s k is =
      unless_err members means key value digest x x table opened error s (λ list. pins_lacked means.scheme.shape s.log.start list n) (λ list. lines.Pinned (means.scheme.pins list n)) k (λ l h. h, record { start = refl; told = refl }, λ n h. h)
      (λ list stands. subst (λ kept. IsDue error (pins_lacked means.scheme.shape kept list n)) k.store.start (is list stands))

  -- the proof of a batch
  unless_state : (s : State) (due : Option refusals.Refused) (answer : Answer) → (unless s due answer).1 ≡ s
  unless_state s None answer = refl
  unless_state s (Some r) answer = refl

  abbrev proved_by : Chain → List Operation → Answer
  proved_by chain tip = lines.BatchProved (means.scheme.proof tip (length chain.base) (length tip)) (means.scheme.pins tip (length chain.base))

  abbrev lacked : State → List Operation → Chain → List Operation → Option refusals.Refused
  lacked s list chain tip = proof_lacked means.scheme.shape s.log.start list chain tip

  abbrev can_read : List Operation → Chain → List Operation → Bool
  can_read list chain tip = readable root (commitment root list) chain tip

  proof_state-in : (s : State) (h : ℕ) (list : List Operation) (named : machine.Slot) → (proof_in means.scheme s h list named).1 ≡ s
  proof_state-in s h list machine.gone = refl
  proof_state-in s h list (machine.writing chain above ws) = refl
  proof_state-in s h list (machine.staged chain above ws keys) = refl
  proof_state-in s h list (machine.merkleized chain tip evicted) =
      choice (can_read list chain tip) (unless s (lacked s list chain tip) (proved_by chain tip)) (refuse s refusals.StaleRead) (λ next. next.1 ≡ s) (λ can. unless_state s (lacked s list chain tip) (proved_by chain tip)) (λ not. refl)

  named_proof : means.scheme.grafts ≡ None → (turn : Turn K V D) (x : X) (table : List (Slot B S M)) (opened h : ℕ) (batch : M) (s : State) → Holds members means (Database x) table opened s → merkleized_of (get_or table h Gone) ≡ Some batch
      → ((list : List Operation) (chain : Chain) (tip : List Operation) → means.stands x list → means.is_merkleized batch chain tip → Contains s.had list → IsAmong s.had chain → Contains s.had tip → (evicted : List (Bytes × Bytes))
      → Answers members means key value digest turn s (proof_in means.scheme s h list (machine.merkleized chain tip evicted)))
      → Goes turn (Database x) table opened (machine.batch_proof means.scheme s h)
  named_proof plain turn x table opened h batch s k e told =
      subst (Goes turn (Database x) table opened) (sym (ap (λ grafts. if_any s grafts (with_database s s.database (λ list. proof_in means.scheme s h list (slot_at s.table h)))) plain))
      (with_list members means x s.had s.database s (λ list. proof_in means.scheme s h list (slot_at s.table h)) (Goes turn (Database x) table opened) k.database
      (λ list stands in_had. answered members means key value digest turn (Database x) table opened s (proof_in means.scheme s h list (slot_at s.table h)) (proof_state-in s h list (slot_at s.table h))
      k (by list stands in_had (slot_at s.table h) (subst (λ a. SlotIs members means s.had a (slot_at s.table h)) (merkleized_slot members means (get_or table h Gone) batch e) (k.slots h)))))
    where
      by : (list : List Operation) → means.stands x list → Contains s.had list → (named : machine.Slot) → SlotIs members means s.had (Merkleized batch) named → Answers members means key value digest turn s (proof_in means.scheme s h list named)
      by list stands in_had (machine.merkleized chain tip evicted) is = told list chain tip stands is.0 in_had is.1 is.2 evicted
      by list stands in_had named is = absurd is

  pub batch_proof_ok : means.scheme.grafts ≡ None → (r : reply.Reply K V D) (proof : Proof) (pins : List Bytes) (x : X) (table : List (Slot B S M)) (opened h : ℕ) (batch : M) (s : State) → Holds members means (Database x) table opened s
      → answer_view key value digest r ≡ lines.BatchProved proof pins
      → AtTip means x batch (λ list chain tip. CanRead means list chain tip)
      → AtTip means x batch (λ list chain tip. IsKnown list chain tip → (proof_lacked means.scheme.shape (members.start (means.inside x)) list chain tip ≡ None)
      × (proof ≡ means.scheme.proof tip (length chain.base) (length tip)) × (pins ≡ means.scheme.pins tip (length chain.base)))
      → merkleized_of (get_or table h Gone) ≡ Some batch
      → Goes (Reply r) (Database x) table opened (machine.batch_proof means.scheme s h)
  batch_proof_ok plain r proof pins x table opened h batch s k is_view can are e =
      named_proof plain (Reply r) x table opened h batch s k e (λ list chain tip stands is in_had among tip_in evicted apart.
      let allowed = can list chain tip stands is in
      let facts = are list chain tip stands is (known-readable root s.had list chain tip apart in_had among tip_in allowed) in
      is_view ∙ subst (λ t. lines.BatchProved proof pins ≡ (cond t (unless s (lacked s list chain tip) (proved_by chain tip)) (refuse s refusals.StaleRead)).0) (sym allowed)
      (subst (λ due. lines.BatchProved proof pins ≡ (unless s due (proved_by chain tip)).0) (sym (subst (λ kept. proof_lacked means.scheme.shape kept list chain tip ≡ None) k.store.start facts.0)) (ap₂ lines.BatchProved facts.1 facts.2)))

  pub batch_proof_err : means.scheme.grafts ≡ None → (error : Error) (x : X) (table : List (Slot B S M)) (opened h : ℕ) (batch : M) (s : State) → Holds members means (Database x) table opened s
      → AtTip means x batch (λ list chain tip. IsProofFailure means (members.start (means.inside x)) list chain tip error)
      → merkleized_of (get_or table h Gone) ≡ Some batch
      → Goes (turn_of_error error) (Database x) table opened (machine.batch_proof means.scheme s h)
  batch_proof_err plain error x table opened h batch s k fails e =
      named_proof plain (turn_of_error error) x table opened h batch s k e (λ list chain tip stands is in_had among tip_in evicted.
      by_refusal error _ (λ r told apart. by list chain tip in_had among tip_in (fails list chain tip stands is) apart r told (is_stale_read error)))
    where
      Goal : List Operation → Chain → List Operation → Refused → Bool → Type 0
      Goal list chain tip r t = lines.Refuses (refused_view r) ≡ (cond t (unless s (lacked s list chain tip) (proved_by chain tip)) (refuse s refusals.StaleRead)).0

      by : (list : List Operation) (chain : Chain) (tip : List Operation) → Contains s.had list → IsAmong s.had chain → Contains s.had tip → IsProofFailure means (members.start (means.inside x)) list chain tip error
          → Apart root s.had → (r : Refused) → refusal_of error ≡ Some (refused_view r) → (error ≡ errors.StaleRead) ⊎ (error ≢ errors.StaleRead) → Goal list chain tip r (can_read list chain tip)
      by list chain tip in_had among tip_in why apart r told (inl stale) =
          choice (can_read list chain tip) (unless s (lacked s list chain tip) (proved_by chain tip)) (refuse s refusals.StaleRead) (λ next. lines.Refuses (refused_view r) ≡ next.0)
          (λ can. absurd (why.stale stale (known-readable root s.had list chain tip apart in_had among tip_in can)))
          (λ not. ap refuses (sym told ∙ ap refusal_of stale))
      by list chain tip in_had among tip_in why apart r told (inr other) =
          let can : can_read list chain tip ≡ true = why.order other (λ memory. none_some (ap refusal_of memory) told) in
          let due = subst (λ kept. IsDue error (proof_lacked means.scheme.shape kept list chain tip)) k.store.start (why.refused other (known-readable root s.had list chain tip apart in_had among tip_in can)) in
          subst (Goal list chain tip r) (sym can)
          (subst (λ o. lines.Refuses (refused_view r) ≡ (unless s o (proved_by chain tip)).0) (sym (due_told (refusal_of error) (lacked s list chain tip) (refused_view r) due told)) refl)
