-- The commands that read and list.
use Rattle.std.proofs.Common.{◌≡◌, ◌≢◌, ℕ, Bool, true, cond, List, [], ◌∷◌, length, get_or, map, Option, Some, None, refl, sym, ◌∙◌, ap, ap₂, subst, ◌⊎◌, inl, inr}
use Rattle.std.specs.Prelude.{Contains}
use Rattle.qm_model.specs.Operations.{Bytes, Operation}
use Rattle.qm_model.specs.Live.{value_of}
use Rattle.qm_model.specs.Writes.{Write, read_through}
use Rattle.qm_model.specs.Batches.{Chain, IsAmong, IsKnown, Apart, commitment, readable, own_operations}
use Rattle.qm_machine.specs.Lines.{Answer}
use Rattle.qm_machine.specs.Lines as lines
use Rattle.qm_model.specs.Refused as refusals
use Rattle.qm_machine.specs.Machine.{State, slot_at, refuse, list_operations, list_evicted, if_readable, read_in}
use Rattle.qm_machine.specs.Machine as machine
use Rattle.qm_model.proofs.Chains.{known-readable}
use Rattle.qm_base.specs.declared.error.Error.{Error}
use Rattle.qm_base.specs.declared.error.Error.TheVariants as errors
use Rattle.qm_lines.specs.Views.{refused_view}
use Rattle.qm_lines.specs.declared.reply.Refused.{Refused}
use Rattle.qm_store.specs.declared.Store as stores
use Rattle.qm_offer.specs.declared.meaning.Meaning as meaning
use Rattle.qm_store.specs.declared.refusal.Given.{Given}
use Rattle.qm_store.specs.declared.refusal.Given.TheVariants.{Database}
use Rattle.qm_engine.specs.declared.table.Slot.{Slot}
use Rattle.qm_engine.specs.declared.table.Slot.TheVariants.{Gone, Writing, Merkleized}
use Rattle.qm_engine.specs.declared.session.Turn.{Turn}
use Rattle.qm_engine.specs.Table.{merkleized_of}
use Rattle.qm_engine.specs.Turn.{turn_of_error}
use Rattle.qm_store.specs.Refusals.{refusal_of}
use Rattle.qm_offer.specs.Words.{CanRead, IsReadFailure}
use Rattle.qm_engine.specs.Session.{SlotIs, Holds, Answers}
use Rattle.qm_engine.proofs.Commands.{choice, none_some, refuses, by_refusal, with_list, Keeps, Holds-kept, Turns, answered}

-- whether an error tells that a read is stale
pub is_stale_read : (error : Error) → (error ≡ errors.StaleRead) ⊎ (error ≢ errors.StaleRead)
is_stale_read errors.Memory = inr (λ e. absurd (cc))
is_stale_read errors.InvalidInitializationBound = inr (λ e. absurd (cc))
is_stale_read errors.StaleBatch = inr (λ e. absurd (cc))
is_stale_read errors.StaleRead = inl refl
is_stale_read errors.KeyNotFound = inr (λ e. absurd (cc))
is_stale_read errors.KeyExists = inr (λ e. absurd (cc))
is_stale_read (errors.OperationPruned n) = inr (λ e. absurd (cc))
is_stale_read (errors.PruneBeyondMinRequired p m) = inr (λ e. absurd (cc))
is_stale_read (errors.HistoricalFloorPruned n) = inr (λ e. absurd (cc))
is_stale_read (errors.DataCorrupted c) = inr (λ e. absurd (cc))
is_stale_read (errors.Merkle e) = inr (λ e. absurd (cc))
is_stale_read (errors.Journal e) = inr (λ e. absurd (cc))

-- a function of the image of each
pub map-through : {A B E : Type 0} (f : A → B) (g : B → E) (xs : List A) → map (λ x. g (f x)) xs ≡ map g (map f xs)
map-through f g [] = refl
map-through f g (x ∷ xs) = ap (λ r. g (f x) ∷ r) (map-through f g xs)

module _ {X C B S M K V D : Type 0} (members : stores.Ghosts C) (means : meaning.Ghosts X C B S M) (key : K → Bytes) (value : V → Bytes) (digest : D → Bytes) where
  abbrev root : List Operation → Bytes
  root = means.scheme.root

  abbrev Goes : Turn K V D → Given X C → List (Slot B S M) → ℕ → Answer × State → Type 0
  Goes = Turns members means key value digest

  -- what is read if that is allowed
  pub readable_ok : (s : State) (list : List Operation) (chain : Chain) (tip : List Operation) (got answer : Answer) → Contains s.had list → IsAmong s.had chain → Contains s.had tip
      → CanRead means list chain tip → (IsKnown list chain tip → got ≡ answer) → Apart root s.had → got ≡ (if_readable means.scheme s list chain tip answer).0
  readable_ok s list chain tip got answer in_had among tip_in can is apart =
      subst (λ t. got ≡ (cond t (answer, s) (refuse s refusals.StaleRead)).0) (sym can) (is (known-readable root s.had list chain tip apart in_had among tip_in can))

  -- and what an error of such a read comes to
  pub readable_err : (s : State) (list : List Operation) (chain : Chain) (tip : List Operation) (error : Error) (answer : Answer) → Contains s.had list → IsAmong s.had chain → Contains s.had tip
      → IsReadFailure means list chain tip error
      → Answers members means key value digest (turn_of_error error) s (if_readable means.scheme s list chain tip answer)
  readable_err s list chain tip error answer in_had among tip_in why =
      by_refusal error _ (λ r told apart. by apart r told (is_stale_read error))
    where
      Goal : Refused → Bool → Type 0
      Goal r t = lines.Refuses (refused_view r) ≡ (cond t (answer, s) (refuse s refusals.StaleRead)).0

      known : Apart root s.had → readable root (commitment root list) chain tip ≡ true → IsKnown list chain tip
      known apart can = known-readable root s.had list chain tip apart in_had among tip_in can

      by : Apart root s.had → (r : Refused) → refusal_of error ≡ Some (refused_view r) → (error ≡ errors.StaleRead) ⊎ (error ≢ errors.StaleRead) → Goal r (readable root (commitment root list) chain tip)
      by apart r told (inl is) = choice (readable root (commitment root list) chain tip) (answer, s) (refuse s refusals.StaleRead) (λ next. lines.Refuses (refused_view r) ≡ next.0)
          (λ can. absurd (why.stale is (known apart can)))
          (λ not. ap refuses (sym told ∙ ap refusal_of is))
      by apart r told (inr other) =
          let can : readable root (commitment root list) chain tip ≡ true = why.order other (λ is. none_some (ap refusal_of is) told) in
          absurd (none_some (why.refused other (known apart can)) told)

  -- a read leaves the state as it is
  pub readable_state : (s : State) (list : List Operation) (chain : Chain) (tip : List Operation) (answer : Answer) → (if_readable means.scheme s list chain tip answer).1 ≡ s
  readable_state s list chain tip answer =
      choice (readable root (commitment root list) chain tip) (answer, s) (refuse s refusals.StaleRead) (λ next. next.1 ≡ s) (λ can. refl) (λ not. refl)

  -- through a batch, and through a merkleized one
  pub written_ok : (s : State) (list : List Operation) (h : ℕ) (keys : List Bytes) (batch : B) (values : List (Option Bytes)) (named : machine.Slot) → Contains s.had list → SlotIs members means s.had (Writing batch) named
      → ((chain above : Chain) (ws : List Write) → means.is_batch batch chain above ws → CanRead means list above chain.base)
      → ((chain above : Chain) (ws : List Write) → means.is_batch batch chain above ws → IsKnown list above chain.base → values ≡ map (read_through chain.base ws) keys)
      → Apart root s.had → lines.Read values ≡ (read_in means.scheme s h keys list named).0
  written_ok s list h keys batch values (machine.writing chain above ws) in_had is can are =
      readable_ok s list above chain.base (lines.Read values) (lines.Read (map (read_through chain.base ws) keys)) in_had is.2 (is.1).base (can chain above ws is.0) (λ known. ap lines.Read (are chain above ws is.0 known))
  written_ok s list h keys batch values named in_had is can are = absurd is

  pub written_err : (s : State) (list : List Operation) (h : ℕ) (keys : List Bytes) (batch : B) (error : Error) (named : machine.Slot) → Contains s.had list → SlotIs members means s.had (Writing batch) named
      → ((chain above : Chain) (ws : List Write) → means.is_batch batch chain above ws → IsReadFailure means list above chain.base error)
      → Answers members means key value digest (turn_of_error error) s (read_in means.scheme s h keys list named)
  written_err s list h keys batch error (machine.writing chain above ws) in_had is why =
      readable_err s list above chain.base error (lines.Read (map (read_through chain.base ws) keys)) in_had is.2 (is.1).base (why chain above ws is.0)
  written_err s list h keys batch error named in_had is why = absurd is

  pub made_ok : (s : State) (list : List Operation) (h : ℕ) (keys : List Bytes) (batch : M) (values : List (Option Bytes)) (named : machine.Slot) → Contains s.had list → SlotIs members means s.had (Merkleized batch) named
      → ((chain : Chain) (tip : List Operation) → means.is_merkleized batch chain tip → CanRead means list chain tip)
      → ((chain : Chain) (tip : List Operation) → means.is_merkleized batch chain tip → IsKnown list chain tip → values ≡ map (value_of tip) keys)
      → Apart root s.had → lines.Read values ≡ (read_in means.scheme s h keys list named).0
  made_ok s list h keys batch values (machine.merkleized chain tip evicted) in_had is can are =
      readable_ok s list chain tip (lines.Read values) (lines.Read (map (value_of tip) keys)) in_had is.1 is.2 (can chain tip is.0) (λ known. ap lines.Read (are chain tip is.0 known))
  made_ok s list h keys batch values named in_had is can are = absurd is

  pub made_err : (s : State) (list : List Operation) (h : ℕ) (keys : List Bytes) (batch : M) (error : Error) (named : machine.Slot) → Contains s.had list → SlotIs members means s.had (Merkleized batch) named
      → ((chain : Chain) (tip : List Operation) → means.is_merkleized batch chain tip → IsReadFailure means list chain tip error)
      → Answers members means key value digest (turn_of_error error) s (read_in means.scheme s h keys list named)
  made_err s list h keys batch error (machine.merkleized chain tip evicted) in_had is why =
      readable_err s list chain tip error (lines.Read (map (value_of tip) keys)) in_had is.1 is.2 (why chain tip is.0)
  made_err s list h keys batch error named in_had is why = absurd is

  read_state-in : (s : State) (h : ℕ) (keys : List Bytes) (list : List Operation) (named : machine.Slot) → (read_in means.scheme s h keys list named).1 ≡ s
  read_state-in s h keys list (machine.writing chain above ws) = readable_state s list above chain.base (lines.Read (map (read_through chain.base ws) keys))
  read_state-in s h keys list (machine.merkleized chain tip evicted) = readable_state s list chain tip (lines.Read (map (value_of tip) keys))
  read_state-in s h keys list machine.gone = refl
  read_state-in s h keys list (machine.staged chain above ws ks) = refl

  -- over a database, what is read through a batch number
  pub named_read : (turn : Turn K V D) (x after : X) (table : List (Slot B S M)) (opened h : ℕ) (keys : List Bytes) (s : State) → Holds members means (Database x) table opened s
      → Keeps members means x after
      → ((list : List Operation) (named : machine.Slot) → means.stands x list → Contains s.had list → SlotIs members means s.had (get_or table h Gone) named
      → Answers members means key value digest turn s (read_in means.scheme s h keys list named))
      → Goes turn (Database after) table opened (machine.read means.scheme s keys (Some h))
  named_read turn x after table opened h keys s k keeps told =
      with_list members means x s.had s.database s (λ list. read_in means.scheme s h keys list (slot_at s.table h)) (Goes turn (Database after) table opened) k.database
      (λ list stands in_had. answered members means key value digest turn (Database after) table opened s (read_in means.scheme s h keys list (slot_at s.table h)) (read_state-in s h keys list (slot_at s.table h))
      (Holds-kept members means x after table opened s keeps k) (told list (slot_at s.table h) stands in_had (k.slots h)))

  -- over a database, what is read of it
  pub database_read : (x after : X) (table : List (Slot B S M)) (opened : ℕ) (keys : List Bytes) (values : List (Option Bytes)) (s : State) → Holds members means (Database x) table opened s
      → Keeps members means x after
      → ((list : List Operation) → means.stands x list → values ≡ map (value_of list) keys)
      → (lines.Read values ≡ (machine.read means.scheme s keys None).0) × Holds members means (Database after) table opened (machine.read means.scheme s keys None).1
  database_read x after table opened keys values s k keeps are =
      with_list members means x s.had s.database s (λ list. (lines.Read (map (value_of list) keys), s)) (λ next. (lines.Read values ≡ next.0) × Holds members means (Database after) table opened next.1) k.database
      (λ list stands in_had. (ap lines.Read (are list stands), Holds-kept members means x after table opened s keeps k))

  pub ops_ok : (held : Given X C) (table : List (Slot B S M)) (opened : ℕ) (h base : ℕ) (own : List Operation) (batch : M) (s : State) → Holds members means held table opened s
      → ((chain : Chain) (tip : List Operation) → means.is_merkleized batch chain tip → (base ≡ length chain.base) × (own ≡ own_operations chain tip))
      → (a : Slot B S M) (b : machine.Slot) → SlotIs members means s.had a b → merkleized_of a ≡ Some batch
      → (lines.Listed base own ≡ (list_operations s h b).0) × Holds members means held table opened (list_operations s h b).1
  ops_ok held table opened h base own batch s k listed (Merkleized w) (machine.merkleized chain tip evicted) is e =
      let same : w ≡ batch = cc in
      let facts = listed chain tip (subst (λ v. means.is_merkleized v chain tip) same is.0) in
      (ap₂ lines.Listed facts.0 facts.1, k)
  ops_ok held table opened h base own batch s k listed (Merkleized w) b is e = absurd is
  ops_ok held table opened h base own batch s k listed a b is e = absurd (cc)

  pub evicted_ok : (held : Given X C) (table : List (Slot B S M)) (opened : ℕ) (h : ℕ) (pairs : List (Bytes × Bytes)) (batch : M) (s : State) → Holds members means held table opened s → pairs ≡ means.evictions batch
      → (a : Slot B S M) (b : machine.Slot) → SlotIs members means s.had a b → merkleized_of a ≡ Some batch
      → (lines.Dropped pairs ≡ (list_evicted s h b).0) × Holds members means held table opened (list_evicted s h b).1
  evicted_ok held table opened h pairs batch s k told (Merkleized w) (machine.merkleized chain tip evicted) is e =
      let same : w ≡ batch = cc in
      (ap lines.Dropped (told ∙ sym (ap means.evictions same) ∙ is.3), k)
  evicted_ok held table opened h pairs batch s k told (Merkleized w) b is e = absurd is
  evicted_ok held table opened h pairs batch s k told a b is e = absurd (cc)
