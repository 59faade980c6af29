-- That calls which nothing refuses and in which no fault is told answer, or want memory.
use Rattle.std.specs.Prelude.{◌≡◌, ◌≢◌, ◌⊎◌, ◌≤◌, ℕ, true, List, Option, Some, None, Result, Ok, Err, IfSome, IfErr, refl}
use Rattle.std.proofs.Common.{inl, inr, sym, subst, ap, arith}
use Rattle.qm_model.specs.Causes.{Rose}
use Rattle.qm_model.specs.Refused as refusals
use Rattle.qm_base.specs.declared.error.Error.{Error}
use Rattle.qm_base.specs.declared.error.Error.TheVariants as errors
use Rattle.qm_base.specs.declared.error.JournalError.TheVariants as journal
use Rattle.qm_store.specs.Refusals.{refusal_of, IsDue}
use Rattle.qm_store.specs.declared.Store as store
use Rattle.qm_store.specs.declared.refusal.Refusal.{Refusal}
use Rattle.qm_store.specs.Given.{store_given}
use Rattle.qm_model.specs.Batches.{Chain, IsKnown, IsOnChain}
use Rattle.qm_model.specs.Held.{pins_lacked, proof_lacked}
use Rattle.qm_model.specs.Opening.{found, opening_refusal}
use Rattle.qm_model.specs.Operations.{Bytes, Operation}
use Rattle.qm_model.specs.Refusals.{proof_refusal, tip_refusal}
use Rattle.qm_model.specs.Schemes.{layout_of, takes}
use Rattle.qm_model.specs.StoreModel.{Stored}
use Rattle.qm_offer.specs.declared.meaning.Meaning as meaning
use Rattle.qm_offer.specs.Words.{Applies, IsDestroying, IsGivenUp, IsProofFailure, IsReadFailure, IsSettling, IsUnpruned, LeavesStore, Makes, Opens, ReadsOnly}
use Rattle.qm_engine.specs.Complete.{IsComplete, IsCompleteOf}

-- what refuses for no reason is want of memory or a failing store
pub unrefused : (e : Error) → refusal_of e ≡ None → (e ≡ errors.Memory) ⊎ (e ≡ errors.Journal journal.Store)
unrefused errors.Memory none = inl refl
unrefused (errors.Journal journal.Store) none = inr refl
unrefused (errors.Journal (journal.ItemPruned n)) none = absurd (cc none)
unrefused (errors.Journal (journal.ItemTooLarge n)) none = absurd (cc none)
unrefused errors.InvalidInitializationBound none = absurd (cc none)
unrefused errors.StaleBatch none = absurd (cc none)
unrefused errors.StaleRead none = absurd (cc none)
unrefused errors.KeyNotFound none = absurd (cc none)
unrefused errors.KeyExists none = absurd (cc none)
unrefused (errors.OperationPruned n) none = absurd (cc none)
unrefused (errors.PruneBeyondMinRequired p m) none = absurd (cc none)
unrefused (errors.HistoricalFloorPruned n) none = absurd (cc none)
unrefused (errors.DataCorrupted c) none = absurd (cc none)
unrefused (errors.Merkle m) none = absurd (cc none)

-- if no fault is told, memory is wanted
pub wants : (e : Error) (before now : ℕ) → refusal_of e ≡ None → (e ≡ errors.Journal journal.Store → Rose before now) → ¬ Rose before now → e ≡ errors.Memory
wants e before now none cause not = by (unrefused e none)
  where
    by : (e ≡ errors.Memory) ⊎ (e ≡ errors.Journal journal.Store) → e ≡ errors.Memory
    by (inl memory) = memory
    by (inr fault) = absurd (not (cause fault))

-- an error of which nothing is due refuses for no reason
pub undue : (e : Error) (due : Option refusals.Refused) → due ≡ None → IsDue e due → refusal_of e ≡ None
undue e due none is = by (refusal_of e) refl
  where
    by : (told : Option refusals.Refused) → refusal_of e ≡ told → refusal_of e ≡ None
    by None same = same
    by (Some r) same =
        let some : due ≡ Some r = subst (λ o. IfSome o (λ r. due ≡ Some r)) same is in
        absurd (cc (some, none))

-- a refusal of which something false is said is none
pub no_such : (e : Error) (P : refusals.Refused → Type 0) → IfSome (refusal_of e) P → ((r : refusals.Refused) → P r → ⊥) → refusal_of e ≡ None
no_such e P is never = by (refusal_of e) refl
  where
    by : (told : Option refusals.Refused) → refusal_of e ≡ told → refusal_of e ≡ None
    by None same = same
    by (Some r) same = absurd (never r (subst (λ o. IfSome o P) same is))

-- an error is a stale batch, or is none
pub batch_or : (e : Error) → (e ≡ errors.StaleBatch) ⊎ (e ≢ errors.StaleBatch)
batch_or errors.Memory = inr (λ is. cc is)
batch_or errors.InvalidInitializationBound = inr (λ is. cc is)
batch_or errors.StaleBatch = inl refl
batch_or errors.StaleRead = inr (λ is. cc is)
batch_or errors.KeyNotFound = inr (λ is. cc is)
batch_or errors.KeyExists = inr (λ is. cc is)
batch_or (errors.OperationPruned n) = inr (λ is. cc is)
batch_or (errors.PruneBeyondMinRequired p m) = inr (λ is. cc is)
batch_or (errors.HistoricalFloorPruned n) = inr (λ is. cc is)
batch_or (errors.DataCorrupted c) = inr (λ is. cc is)
batch_or (errors.Merkle m) = inr (λ is. cc is)
batch_or (errors.Journal j) = inr (λ is. cc is)

-- an error is a stale read, or is none
pub read_or : (e : Error) → (e ≡ errors.StaleRead) ⊎ (e ≢ errors.StaleRead)
read_or errors.Memory = inr (λ is. cc is)
read_or errors.InvalidInitializationBound = inr (λ is. cc is)
read_or errors.StaleBatch = inr (λ is. cc is)
read_or errors.StaleRead = inl refl
read_or errors.KeyNotFound = inr (λ is. cc is)
read_or errors.KeyExists = inr (λ is. cc is)
read_or (errors.OperationPruned n) = inr (λ is. cc is)
read_or (errors.PruneBeyondMinRequired p m) = inr (λ is. cc is)
read_or (errors.HistoricalFloorPruned n) = inr (λ is. cc is)
read_or (errors.DataCorrupted c) = inr (λ is. cc is)
read_or (errors.Merkle m) = inr (λ is. cc is)
read_or (errors.Journal j) = inr (λ is. cc is)

module _ {X C B S M : Type 0} (members : store.Ghosts C) (means : meaning.Ghosts X C B S M) where
  pub open-complete : (old : C) (bound : Option ℕ) (number : ℕ) (result : Result X (Refusal X C)) (s : Stored) → members.told old ≡ Some s → opening_refusal (layout_of means.scheme) (found (layout_of means.scheme) s) bound ≡ None
      → Opens means members old bound number result → IsCompleteOf members means.inside old result
  open-complete old bound number (Ok x) s told none opens = tt
  open-complete old bound number (Err r) s told none opens =
      let due = subst (λ o. IfSome o (λ s. IsDue r.error (opening_refusal (layout_of means.scheme) (found (layout_of means.scheme) s) bound))) told opens.refused in
      wants r.error (members.faults old) (members.faults (store_given means.inside r.given)) (undue r.error _ none due) opens.cause

  given-up : (old : X) (Left : C → Type 0) (r : Refusal X C) → IsGivenUp means members old Left r → ¬ Rose (members.faults (means.inside old)) (members.faults (store_given means.inside r.given)) → r.error ≡ errors.Memory
  given-up old Left r up = wants r.error (members.faults (means.inside old)) (members.faults (store_given means.inside r.given)) up.never
      (λ fault. subst (λ g. Rose (members.faults (means.inside old)) (members.faults (store_given means.inside g))) (sym up.given) (up.cause.failed fault))

  pub settling-complete : (After : List Operation → Stored → Stored) (Left : List Operation → Stored → Stored → Type 0) (old : X) (result : Result X (Refusal X C)) → IsSettling means members After Left old result
      → IsCompleteOf members means.inside (means.inside old) result
  settling-complete After Left old (Ok x) settles = tt
  settling-complete After Left old (Err r) settles = given-up old (LeavesStore means members old Left) r settles.failed

  pub prune-complete : (old : X) (to : ℕ) (result : Result X (Refusal X C)) (list : List Operation) → means.stands old list → to ≤ means.scheme.boundary list → IfErr result (IsUnpruned means members to old)
      → IsCompleteOf members means.inside (means.inside old) result
  prune-complete old to (Ok x) list stands within unpruned = tt
  prune-complete old to (Err r) list stands within (inl (bound, past, is, given, error)) = let same = is list stands in absurd (omega (arith, past, within, same))
  prune-complete old to (Err r) list stands within (inr (within_bound, up)) = given-up old _ r up

  pub destroy-complete : (old : X) (result : Result C (Refusal X C)) → IsDestroying means members old result → IsCompleteOf members means.inside (means.inside old) result
  destroy-complete old (Ok x) ends = tt
  destroy-complete old (Err r) ends = given-up old _ r ends.failed

  pub apply-complete : (old : X) (batch : M) (result : Result X (Refusal X C)) (list : List Operation) (chain : Chain) (tip : List Operation) → means.stands old list → means.is_merkleized batch chain tip → IsOnChain list chain
      → Applies means members old batch result → IsCompleteOf members means.inside (means.inside old) result
  apply-complete old batch (Ok x) list chain tip stands is on applies = tt
  apply-complete old batch (Err r) list chain tip stands is on applies = by (batch_or r.error)
    where
      by : (r.error ≡ errors.StaleBatch) ⊎ (r.error ≢ errors.StaleBatch) → ¬ Rose (members.faults (means.inside old)) (members.faults (store_given means.inside r.given)) → r.error ≡ errors.Memory
      by (inl stale) = let why = applies.stale stale in absurd (why.1 list chain tip stands is on)
      by (inr fresh) = wants r.error (members.faults (means.inside old)) (members.faults (store_given means.inside r.given)) (applies.refused fresh) applies.cause

  -- of a call that only read
  read-wants : (old new : X) {A : Type 0} (e : Error) → ReadsOnly means members old new {A = A} (Err e) → refusal_of e ≡ None → ¬ Rose (members.faults (means.inside old)) (members.faults (means.inside new)) → e ≡ errors.Memory
  read-wants old new e reads none = wants e (members.faults (means.inside old)) (members.faults (means.inside new)) none (λ fault. reads.faults.failed (ap Err fault))

  pub make-complete : (old new : X) (result : Result M Error) (n : ℕ) (list : List Operation) (chain : Chain) (tip : List Operation) (evicted : List (Bytes × Bytes)) → means.numbered old n → takes means.scheme.grafts n chain.instance ≡ true
      → IsOnChain list chain → tip_refusal means.scheme.form chain tip ≡ None → Makes means members old list chain tip evicted result → ReadsOnly means members old new result → IsComplete members (means.inside old) (means.inside new) result
  make-complete old new (Ok b) n list chain tip evicted numbered taken on none makes reads not = tt
  make-complete old new (Err e) n list chain tip evicted numbered taken on none makes reads not = by (batch_or e)
    where
      by : (e ≡ errors.StaleBatch) ⊎ (e ≢ errors.StaleBatch) → e ≡ errors.Memory
      by (inl stale) = absurd (makes.stale stale n numbered taken on)
      by (inr fresh) = read-wants old new {A = M} e reads (no_such e _ (makes.refused fresh) (λ r due. let told = due.2 on in absurd (cc (none, told)))) not

  pub read-complete : {A : Type 0} (old new : X) (result : Result A Error) (list : List Operation) → means.stands old list → IfErr result (λ e. (list : List Operation) → means.stands old list → refusal_of e ≡ None)
      → ReadsOnly means members old new result → IsComplete members (means.inside old) (means.inside new) result
  read-complete old new (Ok a) list stands none reads not = tt
  read-complete {A} old new (Err e) list stands none reads not = read-wants old new {A = A} e reads (none list stands) not

  pub through-complete : {A : Type 0} (old new : X) (result : Result A Error) (list : List Operation) (chain : Chain) (tip : List Operation) → IsKnown list chain tip → IfErr result (IsReadFailure means list chain tip)
      → ReadsOnly means members old new result → IsComplete members (means.inside old) (means.inside new) result
  through-complete old new (Ok a) list chain tip known failure reads not = tt
  through-complete {A} old new (Err e) list chain tip known failure reads not = by (read_or e)
    where
      by : (e ≡ errors.StaleRead) ⊎ (e ≢ errors.StaleRead) → e ≡ errors.Memory
      by (inl stale) = absurd (failure.stale stale known)
      by (inr fresh) = read-wants old new {A = A} e reads (failure.refused fresh known) not

  pub prove-complete : {A : Type 0} (old new : X) (result : Result A Error) (size start : ℕ) (list : List Operation) → means.stands old list → proof_refusal (members.start (means.inside old)) list size start ≡ None
      → IfErr result (λ e. (list : List Operation) → means.stands old list → IsDue e (proof_refusal (members.start (means.inside old)) list size start)) → ReadsOnly means members old new result
      → IsComplete members (means.inside old) (means.inside new) result
  prove-complete old new (Ok a) size start list stands none due reads not = tt
  prove-complete {A} old new (Err e) size start list stands none due reads not = read-wants old new {A = A} e reads (undue e _ none (due list stands)) not

-- what calls no store, and refuses for no reason, wants memory
unread-wants : (e : Error) → refusal_of e ≡ None → (e ≢ errors.StaleBatch) × (e ≢ errors.Journal journal.Store) → e ≡ errors.Memory
unread-wants e none never = by (unrefused e none)
  where
    by : (e ≡ errors.Memory) ⊎ (e ≡ errors.Journal journal.Store) → e ≡ errors.Memory
    by (inl memory) = memory
    by (inr fault) = absurd (never.1 fault)

module _ {X C B S M : Type 0} (means : meaning.Ghosts X C B S M) where
  pub pins-complete : {A : Type 0} (db : X) (start : ℕ) (result : Result A Error) (at : ℕ) (list : List Operation) → means.stands db list → pins_lacked means.scheme.shape start list at ≡ None
      → IfErr result (λ e. (list : List Operation) → means.stands db list → IsDue e (pins_lacked means.scheme.shape start list at)) → IfErr result (λ e. (e ≢ errors.StaleBatch) × (e ≢ errors.Journal journal.Store))
      → IfErr result (λ e. e ≡ errors.Memory)
  pins-complete db start (Ok a) at list stands none due never = tt
  pins-complete db start (Err e) at list stands none due never = unread-wants e (undue e _ none (due list stands)) never

  pub proof-complete : {A : Type 0} (start : ℕ) (result : Result A Error) (list : List Operation) (chain : Chain) (tip : List Operation) → IsKnown list chain tip → proof_lacked means.scheme.shape start list chain tip ≡ None
      → IfErr result (IsProofFailure means start list chain tip) → IfErr result (λ e. (e ≢ errors.StaleBatch) × (e ≢ errors.Journal journal.Store)) → IfErr result (λ e. e ≡ errors.Memory)
  proof-complete start (Ok a) list chain tip known none failure never = tt
  proof-complete start (Err e) list chain tip known none failure never = by (read_or e)
    where
      by : (e ≡ errors.StaleRead) ⊎ (e ≢ errors.StaleRead) → e ≡ errors.Memory
      by (inl stale) = absurd (failure.stale stale known)
      by (inr fresh) = unread-wants e (undue e _ none (failure.refused fresh known)) never
