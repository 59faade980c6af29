-- What an engine's clauses share, over all of its words at once.
use Rattle.std.specs.Prelude.{◌≡◌, ◌≢◌, ◌⊎◌, ◌≤◌, ◌<◌, ◌^◌, ℕ, max, List, [], length, map, drop, true, Option, None, Some, IfSome, IsSome, Result, IfOk, IfErr, OnOk, IsErrOf, if◌then◌else◌, ⊤}
use Rattle.qm_model.specs.Causes.{IsCause, Rose}
use Rattle.qm_model.specs.Forms.{spelling}
use Rattle.qm_model.specs.Operations.{Bytes, Operation}
use Rattle.qm_model.specs.Opening.{Chunks, found, opening_refusal}
use Rattle.qm_model.specs.Walk.{Rules}
use Rattle.qm_model.specs.StoreModel.{Stored, destroyed, except_items, DestroyLeaves, Becomes, Turns}
use Rattle.qm_model.specs.Writes.{Write}
use Rattle.qm_model.specs.Step.{step, evicted_by}
use Rattle.qm_model.specs.Held.{proof_lacked}
use Rattle.qm_model.specs.Checks.{Checks}
use Rattle.qm_model.specs.Schemes.{Grafts, Scheme, kind_of, layout_of, takes}
use Rattle.qm_model.specs.Taken.{head_at, IsTaken, selected_size, taken, StaysBeside, after_prune, LeavesOpening, LeavesPrune}
use Rattle.qm_model.specs.Batches.{Chain, IsKnown, IsOnChain, commitment, fits, readable}
use Rattle.qm_model.specs.Refusals.{tip_refusal}
use Rattle.qm_base.specs.declared.error.Error.{Error}
use Rattle.qm_base.specs.declared.error.Error.TheVariants.{Memory, StaleBatch, StaleRead, PruneBeyondMinRequired, Journal}
use Rattle.qm_base.specs.declared.error.JournalError.TheVariants as journal
use Rattle.qm_store.specs.declared.Store as store
use Rattle.qm_store.specs.declared.refusal.Given.TheVariants.{Database, Store}
use Rattle.qm_store.specs.declared.refusal.Refusal.{Refusal}
use Rattle.qm_store.specs.Given.{store_given, store_after, Appended, AppendedPart, IsUnchanged}
use Rattle.qm_store.specs.Refusals.{refusal_of, IsDue}
use Rattle.qm_offer.specs.declared.meaning.Meaning as meaning

-- the list that writes make of a chain's base list, under a policy
abbrev pub tip_of : {P : Type 0} → Scheme → Rules P → Chain → List Write → P → Option Bytes → List Operation
tip_of m rules chain ws policy meta = step (kind_of m) rules chain.base ws policy meta

-- the keys that this evicts, each with the value that it had
abbrev pub evictions_of : {P : Type 0} → Scheme → Rules P → Chain → List Write → P → List (Bytes × Bytes)
evictions_of m rules chain ws policy = evicted_by (kind_of m) rules chain.base ws policy

-- of the chunks of a current database's bits, and of the checks of its proofs of keys and ranges, if it offers these
abbrev pub AtChecks : Scheme → (Chunks → Checks → Type 0) → Type 0
AtChecks m P = IfSome m.grafts (λ g. IfSome g.checks (P g.chunks))

module _ {X C B S M : Type 0} (means : meaning.Ghosts X C B S M) where
  -- at each list that the database stands for, and each chain and writes of the batch
  abbrev pub AtBatch : X → B → (List Operation → Chain → Chain → List Write → Type 0) → Type 0
  AtBatch db batch P = (list : List Operation) (chain above : Chain) (ws : List Write) → means.stands db list → means.is_batch batch chain above ws → P list chain above ws

  -- at each list that the database stands for, and each chain, writes and keys of the staged batch
  abbrev pub AtStaged : X → S → (List Operation → Chain → Chain → List Write → List Bytes → Type 0) → Type 0
  AtStaged db batch P = (list : List Operation) (chain above : Chain) (ws : List Write) (keys : List Bytes) → means.stands db list → means.is_staged batch chain above ws keys → P list chain above ws keys

  -- at each list that the database stands for, and each chain and tip of the merkleized batch
  abbrev pub AtTip : X → M → (List Operation → Chain → List Operation → Type 0) → Type 0
  AtTip db batch P = (list : List Operation) (chain : Chain) (tip : List Operation) → means.stands db list → means.is_merkleized batch chain tip → P list chain tip

  -- a batch of this chain fits the list
  abbrev pub Fits : List Operation → Chain → Type 0
  Fits list chain = fits means.scheme.root (commitment means.scheme.root list) chain ≡ true

  -- and with this tip it can be read
  abbrev pub CanRead : List Operation → Chain → List Operation → Type 0
  CanRead list chain tip = readable means.scheme.root (commitment means.scheme.root list) chain tip ≡ true

  -- A read through a batch of this chain with this tip failed: as stale only if the list is not known, and for want of
  -- memory at any time; else the batch can be read, and if the list is known it is for no refusal.
  pub record IsReadFailure (list : List Operation) (chain : Chain) (tip : List Operation) (error : Error) : Type 0 where
    pub stale : error ≡ StaleRead → ¬ IsKnown list chain tip
    pub refused : error ≢ StaleRead → IsKnown list chain tip → refusal_of error ≡ None
    pub order : error ≢ StaleRead → error ≢ Memory → CanRead list chain tip

  -- A proof through a batch of this chain with this tip failed, over a store of this start: as stale only if the list is not known,
  -- and for want of memory at any time; else the batch can be read, and if the list is known it is for the first node that is lacked.
  pub record IsProofFailure (start : ℕ) (list : List Operation) (chain : Chain) (tip : List Operation) (error : Error) : Type 0 where
    pub stale : error ≡ StaleRead → ¬ IsKnown list chain tip
    pub refused : error ≢ StaleRead → IsKnown list chain tip → IsDue error (proof_lacked means.scheme.shape start list chain tip)
    pub order : error ≢ StaleRead → error ≢ Memory → CanRead list chain tip

  -- A call that read left what the database stands for, and what its store has; if it failed by that, its faults rose.
  pub record ReadsOnly (members : store.Ghosts C) (old new : X) {A : Type 0} (result : Result A Error) : Type 0 where
    pub same : (list : List Operation) → means.stands old list → means.stands new list
    pub numbered : (n : ℕ) → means.numbered old n → means.numbered new n
    pub store : IsUnchanged members (means.inside old) (means.inside new)
    pub faults : IsCause (members.faults (means.inside old)) (members.faults (means.inside new)) (IsErrOf result (Journal journal.Store))

  -- the database makes lists of batches of this chain: whatever its instance number is, it takes the chain's
  abbrev pub Takes : X → Chain → Type 0
  Takes db chain = (n : ℕ) → means.numbered db n → takes means.scheme.grafts n chain.instance ≡ true

  -- What comes of making this tip list of a batch of this chain, over this list, with these keys evicted. It is refused as stale if the batch's chain began
  -- on another instance, then if the list is not on the chain; any other refusal is that of the tip list.
  pub record Makes (members : store.Ghosts C) (old : X) (list : List Operation) (chain : Chain) (tip : List Operation) (evicted : List (Bytes × Bytes)) (result : Result M Error) : Type 0 where
    pub instance : IfOk result (λ _. Takes old chain)
    pub fit : IfOk result (λ _. Fits list chain)
    pub made : IfOk result (λ b. IsOnChain list chain → (tip_refusal means.scheme.form chain tip ≡ None) × means.is_merkleized b chain tip × (means.evictions b ≡ evicted))
    pub stale : IfErr result (λ e. e ≡ StaleBatch → (n : ℕ) → means.numbered old n → takes means.scheme.grafts n chain.instance ≡ true → ¬ IsOnChain list chain)
    pub refused : IfErr result (λ e. e ≢ StaleBatch → IfSome (refusal_of e) (λ r.
        Takes old chain × Fits list chain × (IsOnChain list chain → tip_refusal means.scheme.form chain tip ≡ Some r)))

  -- What comes of taking a merkleized batch's tip list: the store has got what it lacked of it, or the batch is stale and the database as
  -- it was, or memory or the store failed, and a first part of that may be there.
  pub record Applies (members : store.Ghosts C) (old : X) (batch : M) (result : Result X (Refusal X C)) : Type 0 where
    pub fit : IfOk result (λ _. AtTip old batch (λ list chain tip. Fits list chain))
    pub applied : IfOk result (λ next. AtTip old batch (λ list chain tip. IsOnChain list chain → means.stands next tip))
    pub numbered : IfOk result (λ next. (n : ℕ) → means.numbered old n → means.numbered next n)
    pub grown : IfOk result (λ next. AtTip old batch (λ list chain tip. IsOnChain list chain
        → Appended members (means.inside old) (means.inside next) (map (spelling means.scheme.form) (drop (length list) tip))))
    pub stale : IfErr result (λ r. r.error ≡ StaleBatch → (r.given ≡ Database old) × AtTip old batch (λ list chain tip. ¬ IsOnChain list chain))
    pub refused : IfErr result (λ r. r.error ≢ StaleBatch → refusal_of r.error ≡ None)
    pub kept : IfErr result (λ r. AtTip old batch (λ list chain tip. AppendedPart members (means.inside old) (store_given means.inside r.given)
        (if fits means.scheme.root (commitment means.scheme.root list) chain then map (spelling means.scheme.form) (drop (length list) tip) else [])))
    pub back : IfErr result (λ r. (x : X) → r.given ≡ Database x → x ≡ old)
    pub start : members.start (store_after means.inside result) ≡ members.start (means.inside old)
    pub beside : except_items (members.told (store_after means.inside result)) ≡ except_items (members.told (means.inside old))
    pub cause : IfErr result (λ r. r.error ≡ Journal journal.Store → Rose (members.faults (means.inside old)) (members.faults (store_given means.inside r.given)))
    pub later : members.faults (means.inside old) ≤ members.faults (store_after means.inside result)

  -- What comes of opening a store up to a bound, as a database of this instance number: it stands for the list that is taken up, and
  -- what the store has after that is gone; or it is refused as the definition says, with the store as it was; or memory or the store
  -- failed. Of a store that tells no items its start and its faults are told.
  pub record Opens (members : store.Ghosts C) (old : C) (bound : Option ℕ) (number : ℕ) (result : Result X (Refusal X C)) : Type 0 where
    pub opened : IfSome (members.told old) (λ s. (list : List Operation) → IsTaken means.scheme s (selected_size means.scheme bound s) list → IfOk result (λ x. means.stands x list))
    pub numbered : IfOk result (λ x. means.numbered x number)
    pub offered : IfSome (members.told old) (λ s. OnOk result (opening_refusal (layout_of means.scheme) (found (layout_of means.scheme) s) bound ≡ None))
    pub became : IfOk result (λ x. Turns (members.told old) (members.told (means.inside x)) (λ s new. new ≡ taken means.scheme (selected_size means.scheme bound s) s))
    pub refused : IfSome (members.told old) (λ s. IfErr result (λ r. IsDue r.error (opening_refusal (layout_of means.scheme) (found (layout_of means.scheme) s) bound)))
    pub unopened : IfErr result (λ r. IfSome (members.told old) (λ s. IsSome (opening_refusal (layout_of means.scheme) (found (layout_of means.scheme) s) bound) → IsUnchanged members old (store_given means.inside r.given)))
    pub left : IfErr result (λ r. Turns (members.told old) (members.told (store_given means.inside r.given)) (λ s new. LeavesOpening means.scheme (selected_size means.scheme bound s) s new))
    pub start : members.start (store_after means.inside result) ≡ members.start old
    pub cause : IfErr result (λ r. r.error ≡ Journal journal.Store → Rose (members.faults old) (members.faults (store_given means.inside r.given)))
    pub later : members.faults old ≤ members.faults (store_after means.inside result)
    pub back : IfErr result (λ r. (x : X) → r.given ≢ Database x)

  -- A database may write metadata of this list: a current one does of a list that it stands for. An any one writes none, so that what it
  -- makes of a store is said of every list.
  abbrev pub WritesOf : Option Grafts → X → List Operation → Type 0
  WritesOf None db list = ⊤
  WritesOf (Some g) db list = means.stands db list

  -- A call made this of a database's store, at each list that it may write metadata of; it put no other, and no restart chose an end.
  pub record LeavesStore (members : store.Ghosts C) (old : X) (After : List Operation → Stored → Stored → Type 0) (new : C) : Type 0 where
    pub told : (list : List Operation) → WritesOf means.scheme.grafts old list → Turns (members.told (means.inside old)) (members.told new) (After list)
    pub beside : Turns (members.told (means.inside old)) (members.told new) (StaysBeside means.scheme)

  -- A call failed for want of memory or by the store, which is given back, with what may be left of such a call.
  pub record IsGivenUp (members : store.Ghosts C) (old : X) (Left : C → Type 0) (refusal : Refusal X C) : Type 0 where
    pub store : C
    pub given : refusal.given ≡ Store store
    pub left : Left store
    pub never : refusal_of refusal.error ≡ None
    pub cause : IsCause (members.faults (means.inside old)) (members.faults store) (refusal.error ≡ Journal journal.Store)

  -- The operations were made stable, and the store of a list is then this: the database stands for what it stood for. If that failed
  -- the store is given back, as such a call leaves it.
  pub record IsSettling (members : store.Ghosts C) (After : List Operation → Stored → Stored) (Left : List Operation → Stored → Stored → Type 0) (old : X) (result : Result X (Refusal X C)) : Type 0 where
    pub stands : (list : List Operation) → means.stands old list → IfOk result (λ new. means.stands new list)
    pub numbered : (n : ℕ) → means.numbered old n → IfOk result (λ new. means.numbered new n)
    pub start : IfOk result (λ new. members.start (means.inside new) ≡ members.start (means.inside old))
    pub store : IfOk result (λ new. LeavesStore members old (λ list s t. t ≡ After list s) (means.inside new))
    pub later : IfOk result (λ new. members.faults (means.inside old) ≤ members.faults (means.inside new))
    pub failed : IfErr result (IsGivenUp members old (LeavesStore members old Left))

  -- a head is that of the list for which the database stands
  abbrev pub IsHeadOf : X → ℕ → Bytes → Type 0
  IsHeadOf db to head = (list : List Operation) → means.stands db list → length list ≤ 2 ^ 62 → head ≡ head_at means.scheme list to

  -- What stands before a location was taken away, and all else made stable: the database stands for what it stood for, which may be
  -- pruned so far, and its store has what it had from there on.
  pub record IsPruned (members : store.Ghosts C) (to : ℕ) (old new : X) : Type 0 where
    pub stands : (list : List Operation) → means.stands old list → (to ≤ means.scheme.boundary list) × means.stands new list
    pub numbered : (n : ℕ) → means.numbered old n → means.numbered new n
    pub start : members.start (means.inside new) ≡ max (members.start (means.inside old)) to
    pub head : Bytes
    pub heads : members.start (means.inside old) < to → IsHeadOf old to head
    pub store : LeavesStore members old (λ list s t. t ≡ after_prune means.scheme list (members.start (means.inside old)) to head s) (means.inside new)
    pub later : members.faults (means.inside old) ≤ members.faults (means.inside new)

  -- It was refused: past the boundary, with the database as it was; or, within it, the store is given back, as such a call leaves it.
  abbrev pub IsUnpruned : store.Ghosts C → ℕ → X → Refusal X C → Type 0
  IsUnpruned members to old refusal =
      ((bound : ℕ) × (bound < to) × ((list : List Operation) → means.stands old list → bound ≡ means.scheme.boundary list) × (refusal.given ≡ Database old) × (refusal.error ≡ PruneBeyondMinRequired to bound))
      ⊎ (((list : List Operation) → means.stands old list → to ≤ means.scheme.boundary list)
      × IsGivenUp members old (LeavesStore members old (λ list. LeavesPrune means.scheme list (members.start (means.inside old)) (IsHeadOf old to) to)) refusal)

  -- The store was emptied, or given back if that failed.
  pub record IsDestroying (members : store.Ghosts C) (old : X) (result : Result C (Refusal X C)) : Type 0 where
    pub start : IfOk result (λ new. members.start new ≡ 0)
    pub told : IfOk result (λ new. Becomes (members.told (means.inside old)) (members.told new) destroyed)
    pub later : IfOk result (λ new. members.faults (means.inside old) ≤ members.faults new)
    pub failed : IfErr result (IsGivenUp members old (λ left. Turns (members.told (means.inside old)) (members.told left) DestroyLeaves))
