-- What opens a database over sha256, and what makes one last or ends it, as an offer says it.
use Rattle.std.proofs.Common.{arith, ◌≡◌, ◌⊎◌, inl, inr, ◌≤◌, ◌<◌, ℕ, Bool, true, false, List, length, map, Option, Some, None, ap, ◌∙◌, subst}
use Rattle.std.specs.Prelude.{◌^◌, nat_lt, if◌then◌else◌}
use Rattle.qm_model.specs.Families.{Births, IsFamily, HasPeaks}
use Rattle.qm_model.specs.Trees.{Shape}
use Rattle.std.specs.Prelude.{Result, Ok, Err, IfOk, IfErr}
use Rattle.qm_model.specs.Forms.{Form, spelling}
use Rattle.qm_model.specs.Live.{floor}
use Rattle.qm_model.specs.Operations.{Bytes, Operation}
use Rattle.qm_model.specs.StoreModel.{Stored, settled, pruned, IsImage, IsOldOrNew, ReadsAs, Fails, Leaves, Turns, Becomes}
use Rattle.qm_base.specs.declared.error.Error.{Error}
use Rattle.qm_base.specs.declared.error.Error.TheVariants as errors
use Rattle.qm_base.specs.declared.error.JournalError.TheVariants as journal
use Rattle.qm_base.specs.declared.sha256.Sha256Digest.{Sha256Digest}
use Rattle.qm_store.specs.declared.refusal.Given.{Given}
use Rattle.qm_store.specs.declared.Store as store
use Rattle.qm_store.specs.declared.refusal.Given.TheVariants as variants
use Rattle.qm_store.specs.declared.refusal.Refusal.{Refusal}
use Rattle.qm_store.specs.Given.{store_after, store_given}
use Rattle.qm_store.specs.Refusals.{refusal_of}
use Rattle.qm_any.specs.Lasting.{cut_to, FailsPrune, IsHeadAt}
use Rattle.qm_any.specs.Databases.{Database, IsDatabase}
use Rattle.qm_model.specs.Taken.{head_at, StaysBeside, after_prune, LeavesSync, LeavesPrune}
use Rattle.qm_any.proofs.OfferedHeads.{head-is, scheme}
use Rattle.qm_any.specs.Offered.{sha256_hashing}

turned-each : (o new : Option Stored) (R Q : Stored → Stored → Type 0) → ((s t : Stored) → R s t → Q s t) → Turns o new R → Turns o new Q
turned-each None new R Q each is = is
turned-each (Some s) None R Q each is = absurd is
turned-each (Some s) (Some t) R Q each is = each s t is

-- what a failed call left, without what a crash inside it would have left
pub leaves-now : (o new : Option Stored) (R : Stored → Stored → Type 0) → Leaves o new R → Turns o new R
leaves-now o new R left = turned-each o new (Fails R R) R (λ s t failed. failed.now) left

-- want of memory and a fault of the store refuse nothing
pub untold : (e : Error) → (e ≡ errors.Memory) ⊎ (e ≡ errors.Journal journal.Store) → refusal_of e ≡ None
untold e (inl memory) = ap refusal_of memory
untold e (inr fault) = ap refusal_of fault

-- Calls of any databases write no metadata, so that what they make of a store and leave of it is said of whatever list.
module _ (shape : Shape) (form : Form) where
  -- what stands beside the items is as it was
  abbrev AreBeside : Stored → Stored → Type 0
  AreBeside s t = (t.metadata ≡ s.metadata) × (t.ends ≡ s.ends)

  stays-beside : (o new : Option Stored) (R : Stored → Stored → Type 0) → ((s t : Stored) → R s t → AreBeside s t) → Turns o new R → Turns o new (StaysBeside (scheme shape form))
  stays-beside o new R each is = turned-each o new R (StaysBeside (scheme shape form)) (λ s t r. let same = each s t r in record { metadata = same.0; ends = same.1 }) is

  read-beside : (n : ℕ) (Left : Stored → Type 0) (s t : Stored) → ((image : Stored) → Left image → AreBeside s image) → ReadsAs n Left t → AreBeside s t
  read-beside n Left s t each r = let same = each r.image r.left in (ap (λ x. x.metadata) r.reads ∙ same.0, ap (λ x. x.ends) r.reads ∙ same.1)

  image-beside : (s image : Stored) → IsImage s image → AreBeside s image
  image-beside s image i = (ap (λ x. x.metadata) i.same, ap (λ x. x.ends) i.same)

  pub settled-beside : (o new : Option Stored) → Becomes o new settled → Turns o new (StaysBeside (scheme shape form))
  settled-beside o new is = stays-beside o new _ (λ s t e. (ap (λ x. x.metadata) e, ap (λ x. x.ends) e)) is

  pub imaged-beside : (o new : Option Stored) → Turns o new (λ s. ReadsAs s.stable (IsImage s)) → Turns o new (StaysBeside (scheme shape form))
  imaged-beside o new is = stays-beside o new _ (λ s t r. read-beside s.stable (IsImage s) s t (image-beside s) r) is

  -- what a failed sync leaves
  pub left-synced : (list : List Operation) (o new : Option Stored) → Turns o new (λ s. ReadsAs s.stable (IsImage s)) → Turns o new (LeavesSync (scheme shape form) list)
  left-synced list o new is = turned-each o new _ _ (λ s t left. inl left) is

  -- what a prune makes of a store, its start being the tree's
  pub pruned-same : (o new : Option Stored) (first start to : ℕ) (head : Bytes) → first ≡ start → Becomes o new (λ s. cut_to first to head (settled s)) → (list : List Operation) → Becomes o new (after_prune (scheme shape form) list start to head)
  pruned-same o new first start to head is became list = subst (λ n. Becomes o new (λ s. cut_to n to head (settled s))) is became

  pub pruned-beside : (o new : Option Stored) (first to : ℕ) (head : Bytes) → Becomes o new (λ s. cut_to first to head (settled s)) → Turns o new (StaysBeside (scheme shape form))
  pruned-beside o new first to head is = stays-beside o new _ (λ s t e. by s t (nat_lt first to) e) is
    where
      by : (s t : Stored) (b : Bool) → t ≡ (if b then pruned to head (settled s) else settled s) → AreBeside s t
      by s t true e = (ap (λ x. x.metadata) e, ap (λ x. x.ends) e)
      by s t false e = (ap (λ x. x.metadata) e, ap (λ x. x.ends) e)

  -- what a failed one leaves
  pub left-stable : (list : List Operation) (o new : Option Stored) (start : ℕ) (IsHead : Bytes → Type 0) (to : ℕ) → Turns o new (λ s. ReadsAs s.stable (IsImage s)) → Turns o new (LeavesPrune (scheme shape form) list start IsHead to)
  left-stable list o new start IsHead to is = turned-each o new _ _ (λ s t left. inl left) is

  pub left-pruned : (list : List Operation) (o new : Option Stored) (start : ℕ) (IsHead : Bytes → Type 0) (to : ℕ) (head : Bytes) → start < to → IsHead head → Turns o new (λ s. FailsPrune to head (settled s))
      → Turns o new (LeavesPrune (scheme shape form) list start IsHead to)
  left-pruned list o new start IsHead to head past heads is = turned-each o new _ _ (λ s t left. inr (inr (past, head, heads, left.now))) is

  pub unpruned-beside : (o new : Option Stored) (to : ℕ) (head : Bytes) → Turns o new (λ s. FailsPrune to head (settled s)) → Turns o new (StaysBeside (scheme shape form))
  unpruned-beside o new to head is = stays-beside o new _ (λ s t r. read-beside (settled s).stable (IsOldOrNew (pruned to head) (settled s)) s t (either s) r.now) is
    where
      either : (s image : Stored) → IsOldOrNew (pruned to head) (settled s) image → AreBeside s image
      either s image (inl i) = image-beside (settled s) image i
      either s image (inr i) = image-beside (pruned to head (settled s)) image i

module _ (shape : Shape) (births : Births) (family : IsFamily shape births) (peaked : HasPeaks shape) {C : Type 0} (members : store.Ghosts C) (form : Form) (chunk : ℕ) (index_key : Bytes → ℕ) (db : Database C Sha256Digest) (to : ℕ) where
  -- a head over the log's items is that of its list
  pub heads-of : (head : Bytes) → IsHeadAt members (sha256_hashing shape form) to db.log head → (list : List Operation) → IsDatabase members (record { hashing = sha256_hashing shape form; chunk = chunk; index_key = index_key }) db list → to ≤ floor list → length list ≤ 2 ^ 62 → head ≡ head_at (scheme shape form) list to
  heads-of head heads list is low few =
      let within : to ≤ length list = omega (arith, low, is.good.floor_within) in
      head-is (sha256_hashing shape form) 32 births family peaked list to (omega (arith, within, few)) within head (heads (map (spelling form) list) is.lent.logged)

-- no refusal gives back a database and a store
pub not-both : {X C : Type 0} (given : Given X C) (x : X) (c : C) → given ≡ variants.Database x → given ≡ variants.Store c → ⊥
not-both given x c one other = cc

-- a store's start stays, whether a call answers or is refused
pub start-after : {X C : Type 0} (members : store.Ghosts C) (inside : X → C) (start : ℕ) (r : Result X (Refusal X C)) → IfOk r (λ x. members.start (inside x) ≡ start) → IfErr r (λ e. members.start (store_given inside e.given) ≡ start) → members.start (store_after inside r) ≡ start
start-after members inside start (Ok x) ok err = ok
start-after members inside start (Err e) ok err = err
