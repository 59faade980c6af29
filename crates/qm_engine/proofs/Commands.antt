-- Each command over what a run holds, as lemmas over plain values: what all of them use.
use Rattle.std.proofs.Common.{◌≡◌, ◌≢◌, ℕ, zero, suc, ◌≤◌, Bool, true, false, cond, List, [], ◌∷◌, length, get_or, set, Option, Some, None, arith, refl, sym, ◌∙◌, ap, subst, IfSome, append-nil}
use Rattle.std.specs.Prelude.{Contains}
use Rattle.std.proofs.lemmas.List.{length-set}
use Rattle.qm_model.specs.Own.{Log}
use Rattle.qm_model.specs.StoreModel.{Stored}
use Rattle.qm_model.specs.Operations.{Bytes, Operation}
use Rattle.qm_model.specs.Writes.{Write}
use Rattle.qm_model.specs.Batches.{Chain, IsAmong, Apart}
use Rattle.qm_machine.specs.Lines.{Answer}
use Rattle.qm_machine.specs.Lines as lines
use Rattle.qm_model.specs.Refused as refusals
use Rattle.qm_machine.specs.Machine.{State, initial, slot_at, with_slot, with_database, unless}
use Rattle.qm_model.specs.Schemes.{Scheme}
use Rattle.qm_machine.specs.Machine as machine
use Rattle.qm_model.proofs.Chains.{Contains-more, IsAmong-more}
use Rattle.qm_base.specs.declared.error.JournalError.TheVariants as journal
use Rattle.qm_base.specs.declared.error.Error.{Error}
use Rattle.qm_base.specs.declared.error.Error.TheVariants as errors
use Rattle.qm_lines.specs.Views.{answer_view, refused_view}
use Rattle.qm_lines.specs.declared.reply.Reply as reply
use Rattle.qm_lines.specs.declared.reply.Reply.TheVariants as replies
use Rattle.qm_lines.specs.declared.reply.LogRefused.TheVariants as log
use Rattle.qm_lines.specs.declared.reply.Refused.{Refused}
use Rattle.qm_lines.specs.declared.reply.Refused.TheVariants as refused
use Rattle.qm_store.specs.declared.refusal.Given.{Given}
use Rattle.qm_store.specs.declared.refusal.Given.TheVariants.{Database, Store}
use Rattle.qm_engine.specs.declared.table.Slot.{Slot}
use Rattle.qm_engine.specs.declared.table.Slot.TheVariants.{Gone, Writing, Staged, Merkleized}
use Rattle.qm_engine.specs.declared.session.Turn.{Turn}
use Rattle.qm_engine.specs.declared.session.Turn.TheVariants.{Reply, Memory, StoreFault}
use Rattle.qm_engine.specs.Table.{writing_of, staged_of, merkleized_of}
use Rattle.qm_engine.specs.Turn.{turn_of_error}
use Rattle.qm_store.specs.Refusals.{refusal_of, IsDue}
use Rattle.qm_store.specs.declared.Store as stores
use Rattle.qm_offer.specs.declared.meaning.Meaning as meaning
use Rattle.qm_store.specs.Given.{IsUnchanged}
use Rattle.qm_engine.specs.Stores.{IsStored, HasLog, IsLeft, MayBe, grown}
use Rattle.qm_engine.specs.Session.{HeldIs, SlotIs, Holds, IfReply, Answers}
use Rattle.qm_engine.proofs.Tables.{set_at}

-- what holds of both sides of a choice
pub choice : {A : Type 0} (t : Bool) (p q : A) (Q : A → Type 0) → (t ≡ true → Q p) → (t ≡ false → Q q) → Q (cond t p q)
choice true p q Q a b = a refl
choice false p q Q a b = b refl

pub none_some : {A : Type 0} {o : Option A} {x : A} → o ≡ None → o ≡ Some x → ⊥
none_some none some = absurd (cc)

-- an error tells no other refusal than is due
pub due_told : {A : Type 0} (o due : Option A) (r : A) → IfSome o (λ x. due ≡ Some x) → o ≡ Some r → due ≡ Some r
due_told o due r is told = subst (λ p. IfSome p (λ x. due ≡ Some x)) told is

-- what holds of a thing that is told
pub some_is : {A : Type 0} (told : Option A) (x : A) (Q : A → Type 0) → told ≡ Some x → IfSome told Q → Q x
some_is told x Q is each = subst (λ o. IfSome o Q) is each

-- and what follows from it
pub some-map : {A : Type 0} (told : Option A) {P Q : A → Type 0} → ((x : A) → P x → Q x) → IfSome told P → IfSome told Q
some-map None next p = tt
some-map (Some x) next p = next x p

-- a store that has what another has
pub stored-same : {C : Type 0} (members : stores.Ghosts C) (m : Scheme) (old new : C) (log : Log) → IsUnchanged members old new → IsStored members m old log → IsStored members m new log
stored-same members m old new log same is = record { start = same.start ∙ is.start; told = record { stored = is.told.stored; is = same.told ∙ is.told.is; has = is.told.has } }

-- nothing of what a command appends to a list
pub left_none : (m : Scheme) (before after : Log) (left : Option Stored) → HasLog m left before → IsLeft m left before after
left_none m before after left has = record {
  log = before;
  has = has;
  may = subst (λ list. MayBe before after (record before { list = list })) (append-nil before.list) (grown 0 before.stable (omega arith) (λ same. refl));
}

pub left_none-log : (m : Scheme) (before after : Log) (left : Option Stored) (has : HasLog m left before) → (left_none m before after left has).log ≡ before
unfolding left_none
left_none-log m before after left has = refl

-- all of it, of which more is stable
pub left_stable : (m : Scheme) (left : Option Stored) (before after : Log) (k : ℕ) → before.stable ≤ k → (after ≡ before → k ≡ before.stable) → HasLog m left (record before { stable = k }) → IsLeft m left before after
left_stable m left before after k more same has = record {
  log = record before { stable = k };
  has = has;
  may = subst (λ list. MayBe before after (record before { list = list; stable = k })) (append-nil before.list) (grown 0 k more same);
}

-- the answer that refuses so
abbrev pub refuses : Option refusals.Refused → Answer
refuses None = lines.Refuses refusals.StaleBatch
refuses (Some r) = lines.Refuses r

-- an error that tells a refusal other than a stale batch
abbrev pub Refusing : {K V D : Type 0} → Error → (reply.Reply K V D → Type 0) → Type 0
Refusing error Q = (r : Refused) → error ≢ errors.StaleBatch → refusal_of error ≡ Some (refused_view r) → Q (replies.Refused r)

-- what an error comes to is a refusal, or no reply
pub by_error : {K V D : Type 0} (error : Error) (Q : reply.Reply K V D → Type 0) → (error ≡ errors.StaleBatch → Q (replies.Refused refused.StaleBatch)) → Refusing error Q → IfReply (turn_of_error error) Q
by_error errors.Memory Q stale other = tt
by_error errors.InvalidInitializationBound Q stale other = other refused.InvalidInitializationBound (λ e. absurd (cc)) refl
by_error errors.StaleBatch Q stale other = stale refl
by_error errors.StaleRead Q stale other = other refused.StaleRead (λ e. absurd (cc)) refl
by_error errors.KeyNotFound Q stale other = other refused.KeyNotFound (λ e. absurd (cc)) refl
by_error errors.KeyExists Q stale other = other refused.KeyExists (λ e. absurd (cc)) refl
by_error (errors.OperationPruned n) Q stale other = other (refused.OperationPruned n) (λ e. absurd (cc)) refl
by_error (errors.PruneBeyondMinRequired p m) Q stale other = other (refused.PruneBeyondMinRequired p m) (λ e. absurd (cc)) refl
by_error (errors.HistoricalFloorPruned n) Q stale other = other (refused.HistoricalFloorPruned n) (λ e. absurd (cc)) refl
by_error (errors.DataCorrupted c) Q stale other = other (refused.DataCorrupted c) (λ e. absurd (cc)) refl
by_error (errors.Merkle r) Q stale other = other (refused.Merkle r) (λ e. absurd (cc)) refl
by_error (errors.Journal journal.Store) Q stale other = tt
by_error (errors.Journal (journal.ItemPruned n)) Q stale other = other (refused.Journal (log.ItemPruned n)) (λ e. absurd (cc)) refl
by_error (errors.Journal (journal.ItemTooLarge n)) Q stale other = other (refused.Journal (log.ItemTooLarge n)) (λ e. absurd (cc)) refl

-- the same, whichever refusal it is
pub by_refusal : {K V D : Type 0} (error : Error) (Q : reply.Reply K V D → Type 0) → ((r : Refused) → refusal_of error ≡ Some (refused_view r) → Q (replies.Refused r)) → IfReply (turn_of_error error) Q
by_refusal error Q each = by_error error Q (λ e. each refused.StaleBatch (ap refusal_of e)) (λ r other told. each r told)

-- an error that refuses nothing has no reply
pub no_refusal : {K V D : Type 0} (error : Error) (Q : reply.Reply K V D → Type 0) → refusal_of error ≡ None → IfReply (turn_of_error error) Q
no_refusal error Q none = by_refusal error Q (λ r told. absurd (none_some none told))

module _ {X C B S M : Type 0} (members : stores.Ghosts C) (means : meaning.Ghosts X C B S M) where
  pub HeldIs-more : (n : ℕ) (had : List (List Operation)) (new : List Operation) (held : Given X C) (d : Option (List Operation)) → HeldIs members means n had held d → HeldIs members means n (new ∷ had) held d
  HeldIs-more n had new (Database x) (Some list) h = (h.0, Contains-more had new list h.1, h.2)
  HeldIs-more n had new (Database x) None h = absurd h
  HeldIs-more n had new (Store c) (Some list) h = absurd h
  HeldIs-more n had new (Store c) None h = tt

  pub SlotIs-more : (had : List (List Operation)) (new : List Operation) (a : Slot B S M) (b : machine.Slot) → SlotIs members means had a b → SlotIs members means (new ∷ had) a b
  SlotIs-more had new Gone machine.gone h = tt
  SlotIs-more had new (Writing b) (machine.writing chain above ws) h = (h.0, IsAmong-more had new chain h.1, IsAmong-more had new above h.2)
  SlotIs-more had new (Staged b) (machine.staged chain above ws keys) h = (h.0, IsAmong-more had new chain h.1, IsAmong-more had new above h.2)
  SlotIs-more had new (Merkleized b) (machine.merkleized chain tip evicted) h = (h.0, IsAmong-more had new chain h.1, Contains-more had new tip h.2, h.3)
  SlotIs-more had new a b h = absurd h

  -- a closed store, before any command
  pub begun : (c : C) (table : List (Slot B S M)) (log : Log) (choices : List ℕ) → table ≡ Gone ∷ [] → IfSome (members.told c) (λ t. t.start ≡ members.start c)
      → HasLog means.scheme (members.told c) log → log.start ≤ log.stable → log.stable ≤ length log.list → Holds members means (Store c) table 0 (initial log choices)
  begun c table log choices is starts has low within =
      subst (λ (t : List (Slot B S M)). Holds members means (Store c) t 0 (initial log choices)) (sym is)
      (record {
        database = tt;
        store = record { start = sym (some_is (members.told c) has.stored (λ t. t.start ≡ members.start c) has.is starts) ∙ has.has.start; told = has };
        start = low;
        low = tt;
        within = within;
        count = refl;
        lengths = refl;
        slots = each;
      })
    where
      each : (h : ℕ) → SlotIs members means [] (get_or (Gone ∷ []) h Gone) (slot_at (machine.gone ∷ []) h)
      each zero = tt
      each (suc h) = tt

  -- a database is open if one is held
  pub with_held : (x : X) (had : List (List Operation)) (d : Option (List Operation)) (s : State) (f : List Operation → Answer × State) (Q : Answer × State → Type 0)
      → HeldIs members means s.opened had (Database x) d → ((list : List Operation) → d ≡ Some list → means.stands x list → Contains had list → Q (f list)) → Q (with_database s d f)
  with_held x had None s f Q h each = absurd h
  with_held x had (Some list) s f Q h each = each list refl h.0 h.1

  pub with_list : (x : X) (had : List (List Operation)) (d : Option (List Operation)) (s : State) (f : List Operation → Answer × State) (Q : Answer × State → Type 0)
      → HeldIs members means s.opened had (Database x) d → ((list : List Operation) → means.stands x list → Contains had list → Q (f list)) → Q (with_database s d f)
  with_list x had d s f Q h each = with_held x had d s f Q h (λ list is. each list)

  -- one answer of the list
  pub of_list : (x : X) (table : List (Slot B S M)) (opened : ℕ) (s : State) (got : Answer) (answer : List Operation → Answer) → Holds members means (Database x) table opened s
      → ((list : List Operation) → means.stands x list → got ≡ answer list)
      → (got ≡ (with_database s s.database (λ list. (answer list, s))).0) × Holds members means (Database x) table opened (with_database s s.database (λ list. (answer list, s))).1
  of_list x table opened s got answer k is =
      with_list x s.had s.database s (λ list. (answer list, s)) (λ next. (got ≡ next.0) × Holds members means (Database x) table opened next.1) k.database (λ list stands in_had. (is list stands, k))

  -- it is the instance of the machine's number
  pub numbered-held : (n : ℕ) (x : X) (had : List (List Operation)) (d : Option (List Operation)) → HeldIs members means n had (Database x) d → means.numbered x n
  numbered-held n x had None h = absurd h
  numbered-held n x had (Some list) h = h.2

  -- another database that stands for the same lists, and is the same instance
  pub HeldIs-kept : (n : ℕ) (x after : X) (had : List (List Operation)) (d : Option (List Operation)) → ((list : List Operation) → means.stands x list → means.stands after list) → ((n : ℕ) → means.numbered x n → means.numbered after n)
      → HeldIs members means n had (Database x) d → HeldIs members means n had (Database after) d
  HeldIs-kept n x after had None keeps same h = absurd h
  HeldIs-kept n x after had (Some list) keeps same h = (keeps list h.0, h.1, same n h.2)

  -- the same places, with one set
  pub slots_set : (table : List (Slot B S M)) (s : State) (h : ℕ) (new : Slot B S M) (slot : machine.Slot) → length table ≡ length s.table → ((i : ℕ) → SlotIs members means s.had (get_or table i Gone) (slot_at s.table i))
      → SlotIs members means s.had new slot → (i : ℕ) → SlotIs members means s.had (get_or (set table h new) i Gone) (slot_at (set s.table h slot) i)
  slots_set table s h new slot e each is = set_at (SlotIs members means s.had) Gone machine.gone tt table s.table h new slot e each is

  pub lengths_set : (table : List (Slot B S M)) (s : State) (h : ℕ) (new : Slot B S M) (slot : machine.Slot) → length table ≡ length s.table → length (set table h new) ≡ length (set s.table h slot)
  lengths_set table s h new slot e = length-set table h new ∙ e ∙ sym (length-set s.table h slot)

  -- a database that stands for the same lists, over what the store had, and is the same instance
  abbrev pub Keeps : X → X → Type 0
  Keeps x after = ((l : List Operation) → means.stands x l → means.stands after l) × IsUnchanged members (means.inside x) (means.inside after) × ((n : ℕ) → means.numbered x n → means.numbered after n)

  pub Holds-kept : (x after : X) (table : List (Slot B S M)) (opened : ℕ) (s : State) → Keeps x after → Holds members means (Database x) table opened s → Holds members means (Database after) table opened s
  Holds-kept x after table opened s keeps k = record {
    database = HeldIs-kept s.opened x after s.had s.database keeps.0 keeps.2 k.database;
    store = stored-same members means.scheme (means.inside x) (means.inside after) s.log keeps.1 k.store;
    start = k.start;
    low = k.low;
    within = k.within;
    count = k.count;
    lengths = k.lengths;
    slots = k.slots;
  }

  -- and whose batch number h is used up
  pub Holds-used : (x after : X) (table : List (Slot B S M)) (opened : ℕ) (h : ℕ) (s : State) → Keeps x after → Holds members means (Database x) table opened s → Holds members means (Database after) (set table h Gone) opened (with_slot s h machine.gone)
  Holds-used x after table opened h s keeps k = record {
    database = HeldIs-kept s.opened x after s.had s.database keeps.0 keeps.2 k.database;
    store = stored-same members means.scheme (means.inside x) (means.inside after) s.log keeps.1 k.store;
    start = k.start;
    low = k.low;
    within = k.within;
    count = k.count;
    lengths = lengths_set table s h Gone machine.gone k.lengths;
    slots = slots_set table s h Gone machine.gone k.lengths k.slots tt;
  }

  -- over a database, what is done with a batch that a number names
  module _ (x : X) (table : List (Slot B S M)) (opened h : ℕ) (s : State) (f : List Operation → machine.Slot → Answer × State) (Q : Answer × State → Type 0) (k : Holds members means (Database x) table opened s) where
    -- where a batch is named
    pub with_writing : (batch : B) → writing_of (get_or table h Gone) ≡ Some batch
        → ((list : List Operation) (chain above : Chain) (ws : List Write) → means.stands x list → Contains s.had list → IsAmong s.had chain → IsAmong s.had above → means.is_batch batch chain above ws
        → Q (f list (machine.writing chain above ws)))
        → Q (with_database s s.database (λ list. f list (slot_at s.table h)))
    with_writing batch e each =
        with_list x s.had s.database s (λ list. f list (slot_at s.table h)) Q k.database (λ list stands in_had. by list stands in_had (get_or table h Gone) (slot_at s.table h) (k.slots h) e)
      where
        by : (list : List Operation) → means.stands x list → Contains s.had list → (a : Slot B S M) (b : machine.Slot) → SlotIs members means s.had a b → writing_of a ≡ Some batch → Q (f list b)
        by list stands in_had (Writing w) (machine.writing chain above ws) is e =
            let same : w ≡ batch = cc in each list chain above ws stands in_had is.1 is.2 (subst (λ v. means.is_batch v chain above ws) same is.0)
        by list stands in_had (Writing w) b is e = absurd is
        by list stands in_had a b is e = absurd (cc)

    pub with_staged : (batch : S) → staged_of (get_or table h Gone) ≡ Some batch
        → ((list : List Operation) (chain above : Chain) (ws : List Write) (keys : List Bytes) → means.stands x list → Contains s.had list → IsAmong s.had chain → IsAmong s.had above → means.is_staged batch chain above ws keys
        → Q (f list (machine.staged chain above ws keys)))
        → Q (with_database s s.database (λ list. f list (slot_at s.table h)))
    with_staged batch e each =
        with_list x s.had s.database s (λ list. f list (slot_at s.table h)) Q k.database (λ list stands in_had. by list stands in_had (get_or table h Gone) (slot_at s.table h) (k.slots h) e)
      where
        by : (list : List Operation) → means.stands x list → Contains s.had list → (a : Slot B S M) (b : machine.Slot) → SlotIs members means s.had a b → staged_of a ≡ Some batch → Q (f list b)
        by list stands in_had (Staged w) (machine.staged chain above ws keys) is e =
            let same : w ≡ batch = cc in each list chain above ws keys stands in_had is.1 is.2 (subst (λ v. means.is_staged v chain above ws keys) same is.0)
        by list stands in_had (Staged w) b is e = absurd is
        by list stands in_had a b is e = absurd (cc)

  pub merkleized_slot : (a : Slot B S M) (batch : M) → merkleized_of a ≡ Some batch → a ≡ Merkleized batch
  merkleized_slot (Merkleized b) batch e = ap Merkleized (cc)
  merkleized_slot a batch e = absurd (cc)

module _ {X C B S M K V D : Type 0} (members : stores.Ghosts C) (means : meaning.Ghosts X C B S M) (key : K → Bytes) (value : V → Bytes) (digest : D → Bytes) where
  abbrev root : List Operation → Bytes
  root = means.scheme.root

  abbrev pub Turns : Turn K V D → Given X C → List (Slot B S M) → ℕ → Answer × State → Type 0
  Turns turn held table opened next = IfReply turn (λ r. Apart root (next.1).had → (answer_view key value digest r ≡ next.0) × Holds members means held table opened next.1)

  -- an answer that leaves the state as it is
  pub stays : (held : Given X C) (table : List (Slot B S M)) (opened : ℕ) (s : State) (answer : Answer) (next : Answer × State) → next.1 ≡ s → Holds members means held table opened s
      → (Apart root s.had → answer ≡ next.0) → Apart root (next.1).had → (answer ≡ next.0) × Holds members means held table opened next.1
  stays held table opened s answer next same k is =
      subst (λ t. Apart root t.had → (answer ≡ next.0) × Holds members means held table opened t) (sym same) (λ apart. (is apart, k))

  pub answered : (turn : Turn K V D) (held : Given X C) (table : List (Slot B S M)) (opened : ℕ) (s : State) (next : Answer × State) → next.1 ≡ s → Holds members means held table opened s
      → Answers members means key value digest turn s next → Turns turn held table opened next
  answered (Reply r) held table opened s next same k is = stays held table opened s (answer_view key value digest r) next same k is
  answered Memory held table opened s next same k is = tt
  answered StoreFault held table opened s next same k is = tt

  -- an error of a call that changes nothing
  pub unless_err : (x after : X) (table : List (Slot B S M)) (opened : ℕ) (error : Error) (s : State) (due : List Operation → Option refusals.Refused) (answer : List Operation → Answer)
      → Holds members means (Database x) table opened s → Keeps members means x after → ((list : List Operation) → means.stands x list → IsDue error (due list))
      → Turns (turn_of_error error) (Database after) table opened (with_database s s.database (λ list. unless s (due list) (answer list)))
  unless_err x after table opened error s due answer k keeps is =
      by_refusal error _ (λ r told. with_list members means x s.had s.database s (λ list. unless s (due list) (answer list)) (Turns (Reply (replies.Refused r)) (Database after) table opened) k.database
      (λ list stands in_had. subst (λ d. Turns (Reply (replies.Refused r)) (Database after) table opened (unless s d (answer list))) (sym (due_told (refusal_of error) (due list) (refused_view r) (is list stands) told))
      (λ apart. (refl, Holds-kept members means x after table opened s keeps k))))
