-- What a command that only reads the database tells, and what it leaves of the session's store.
use Rattle.std.proofs.Common.{◌≡◌, ◌≢◌, ◌∙◌, ℕ, Bool, true, false, cond, List, map, get_or, Option, Some, None, arith, refl, sym, ap, subst, Result, Err}
use Rattle.std.specs.Prelude.{IsErrOf}
use Rattle.qm_model.specs.Live.{value_of}
use Rattle.qm_model.specs.Operations.{Bytes, Operation}
use Rattle.qm_model.specs.StoreModel.{except_items}
use Rattle.qm_model.specs.Refused as refusals
use Rattle.qm_machine.specs.Lines.{Answer}
use Rattle.qm_machine.specs.Lines as lines
use Rattle.qm_machine.specs.Machine.{State, with_database, if_ordered, refuse, neighbour_in, neighbour_of, read_in, slot_at}
use Rattle.qm_machine.specs.Machine as machine
use Rattle.qm_base.specs.declared.error.JournalError.TheVariants as journal
use Rattle.qm_base.specs.declared.error.Error.{Error}
use Rattle.qm_base.specs.declared.error.Error.TheVariants as errors
use Rattle.qm_lines.specs.Views.{answer_view}
use Rattle.qm_lines.specs.declared.reply.Reply as reply
use Rattle.qm_lines.specs.declared.reply.Reply.TheVariants as replies
use Rattle.qm_lines.specs.declared.reply.Refused.{Refused}
use Rattle.qm_lines.specs.declared.reply.Refused.TheVariants as refused
use Rattle.qm_store.specs.declared.Store as stores
use Rattle.qm_store.specs.declared.refusal.Given.{Given}
use Rattle.qm_store.specs.declared.refusal.Given.TheVariants.{Database, Store}
use Rattle.qm_store.specs.Given.{store_given, IsUnchanged}
use Rattle.qm_store.specs.Refusals.{refusal_of}
use Rattle.qm_offer.specs.declared.meaning.Meaning as meaning
use Rattle.qm_engine.specs.declared.table.Slot.{Slot}
use Rattle.qm_engine.specs.declared.table.Slot.TheVariants.{Gone, Writing, Staged, Merkleized}
use Rattle.qm_engine.specs.declared.session.Session.{Session}
use Rattle.qm_engine.specs.declared.session.Turn.{Turn}
use Rattle.qm_engine.specs.declared.session.Turn.TheVariants.{Reply, Memory, StoreFault}
use Rattle.qm_engine.specs.Session.{HeldIs, SlotIs, Holds, Stands, IfReply, Answers, FollowsHeld, TurnReads, Uses}
use Rattle.qm_engine.specs.Table.{merkleized_of}
use Rattle.qm_engine.specs.Turn.{turn_of_error}
use Rattle.qm_offer.specs.Words.{ReadsOnly}
use Rattle.qm_engine.proofs.Commands.{no_refusal, none_some, by_refusal, with_list, Holds-kept, answered}
use Rattle.qm_engine.proofs.LastingCommands.{fault-told}

module _ {X C B S M : Type 0} (members : stores.Ghosts C) (means : meaning.Ghosts X C B S M) {held : Given X C} {x after : X} {T : Type 0} {read : Result T Error} (is : held ≡ Database x) (reads : ReadsOnly means members x after read) where
  -- it has what it had
  pub read-keeps : IsUnchanged members (store_given means.inside held) (means.inside after)
  read-keeps = subst (λ (h : Given X C). IsUnchanged members (store_given means.inside h) (means.inside after)) (sym is) reads.store

  -- and was used as a turn may use it
  pub read-uses : {K V D : Type 0} (turn : Turn K V D) → (turn ≡ StoreFault → IsErrOf read (errors.Journal journal.Store)) → Uses members (store_given means.inside held) (means.inside after) turn
  read-uses turn why =
      subst (λ (h : Given X C). Uses members (store_given means.inside h) (means.inside after) turn) (sym is)
      (record { start = reads.store.start; beside = ap except_items reads.store.told; later = reads.faults.later; fault = λ e. reads.faults.failed (why e) })

-- what a store has that only a database's was used, as that of what is held
module _ {X C : Type 0} (members : stores.Ghosts C) (inside : X → C) {held : Given X C} {x : X} (is : held ≡ Database x) {now : C} where
  pub unchanged-at : IsUnchanged members (inside x) now → IsUnchanged members (store_given inside held) now
  unchanged-at = subst (λ (h : Given X C). IsUnchanged members (store_given inside h) now) (sym is)

  pub uses-at : {K V D : Type 0} {turn : Turn K V D} → Uses members (inside x) now turn → Uses members (store_given inside held) now turn
  uses-at {turn = turn} = subst (λ (h : Given X C). Uses members (store_given inside h) now turn) (sym is)

-- what a call read, as its turn tells
pub turn_reads : {X C B S M K V D : Type 0} (members : stores.Ghosts C) (means : meaning.Ghosts X C B S M) {x after : X} {T : Type 0} {read : Result T Error} → ReadsOnly means members x after read → (turn : Turn K V D) → (turn ≡ StoreFault → IsErrOf read (errors.Journal journal.Store)) → TurnReads members means x after turn
turn_reads members means reads turn why = record { same = reads.same; numbered = reads.numbered; store = reads.store; faults = record { later = reads.faults.later; failed = λ e. reads.faults.failed (why e) } }

-- What a command that only reads tells at each of its ways out: what is held, the batches and the count of openings.
module _ {X C B S M K V D : Type 0} (members : stores.Ghosts C) (means : meaning.Ghosts X C B S M) (key : K → Bytes) (value : V → Bytes) (digest : D → Bytes) (old : Session X C B S M) where
  -- the turn does what the machine does
  abbrev pub Does : Given X C → Turn K V D → Answer × State → Type 0
  Does new turn next = FollowsHeld members means key value digest old.table.items old.opened new turn next

  -- the clauses that these commands share
  abbrev pub Told : (State → Answer × State) → Given X C → Turn K V D → Type 0
  Told next new turn = record {
    machine : (s : State) → Stands members means old s → Does new turn (next s);
    store : IsUnchanged members (store_given means.inside old.held) (store_given means.inside new);
    uses : Uses members (store_given means.inside old.held) (store_given means.inside new) turn;
    opened : old.opened ≡ old.opened;
  }

  -- all stays as it was
  pub stayed : (next : State → Answer × State) (turn : Turn K V D) → turn ≢ StoreFault → ((s : State) → Stands members means old s → Does old.held turn (next s)) → Told next old.held turn
  stayed next turn never obeys = record {
    machine = obeys;
    store = record { start = refl; told = refl };
    uses = record { start = refl; beside = refl; later = omega arith; fault = λ e. absurd (never e) };
    opened = refl;
  }

  -- there is no memory for it
  pub no_memory : (next : State → Answer × State) → Told next old.held Memory
  no_memory next = stayed next Memory (λ e. absurd (cc e)) (λ s k. tt)

  -- what is offered
  choice : (ordered : Bool) → means.scheme.form.ordered ≡ ordered → (next : State → Answer × State) (new : Given X C) (turn : Turn K V D) (s : State) → Does new turn (cond ordered (next s) (refuse s refusals.NotOffered)) → Does new turn (if_ordered means.scheme s (next s))
  choice ordered is next new turn s = subst (λ t. Does new turn (cond t (next s) (refuse s refusals.NotOffered))) (sym is)

  -- no database is open
  closed : {c : C} → old.held ≡ Store c → {turn : Turn K V D} → turn ≡ Reply (replies.Refused refused.NoDatabase) → (f : List Operation → Answer × State) (s : State) → Stands members means old s → Does old.held turn (with_database s s.database f)
  closed {c} is e f s k = subst (λ t. Does old.held t (with_database s s.database f)) (sym e) (by s.database (subst (λ h. HeldIs members means s.opened s.had h s.database) is k.database))
    where
      by : (d : Option (List Operation)) → HeldIs members means s.opened s.had (Store c) d → Does old.held (Reply (replies.Refused refused.NoDatabase)) (with_database s d f)
      by None none = λ apart. (refl, k)
      by (Some list) none = absurd none

  -- a refusal is no fault of the store
  pub refusal-never : {turn : Turn K V D} {r : Refused} → turn ≡ Reply (replies.Refused r) → turn ≢ StoreFault
  refusal-never e fault = absurd (cc)

  -- an unordered database does not offer it
  pub not_offered : (next : State → Answer × State) → means.scheme.form.ordered ≡ false → Told (λ s. if_ordered means.scheme s (next s)) old.held (Reply (replies.Refused refused.NotOffered))
  not_offered next unordered = stayed (λ s. if_ordered means.scheme s (next s)) (Reply (replies.Refused refused.NotOffered)) (refusal-never refl)
      (λ s k. choice false unordered next old.held (Reply (replies.Refused refused.NotOffered)) s (λ apart. (refl, k)))

  pub none_ordered : (f : State → List Operation → Answer × State) → means.scheme.form.ordered ≡ true → {c : C} → old.held ≡ Store c → {turn : Turn K V D} → turn ≡ Reply (replies.Refused refused.NoDatabase)
      → Told (λ s. if_ordered means.scheme s (with_database s s.database (f s))) old.held turn
  none_ordered f ordered is {turn} e = stayed (λ s. if_ordered means.scheme s (with_database s s.database (f s))) turn (refusal-never e)
      (λ s k. choice true ordered (λ s. with_database s s.database (f s)) old.held turn s (closed is e (f s) s k))

  pub none_open : (f : State → List Operation → Answer × State) → {c : C} → old.held ≡ Store c → {turn : Turn K V D} → turn ≡ Reply (replies.Refused refused.NoDatabase) → Told (λ s. with_database s s.database (f s)) old.held turn
  none_open f is {turn} e = stayed (λ s. with_database s s.database (f s)) turn (refusal-never e) (λ s k. closed is e (f s) s k)

  pub none_read : (keys : List Bytes) (from : Option ℕ) → {c : C} → old.held ≡ Store c → {turn : Turn K V D} → turn ≡ Reply (replies.Refused refused.NoDatabase) → Told (λ s. machine.read means.scheme s keys from) old.held turn
  none_read keys from is {turn} e = stayed (λ s. machine.read means.scheme s keys from) turn (refusal-never e) (λ s k. by s k from)
    where
      by : (s : State) → Stands members means old s → (from : Option ℕ) → Does old.held turn (machine.read means.scheme s keys from)
      by s k None = closed is e (λ list. (lines.Read (map (value_of list) keys), s)) s k
      by s k (Some h) = closed is e (λ list. read_in means.scheme s h keys list (slot_at s.table h)) s k

  -- a batch number names no merkleized batch
  pub no_neighbour : (beside : List Bytes → Option Bytes) (h : ℕ) → means.scheme.form.ordered ≡ true → {x : X} → old.held ≡ Database x → None ≡ merkleized_of (get_or old.table.items h Gone) → {turn : Turn K V D} → turn ≡ Reply (replies.Refused (refused.NoSuchHandle h))
      → Told (λ s. if_ordered means.scheme s (neighbour_of means.scheme s beside (Some h))) (Database x) turn
  no_neighbour beside h ordered {x} is none {turn} e = subst (λ held. Told (λ s. if_ordered means.scheme s (neighbour_of means.scheme s beside (Some h))) held turn) is (stayed (λ s. if_ordered means.scheme s (neighbour_of means.scheme s beside (Some h))) turn (refusal-never e)
      (λ s k. choice true ordered (λ s. neighbour_of means.scheme s beside (Some h)) old.held turn s (subst (λ t. Does old.held t (neighbour_of means.scheme s beside (Some h))) (sym e)
      (with_list members means x s.had s.database s (λ list. neighbour_in means.scheme s h beside list (slot_at s.table h)) (Does old.held (Reply (replies.Refused (refused.NoSuchHandle h)))) (subst (λ held. HeldIs members means s.opened s.had held s.database) is k.database)
      (λ list stands in_had. by s k list (get_or old.table.items h Gone) (slot_at s.table h) (k.slots h) none)))))
    where
      by : (s : State) → Stands members means old s → (list : List Operation) (a : Slot B S M) (b : machine.Slot) → SlotIs members means s.had a b → None ≡ merkleized_of a → Does old.held (Reply (replies.Refused (refused.NoSuchHandle h))) (neighbour_in means.scheme s h beside list b)
      by s k list (Merkleized w) b is e = absurd (cc)
      by s k list Gone machine.gone is e = λ apart. (refl, k)
      by s k list (Writing w) (machine.writing chain above ws) is e = λ apart. (refl, k)
      by s k list (Staged w) (machine.staged chain above ws keys) is e = λ apart. (refl, k)
      by s k list a b is e = absurd is

  -- a batch number names nothing
  pub no_read : (keys : List Bytes) (h : ℕ) → {x : X} → old.held ≡ Database x → Gone ≡ get_or old.table.items h Gone → {turn : Turn K V D} → turn ≡ Reply (replies.Refused (refused.NoSuchHandle h))
      → Told (λ s. machine.read means.scheme s keys (Some h)) (Database x) turn
  no_read keys h {x} is gone {turn} e = subst (λ held. Told (λ s. machine.read means.scheme s keys (Some h)) held turn) is (stayed (λ s. machine.read means.scheme s keys (Some h)) turn (refusal-never e)
      (λ s k. subst (λ t. Does old.held t (machine.read means.scheme s keys (Some h))) (sym e)
      (with_list members means x s.had s.database s (λ list. read_in means.scheme s h keys list (slot_at s.table h)) (Does old.held (Reply (replies.Refused (refused.NoSuchHandle h)))) (subst (λ held. HeldIs members means s.opened s.had held s.database) is k.database)
      (λ list stands in_had. by s k list (slot_at s.table h) (subst (λ a. SlotIs members means s.had a (slot_at s.table h)) (sym gone) (k.slots h))))))
    where
      by : (s : State) → Stands members means old s → (list : List Operation) (b : machine.Slot) → SlotIs members means s.had Gone b → Does old.held (Reply (replies.Refused (refused.NoSuchHandle h))) (read_in means.scheme s h keys list b)
      by s k list machine.gone is = λ apart. (refl, k)
      by s k list b is = absurd is

  -- a turn that read the database
  module _ {x after : X} (is : old.held ≡ Database x) (turn : Turn K V D) (reads : TurnReads members means x after turn) where
    pub read_left : (next : State → Answer × State) → ((s : State) → Stands members means old s → Does (Database after) turn (next s)) → Told next (Database after) turn
    read_left next does = record {
      machine = does;
      store = unchanged-at members means.inside is reads.store;
      uses = uses-at members means.inside is (record { start = reads.store.start; beside = ap except_items reads.store.told; later = reads.faults.later; fault = reads.faults.failed });
      opened = refl;
    }

  module _ {x after : X} (is : old.held ≡ Database x) (turn : Turn K V D) (reads : TurnReads members means x after turn) (answer : List Operation → Answer) where
    -- the turn answers from the list
    answers : ((list : List Operation) → means.stands x list → IfReply turn (λ r. answer_view key value digest r ≡ answer list))
        → (s : State) → Stands members means old s → Does (Database after) turn (with_database s s.database (λ list. (answer list, s)))
    answers each s k =
        let held_here : Holds members means (Database x) old.table.items old.opened s = subst (λ h. Holds members means h old.table.items old.opened s) is k in
        with_list members means x s.had s.database s (λ list. (answer list, s)) (Does (Database after) turn) held_here.database
        (λ list stands in_had. answered members means key value digest turn (Database after) old.table.items old.opened s (answer list, s) refl
        (Holds-kept members means x after old.table.items old.opened s (reads.same, reads.store, reads.numbered) held_here) (with_apart turn s (answer list) (each list stands)))
      where
        with_apart : (turn : Turn K V D) (s : State) (a : Answer) → IfReply turn (λ r. answer_view key value digest r ≡ a) → Answers members means key value digest turn s (a, s)
        with_apart (Reply r) s a same = λ apart. same
        with_apart Memory s a same = tt
        with_apart StoreFault s a same = tt

    -- as the turn does that a database gave
    pub asked : (ordered : means.scheme.form.ordered ≡ true)
        → IfReply turn (λ r. means.scheme.form.ordered ≡ true → (list : List Operation) → means.stands x list → answer_view key value digest r ≡ answer list)
        → Told (λ s. if_ordered means.scheme s (with_database s s.database (λ list. (answer list, s)))) (Database after) turn
    asked ordered told = read_left is turn reads (λ s. if_ordered means.scheme s (with_database s s.database (λ list. (answer list, s))))
        (λ s k. choice true ordered (λ s. with_database s s.database (λ list. (answer list, s))) (Database after) turn s (answers (by turn told) s k))
      where
        by : (turn : Turn K V D) → IfReply turn (λ r. means.scheme.form.ordered ≡ true → (list : List Operation) → means.stands x list → answer_view key value digest r ≡ answer list)
            → (list : List Operation) → means.stands x list → IfReply turn (λ r. answer_view key value digest r ≡ answer list)
        by (Reply r) told list stands = told ordered list stands
        by Memory told list stands = tt
        by StoreFault told list stands = tt

  -- a call that failed as its turn tells
  pub read_err : {x after : X} {T : Type 0} {read : Result T Error} → old.held ≡ Database x → ReadsOnly means members x after read → (answer : List Operation → Answer) → {turn : Turn K V D} (error : Error) → (error ≡ errors.Journal journal.Store → IsErrOf read (errors.Journal journal.Store)) → turn ≡ turn_of_error error
      → ((list : List Operation) → means.stands x list → refusal_of error ≡ None) → Told (λ s. with_database s s.database (λ list. (answer list, s))) (Database after) turn
  read_err is reads answer {turn} error why e none =
      let turned = turn_reads members means reads turn (λ fault. why (fault-told error (sym e ∙ fault))) in
      read_left is turn turned (λ s. with_database s s.database (λ list. (answer list, s)))
      (answers is turn turned answer (λ list stands. subst (λ t. IfReply t (λ r. answer_view key value digest r ≡ answer list)) (sym e) (no_refusal error (λ r. answer_view key value digest r ≡ answer list) (none list stands))))

-- What a call of a database comes to as a turn, if it answers so.
module _ {X C B S M K V D T : Type 0} (members : stores.Ghosts C) (means : meaning.Ghosts X C B S M) (key : K → Bytes) (value : V → Bytes) (digest : D → Bytes) {old new : X} {read : Result T Error} (reads : ReadsOnly means members old new read) (answer : List Operation → Answer) where
  abbrev pub Replies : Turn K V D → Type 0
  Replies turn = record {
    reply : IfReply turn (λ r. means.scheme.form.ordered ≡ true → (list : List Operation) → means.stands old list → answer_view key value digest r ≡ answer list);
    reads : TurnReads members means old new turn;
  }

  pub replied_ok : (r : reply.Reply K V D) → (means.scheme.form.ordered ≡ true → (list : List Operation) → means.stands old list → answer_view key value digest r ≡ answer list) → Replies (Reply r)
  replied_ok r are = record {
    reply = are;
    reads = turn_reads members means reads (Reply r) (λ e. absurd (cc e));
  }

  pub replied_err : {turn : Turn K V D} (error : Error) → read ≡ Err error → turn ≡ turn_of_error error → ((list : List Operation) → means.stands old list → refusal_of error ≡ None) → Replies turn
  replied_err {turn} error was e none = subst Replies (sym e) (record {
    reply = by_refusal error (λ r. means.scheme.form.ordered ≡ true → (list : List Operation) → means.stands old list → answer_view key value digest r ≡ answer list) (λ r told ordered list stands. absurd (none_some (none list stands) told));
    reads = turn_reads members means reads (turn_of_error error) (λ fault. was ∙ ap Err (fault-told error fault));
  })
