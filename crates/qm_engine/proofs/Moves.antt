-- What a command that moves a batch of the table, or reads through one, tells at each of its ways out.
use Rattle.std.proofs.Common.{◌≡◌, ◌≢◌, ◌++◌, ℕ, true, false, List, get_or, set, Option, Some, None, option_map, Result, Err, refl, sym, ◌∙◌, ap, subst}
use Rattle.std.specs.Prelude.{IsErrOf, is_some, ⊤}
use Rattle.qm_model.specs.Live.{live_keys}
use Rattle.qm_model.specs.Operations.{Bytes, Operation}
use Rattle.qm_model.specs.Writes.{Write}
use Rattle.qm_model.specs.Batches.{Chain, IsKnown}
use Rattle.qm_model.specs.StoreModel.{Turns}
use Rattle.qm_model.specs.Schemes.{Grafts, chunks_of}
use Rattle.qm_model.specs.Refused as refusals
use Rattle.qm_machine.specs.Lines.{Answer}
use Rattle.qm_machine.specs.Machine.{State, with_database, refuse, if_any, if_ordered, neighbour_of, slot_at}
use Rattle.qm_machine.specs.Machine as machine
use Rattle.qm_machine.specs.Sound.{IsSteady}
use Rattle.qm_base.specs.declared.error.JournalError.TheVariants as journal
use Rattle.qm_base.specs.declared.error.Error.{Error}
use Rattle.qm_base.specs.declared.error.Error.TheVariants as errors
use Rattle.qm_lines.specs.declared.reply.Reply as reply
use Rattle.qm_lines.specs.declared.reply.Reply.TheVariants as replies
use Rattle.qm_lines.specs.declared.reply.Refused.TheVariants as refused
use Rattle.qm_store.specs.declared.Store as stores
use Rattle.qm_store.specs.declared.refusal.Given.{Given}
use Rattle.qm_store.specs.declared.refusal.Given.TheVariants.{Database, Store}
use Rattle.qm_store.specs.Given.{store_given, IsUnchanged}
use Rattle.qm_offer.specs.declared.meaning.Meaning as meaning
use Rattle.qm_engine.specs.declared.table.Slot.{Slot}
use Rattle.qm_engine.specs.declared.table.Slot.TheVariants.{Gone, Writing, Staged, Merkleized}
use Rattle.qm_engine.specs.declared.session.Session.{Session}
use Rattle.qm_engine.specs.declared.session.Turn.{Turn}
use Rattle.qm_engine.specs.declared.session.Turn.TheVariants.{Reply, Memory, StoreFault}
use Rattle.qm_engine.specs.Session.{SlotIs, Holds, Stands, FollowsHeld, Uses}
use Rattle.qm_engine.specs.Stores.{HasEnds}
use Rattle.qm_engine.specs.Table.{writing_of, staged_of, merkleized_of}
use Rattle.qm_engine.specs.Turn.{turn_of_error}
use Rattle.qm_offer.specs.Words.{AtTip, CanRead, IsReadFailure, ReadsOnly}
use Rattle.qm_engine.proofs.Commands.{with_list}
use Rattle.qm_engine.proofs.LastingCommands.{fault-told}
use Rattle.qm_engine.proofs.OrderedCommands.{neighbour_ok, neighbour_err}
use Rattle.qm_engine.proofs.ReadStores.{Told, none_open, stayed, refusal-never, read-keeps, read-uses}

-- a database that is no current one has no grafts
pub no-grafts : (grafts : Option Grafts) → is_some grafts ≡ false → grafts ≡ None
no-grafts None is = refl
no-grafts (Some g) is = absurd (cc)

-- what the machine does with a slot that names no batch to be written, or no staged one
module _ {X C B S M : Type 0} (members : stores.Ghosts C) (means : meaning.Ghosts X C B S M) {A : Type 0} (does : machine.Slot → A) {refusal : A} (gone : does machine.gone ≡ refusal) (merkleized : (chain : Chain) (tip : List Operation) (evicted : List (Bytes × Bytes)) → does (machine.merkleized chain tip evicted) ≡ refusal) where
  pub not_writing : ((chain above : Chain) (ws : List Write) (keys : List Bytes) → does (machine.staged chain above ws keys) ≡ refusal)
      → (had : List (List Operation)) (a : Slot B S M) (b : machine.Slot) → SlotIs members means had a b → None ≡ writing_of a → does b ≡ refusal
  not_writing staged had (Writing w) b is none = absurd (cc)
  not_writing staged had Gone machine.gone is none = gone
  not_writing staged had (Staged w) (machine.staged chain above ws keys) is none = staged chain above ws keys
  not_writing staged had (Merkleized w) (machine.merkleized chain tip evicted) is none = merkleized chain tip evicted
  not_writing staged had a b is none = absurd is

  pub not_staged : ((chain above : Chain) (ws : List Write) → does (machine.writing chain above ws) ≡ refusal)
      → (had : List (List Operation)) (a : Slot B S M) (b : machine.Slot) → SlotIs members means had a b → None ≡ staged_of a → does b ≡ refusal
  not_staged writing had (Staged w) b is none = absurd (cc)
  not_staged writing had Gone machine.gone is none = gone
  not_staged writing had (Writing w) (machine.writing chain above ws) is none = writing chain above ws
  not_staged writing had (Merkleized w) (machine.merkleized chain tip evicted) is none = merkleized chain tip evicted
  not_staged writing had a b is none = absurd is

-- the same of one that names no merkleized batch
pub not_made : {X C B S M : Type 0} (members : stores.Ghosts C) (means : meaning.Ghosts X C B S M) {A : Type 0} (does : machine.Slot → A) {refusal : A} → does machine.gone ≡ refusal
    → ((chain above : Chain) (ws : List Write) → does (machine.writing chain above ws) ≡ refusal) → ((chain above : Chain) (ws : List Write) (keys : List Bytes) → does (machine.staged chain above ws keys) ≡ refusal)
    → (had : List (List Operation)) (a : Slot B S M) (b : machine.Slot) → SlotIs members means had a b → None ≡ merkleized_of a → does b ≡ refusal
not_made members means does gone writing staged had (Merkleized w) b is none = absurd (cc)
not_made members means does gone writing staged had Gone machine.gone is none = gone
not_made members means does gone writing staged had (Writing w) (machine.writing chain above ws) is none = writing chain above ws
not_made members means does gone writing staged had (Staged w) (machine.staged chain above ws keys) is none = staged chain above ws keys
not_made members means does gone writing staged had a b is none = absurd is

-- what a session keeps that differs in its table
module _ {X C B S M : Type 0} {new : Session X C B S M} {held : Given X C} {opened : ℕ} (rest : new ≡ record { held = held; table = new.table; opened = opened }) where
  pub rest-held : new.held ≡ held
  rest-held = ap (λ (x : Session X C B S M). x.held) rest

  pub rest-opened : new.opened ≡ opened
  rest-opened = ap (λ (x : Session X C B S M). x.opened) rest

module _ {X C B S M K V D : Type 0} (members : stores.Ghosts C) (means : meaning.Ghosts X C B S M) (key : K → Bytes) (value : V → Bytes) (digest : D → Bytes) (old : Session X C B S M) where
  abbrev pub Goes : List (Slot B S M) → Given X C → Turn K V D → Answer × State → Type 0
  Goes table new turn next = FollowsHeld members means key value digest table old.opened new turn next

  -- the clauses that these commands share
  abbrev pub Moves : (State → Answer × State) → List (Slot B S M) → Given X C → Turn K V D → Type 0
  Moves next table new turn = record {
    machine : (s : State) → Stands members means old s → Goes table new turn (next s);
    store : IsUnchanged members (store_given means.inside old.held) (store_given means.inside new);
    uses : Uses members (store_given means.inside old.held) (store_given means.inside new) turn;
    opened : old.opened ≡ old.opened;
  }

  -- the same of those before which the run was steady
  abbrev pub MovesSteady : (State → Answer × State) → List (Slot B S M) → Given X C → Turn K V D → Type 0
  MovesSteady next table new turn = record {
    machine : (s : State) → Stands members means old s → IsSteady means.scheme s
        → (more rest : List ℕ) → Turns (members.told (store_given means.inside old.held)) (members.told (store_given means.inside new)) (HasEnds (chunks_of means.scheme) ⊤ more) → s.choices ≡ more ++ rest
        → Goes table new turn (next s);
    store : IsUnchanged members (store_given means.inside old.held) (store_given means.inside new);
    uses : Uses members (store_given means.inside old.held) (store_given means.inside new) turn;
    opened : old.opened ≡ old.opened;
  }

  pub steady : (next : State → Answer × State) (table : List (Slot B S M)) (new : Given X C) (turn : Turn K V D) → Moves next table new turn → MovesSteady next table new turn
  steady next table new turn moves = record { machine = λ s k sound more rest told choices. moves.machine s k; store = moves.store; uses = moves.uses; opened = refl }

  -- over a database that is held
  pub held-at : {x : X} → old.held ≡ Database x → (s : State) → Stands members means old s → Holds members means (Database x) old.table.items old.opened s
  held-at is s k = subst (λ (h : Given X C). Holds members means h old.table.items old.opened s) is k

  -- nothing was moved, and the store was not used
  pub left_moved : (next : State → Answer × State) {x : X} → old.held ≡ Database x → {table : List (Slot B S M)} → table ≡ old.table.items → (turn : Turn K V D) → turn ≢ StoreFault
      → ((s : State) → Holds members means (Database x) old.table.items old.opened s → Goes old.table.items (Database x) turn (next s)) → Moves next table (Database x) turn
  left_moved next {x} is same turn never each =
      subst (λ (t : List (Slot B S M)). Moves next t (Database x) turn) (sym same)
      (subst (λ (held : Given X C). Moves next old.table.items held turn) is
      (stayed members means key value digest old next turn never
      (λ s k. subst (λ (held : Given X C). Goes old.table.items held turn (next s)) (sym is) (each s (held-at is s k)))))

  -- a number names no batch of the kind that is asked for
  pub none_named : (f : State → List Operation → machine.Slot → Answer × State) (h : ℕ) → {x : X} → old.held ≡ Database x → {table : List (Slot B S M)} → table ≡ old.table.items → {turn : Turn K V D} → turn ≡ Reply (replies.Refused (refused.NoSuchHandle h))
      → ((s : State) (list : List Operation) → SlotIs members means s.had (get_or old.table.items h Gone) (slot_at s.table h) → f s list (slot_at s.table h) ≡ refuse s (refusals.NoSuchHandle h))
      → Moves (λ s. with_database s s.database (λ list. f s list (slot_at s.table h))) table (Database x) turn
  none_named f h {x} is {table} same {turn} e refused_by = left_moved next is same turn (refusal-never members means key value digest old e)
      (λ s held. subst (λ t. Goes old.table.items (Database x) t (next s)) (sym e)
      (with_list members means x s.had s.database s (λ list. f s list (slot_at s.table h)) (Goes old.table.items (Database x) (Reply (replies.Refused (refused.NoSuchHandle h)))) held.database
      (λ list stands in_had. subst (Goes old.table.items (Database x) (Reply (replies.Refused (refused.NoSuchHandle h)))) (sym (refused_by s list (held.slots h))) (λ apart. (refl, held)))))
    where
      next : State → Answer × State
      next s = with_database s s.database (λ list. f s list (slot_at s.table h))

  -- the clauses of a command that leaves the store alone, if it does no more
  abbrev pub Stays : (State → Answer × State) → Turn K V D → Type 0
  Stays next turn = record {
    machine : (s : State) → Stands members means old s → Goes old.table.items old.held turn (next s);
    rest : old ≡ record old { table = old.table };
    never : turn ≢ StoreFault;
  }

  -- there is no memory for it
  pub no_room : (next : State → Answer × State) → Stays next Memory
  no_room next = record { machine = λ s k. tt; rest = refl; never = λ e. absurd (cc e) }

  -- no database is open
  pub none_begun : (f : State → List Operation → Answer × State) → {c : C} → old.held ≡ Store c → {turn : Turn K V D} → turn ≡ Reply (replies.Refused refused.NoDatabase) → Stays (λ s. with_database s s.database (f s)) turn
  none_begun f is e = record { machine = (none_open members means key value digest old f is e).machine; rest = refl; never = refusal-never members means key value digest old e }

  -- a number names no merkleized batch
  pub none_made : (f : State → machine.Slot → Answer × State) (h : ℕ) → {turn : Turn K V D} → turn ≡ Reply (replies.Refused (refused.NoSuchHandle h))
      → ((s : State) → SlotIs members means s.had (get_or old.table.items h Gone) (slot_at s.table h) → f s (slot_at s.table h) ≡ refuse s (refusals.NoSuchHandle h))
      → Stays (λ s. f s (slot_at s.table h)) turn
  none_made f h {turn} e refused_by = record {
    machine = λ s k.
        subst (λ t. Goes old.table.items old.held t (f s (slot_at s.table h))) (sym e)
        (subst (Goes old.table.items old.held (Reply (replies.Refused (refused.NoSuchHandle h)))) (sym (refused_by s (k.slots h))) (λ apart. (refl, k)));
    rest = refl;
    never = refusal-never members means key value digest old e;
  }

  -- the clauses of a command that tells and leaves all as it is
  abbrev pub Says : (State → Answer × State) → Turn K V D → Type 0
  Says next turn = record { machine : (s : State) → Stands members means old s → Goes old.table.items old.held turn (next s); never : turn ≢ StoreFault }

  -- the same of one that only an any database offers
  pub offered_told : means.scheme.grafts ≡ None → (f : State → Answer × State) → {turn : Turn K V D} → Says f turn → Says (λ s. if_any s means.scheme.grafts (f s)) turn
  offered_told plain f {turn} says = record { machine = λ s k. subst (Goes old.table.items old.held turn) (sym (ap (λ grafts. if_any s grafts (f s)) plain)) (says.machine s k); never = says.never }

  -- which a current one refuses
  pub any_alone : is_some means.scheme.grafts ≡ true → (f : State → Answer × State) → Says (λ s. if_any s means.scheme.grafts (f s)) (Reply (replies.Refused refused.NotOffered))
  any_alone current f = record { machine = λ s k. by s k means.scheme.grafts current; never = λ e. absurd (cc e) }
    where
      by : (s : State) → Stands members means old s → (grafts : Option Grafts) → is_some grafts ≡ true → Goes old.table.items old.held (Reply (replies.Refused refused.NotOffered)) (if_any s grafts (f s))
      by s k None is = absurd (cc)
      by s k (Some g) is = λ apart. (refl, k)

  pub none_told : (f : State → List Operation → Answer × State) → {c : C} → old.held ≡ Store c → {turn : Turn K V D} → turn ≡ Reply (replies.Refused refused.NoDatabase) → Says (λ s. with_database s s.database (f s)) turn
  none_told f is e = let stays = none_begun f is e in record { machine = stays.machine; never = stays.never }

  pub none_made_told : (f : State → machine.Slot → Answer × State) (h : ℕ) → {turn : Turn K V D} → turn ≡ Reply (replies.Refused (refused.NoSuchHandle h))
      → ((s : State) → SlotIs members means s.had (get_or old.table.items h Gone) (slot_at s.table h) → f s (slot_at s.table h) ≡ refuse s (refusals.NoSuchHandle h))
      → Says (λ s. f s (slot_at s.table h)) turn
  none_made_told f h e refused_by = let stays = none_made f h e refused_by in record { machine = stays.machine; never = stays.never }

  pub none_named_told : (f : State → List Operation → machine.Slot → Answer × State) (h : ℕ) → {x : X} → old.held ≡ Database x → {turn : Turn K V D} → turn ≡ Reply (replies.Refused (refused.NoSuchHandle h))
      → ((s : State) (list : List Operation) → SlotIs members means s.had (get_or old.table.items h Gone) (slot_at s.table h) → f s list (slot_at s.table h) ≡ refuse s (refusals.NoSuchHandle h))
      → Says (λ s. with_database s s.database (λ list. f s list (slot_at s.table h))) turn
  none_named_told f h is {turn} e refused_by = record {
    machine = λ s k. subst (λ (held : Given X C). Goes old.table.items held turn (with_database s s.database (λ list. f s list (slot_at s.table h)))) (sym is) ((none_named f h is refl e refused_by).machine s k);
    never = refusal-never members means key value digest old e;
  }

  module _ {x after : X} {T : Type 0} {read : Result T Error} (is : old.held ≡ Database x) (reads : ReadsOnly means members x after read) where
    -- a command that read, with this table after it
    moved : (next : State → Answer × State) {table known : List (Slot B S M)} → table ≡ known → (turn : Turn K V D) → (turn ≡ StoreFault → IsErrOf read (errors.Journal journal.Store))
        → ((s : State) → Holds members means (Database x) old.table.items old.opened s → Goes known (Database after) turn (next s)) → Moves next table (Database after) turn
    moved next {table} {known} same turn why each = record {
      machine = λ s k. subst (λ (t : List (Slot B S M)). Goes t (Database after) turn (next s)) (sym same) (each s (subst (λ h. Holds members means h old.table.items old.opened s) is k));
      store = read-keeps members means is reads;
      uses = read-uses members means is reads turn why;
      opened = refl;
    }

    -- its reply, if no batch was moved
    pub stayed_ok : (next : State → Answer × State) (r : reply.Reply K V D) → ((s : State) → Holds members means (Database x) old.table.items old.opened s → Goes old.table.items (Database after) (Reply r) (next s)) → Moves next old.table.items (Database after) (Reply r)
    stayed_ok next r each = moved next refl (Reply r) (λ e. absurd (cc e)) each

    -- and its error
    pub stayed_err : (next : State → Answer × State) {turn : Turn K V D} (error : Error) → read ≡ Err error → turn ≡ turn_of_error error
        → ((s : State) → Holds members means (Database x) old.table.items old.opened s → Goes old.table.items (Database after) (turn_of_error error) (next s)) → Moves next old.table.items (Database after) turn
    stayed_err next error was e each = subst (λ t. Moves next old.table.items (Database after) t) (sym e) (moved next refl (turn_of_error error) (λ fault. was ∙ ap Err (fault-told error fault)) each)

    -- its reply, if a number got another slot
    pub moved_ok : (next : State → Answer × State) (h : ℕ) (slot : Slot B S M) {taken table : List (Slot B S M)} → table ≡ set taken h slot → taken ≡ set old.table.items h Gone → (r : reply.Reply K V D)
        → ((s : State) → Holds members means (Database x) old.table.items old.opened s → Goes (set (set old.table.items h Gone) h slot) (Database after) (Reply r) (next s)) → Moves next table (Database after) (Reply r)
    moved_ok next h slot put taken r each = moved next (put ∙ ap (λ t. set t h slot) taken) (Reply r) (λ e. absurd (cc e)) each

    -- its error, if a number is used up
    pub moved_err : (next : State → Answer × State) (h : ℕ) {taken : List (Slot B S M)} → taken ≡ set old.table.items h Gone → {turn : Turn K V D} (error : Error) → read ≡ Err error → turn ≡ turn_of_error error
        → ((s : State) → Holds members means (Database x) old.table.items old.opened s → Goes (set old.table.items h Gone) (Database after) (turn_of_error error) (next s)) → Moves next taken (Database after) turn
    moved_err next h {taken} same {turn} error was e each =
        subst (λ t. Moves next taken (Database after) t) (sym e) (moved next same (turn_of_error error) (λ fault. was ∙ ap Err (fault-told error fault)) each)

    -- what is left of the store if a slot was put after a read
    pub made_keeps : {held : Given X C} → held ≡ Database after → IsUnchanged members (store_given means.inside old.held) (store_given means.inside held)
    made_keeps now = subst (λ (h : Given X C). IsUnchanged members (store_given means.inside old.held) (store_given means.inside h)) (sym now) (read-keeps members means is reads)

    pub made_uses : {held : Given X C} {turn : Turn K V D} → held ≡ Database after → (turn ≡ StoreFault → IsErrOf read (errors.Journal journal.Store)) → Uses members (store_given means.inside old.held) (store_given means.inside held) turn
    made_uses {turn = turn} now why = subst (λ (h : Given X C). Uses members (store_given means.inside old.held) (store_given means.inside h) turn) (sym now) (read-uses members means is reads turn why)

    -- the key beside another, through a merkleized batch
    module _ (from : Option ℕ) (h : ℕ) (numbered : from ≡ Some h) (beside : List Bytes → Option Bytes) (batch : M) (ordered : means.scheme.form.ordered ≡ true) (named : Some batch ≡ merkleized_of (get_or old.table.items h Gone)) where
      abbrev pub Finds : Turn K V D → Type 0
      Finds turn = Told members means key value digest old (λ s. if_ordered means.scheme s (neighbour_of means.scheme s beside from)) (Database after) turn

      finds : (turn : Turn K V D) → (turn ≡ StoreFault → IsErrOf read (errors.Journal journal.Store))
          → ((s : State) → Holds members means (Database x) old.table.items old.opened s → Goes old.table.items (Database after) turn (if_ordered means.scheme s (neighbour_of means.scheme s beside (Some h)))) → Finds turn
      finds turn why each =
          subst (λ (f : Option ℕ). Told members means key value digest old (λ s. if_ordered means.scheme s (neighbour_of means.scheme s beside f)) (Database after) turn) (sym numbered)
          (moved (λ s. if_ordered means.scheme s (neighbour_of means.scheme s beside (Some h))) refl turn why each)

      pub found_ok : (k : Option K) → AtTip means x batch (λ list chain tip. CanRead means list chain tip) → AtTip means x batch (λ list chain tip. IsKnown list chain tip → option_map key k ≡ beside (live_keys tip))
          → Finds (Reply (replies.Neighbour k))
      found_ok k can are = finds (Reply (replies.Neighbour k)) (λ e. absurd (cc e))
          (λ s held. neighbour_ok members means key value digest x after old.table.items old.opened h s beside batch k held (reads.same, reads.store, reads.numbered) ordered named can are)

      pub found_err : {turn : Turn K V D} (error : Error) → read ≡ Err error → turn ≡ turn_of_error error → AtTip means x batch (λ list chain tip. IsReadFailure means list chain tip error) → Finds turn
      found_err {turn} error was e why = subst Finds (sym e) (finds (turn_of_error error) (λ fault. was ∙ ap Err (fault-told error fault))
          (λ s held. neighbour_err members means key value digest x after old.table.items old.opened h s beside batch error held (reads.same, reads.store, reads.numbered) ordered named why))
