-- The commands that make a store last, and that open and end a database.
use Rattle.std.proofs.Common.{◌≡◌, ◌⊎◌, inl, inr, ℕ, ◌≤◌, ◌<◌, cond, List, [], ◌∷◌, ◌++◌, length, take, Option, Some, None, Result, Ok, Err, IfSome, IfOk, IfErr, arith, refl, sym, ◌∙◌, ap, subst, le_refl, append-nil, length-take-le}
use Rattle.std.specs.Prelude.{slice_index_or, min, max, nat_lt, ◌^◌, ⊤}
use Rattle.std.proofs.lemmas.Bool.{cases_lt, lt-ltb, le-ltb}
use Rattle.qm_model.specs.Causes.{Rose}
use Rattle.qm_model.specs.Live.{floor}
use Rattle.qm_model.specs.Operations.{Bytes, Operation}
use Rattle.qm_model.specs.Own.{Log, no_log}
use Rattle.qm_model.specs.Own as own
use Rattle.qm_model.specs.Opening.{Chunks}
use Rattle.qm_model.specs.Policies.{policies}
use Rattle.qm_model.specs.Refused as refusals
use Rattle.qm_model.specs.StoreModel.{Stored, settled, destroyed, IsImage, ReadsAs, DestroyLeaves, HasRestarted, Becomes}
use Rattle.qm_model.specs.StoreModel as model
use Rattle.qm_machine.specs.Lines.{Answer}
use Rattle.qm_machine.specs.Lines as lines
use Rattle.qm_machine.specs.Machine.{State, with_database}
use Rattle.qm_model.specs.Schemes.{Grafts, HasBounds, Scheme, chunks_of, engine_of}
use Rattle.qm_machine.specs.Machine as machine
use Rattle.qm_machine.specs.Sound.{IsSteady}
use Rattle.qm_base.specs.declared.error.Error.{Error}
use Rattle.qm_base.specs.declared.error.Error.TheVariants as errors
use Rattle.qm_base.specs.declared.error.JournalError.TheVariants as journal
use Rattle.qm_lines.specs.declared.reply.Reply as reply
use Rattle.qm_lines.specs.declared.reply.Reply.TheVariants as replies
use Rattle.qm_lines.specs.declared.reply.Refused.TheVariants as refused
use Rattle.qm_store.specs.declared.Store as stores
use Rattle.qm_store.specs.declared.StoreError.{StoreError}
use Rattle.qm_store.specs.declared.StoreError.TheVariants as store
use Rattle.qm_store.specs.Log.{log_error}
use Rattle.qm_store.specs.declared.refusal.Given.{Given}
use Rattle.qm_store.specs.declared.refusal.Given.TheVariants.{Database, Store}
use Rattle.qm_store.specs.declared.refusal.Refusal.{Refusal}
use Rattle.qm_store.specs.Given.{store_given}
use Rattle.qm_store.specs.Refusals.{refusal_of}
use Rattle.qm_offer.specs.declared.meaning.Meaning as meaning
use Rattle.qm_engine.specs.declared.table.Slot.{Slot}
use Rattle.qm_engine.specs.declared.session.Turn.{Turn}
use Rattle.qm_engine.specs.declared.session.Turn.TheVariants.{Reply, StoreFault}
use Rattle.qm_engine.specs.Turn.{turn_of_error, given_after, turn_settled}
use Rattle.qm_offer.specs.Words.{WritesOf, IsSettling, IsHeadOf, IsPruned, IsUnpruned, IsGivenUp}
use Rattle.qm_engine.specs.Stores.{HasLog, HasEnds, IsLeft, moved, emptied}
use Rattle.qm_model.specs.Taken.{head_at, StaysBeside, synced, after_prune, LeavesSync}
use Rattle.qm_engine.specs.Session.{HeldIs, Holds, Handles, HandlesLine}
use Rattle.qm_engine.proofs.LastingStores.{IsBare, became, turned-each, turns-same, turns-looser, turns-beside, stay-same, stays-beside, stored-settled, stored-synced, stored-after, has-become, has-emptied, has-restarted, before-start, may-before, left_imaged, left_restarted, left_destroyed, left_synced, left_pruned}
use Rattle.qm_engine.proofs.Commands.{left_none, left_stable, no_refusal, numbered-held, with_held, with_list, Turns}

-- an error that is a fault of the store tells so
pub fault-told : {K V D : Type 0} (error : Error) → turn_of_error {K = K} {V = V} {D = D} error ≡ StoreFault → error ≡ errors.Journal journal.Store
fault-told errors.Memory e = absurd (cc)
fault-told errors.InvalidInitializationBound e = absurd (cc)
fault-told errors.StaleBatch e = absurd (cc)
fault-told errors.StaleRead e = absurd (cc)
fault-told errors.KeyNotFound e = absurd (cc)
fault-told errors.KeyExists e = absurd (cc)
fault-told (errors.OperationPruned n) e = absurd (cc)
fault-told (errors.PruneBeyondMinRequired p m) e = absurd (cc)
fault-told (errors.HistoricalFloorPruned n) e = absurd (cc)
fault-told (errors.DataCorrupted c) e = absurd (cc)
fault-told (errors.Merkle r) e = absurd (cc)
fault-told (errors.Journal journal.Store) e = refl
fault-told (errors.Journal (journal.ItemPruned n)) e = absurd (cc)
fault-told (errors.Journal (journal.ItemTooLarge n)) e = absurd (cc)

none_refused : (e : StoreError) → refusal_of (log_error e) ≡ None
none_refused store.Memory = refl
none_refused store.Failed = refl

-- a store that was pruned
left_moved : (m : Scheme) → IsBare m → (left : Option Stored) (before : Log) (to : ℕ) → before.stable ≤ length before.list → HasLog m left (machine.pruned m.grafts to before) → IsLeft m left before (machine.pruned m.grafts to before)
left_moved m bare left before to within has = by (cases_lt before.start to)
  where
    by : (before.start < to) ⊎ (to ≤ before.start) → IsLeft m left before (machine.pruned m.grafts to before)
    by (inl later) = record { log = machine.pruned m.grafts to before; has = has; may = moved (omega (arith, later)) }
    by (inr here) = record { log = before-start m to before; has = subst (λ n. HasLog m left (record (before-start m to before) { start = n })) (omega (arith, here)) has; may = may-before m bare before to within }

-- a database writes metadata of the list that it stands for, if of any
writes-of : {X C B S M : Type 0} (means : meaning.Ghosts X C B S M) (grafts : Option Grafts) (x : X) (list : List Operation) → means.stands x list → WritesOf means grafts x list
writes-of means None x list stands = tt
writes-of means (Some g) x list stands = stands

-- a command that does nothing to the store, and is not told as its fault
pub same_handles : {C K V D Destroyed : Type 0} (chunks : Option Chunks) (members : stores.Ghosts C) (c : C) (answer : reply.Reply K V D) → Handles {K = K} {V = V} {D = D} chunks Destroyed members c c (Reply answer)
same_handles chunks members c answer = record { beside = turns-same _ chunks (members.told c) (members.told c) refl; later = le_refl (members.faults c); fault = λ e. absurd (cc) }

module _ {X C B S M K V D : Type 0} (members : stores.Ghosts C) (means : meaning.Ghosts X C B S M) (key : K → Bytes) (value : V → Bytes) (digest : D → Bytes) where
  abbrev root : List Operation → Bytes
  root = means.scheme.root

  abbrev Goes : Turn K V D → Given X C → List (Slot B S M) → ℕ → Answer × State → Type 0
  Goes = Turns members means key value digest

  -- no database is open
  pub not_open : (c : C) (table : List (Slot B S M)) (opened : ℕ) (s : State) (f : List Operation → Answer × State) → Holds members means (Store c) table opened s
      → Goes (Reply (replies.Refused refused.NoDatabase)) (Store c) table opened (with_database s s.database f)
  not_open c table opened s f k = by s.database k.database
    where
      by : (d : Option (List Operation)) → HeldIs members means s.opened s.had (Store c) d → Goes (Reply (replies.Refused refused.NoDatabase)) (Store c) table opened (with_database s d f)
      by None is = λ apart. (refl, k)
      by (Some list) is = absurd is

  pub not_open-left : (c : C) (table : List (Slot B S M)) (opened : ℕ) (s : State) (f : List Operation → Answer × State) → Holds members means (Store c) table opened s
      → IsLeft means.scheme (members.told c) s.log ((with_database s s.database f).1).log
  not_open-left c table opened s f k = by s.database k.database
    where
      by : (d : Option (List Operation)) → HeldIs members means s.opened s.had (Store c) d → IsLeft means.scheme (members.told c) s.log ((with_database s d f).1).log
      by None is = left_none means.scheme s.log s.log (members.told c) k.store.told
      by (Some list) is = absurd is

  -- what is as beside the items after a call that failed in one of these ways
  imaged-beside : (s t : Stored) → ReadsAs s.stable (IsImage s) t → (t.metadata ≡ s.metadata) × (t.ends ≡ s.ends)
  imaged-beside s t r = let i = r.left in (ap (λ x. x.metadata) r.reads ∙ ap (λ x. x.metadata) i.same, ap (λ x. x.ends) r.reads ∙ ap (λ x. x.ends) i.same)

  -- A call that failed gives up the store.
  given-up_handles : (x : X) (r : Refusal X C) (Left : C → Type 0) → (up : IsGivenUp means members x Left r) → model.Turns (members.told (means.inside x)) (members.told up.store) (StaysBeside means.scheme)
      → Handles (chunks_of means.scheme) ⊥ members (means.inside x) (store_given means.inside r.given) (turn_of_error {K = K} {V = V} {D = D} r.error)
  given-up_handles x r Left up beside =
      subst (λ given. Handles {K = K} {V = V} {D = D} (chunks_of means.scheme) ⊥ members (means.inside x) (store_given means.inside given) (turn_of_error r.error)) (sym up.given)
      record {
        beside = stays-beside ⊥ means.scheme (members.told (means.inside x)) (members.told up.store) beside;
        later = up.cause.later;
        fault = λ e. up.cause.failed (fault-told r.error e);
      }

  -- A commit or a sync of a database, which makes such a store of its list.
  module _ (x : X) (After : List Operation → Stored → Stored) (Left : List Operation → Stored → Stored → Type 0) (settling : Result X (Refusal X C)) (table : List (Slot B S M)) (opened : ℕ) (s : State) (k : Holds members means (Database x) table opened s)
      (done : IsSettling means members After Left x settling)
      (settles : (list : List Operation) → s.database ≡ Some list → (t : Stored) → own.IsStored (engine_of means.scheme policies) s.log t → own.IsStored (engine_of means.scheme policies) (machine.settled s.log) (After list t))
      (peakless : IsBare means.scheme) where
    settled_told : (after : X) → IsSettling means members After Left x (Ok after) → (list : List Operation) → s.database ≡ Some list → means.stands x list → HasLog means.scheme (members.told (means.inside after)) (machine.settled s.log)
    settled_told after done list is stands =
        has-become means.scheme peakless (members.told (means.inside x)) (members.told (means.inside after)) s.log (machine.settled s.log) (After list) k.store.told
        (done.store.told list (writes-of means means.scheme.grafts x list stands)) (settles list is)

    pub settled_turn : Goes (turn_settled settling) (given_after settling) table opened (machine.commit s)
    settled_turn = by settling done
      where
        by : (settling : Result X (Refusal X C)) → IsSettling means members After Left x settling → Goes (turn_settled settling) (given_after settling) table opened (machine.commit s)
        by (Err r) done = no_refusal r.error _ (done.failed).never
        by (Ok after) done =
            with_held members means x s.had s.database s (λ list. (lines.Done, record s { log = machine.settled s.log })) (Goes (Reply replies.Done) (Database after) table opened) k.database
            (λ list is stands in_had apart. (
              refl,
              record {
                database = subst (HeldIs members means s.opened s.had (Database after)) (sym is) (done.stands list stands, in_had, done.numbered s.opened (numbered-held members means s.opened x s.had s.database k.database));
                store = record { start = done.start ∙ k.store.start; told = settled_told after done list is stands };
                start = omega (arith, k.start, k.within);
                low = k.low;
                within = le_refl (length s.log.list);
                count = k.count;
                lengths = k.lengths;
                slots = k.slots;
              },
            ))

    pub settled_left : ((list : List Operation) → s.database ≡ Some list → (left : Option Stored) → model.Turns (members.told (means.inside x)) left (Left list) → IsLeft means.scheme left s.log (machine.settled s.log))
        → IsLeft means.scheme (members.told (store_given means.inside (given_after settling))) s.log ((machine.commit s).1).log
    settled_left failing = with_held members means x s.had s.database s (λ list. (lines.Done, record s { log = machine.settled s.log })) (λ next. IsLeft means.scheme (members.told (store_given means.inside (given_after settling))) s.log (next.1).log) k.database
        (λ list is stands in_had. by settling done list is stands)
      where
        by : (settling : Result X (Refusal X C)) → IsSettling means members After Left x settling → (list : List Operation) → s.database ≡ Some list → means.stands x list → IsLeft means.scheme (members.told (store_given means.inside (given_after settling))) s.log (machine.settled s.log)
        by (Ok after) done list is stands =
            left_stable means.scheme (members.told (means.inside after)) s.log (machine.settled s.log) (length s.log.list) k.within (λ same. ap (λ (l : Log). l.stable) same) (settled_told after done list is stands)
        by (Err r) done list is stands =
            subst (λ given. IsLeft means.scheme (members.told (store_given means.inside given)) s.log (machine.settled s.log)) (sym done.failed.given)
            (failing list is (members.told done.failed.store) (done.failed.left.told list (writes-of means means.scheme.grafts x list stands)))

  -- Of a database, what a commit makes of its store, and a sync, and what is left of one that failed.
  module _ (x : X) (table : List (Slot B S M)) (opened : ℕ) (s : State) (k : Holds members means (Database x) table opened s) (peakless : IsBare means.scheme) (bounds : HasBounds means.scheme) where
    pub commit-settles : (list : List Operation) → s.database ≡ Some list → (t : Stored) → own.IsStored (engine_of means.scheme policies) s.log t → own.IsStored (engine_of means.scheme policies) (machine.settled s.log) (settled t)
    commit-settles list is t has = stored-settled means.scheme peakless s.log t has (omega (arith, k.start, k.within))

    module _ (steady : IsSteady means.scheme s) where
      pub commit-left : (list : List Operation) → s.database ≡ Some list → (left : Option Stored) → model.Turns (members.told (means.inside x)) left (λ t. ReadsAs t.stable (IsImage t)) → IsLeft means.scheme left s.log (machine.settled s.log)
      commit-left list is left made =
          left_imaged means.scheme peakless (members.told (means.inside x)) left s.log (machine.settled s.log) steady.counts k.store.told k.start k.within refl made

      pub sync-settles : (list : List Operation) → s.database ≡ Some list → (t : Stored) → own.IsStored (engine_of means.scheme policies) s.log t → own.IsStored (engine_of means.scheme policies) (machine.settled s.log) (synced means.scheme list t)
      sync-settles list is t has =
          subst (λ ops. own.IsStored (engine_of means.scheme policies) (machine.settled s.log) (synced means.scheme ops t)) (steady.held list is).0
          (stored-synced means.scheme peakless bounds.over s.log t has (omega (arith, k.start, k.within)) steady.few)

      pub sync-left : (list : List Operation) → s.database ≡ Some list → (left : Option Stored) → model.Turns (members.told (means.inside x)) left (LeavesSync means.scheme list) → IsLeft means.scheme left s.log (machine.settled s.log)
      sync-left list is left made =
          left_synced means.scheme peakless bounds.over (members.told (means.inside x)) left s.log steady.counts k.store.told k.start k.within steady.few
          (subst (λ ops. model.Turns (members.told (means.inside x)) left (LeavesSync means.scheme ops)) (sym (steady.held list is).0) made)

  pub settled_handles : (x : X) (After : List Operation → Stored → Stored) (Left : List Operation → Stored → Stored → Type 0) (settling : Result X (Refusal X C)) → IsSettling means members After Left x settling
      → Handles (chunks_of means.scheme) ⊥ members (means.inside x) (store_given means.inside (given_after settling)) (turn_settled {K = K} {V = V} {D = D} settling)
  settled_handles x After Left (Ok after) done = record {
    beside = stays-beside ⊥ means.scheme (members.told (means.inside x)) (members.told (means.inside after)) done.store.beside;
    later = done.later;
    fault = λ e. absurd (cc);
  }
  settled_handles x After Left (Err r) done = given-up_handles x r _ done.failed done.failed.left.beside

  -- A prune of a database.
  module _ (x : X) (pruning : Result X (Refusal X C)) (table : List (Slot B S M)) (opened : ℕ) (s : State) (k : Holds members means (Database x) table opened s) (steady : IsSteady means.scheme s) (to : ℕ) (peakless : IsBare means.scheme) (bounds : HasBounds means.scheme) where
    -- the list, with a location within its boundary
    module _ (list : List Operation) (is : s.database ≡ Some list) (stands : means.stands x list) (within : to ≤ means.scheme.boundary list) where
      same-list : s.log.list ≡ list
      same-list = (steady.held list is).0

      few : length list ≤ 2 ^ 62
      few = subst (λ ops. length ops ≤ 2 ^ 62) same-list steady.few

      below : to ≤ floor list
      below = let low = bounds.low list in omega (arith, within, low)

      far : to ≤ length s.log.list
      far = let low = below in let inside = steady.within list is in omega (arith, low, inside, ap length same-list)

      head_is : (head : Bytes) → IsHeadOf means x to head → head ≡ head_at means.scheme s.log.list to
      head_is head is_head = is_head list stands few ∙ ap (λ ops. head_at means.scheme ops to) (sym same-list)

      -- the machine prunes there
      pruned_as : (Q : Answer × State → Type 0) → Q (lines.Done, record s { log = machine.pruned means.scheme.grafts to s.log }) → Q (machine.prune_in means.scheme s to list)
      pruned_as Q q = subst (λ b. Q (cond b (machine.refuse s (refusals.PruneBeyondMinRequired to (means.scheme.boundary list))) (lines.Done, record s { log = machine.pruned means.scheme.grafts to s.log }))) (sym (le-ltb (means.scheme.boundary list) to within)) q

      pruned_told : (after : X) → IsPruned means members to x after → HasLog means.scheme (members.told (means.inside after)) (machine.pruned means.scheme.grafts to s.log)
      pruned_told after done =
          let first = members.start (means.inside x) in
          has-become means.scheme peakless (members.told (means.inside x)) (members.told (means.inside after)) s.log (machine.pruned means.scheme.grafts to s.log) (after_prune means.scheme s.log.list first to done.head) k.store.told
          (done.store.told s.log.list (writes-of means means.scheme.grafts x s.log.list (subst (means.stands x) (sym same-list) stands)))
          (λ t has. stored-after means.scheme peakless bounds.over s.log t has (omega (arith, k.start, k.within)) steady.few first to done.head k.store.start far
          (λ later. head_is done.head (done.heads (subst (λ n. n < to) (sym k.store.start) later))))

    -- or refuses to, past the boundary
    refused_as : (list : List Operation) (bound : ℕ) → bound < to → bound ≡ means.scheme.boundary list → (Q : Answer × State → Type 0) → Q (lines.Refuses (refusals.PruneBeyondMinRequired to bound), s) → Q (machine.prune_in means.scheme s to list)
    refused_as list bound past is Q q =
        subst (λ n. Q (if_past n)) is (subst (λ b. Q (cond b (machine.refuse s (refusals.PruneBeyondMinRequired to bound)) (lines.Done, record s { log = machine.pruned means.scheme.grafts to s.log }))) (sym (lt-ltb bound to past)) q)
      where
        if_past : ℕ → Answer × State
        if_past n = cond (nat_lt n to) (machine.refuse s (refusals.PruneBeyondMinRequired to n)) (lines.Done, record s { log = machine.pruned means.scheme.grafts to s.log })

    pub pruned_turn : IfOk pruning (IsPruned means members to x) → IfErr pruning (IsUnpruned means members to x) → Goes (turn_settled pruning) (given_after pruning) table opened (machine.prune means.scheme s to)
    pruned_turn done denied = by pruning done denied
      where
        by : (pruning : Result X (Refusal X C)) → IfOk pruning (IsPruned means members to x) → IfErr pruning (IsUnpruned means members to x) → Goes (turn_settled pruning) (given_after pruning) table opened (machine.prune means.scheme s to)
        by (Err r) done (inl (bound, past, bound_is, given, error)) =
            subst (λ e. Goes (turn_of_error e) r.given table opened (machine.prune means.scheme s to)) (sym error)
            (subst (λ g. Goes (Reply (replies.Refused (refused.PruneBeyondMinRequired to bound))) g table opened (machine.prune means.scheme s to)) (sym given)
            (with_list members means x s.had s.database s (λ list. machine.prune_in means.scheme s to list) (Goes (Reply (replies.Refused (refused.PruneBeyondMinRequired to bound))) (Database x) table opened) k.database
            (λ list stands in_had. refused_as list bound past (bound_is list stands) (Goes (Reply (replies.Refused (refused.PruneBeyondMinRequired to bound))) (Database x) table opened) (λ apart. (refl, k)))))
        by (Err r) done (inr (within, up)) = no_refusal r.error _ up.never
        by (Ok after) done denied =
            with_held members means x s.had s.database s (λ list. machine.prune_in means.scheme s to list) (Goes (Reply replies.Done) (Database after) table opened) k.database
            (λ list is stands in_had. let stays = done.stands list stands in
            pruned_as list is stands stays.0 (Goes (Reply replies.Done) (Database after) table opened) (λ apart. (
              refl,
              record {
                database = subst (HeldIs members means s.opened s.had (Database after)) (sym is) (stays.1, in_had, done.numbered s.opened (numbered-held members means s.opened x s.had s.database k.database));
                store = record { start = done.start ∙ ap (λ n. max n to) k.store.start; told = pruned_told list is stands stays.0 after done };
                start = let within = far list is stands stays.0 in omega (arith, k.start, k.within, within);
                low = subst (λ d. IfSome d (λ ops. max s.log.start to ≤ floor ops)) (sym is) (most list (subst (λ d. IfSome d (λ ops. s.log.start ≤ floor ops)) is k.low) (below list is stands stays.0));
                within = le_refl (length s.log.list);
                count = k.count;
                lengths = k.lengths;
                slots = k.slots;
              },
            )))
          where
            most : (list : List Operation) → s.log.start ≤ floor list → to ≤ floor list → max s.log.start to ≤ floor list
            most list low high = omega (arith, low, high)

    pub pruned_left : IfOk pruning (IsPruned means members to x) → IfErr pruning (IsUnpruned means members to x)
        → IsLeft means.scheme (members.told (store_given means.inside (given_after pruning))) s.log ((machine.prune means.scheme s to).1).log
    pruned_left done denied = by pruning done denied
      where
        -- with this store
        Left : C → Answer × State → Type 0
        Left c next = IsLeft means.scheme (members.told c) s.log (next.1).log

        by : (pruning : Result X (Refusal X C)) → IfOk pruning (IsPruned means members to x) → IfErr pruning (IsUnpruned means members to x) → Left (store_given means.inside (given_after pruning)) (machine.prune means.scheme s to)
        by (Ok after) done denied =
            with_held members means x s.had s.database s (λ list. machine.prune_in means.scheme s to list) (Left (means.inside after)) k.database
            (λ list is stands in_had. let within = (done.stands list stands).0 in
            pruned_as list is stands within (Left (means.inside after)) (left_moved means.scheme peakless (members.told (means.inside after)) s.log to k.within (pruned_told list is stands within after done)))
        by (Err r) done (inl (bound, past, bound_is, given, error)) =
            subst (λ g. Left (store_given means.inside g) (machine.prune means.scheme s to)) (sym given)
            (with_list members means x s.had s.database s (λ list. machine.prune_in means.scheme s to list) (Left (means.inside x)) k.database
            (λ list stands in_had. refused_as list bound past (bound_is list stands) (Left (means.inside x)) (left_none means.scheme s.log s.log (members.told (means.inside x)) k.store.told)))
        by (Err r) done (inr (fits, up)) =
            subst (λ g. Left (store_given means.inside g) (machine.prune means.scheme s to)) (sym up.given)
            (with_held members means x s.had s.database s (λ list. machine.prune_in means.scheme s to list) (Left up.store) k.database
            (λ list is stands in_had. let within = fits list stands in
            pruned_as list is stands within (Left up.store)
            (left_pruned means.scheme peakless bounds.over (members.told (means.inside x)) (members.told up.store) s.log steady.counts k.store.told k.start k.within steady.few (members.start (means.inside x)) to (IsHeadOf means x to) k.store.start
            (far list is stands within) (head_is list is stands within)
            (up.left.told s.log.list (writes-of means means.scheme.grafts x s.log.list (subst (means.stands x) (sym (same-list list is stands within)) stands))))))

  pub pruned_handles : (x : X) (to : ℕ) (pruning : Result X (Refusal X C)) → IfOk pruning (IsPruned means members to x) → IfErr pruning (IsUnpruned means members to x)
      → Handles (chunks_of means.scheme) ⊥ members (means.inside x) (store_given means.inside (given_after pruning)) (turn_settled {K = K} {V = V} {D = D} pruning)
  pruned_handles x to (Ok after) done denied = record {
    beside = stays-beside ⊥ means.scheme (members.told (means.inside x)) (members.told (means.inside after)) done.store.beside;
    later = done.later;
    fault = λ e. absurd (cc);
  }
  pruned_handles x to (Err r) done (inl (bound, past, bound_is, given, error)) =
      subst (λ g. Handles {K = K} {V = V} {D = D} (chunks_of means.scheme) ⊥ members (means.inside x) (store_given means.inside g) (turn_of_error r.error)) (sym given)
      (subst (λ e. Handles {K = K} {V = V} {D = D} (chunks_of means.scheme) ⊥ members (means.inside x) (means.inside x) (turn_of_error e)) (sym error) (same_handles (chunks_of means.scheme) members (means.inside x) _))
  pruned_handles x to (Err r) done (inr (fits, up)) = given-up_handles x r _ up up.left.beside

  -- A database is closed.
  pub closed_turn : (x : X) (table : List (Slot B S M)) (opened : ℕ) (s : State) → Holds members means (Database x) table opened s
      → Goes (Reply replies.Done) (Store (means.inside x)) table opened (machine.close s)
  closed_turn x table opened s k =
      with_held members means x s.had s.database s (λ list. (lines.Done, machine.closed s)) (Goes (Reply replies.Done) (Store (means.inside x)) table opened) k.database
      (λ list is stands in_had apart. (refl, record { database = tt; store = k.store; start = k.start; low = tt; within = k.within; count = k.count; lengths = k.lengths; slots = k.slots }))

  pub closed_left : (x : X) (table : List (Slot B S M)) (opened : ℕ) (s : State) → Holds members means (Database x) table opened s
      → IsLeft means.scheme (members.told (means.inside x)) s.log ((machine.close s).1).log
  closed_left x table opened s k =
      with_held members means x s.had s.database s (λ list. (lines.Done, machine.closed s)) (λ next. IsLeft means.scheme (members.told (means.inside x)) s.log (next.1).log) k.database
      (λ list is stands in_had. left_none means.scheme s.log s.log (members.told (means.inside x)) k.store.told)

  -- A store is emptied.
  module _ (x : X) (table : List (Slot B S M)) (opened : ℕ) (s : State) (k : Holds members means (Database x) table opened s) (peakless : IsBare means.scheme) where
    pub destroyed_turn : (c : C) → members.start c ≡ 0 → Becomes (members.told (means.inside x)) (members.told c) destroyed → Goes (Reply replies.Done) (Store c) table opened (machine.destroy s)
    destroyed_turn c start made =
        with_held members means x s.had s.database s (λ list. (lines.Done, record (machine.closed s) { log = no_log })) (Goes (Reply replies.Done) (Store c) table opened) k.database
        (λ list is stands in_had apart. (
          refl,
          record {
            database = tt;
            store = record { start = start; told = has-emptied means.scheme peakless (members.told (means.inside x)) (members.told c) s.log k.store.told made };
            start = omega arith;
            low = tt;
            within = omega arith;
            count = k.count;
            lengths = k.lengths;
            slots = k.slots;
          },
        ))

    pub destroyed_left : (c : C) → Becomes (members.told (means.inside x)) (members.told c) destroyed → IsLeft means.scheme (members.told c) s.log ((machine.destroy s).1).log
    destroyed_left c made =
        with_held members means x s.had s.database s (λ list. (lines.Done, record (machine.closed s) { log = no_log })) (λ next. IsLeft means.scheme (members.told c) s.log (next.1).log) k.database
        (λ list is stands in_had. record { log = no_log; has = has-emptied means.scheme peakless (members.told (means.inside x)) (members.told c) s.log k.store.told made; may = emptied refl })

    pub undestroyed_turn : (given : Given X C) (error : Error) → refusal_of error ≡ None → Goes (turn_of_error error) given table opened (machine.destroy s)
    undestroyed_turn given error never = no_refusal error _ never

    pub undestroyed_left : IsSteady means.scheme s → (refusal : Refusal X C) → IsGivenUp means members x (λ c. model.Turns (members.told (means.inside x)) (members.told c) DestroyLeaves) refusal → IsLeft means.scheme (members.told (store_given means.inside refusal.given)) s.log ((machine.destroy s).1).log
    undestroyed_left steady refusal failed =
        subst (λ given. IsLeft means.scheme (members.told (store_given means.inside given)) s.log ((machine.destroy s).1).log) (sym failed.given)
        (with_held members means x s.had s.database s (λ list. (lines.Done, record (machine.closed s) { log = no_log })) (λ next. IsLeft means.scheme (members.told failed.store) s.log (next.1).log) k.database
        (λ list is stands in_had. left_destroyed means.scheme peakless (members.told (means.inside x)) (members.told failed.store) s.log steady.counts k.store.told k.start k.within failed.left))

  destroy-beside : {Destroyed : Type 0} (chunks : Option Chunks) (s t : Stored) → Destroyed → DestroyLeaves s t → HasEnds chunks Destroyed [] s t
  destroy-beside chunks s t told (inl r) = let same = imaged-beside s t r in record { metadata = inl (stay-same chunks s.metadata t.metadata same.0); ends = same.1 ∙ sym (append-nil s.ends) }
  destroy-beside chunks s t told (inr r) =
      let i = r.left in
      record { metadata = inr (told, stay-same chunks [] t.metadata (ap (λ x. x.metadata) r.reads ∙ ap (λ x. x.metadata) i.same)); ends = ap (λ x. x.ends) r.reads ∙ (ap (λ x. x.ends) i.same ∙ sym (append-nil s.ends)) }

  pub destroyed_handles : {Destroyed : Type 0} (x : X) (c : C) → Destroyed → Becomes (members.told (means.inside x)) (members.told c) destroyed → members.faults (means.inside x) ≤ members.faults c
      → Handles {K = K} {V = V} {D = D} (chunks_of means.scheme) Destroyed members (means.inside x) c (Reply replies.Done)
  destroyed_handles {Destroyed} x c told made later = record {
    beside = became (members.told (means.inside x)) (members.told c) destroyed (HasEnds (chunks_of means.scheme) Destroyed []) (λ s. record { metadata = inr (told, stay-same (chunks_of means.scheme) [] [] refl); ends = sym (append-nil s.ends) }) made;
    later = later;
    fault = λ e. absurd (cc);
  }

  pub undestroyed_handles : {Destroyed : Type 0} (x : X) (refusal : Refusal X C) → Destroyed → IsGivenUp means members x (λ c. model.Turns (members.told (means.inside x)) (members.told c) DestroyLeaves) refusal
      → Handles (chunks_of means.scheme) Destroyed members (means.inside x) (store_given means.inside refusal.given) (turn_of_error {K = K} {V = V} {D = D} refusal.error)
  undestroyed_handles {Destroyed} x refusal told failed =
      subst (λ given. Handles {K = K} {V = V} {D = D} (chunks_of means.scheme) Destroyed members (means.inside x) (store_given means.inside given) (turn_of_error refusal.error)) (sym failed.given)
      record {
        beside = turned-each (members.told (means.inside x)) (members.told failed.store) DestroyLeaves (HasEnds (chunks_of means.scheme) Destroyed []) (λ s t. destroy-beside (chunks_of means.scheme) s t told) failed.left;
        later = failed.cause.later;
        fault = λ e. failed.cause.failed (fault-told refusal.error e);
      }

  -- A crash.
  module _ (held : Given X C) (table : List (Slot B S M)) (opened : ℕ) (s : State) (k : Holds members means held table opened s) (steady : IsSteady means.scheme s) (c : C) (peakless : IsBare means.scheme) where
    -- the store chose the first of the ends to come
    pub crashed_turn : (more rest : List ℕ) → model.Turns (members.told (store_given means.inside held)) (members.told c) HasRestarted → members.start c ≡ members.start (store_given means.inside held)
        → model.Turns (members.told (store_given means.inside held)) (members.told c) (HasEnds (chunks_of means.scheme) ⊤ more) → s.choices ≡ more ++ rest → Goes (Reply replies.Done) (Store c) table opened (machine.crash s)
    crashed_turn more rest made start told choices apart =
        let r = has-restarted means.scheme peakless (members.told (store_given means.inside held)) (members.told c) s.log more rest steady.counts k.store.told k.start k.within made told in
        let chosen : slice_index_or s.choices 0 0 ≡ r.0 = ap (λ xs. slice_index_or xs 0 0) (choices ∙ ap (λ xs. xs ++ rest) r.3) in
        let low = r.1 in
        let high = r.2 in
        let same : max s.log.stable (min (length s.log.list) (slice_index_or s.choices 0 0)) ≡ r.0 = ap (λ n. max s.log.stable (min (length s.log.list) n)) chosen ∙ omega (arith, low, high) in (
          refl,
          record {
            database = tt;
            store = record { start = start ∙ k.store.start; told = subst (λ n. HasLog means.scheme (members.told c) (record s.log { list = take n s.log.list; stable = n })) (sym same) r.4 };
            start = omega (arith, k.start, low, same);
            low = tt;
            within = subst (λ n. n ≤ length (take n s.log.list)) (sym same) (omega (arith, length-take-le r.0 s.log.list high));
            count = k.count;
            lengths = k.lengths;
            slots = k.slots;
          },
        )

    at-end : (chosen : ℕ) (log : Log) → log.stable ≤ length log.list → (machine.restarted chosen log).stable ≡ length (machine.restarted chosen log).list
    at-end chosen log within = omega (arith, length-take-le (max log.stable (min (length log.list) chosen)) log.list (omega (arith, within)))

    pub crashed_left : model.Turns (members.told (store_given means.inside held)) (members.told c) HasRestarted → IsLeft means.scheme (members.told c) s.log ((machine.crash s).1).log
    crashed_left made = left_restarted means.scheme peakless (members.told (store_given means.inside held)) (members.told c) s.log ((machine.crash s).1).log steady.counts k.store.told k.start k.within (at-end _ s.log k.within) made

    pub uncrashed_left : model.Turns (members.told (store_given means.inside held)) (members.told c) (λ t. ReadsAs t.stable (IsImage t)) → IsLeft means.scheme (members.told c) s.log ((machine.crash s).1).log
    uncrashed_left made = left_imaged means.scheme peakless (members.told (store_given means.inside held)) (members.told c) s.log ((machine.crash s).1).log steady.counts k.store.told k.start k.within (at-end _ s.log k.within) made

  restarted-beside : (chunks : Option Chunks) (o new : Option Stored) → model.Turns o new HasRestarted → (to : ℕ) × model.Turns o new (HasEnds chunks ⊥ (to ∷ []))
  restarted-beside chunks None new is = (0, is)
  restarted-beside chunks (Some s) None is = absurd is
  restarted-beside chunks (Some s) (Some t) is = (is.to, record { metadata = inl (stay-same chunks s.metadata t.metadata (ap (λ x. x.metadata) is.same)); ends = ap (λ x. x.ends) is.same })

  pub crashed_handles : {P : Type 0} (keep : ℕ) (old c : C) → model.Turns (members.told old) (members.told c) HasRestarted → members.faults old ≤ members.faults c
      → HandlesLine {K = K} {V = V} {D = D} {P = P} (chunks_of means.scheme) members (lines.Crash keep) old c (Reply replies.Done)
  crashed_handles keep old c made later =
      let chosen = restarted-beside (chunks_of means.scheme) (members.told old) (members.told c) made in
      record { more = chosen.0 ∷ []; beside = turns-looser (chunks_of means.scheme) (chosen.0 ∷ []) (members.told old) (members.told c) (λ never. absurd never) chosen.1; chosen = λ rest. refl; later = later; fault = λ e. absurd (cc) }

  pub uncrashed_turn : (given : Given X C) (table : List (Slot B S M)) (opened : ℕ) (s : State) (e : StoreError) (error : Error) → error ≡ log_error e → Goes (turn_of_error error) given table opened (machine.crash s)
  uncrashed_turn given table opened s e error is = no_refusal error _ (ap refusal_of is ∙ none_refused e)

  pub uncrashed_handles : {P : Type 0} (keep : ℕ) (old c : C) (e : StoreError) (error : Error) → error ≡ log_error e → model.Turns (members.told old) (members.told c) (λ t. ReadsAs t.stable (IsImage t)) → members.faults old ≤ members.faults c → (e ≡ store.Failed → Rose (members.faults old) (members.faults c))
      → HandlesLine {P = P} (chunks_of means.scheme) members (lines.Crash keep) old c (turn_of_error {K = K} {V = V} {D = D} error)
  uncrashed_handles keep old c e error is made later rose = record {
    more = [];
    beside = turns-beside _ (chunks_of means.scheme) (members.told old) (members.told c) _ imaged-beside made;
    chosen = no_refusal error _ (ap refusal_of is ∙ none_refused e);
    later = later;
    fault = λ told. rose (failed e (sym is ∙ fault-told error told));
  }
    where
      failed : (e : StoreError) → log_error e ≡ errors.Journal journal.Store → e ≡ store.Failed
      failed store.Memory same = absurd (cc)
      failed store.Failed same = refl
