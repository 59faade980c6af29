-- The command that opens what a store keeps.
use Rattle.std.proofs.Common.{◌≡◌, ℕ, zero, suc, ◌+◌, ◌≤◌, List, [], ◌∷◌, length, get_or, take, drop, map, Option, Some, None, IfSome, arith, refl, sym, ◌∙◌, ap, subst, le_refl, length-take-le}
use Rattle.std.specs.Prelude.{IsSome, is_some}
use Rattle.std.specs.List.{AllByRecursion as Each}
use Rattle.std.specs.List.{drop-map}
use Rattle.std.proofs.lemmas.List.Elements.{All-take, All-drop, recursion_from_All}
use Rattle.qm_model.specs.Causes.{Rose}
use Rattle.qm_model.specs.Grafted.{grafted_pins}
use Rattle.qm_model.specs.Live.{floor}
use Rattle.qm_model.specs.Operations.{Bytes, Operation}
use Rattle.qm_model.specs.Forms.{Form, IsOf, spelling, decoded}
use Rattle.qm_model.specs.Own.{taken_up}
use Rattle.qm_model.specs.Own as own
use Rattle.qm_model.specs.Policies.{policies}
use Rattle.qm_model.specs.Opening.{Chunks, count_in, pins_found, opens, refuses, found, found_with, selected, size_of, opening_refusal, opening_of, opening, opened_list}
use Rattle.qm_model.specs.Refused as refusals
use Rattle.qm_model.specs.StoreModel.{Stored}
use Rattle.qm_model.specs.StoreModel as model
use Rattle.qm_model.proofs.Chains.{Contains-first}
use Rattle.qm_model.proofs.Forms.{decoded-spelling}
use Rattle.qm_machine.specs.Lines.{Answer}
use Rattle.qm_machine.specs.Machine.{State, closed, opened_as, found_in}
use Rattle.qm_model.specs.Schemes.{Scheme, chunks_of, engine_of, layout_of}
use Rattle.qm_machine.specs.Machine as machine
use Rattle.qm_machine.specs.Sound.{IsSteady}
use Rattle.qm_machine.proofs.Accepted.{opens-within, opens-behind, opens-none}
use Rattle.qm_base.specs.declared.error.Error.{Error}
use Rattle.qm_lines.specs.Views.{refused_view}
use Rattle.qm_base.specs.declared.error.Error.TheVariants as errors
use Rattle.qm_base.specs.declared.error.JournalError.TheVariants as journal
use Rattle.qm_lines.specs.declared.reply.Reply as reply
use Rattle.qm_lines.specs.declared.reply.Reply.TheVariants as replies
use Rattle.qm_store.specs.declared.Store as stores
use Rattle.qm_store.specs.declared.refusal.Given.{Given}
use Rattle.qm_store.specs.declared.refusal.Given.TheVariants.{Database, Store}
use Rattle.qm_store.specs.Given.{store_given, IsUnchanged}
use Rattle.qm_store.specs.Refusals.{refusal_of, IsDue}
use Rattle.qm_offer.specs.declared.meaning.Meaning as meaning
use Rattle.qm_engine.specs.declared.table.Slot.{Slot}
use Rattle.qm_engine.specs.declared.table.Slot.TheVariants.{Gone}
use Rattle.qm_engine.specs.declared.session.Turn.{Turn}
use Rattle.qm_engine.specs.declared.session.Turn.TheVariants.{Reply}
use Rattle.qm_engine.specs.Turn.{turn_of_error}
use Rattle.qm_engine.specs.Stores.{HasLog, IsLeft}
use Rattle.qm_model.specs.Taken.{IsTaken, HasPins, head_at, selected_size, taken, LeavesOpening}
use Rattle.qm_engine.specs.Session.{Holds, Handles}
use Rattle.qm_engine.proofs.LastingStores.{IsBare, Counts, turned, turns-beside, items-cut, head-cut, stored-taken, left_taken, left_opening}
use Rattle.qm_engine.proofs.LastingCommands.{fault-told}
use Rattle.qm_engine.proofs.Commands.{left_none, some_is, due_told, by_refusal, stored-same, SlotIs-more, Turns}

-- what spells operations is read as these
read_all : (form : Form) (ops : List Operation) → Each (IsOf form) ops → map (decoded form) (map (spelling form) ops) ≡ map (λ op. Some op) ops
read_all form [] each = refl
read_all form (op ∷ ops) (is, each) = ap (λ o. o ∷ map (decoded form) (map (spelling form) ops)) (decoded-spelling form op is) ∙ ap (λ os. Some op ∷ os) (read_all form ops each)

module _ {X C B S M K V D : Type 0} (members : stores.Ghosts C) (means : meaning.Ghosts X C B S M) (key : K → Bytes) (value : V → Bytes) (digest : D → Bytes)
    (held : Given X C) (table : List (Slot B S M)) (opened : ℕ) (s : State) (bound : Option ℕ) (k : Holds members means held table opened s) (steady : IsSteady means.scheme s) (peakless : IsBare means.scheme) where
  abbrev Goes : Turn K V D → Given X C → List (Slot B S M) → ℕ → Answer × State → Type 0
  Goes = Turns members means key value digest

  -- what the store tells
  abbrev stored : Stored
  stored = k.store.told.stored

  told : members.told (store_given means.inside held) ≡ Some stored
  told = k.store.told.is

  -- an opening finds there what the log says
  alike : found (layout_of means.scheme) stored ≡ found_in means.scheme s.log
  alike =
      let items : map (decoded means.scheme.form) stored.items ≡ map (λ op. Some op) (drop s.log.start s.log.list) =
      ap (map (decoded means.scheme.form)) has.items ∙ read_all means.scheme.form (drop s.log.start s.log.list) (recursion_from_All (IsOf means.scheme.form) (drop s.log.start s.log.list) (All-drop (IsOf means.scheme.form) s.log.start s.log.list steady.of_form)) in
      by items (chunks_of means.scheme) has.metadata
    where
      has : own.IsStored (engine_of means.scheme policies) s.log stored
      has = k.store.told.has

      by : map (decoded means.scheme.form) stored.items ≡ map (λ op. Some op) (drop s.log.start s.log.list) → (chunks : Option Chunks)
          → own.MetadataIs (engine_of means.scheme policies) chunks s.log stored → found_with (layout_of means.scheme) stored chunks ≡ found_in means.scheme s.log
      by items None says = λ i. record { start = has.start i; items = items i; head = has.head i; metadata = None; count = sym says i }
      by items (Some c) says = λ i. record { start = has.start i; items = items i; head = has.head i; metadata = says.readable i; count = says.count i }

  -- and comes to this
  abbrev due : Option refusals.Refused
  due = opening_refusal (layout_of means.scheme) (found_in means.scheme s.log) bound

  abbrev size : ℕ
  size = size_of (selected (found_in means.scheme s.log) bound)

  due_is : opening_refusal (layout_of means.scheme) (found (layout_of means.scheme) stored) bound ≡ due
  due_is = ap (λ f. opening_refusal (layout_of means.scheme) f bound) alike

  size_is : selected_size means.scheme bound stored ≡ size
  size_is = ap (λ f. size_of (selected f bound)) alike

  opens_is : due ≡ None → opening (layout_of means.scheme) (found_in means.scheme s.log) bound ≡ opens size
  opens_is none = ap (λ o. opening_of o size) none

  refuses_is : (r : refusals.Refused) → due ≡ Some r → opening (layout_of means.scheme) (found_in means.scheme s.log) bound ≡ refuses r
  refuses_is r is = ap (λ o. opening_of o size) is

  -- what metadata counts of a log's list, a store with that metadata has the pins of
  pins_of : (chunks : Option Chunks) (log : own.Log) (t u : Stored) → t.metadata ≡ u.metadata → own.MetadataIs (engine_of means.scheme policies) chunks log t → HasPins chunks means.scheme u log.list
  pins_of None log t u same is = tt
  pins_of (Some c) log t u same is = subst (λ metas. let entries = model.metadata_in metas c.name in pins_found means.scheme.shape entries (count_in entries) ≡ map (λ pin. Some pin) (grafted_pins means.scheme.hash means.scheme.shape c.height means.scheme.form log.list (count_in entries))) same
      (subst (λ n. pins_found means.scheme.shape (model.metadata_in t.metadata c.name) n ≡ map (λ pin. Some pin) (grafted_pins means.scheme.hash means.scheme.shape c.height means.scheme.form log.list n)) (sym is.count) is.pins)

  module _ (accepted : due ≡ None) where
    abbrev list : List Operation
    list = opened_list size s.log.list

    begins : s.log.start ≤ length s.log.list
    begins = omega (arith, k.start, k.within)

    bare : size ≡ 0 → s.log.list ≡ []
    bare zero_size = opens-none means.scheme s.log bound begins (opens_is accepted ∙ ap opens zero_size)

    few : size ≤ length s.log.list
    few = opens-within means.scheme s.log bound begins size (opens_is accepted)

    -- metadata counts the same of what goes on from the list, or from what is settled of the store's
    counts : Counts means.scheme s.log × Counts means.scheme (taken_up list s.log)
    counts = (steady.counts, steady.opened_counts bound size (opens_is accepted))

    -- its floor is not below the start, and within it
    low : s.log.start ≤ floor list
    low = steady.low bound size (opens_is accepted)

    inside : s.log.start ≤ length list
    inside = let within = (steady.good bound size (opens_is accepted)).floor_within in omega (arith, low, within)

    behind : s.log.start ≤ size
    behind = by size refl
      where
        by : (n : ℕ) → size ≡ n → s.log.start ≤ n
        by zero e = omega (arith, begins, ap length (bare e))
        by (suc j) e = opens-behind means.scheme s.log bound begins j (opens_is accepted ∙ ap opens e)

    -- the store has the log that is taken up
    stored_is : (n : ℕ) → size ≡ n → own.IsStored (engine_of means.scheme policies) (taken_up (opened_list n s.log.list) s.log) (taken means.scheme n stored)
    stored_is n e = subst (λ n. own.IsStored (engine_of means.scheme policies) (taken_up (opened_list n s.log.list) s.log) (taken means.scheme n stored)) e
        (stored-taken means.scheme peakless s.log stored size counts k.store.told.has behind bare few)

    -- and the list
    taken_is : IsTaken means.scheme stored size list
    taken_is = by size refl
      where
        by : (n : ℕ) → size ≡ n → IsTaken means.scheme stored n (opened_list n s.log.list)
        by zero e = refl
        by (suc j) e =
            let opens_so = opens_is accepted ∙ ap opens e in
            let few_so = subst (λ n. n ≤ length s.log.list) e few in
            let behind_so = subst (λ n. s.log.start ≤ n) e behind in
            let has = k.store.told.has in (
              record {
                size_is = length-take-le (suc j) s.log.list few_so;
                of = All-take (IsOf means.scheme.form) (suc j) s.log.list steady.of_form;
                good = steady.good bound (suc j) opens_so;
                items = items-cut means.scheme peakless s.log stored has (suc j) behind_so
                    ∙ (sym (drop-map (spelling means.scheme.form) s.log.start (take (suc j) s.log.list)) ∙ ap (λ n. drop n (map (spelling means.scheme.form) (take (suc j) s.log.list))) (sym has.start));
                head = head-cut means.scheme peakless s.log stored has (suc j) behind_so ∙ ap (head_at means.scheme (take (suc j) s.log.list)) (sym has.start);
                grafted = pins_of (chunks_of means.scheme) (taken_up (opened_list (suc j) s.log.list) s.log) (taken means.scheme (suc j) stored) stored refl (stored_is (suc j) e).metadata;
              },
              steady.ring bound (suc j) opens_so,
            )

    new_told : (after : C) → model.Turns (members.told (store_given means.inside held)) (members.told after) (λ t new. new ≡ taken means.scheme (selected_size means.scheme bound t) t) → HasLog means.scheme (members.told after) (taken_up list s.log)
    new_told after became =
        let t = turned (members.told (store_given means.inside held)) (members.told after) stored (λ t new. new ≡ taken means.scheme (selected_size means.scheme bound t) t) told became in
        record {
          stored = taken means.scheme size stored;
          is = t.1 ∙ ap Some (t.2 ∙ ap (λ n. taken means.scheme n stored) size_is);
          has = stored_is size refl;
        }

  offered : IfSome (members.told (store_given means.inside held)) (λ t. opening_refusal (layout_of means.scheme) (found (layout_of means.scheme) t) bound ≡ None) → due ≡ None
  offered is = sym due_is ∙ some_is (members.told (store_given means.inside held)) stored (λ t. opening_refusal (layout_of means.scheme) (found (layout_of means.scheme) t) bound ≡ None) told is

  pub opened_turn : (x : X) (start count : ℕ) → means.numbered x (opened + 1)
      → IfSome (members.told (store_given means.inside held)) (λ t. (list : List Operation) → IsTaken means.scheme t (selected_size means.scheme bound t) list → means.stands x list)
      → IfSome (members.told (store_given means.inside held)) (λ t. opening_refusal (layout_of means.scheme) (found (layout_of means.scheme) t) bound ≡ None)
      → model.Turns (members.told (store_given means.inside held)) (members.told (means.inside x)) (λ t new. new ≡ taken means.scheme (selected_size means.scheme bound t) t)
      → members.start (means.inside x) ≡ members.start (store_given means.inside held) → start ≡ members.start (means.inside x) → ((l : List Operation) → means.stands x l → count ≡ length l)
      → Goes (Reply (replies.Opened (opened + 1) start count)) (Database x) table (opened + 1) (machine.open_store means.scheme s bound)
  opened_turn x start count numbered stood is_offered became same_start is_start counted =
      let accepted : due ≡ None = offered is_offered in
      let stands : means.stands x (list accepted) =
      some_is (members.told (store_given means.inside held)) stored (λ t. (l : List Operation) → IsTaken means.scheme t (selected_size means.scheme bound t) l → means.stands x l) told stood (list accepted)
      (subst (λ n. IsTaken means.scheme stored n (list accepted)) (sym size_is) (taken_is accepted)) in
      subst (λ o. Goes (Reply (replies.Opened (opened + 1) start count)) (Database x) table (opened + 1) (opened_as (closed s) o)) (sym (opens_is accepted)) (λ apart. (
        rw (k.count, is_start ∙ same_start ∙ k.store.start, counted (list accepted) stands) refl,
        record {
          database = (stands, Contains-first (list accepted) s.had, subst (means.numbered x) (ap (λ n. n + 1) k.count) numbered);
          store = record { start = same_start ∙ k.store.start; told = new_told accepted (means.inside x) became };
          start = inside accepted;
          low = low accepted;
          within = le_refl (length (list accepted));
          count = ap (λ n. n + 1) k.count;
          lengths = k.lengths;
          slots = λ h. SlotIs-more members means s.had (list accepted) (get_or table h Gone) (machine.slot_at s.table h) (k.slots h);
        },
      ))

  pub opened_left : (after : C)
      → IfSome (members.told (store_given means.inside held)) (λ t. opening_refusal (layout_of means.scheme) (found (layout_of means.scheme) t) bound ≡ None)
      → model.Turns (members.told (store_given means.inside held)) (members.told after) (λ t new. new ≡ taken means.scheme (selected_size means.scheme bound t) t)
      → IsLeft means.scheme (members.told after) s.log ((machine.open_store means.scheme s bound).1).log
  opened_left after is_offered became =
      let accepted : due ≡ None = offered is_offered in
      subst (λ o. IsLeft means.scheme (members.told after) s.log ((opened_as (closed s) o).1).log) (sym (opens_is accepted))
      (left_taken means.scheme peakless (members.told (store_given means.inside held)) (members.told after) s.log size k.store.told k.within (bare accepted) (few accepted) (new_told accepted after became))

  -- What is told of a store that is refused, whatever its opening answers.
  abbrev Unopened : C → Type 0
  Unopened after = IfSome (members.told (store_given means.inside held)) (λ t. IsSome (opening_refusal (layout_of means.scheme) (found (layout_of means.scheme) t) bound) → IsUnchanged members (store_given means.inside held) after)

  unopened : (after : C) (r : refusals.Refused) → due ≡ Some r → Unopened after → IsUnchanged members (store_given means.inside held) after
  unopened after r is same =
      some_is (members.told (store_given means.inside held)) stored (λ t. IsSome (opening_refusal (layout_of means.scheme) (found (layout_of means.scheme) t) bound) → IsUnchanged members (store_given means.inside held) after) told same (ap is_some (due_is ∙ is))

  refused_store : (given : Given X C) → ((x : X) → given ≡ Database x → ⊥) → IsUnchanged members (store_given means.inside held) (store_given means.inside given) → Holds members means given table opened (closed s)
  refused_store (Database x) back same = absurd (back x refl)
  refused_store (Store after) back same = record {
    database = tt;
    store = stored-same members means.scheme (store_given means.inside held) after s.log same k.store;
    start = k.start;
    low = tt;
    within = k.within;
    count = k.count;
    lengths = k.lengths;
    slots = k.slots;
  }

  pub unopened_turn : (given : Given X C) (error : Error)
      → IfSome (members.told (store_given means.inside held)) (λ t. IsDue error (opening_refusal (layout_of means.scheme) (found (layout_of means.scheme) t) bound))
      → Unopened (store_given means.inside given) → ((x : X) → given ≡ Database x → ⊥)
      → Goes (turn_of_error error) given table opened (machine.open_store means.scheme s bound)
  unopened_turn given error why same back =
      by_refusal error _ (λ r is.
      let refused : due ≡ Some (refused_view r) =
      sym due_is ∙ due_told (refusal_of error) _ (refused_view r) (some_is (members.told (store_given means.inside held)) stored (λ t. IsDue error (opening_refusal (layout_of means.scheme) (found (layout_of means.scheme) t) bound)) told why) is in
      subst (λ o. Goes (Reply (replies.Refused r)) given table opened (opened_as (closed s) o)) (sym (refuses_is (refused_view r) refused))
      (λ apart. (refl, refused_store given back (unopened (store_given means.inside given) (refused_view r) refused same))))

  pub unopened_left : (after : C) → Unopened after → model.Turns (members.told (store_given means.inside held)) (members.told after) (λ t new. LeavesOpening means.scheme (selected_size means.scheme bound t) t new)
      → IsLeft means.scheme (members.told after) s.log ((machine.open_store means.scheme s bound).1).log
  unopened_left after same left = by due refl
    where
      by : (o : Option refusals.Refused) → due ≡ o → IsLeft means.scheme (members.told after) s.log ((opened_as (closed s) (opening_of due size)).1).log
      by (Some r) is =
          subst (λ o. IsLeft means.scheme (members.told after) s.log ((opened_as (closed s) (opening_of o size)).1).log) (sym is)
          (left_none means.scheme s.log s.log (members.told after) (stored-same members means.scheme (store_given means.inside held) after s.log (unopened after r is same) k.store).told)
      by None is =
          subst (λ o. IsLeft means.scheme (members.told after) s.log ((opened_as (closed s) (opening_of o size)).1).log) (sym is)
          (left_opening means.scheme peakless (members.told (store_given means.inside held)) (members.told after) s.log size (counts is) k.store.told k.start k.within (behind is) (bare is) (few is)
          (leaves (members.told (store_given means.inside held)) (members.told after) told left))
        where
          leaves : (o q : Option Stored) → o ≡ Some stored → model.Turns o q (λ t new. LeavesOpening means.scheme (selected_size means.scheme bound t) t new) → model.Turns o q (LeavesOpening means.scheme size)
          leaves o q is turns =
              let t = turned o q stored (λ t new. LeavesOpening means.scheme (selected_size means.scheme bound t) t new) is turns in
              subst (λ p. model.Turns p q (LeavesOpening means.scheme size)) (sym is) (subst (λ p. model.Turns (Some stored) p (LeavesOpening means.scheme size)) (sym t.1) (subst (λ n. LeavesOpening means.scheme n stored t.0) size_is t.2))

-- what stands beside the items stays
taken-beside : (m : Scheme) (n : ℕ) (s t : Stored) → t ≡ taken m n s → (t.metadata ≡ s.metadata) × (t.ends ≡ s.ends)
taken-beside m zero s t is = (ap (λ x. x.metadata) is, ap (λ x. x.ends) is)
taken-beside m (suc n) s t is = (ap (λ x. x.metadata) is, ap (λ x. x.ends) is)

opening-beside : (m : Scheme) (n : ℕ) (s t : Stored) → LeavesOpening m n s t → (t.metadata ≡ s.metadata) × (t.ends ≡ s.ends)
opening-beside m zero s t r = (ap (λ x. x.metadata) r.reads, ap (λ x. x.ends) r.reads)
opening-beside m (suc n) s t r = let i = r.left in (ap (λ x. x.metadata) r.reads ∙ ap (λ x. x.metadata) i.same, ap (λ x. x.ends) r.reads ∙ ap (λ x. x.ends) i.same)

pub opened_handles : {C K V D : Type 0} (members : stores.Ghosts C) (m : Scheme) (bound : Option ℕ) (old new : C) (answer : reply.Reply K V D)
    → model.Turns (members.told old) (members.told new) (λ t next. next ≡ taken m (selected_size m bound t) t) → members.faults old ≤ members.faults new → Handles {K = K} {V = V} {D = D} (chunks_of m) ⊥ members old new (Reply answer)
opened_handles members m bound old new answer made later = record {
  beside = (turns-beside ⊥ (chunks_of m) (members.told old) (members.told new) _ (λ s t. taken-beside m (selected_size m bound s) s t) made);
  later = later;
  fault = λ e. absurd (cc);
}

pub unopened_handles : {C K V D : Type 0} (members : stores.Ghosts C) (m : Scheme) (bound : Option ℕ) (old new : C) (error : Error)
    → model.Turns (members.told old) (members.told new) (λ t next. LeavesOpening m (selected_size m bound t) t next) → members.faults old ≤ members.faults new → (error ≡ errors.Journal journal.Store → Rose (members.faults old) (members.faults new))
    → Handles {K = K} {V = V} {D = D} (chunks_of m) ⊥ members old new (turn_of_error error)
unopened_handles members m bound old new error made later rose = record {
  beside = (turns-beside ⊥ (chunks_of m) (members.told old) (members.told new) _ (λ s t. opening-beside m (selected_size m bound s) s t) made);
  later = later;
  fault = λ e. rose (fault-told error e);
}
