-- The commands of staged reads.
use Rattle.std.proofs.Common.{◌≡◌, ◌≢◌, ℕ, Bool, true, cond, List, ◌++◌, length, get_or, set, map, Option, Some, Result, sym, ◌∙◌, ap, ap₂, subst, ◌⊎◌, inl, inr, ◌==◌, ◌+◌}
use Rattle.std.specs.Prelude.{Contains, MatchOption}
use Rattle.std.proofs.lemmas.Bool.{eq-eqb, eqb-true}
use Rattle.qm_model.specs.Operations.{Bytes, Operation}
use Rattle.qm_model.specs.Writes.{Write, read_through}
use Rattle.qm_model.specs.Walk.{Rules}
use Rattle.qm_model.specs.Slots.{slotted}
use Rattle.qm_model.specs.Slots as slots
use Rattle.qm_model.specs.Batches.{Chain, IsAmong, IsKnown, Apart, commitment, readable}
use Rattle.qm_machine.specs.Lines.{Answer}
use Rattle.qm_machine.specs.Lines as lines
use Rattle.qm_model.specs.Refused as refusals
use Rattle.qm_machine.specs.Machine.{State, slot_at, with_slot, refuse, if_staged, stage_in, expand_in, merkleize_writes, resolve_in}
use Rattle.qm_machine.specs.Machine as machine
use Rattle.qm_model.proofs.Chains.{known-readable}
use Rattle.qm_base.specs.declared.error.Error.{Error}
use Rattle.qm_base.specs.declared.error.Error.TheVariants as errors
use Rattle.qm_lines.specs.Views.{answer_view, refused_view}
use Rattle.qm_lines.specs.declared.reply.Reply as reply
use Rattle.qm_lines.specs.declared.reply.Reply.TheVariants as replies
use Rattle.qm_lines.specs.declared.reply.Refused.{Refused}
use Rattle.qm_lines.specs.declared.reply.Refused.TheVariants as refused
use Rattle.qm_store.specs.declared.Store as stores
use Rattle.qm_offer.specs.declared.meaning.Meaning as meaning
use Rattle.qm_store.specs.declared.refusal.Given.{Given}
use Rattle.qm_store.specs.declared.refusal.Given.TheVariants.{Database}
use Rattle.qm_engine.specs.declared.table.Slot.{Slot}
use Rattle.qm_engine.specs.declared.table.Slot.TheVariants.{Gone, Writing, Staged, Merkleized}
use Rattle.qm_engine.specs.declared.session.Turn.{Turn}
use Rattle.qm_engine.specs.declared.session.Turn.TheVariants.{Reply}
use Rattle.qm_engine.specs.Table.{writing_of, staged_of}
use Rattle.qm_engine.specs.Turn.{turn_of_error}
use Rattle.qm_store.specs.Refusals.{refusal_of}
use Rattle.qm_offer.specs.Words.{AtBatch, AtStaged, CanRead, IsReadFailure, Makes, evictions_of, tip_of}
use Rattle.qm_engine.specs.Making.{made_into, IsMaking}
use Rattle.qm_engine.specs.Session.{SlotIs, Holds}
use Rattle.qm_engine.proofs.Tables.{set_set}
use Rattle.qm_engine.proofs.Commands.{choice, none_some, refuses, by_refusal, numbered-held, with_list, with_writing, with_staged, HeldIs-kept, stored-same, slots_set, lengths_set, Keeps, Holds-used, Turns}
use Rattle.qm_engine.proofs.BatchCommands.{making_of}
use Rattle.qm_engine.proofs.ReadCommands.{is_stale_read}

-- the answer of an expand from as many keys on as there are
pub expanded_is : {n k m first end : ℕ} (values : List (Option Bytes)) → first ≡ n → end ≡ n + k → m ≡ k → lines.Expanded first end values ≡ lines.Expanded n (n + m) values
expanded_is {n} values e f g = ap₂ (λ a b. lines.Expanded a b values) e (f ∙ ap (λ i. n + i) (sym g))

module _ {X C B S M K V D : Type 0} (members : stores.Ghosts C) (means : meaning.Ghosts X C B S M) (key : K → Bytes) (value : V → Bytes) (digest : D → Bytes) where
  abbrev root : List Operation → Bytes
  root = means.scheme.root

  abbrev Goes : Turn K V D → Given X C → List (Slot B S M) → ℕ → Answer × State → Type 0
  Goes = Turns members means key value digest

  -- a database that reads, and the batch of number h, of this chain and a parent of that one
  module _ (x after : X) (table : List (Slot B S M)) (opened h : ℕ) (s : State) (list : List Operation) (chain above : Chain)
      (k : Holds members means (Database x) table opened s) (keeps : Keeps members means x after) (in_had : Contains s.had list) (among : IsAmong s.had chain) (above_among : IsAmong s.had above) where
    known : Apart root s.had → CanRead means list above chain.base → IsKnown list above chain.base
    known apart can = known-readable root s.had list above chain.base apart in_had above_among among.base can

    abbrev Chosen : (Answer × State → Type 0) → Answer → machine.Slot → Bool → Type 0
    Chosen Goal answer slot t = Goal (cond t (answer, with_slot s h slot) (refuse (with_slot s h machine.gone) refusals.StaleRead))

    -- it becomes a staged one
    staged_ok : (made : S) (r : reply.Reply K V D) (answer : Answer) (ws : List Write) (keys : List Bytes) → CanRead means list above chain.base
        → (IsKnown list above chain.base → (answer_view key value digest r ≡ answer) × means.is_staged made chain above ws keys)
        → Goes (Reply r) (Database after) (set (set table h Gone) h (Staged made)) opened (if_staged means.scheme s h list chain above answer (machine.staged chain above ws keys))
    staged_ok made r answer ws keys can facts =
        subst (Chosen (Goes (Reply r) (Database after) (set (set table h Gone) h (Staged made)) opened) answer new) (sym can) (λ apart.
        let now = facts (known apart can) in (
          now.0,
          record {
            database = HeldIs-kept members means s.opened x after s.had s.database keeps.0 keeps.2 k.database;
            store = stored-same members means.scheme (means.inside x) (means.inside after) s.log keeps.1 k.store;
            start = k.start;
            low = k.low;
            within = k.within;
            count = k.count;
            lengths = rw set_set (lengths_set members means table s h (Staged made) new k.lengths);
            slots = rw set_set (slots_set members means table s h (Staged made) new k.lengths k.slots (now.1, among, above_among));
          },
        ))
      where
        new : machine.Slot
        new = machine.staged chain above ws keys

    -- or is used up
    staged_err : (error : Error) (answer : Answer) (slot : machine.Slot) → IsReadFailure means list above chain.base error
        → Goes (turn_of_error error) (Database after) (set table h Gone) opened (if_staged means.scheme s h list chain above answer slot)
    staged_err error answer slot why = by_refusal error _ (λ r told. by r told (is_stale_read error))
      where
        Goal : Refused → Answer × State → Type 0
        Goal r = Goes (Reply (replies.Refused r)) (Database after) (set table h Gone) opened

        by : (r : Refused) → refusal_of error ≡ Some (refused_view r) → (error ≡ errors.StaleRead) ⊎ (error ≢ errors.StaleRead) → Chosen (Goal r) answer slot (readable root (commitment root list) above chain.base)
        by r told (inl is) = choice (readable root (commitment root list) above chain.base) (answer, with_slot s h slot) (refuse (with_slot s h machine.gone) refusals.StaleRead) (Goal r)
            (λ can apart. absurd (why.stale is (known apart can)))
            (λ not apart. (ap refuses (sym told ∙ ap refusal_of is), Holds-used members means x after table opened h s keeps k))
        by r told (inr other) =
            let can : readable root (commitment root list) above chain.base ≡ true = why.order other (λ is. none_some (ap refusal_of is) told) in
            subst (Chosen (Goal r) answer slot) (sym can) (λ apart. absurd (none_some (why.refused other (known apart can)) told))

  pub stage_ok : (x after : X) (table : List (Slot B S M)) (opened h : ℕ) (keys : List Bytes) (batch : B) (made : S) (r : reply.Reply K V D) (values : List (Option Bytes)) (s : State)
      → Holds members means (Database x) table opened s → Keeps members means x after → answer_view key value digest r ≡ lines.Read values
      → AtBatch means x batch (λ list chain above ws. CanRead means list above chain.base)
      → AtBatch means x batch (λ list chain above ws. IsKnown list above chain.base → (values ≡ map (read_through chain.base ws) keys) × means.is_staged made chain above ws keys)
      → writing_of (get_or table h Gone) ≡ Some batch
      → Goes (Reply r) (Database after) (set (set table h Gone) h (Staged made)) opened (machine.stage means.scheme s h keys)
  stage_ok x after table opened h keys batch made r values s k keeps is_view can are e =
      with_writing members means x table opened h s (λ list. stage_in means.scheme s h keys list) (Goes (Reply r) (Database after) (set (set table h Gone) h (Staged made)) opened) k batch e
      (λ list chain above ws stands in_had among above_among is.
      staged_ok x after table opened h s list chain above k keeps in_had among above_among made r (lines.Read (map (read_through chain.base ws) keys)) ws keys (can list chain above ws stands is)
      (λ known. let facts = are list chain above ws stands is known in (is_view ∙ ap lines.Read facts.0, facts.1)))

  pub stage_err : (x after : X) (table : List (Slot B S M)) (opened h : ℕ) (keys : List Bytes) (batch : B) (error : Error) (s : State)
      → Holds members means (Database x) table opened s → Keeps members means x after
      → AtBatch means x batch (λ list chain above ws. IsReadFailure means list above chain.base error)
      → writing_of (get_or table h Gone) ≡ Some batch
      → Goes (turn_of_error error) (Database after) (set table h Gone) opened (machine.stage means.scheme s h keys)
  stage_err x after table opened h keys batch error s k keeps why e =
      with_writing members means x table opened h s (λ list. stage_in means.scheme s h keys list) (Goes (turn_of_error error) (Database after) (set table h Gone) opened) k batch e
      (λ list chain above ws stands in_had among above_among is.
      staged_err x after table opened h s list chain above k keeps in_had among above_among error (lines.Read (map (read_through chain.base ws) keys)) (machine.staged chain above ws keys) (why list chain above ws stands is))

  pub expand_ok : (x after : X) (table : List (Slot B S M)) (opened h : ℕ) (keys : List Bytes) (batch made : S) (r : reply.Reply K V D) (values : List (Option Bytes)) (s : State)
      → Holds members means (Database x) table opened s → Keeps members means x after → answer_view key value digest r ≡ lines.Expanded (means.count batch) (means.count batch + length keys) values
      → AtStaged means x batch (λ list chain above ws staged. CanRead means list above chain.base)
      → AtStaged means x batch (λ list chain above ws staged. IsKnown list above chain.base → (values ≡ map (read_through chain.base ws) keys) × means.is_staged made chain above ws (staged ++ keys))
      → staged_of (get_or table h Gone) ≡ Some batch
      → Goes (Reply r) (Database after) (set (set table h Gone) h (Staged made)) opened (machine.expand means.scheme s h keys)
  expand_ok x after table opened h keys batch made r values s k keeps is_view can are e =
      with_staged members means x table opened h s (λ list. expand_in means.scheme s h keys list) (Goes (Reply r) (Database after) (set (set table h Gone) h (Staged made)) opened) k batch e
      (λ list chain above ws staged stands in_had among above_among is.
      staged_ok x after table opened h s list chain above k keeps in_had among above_among made r (lines.Expanded (length staged) (length staged + length keys) (map (read_through chain.base ws) keys)) ws (staged ++ keys) (can list chain above ws staged stands is)
      (λ known. let facts = are list chain above ws staged stands is known in
      (is_view ∙ ap₂ (λ n got. lines.Expanded n (n + length keys) got) (means.counted batch chain above ws staged is) facts.0, facts.1)))

  pub expand_err : (x after : X) (table : List (Slot B S M)) (opened h : ℕ) (keys : List Bytes) (batch : S) (error : Error) (s : State)
      → Holds members means (Database x) table opened s → Keeps members means x after
      → AtStaged means x batch (λ list chain above ws staged. IsReadFailure means list above chain.base error)
      → staged_of (get_or table h Gone) ≡ Some batch
      → Goes (turn_of_error error) (Database after) (set table h Gone) opened (machine.expand means.scheme s h keys)
  expand_err x after table opened h keys batch error s k keeps why e =
      with_staged members means x table opened h s (λ list. expand_in means.scheme s h keys list) (Goes (turn_of_error error) (Database after) (set table h Gone) opened) k batch e
      (λ list chain above ws staged stands in_had among above_among is.
      staged_err x after table opened h s list chain above k keeps in_had among above_among error (lines.Expanded (length staged) (length staged + length keys) (map (read_through chain.base ws) keys)) (machine.staged chain above ws (staged ++ keys)) (why list chain above ws staged stands is))

  -- under policies with these rules, with what is given for the keys
  module _ {P : Type 0} (rules : Rules P) (policy : P) (meta : Option Bytes) (given : List slots.Slot) (others : List Write) where
    -- a resolve of a batch whose number is used up
    pub resolve_made : (Q : Answer × State → Type 0) (x after : X) (table : List (Slot B S M)) (opened h : ℕ) (batch : S) (made : Result M Error) (s : State)
        → Holds members means (Database x) table opened s → Keeps members means x after
        → length given ≡ means.count batch
        → AtStaged means x batch (λ list chain above ws keys. Makes means members x list chain (tip_of means.scheme rules chain (slotted ws keys given others) policy meta) (evictions_of means.scheme rules chain (slotted ws keys given others) policy) made)
        → staged_of (get_or table h Gone) ≡ Some batch
        → ((list : List Operation) (chain : Chain) (tip : List Operation) (evicted : List (Bytes × Bytes)) → Holds members means (Database after) (set table h Gone) opened (with_slot s h machine.gone) → Contains s.had list → IsAmong s.had chain
        → IsMaking means s.opened list chain tip evicted made → Q (made_into means.scheme s h list chain tip evicted))
        → Q (machine.resolve means.scheme rules s h policy meta given others)
    resolve_made Q x after table opened h batch made s k keeps as_many making e each =
        with_staged members means x table opened h s (λ list. resolve_in means.scheme rules s h policy meta given others list) Q k batch e (λ list chain above ws keys stands in_had among above_among is.
        subst (λ t. Q (cond t (merkleize_writes means.scheme rules s h policy meta list chain (slotted ws keys given others)) (refuse s (refusals.SlotCount (length keys) (length given)))))
        (sym (eq-eqb (length keys) (length given) (sym (as_many ∙ means.counted batch chain above ws keys is))))
        (each list chain (tip_of means.scheme rules chain (slotted ws keys given others) policy meta) (evictions_of means.scheme rules chain (slotted ws keys given others) policy) (Holds-used members means x after table opened h s keeps k) in_had among
        (making_of members means key value digest x s.opened list chain (tip_of means.scheme rules chain (slotted ws keys given others) policy meta) (evictions_of means.scheme rules chain (slotted ws keys given others) policy) made (numbered-held members means s.opened x s.had s.database k.database) (making list chain above ws keys stands is))))

    -- one that is refused leaves what the number names
    pub resolve_refused : (x : X) (table : List (Slot B S M)) (opened h n : ℕ) (r : Refused) (s : State) → Holds members means (Database x) table opened s → n ≡ length given
        → MatchOption (staged_of (get_or table h Gone)) (r ≡ refused.NoSuchHandle h) (λ b. (means.count b ≢ n) × (r ≡ refused.SlotCount (means.count b) n))
        → Goes (Reply (replies.Refused r)) (Database x) table opened (machine.resolve means.scheme rules s h policy meta given others)
    resolve_refused x table opened h n r s k is_given why =
        with_list members means x s.had s.database s (λ list. resolve_in means.scheme rules s h policy meta given others list (slot_at s.table h)) Goal k.database
        (λ list stands in_had. by list (get_or table h Gone) (slot_at s.table h) (k.slots h) why)
      where
        Goal : Answer × State → Type 0
        Goal = Goes (Reply (replies.Refused r)) (Database x) table opened

        Why : Option S → Type 0
        Why o = MatchOption o (r ≡ refused.NoSuchHandle h) (λ b. (means.count b ≢ n) × (r ≡ refused.SlotCount (means.count b) n))

        by : (list : List Operation) (a : Slot B S M) (b : machine.Slot) → SlotIs members means s.had a b → Why (staged_of a) → Goal (resolve_in means.scheme rules s h policy meta given others list b)
        by list (Staged w) (machine.staged chain above ws keys) is why =
            let counted : means.count w ≡ length keys = means.counted w chain above ws keys is.0 in
            choice (length keys == length given) (merkleize_writes means.scheme rules s h policy meta list chain (slotted ws keys given others)) (refuse s (refusals.SlotCount (length keys) (length given))) Goal
            (λ same. absurd (why.0 (counted ∙ eqb-true (length keys) (length given) same ∙ sym is_given)))
            (λ other apart. (ap (λ q. lines.Refuses (refused_view q)) why.1 ∙ ap₂ (λ a b. lines.Refuses (refusals.SlotCount a b)) counted is_given, k))
        by list Gone machine.gone is why = λ apart. (ap (λ q. lines.Refuses (refused_view q)) why, k)
        by list (Writing w) (machine.writing chain above ws) is why = λ apart. (ap (λ q. lines.Refuses (refused_view q)) why, k)
        by list (Merkleized w) (machine.merkleized chain tip evicted) is why = λ apart. (ap (λ q. lines.Refuses (refused_view q)) why, k)
        by list a b is why = absurd is
