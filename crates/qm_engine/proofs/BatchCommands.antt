-- The commands that make, fill and apply batches.
use Rattle.std.proofs.Common.{◌≡◌, ◌≢◌, ◌≤◌, ℕ, Bool, true, false, cond, List, [], ◌∷◌, ◌++◌, length, get_or, set, map, drop, Option, Some, None, Result, Ok, Err, arith, refl, sym, ◌∙◌, ap, subst, IfSome, inr, le_refl, length-append}
use Rattle.std.proofs.lemmas.List.{take-append-drop, drop_all}
use Rattle.std.specs.Prelude.{Contains, ◌&&◌}
use Rattle.std.proofs.lemmas.Bool.{and_from}
use Rattle.std.proofs.Math.Nat.{le_trans}
use Rattle.qm_model.specs.StoreModel.{Stored}
use Rattle.qm_model.specs.StoreModel as model
use Rattle.qm_model.specs.Operations.{Bytes, Operation}
use Rattle.qm_model.specs.Forms.{spelling}
use Rattle.qm_model.specs.Live.{floor}
use Rattle.qm_model.specs.Walk.{Rules}
use Rattle.qm_model.specs.Writes.{Write}
use Rattle.qm_model.specs.Batches.{Chain, child_of, IsAmong, IsOnChain, Begins, Apart, commitment, fits}
use Rattle.qm_model.specs.Refusals.{tip_refusal}
use Rattle.qm_machine.specs.Lines.{Answer}
use Rattle.qm_machine.specs.Lines as lines
use Rattle.qm_model.specs.Refused as refusals
use Rattle.qm_machine.specs.Machine.{State, slot_at, with_slot, refuse, started, start_child, put_in, merkleize_tip, merkleize_in, apply_in}
use Rattle.qm_machine.specs.Machine as machine
use Rattle.qm_model.specs.Schemes.{takes}
use Rattle.qm_model.proofs.KeyOrder.{and-true}
use Rattle.qm_model.proofs.Stores.{leaves-now}
use Rattle.qm_model.proofs.Chains.{Contains-more, Contains-first, IsAmong-more, child-among, on_chain-fits, known-begins, Begins-length}
use Rattle.qm_base.specs.declared.error.Error.{Error}
use Rattle.qm_base.specs.declared.error.Error.TheVariants as errors
use Rattle.qm_lines.specs.Views.{refused_view}
use Rattle.qm_lines.specs.declared.reply.Reply.TheVariants as replies
use Rattle.qm_lines.specs.declared.reply.Refused.{Refused}
use Rattle.qm_lines.specs.declared.reply.Refused.TheVariants as refused
use Rattle.qm_store.specs.declared.Store as stores
use Rattle.qm_offer.specs.declared.meaning.Meaning as meaning
use Rattle.qm_store.specs.declared.refusal.Given.{Given}
use Rattle.qm_store.specs.declared.refusal.Given.TheVariants.{Database}
use Rattle.qm_engine.specs.declared.table.Slot.{Slot}
use Rattle.qm_engine.specs.declared.table.Slot.TheVariants.{Gone, Writing, Staged, Merkleized}
use Rattle.qm_engine.specs.declared.session.Turn.{Turn}
use Rattle.qm_engine.specs.declared.session.Turn.TheVariants.{Reply}
use Rattle.qm_engine.specs.Table.{writing_of, merkleized_of}
use Rattle.qm_engine.specs.Turn.{turn_of_error}
use Rattle.qm_store.specs.Refusals.{refusal_of}
use Rattle.qm_offer.specs.Words.{AtBatch, AtTip, Fits, Makes, evictions_of, tip_of}
use Rattle.qm_engine.specs.Making.{made_into, TakesOf, IsMaking}
use Rattle.qm_machine.specs.Sound.{IsSoundSlot, IsSteady}
use Rattle.qm_engine.specs.Stores.{HasLog, IsLeft}
use Rattle.qm_engine.specs.Session.{SlotIs, Holds}
use Rattle.qm_engine.proofs.Tables.{push_at, set_at, set_set}
use Rattle.qm_store.specs.Given.{Appended}
use Rattle.qm_engine.proofs.LastingStores.{IsBare, Counts, has-appended, left_appended}
use Rattle.qm_engine.proofs.Commands.{some_is, some-map, choice, none_some, refuses, by_error, HeldIs-more, SlotIs-more, numbered-held, with_held, with_list, with_writing, slots_set, lengths_set, Keeps, Holds-used, Turns}

module _ {X C B S M K V D : Type 0} (members : stores.Ghosts C) (means : meaning.Ghosts X C B S M) (key : K → Bytes) (value : V → Bytes) (digest : D → Bytes) where
  abbrev root : List Operation → Bytes
  root = means.scheme.root

  abbrev Goes : Turn K V D → Given X C → List (Slot B S M) → ℕ → Answer × State → Type 0
  Goes = Turns members means key value digest

  pub started_ok : (held : Given X C) (table : List (Slot B S M)) (opened n : ℕ) (slot : Slot B S M) (new : machine.Slot) (s : State) → Holds members means held table opened s
      → SlotIs members means s.had slot new → n ≡ length table → Goes (Reply (replies.Batch n)) held (table ++ slot ∷ []) opened (started s new)
  started_ok held table opened n slot new s k is e = λ _. (
    ap lines.Started (e ∙ k.lengths),
    record {
      database = k.database;
      store = k.store;
      start = k.start;
      low = k.low;
      within = k.within;
      count = k.count;
      lengths = omega (arith, length-append table (slot ∷ []), length-append s.table (new ∷ []), k.lengths);
      slots = push_at (SlotIs members means s.had) Gone machine.gone tt table s.table slot new k.lengths k.slots is;
    },
  )

  -- a child of what the number names
  pub child_in : (Q : Answer × State → Type 0) (h : ℕ) (keep : Option ℕ) (batch : M) (made : B) (s : State) (a : Slot B S M) (b : machine.Slot) → SlotIs members means s.had a b → merkleized_of a ≡ Some batch
      → ((chain : Chain) (tip : List Operation) → means.is_merkleized batch chain tip → means.is_batch made (child_of keep chain tip) chain [])
      → ((new : machine.Slot) → SlotIs members means s.had (Writing made) new → Q (started s new))
      → Q (start_child s h keep b)
  child_in Q h keep batch made s (Merkleized w) (machine.merkleized chain tip evicted) is e begun each =
      let same : w ≡ batch = cc in
      each (machine.writing (child_of keep chain tip) chain [])
      (begun chain tip (subst (λ v. means.is_merkleized v chain tip) same is.0), child-among s.had keep chain tip is.1 is.2, is.1)
  child_in Q h keep batch made s (Merkleized w) b is e begun each = absurd is
  child_in Q h keep batch made s a b is e begun each = absurd (cc)

  pub put_ok : (held : Given X C) (table : List (Slot B S M)) (opened : ℕ) (h : ℕ) (w : Write) (batch after : B) (s : State) → Holds members means held table opened s
      → ((chain above : Chain) (ws : List Write) → means.is_batch batch chain above ws → means.is_batch after chain above (ws ++ w ∷ []))
      → (a : Slot B S M) (b : machine.Slot) → SlotIs members means s.had a b → writing_of a ≡ Some batch
      → Goes (Reply replies.Done) held (set (set table h Gone) h (Writing after)) opened (put_in s h w b)
  put_ok held table opened h w batch after s k wrote (Writing x) (machine.writing chain above ws) is e = λ _. (
    refl,
    record {
      database = k.database;
      store = k.store;
      start = k.start;
      low = k.low;
      within = k.within;
      count = k.count;
      lengths = rw set_set (lengths_set members means table s h (Writing after) (machine.writing chain above (ws ++ w ∷ [])) k.lengths);
      slots = rw set_set (slots_set members means table s h (Writing after) (machine.writing chain above (ws ++ w ∷ [])) k.lengths k.slots (let same : x ≡ batch = cc in (wrote chain above ws (subst (λ v. means.is_batch v chain above ws) same is.0), is.1, is.2)));
    },
  )
  put_ok held table opened h w batch after s k wrote (Writing x) b is e = absurd is
  put_ok held table opened h w batch after s k wrote a b is e = absurd (cc)

  -- a batch number that names no merkleized batch
  apply_none : (held : Given X C) (table : List (Slot B S M)) (opened : ℕ) (h : ℕ) (list : List Operation) (s : State) → Holds members means held table opened s
      → (a : Slot B S M) (b : machine.Slot) → SlotIs members means s.had a b → merkleized_of a ≡ None
      → Goes (Reply (replies.Refused (refused.NoSuchHandle h))) held table opened (apply_in means.scheme s h list b)
  apply_none held table opened h list s k (Merkleized w) b is e = absurd (cc)
  apply_none held table opened h list s k Gone machine.gone is e = λ _. (refl, k)
  apply_none held table opened h list s k (Writing w) (machine.writing chain above ws) is e = λ _. (refl, k)
  apply_none held table opened h list s k (Staged w) (machine.staged chain above ws keys) is e = λ _. (refl, k)
  apply_none held table opened h list s k a b is e = absurd is

  pub not_merkleized : (x : X) (table : List (Slot B S M)) (opened : ℕ) (h : ℕ) (s : State) → Holds members means (Database x) table opened s
      → merkleized_of (get_or table h Gone) ≡ None → Goes (Reply (replies.Refused (refused.NoSuchHandle h))) (Database x) table opened (machine.apply means.scheme s h)
  not_merkleized x table opened h s k e =
      with_list members means x s.had s.database s (λ list. apply_in means.scheme s h list (slot_at s.table h)) (Goes (Reply (replies.Refused (refused.NoSuchHandle h))) (Database x) table opened) k.database (λ list stands in_had.
      apply_none (Database x) table opened h list s k (get_or table h Gone) (slot_at s.table h) (k.slots h) e)

  -- the tip list of a batch whose number is used up
  module _ (held : Given X C) (table : List (Slot B S M)) (opened h : ℕ) (s : State) (list : List Operation) (chain : Chain) (tip : List Operation) (evicted : List (Bytes × Bytes))
      (k : Holds members means held table opened (with_slot s h machine.gone)) (in_had : Contains s.had list) (among : IsAmong s.had chain) where
    -- it is on the chain if it fits, also beside the list that is made
    on_chain : Apart root s.had → fits root (commitment root list) chain ≡ true → IsOnChain list chain
    on_chain apart fit = on_chain-fits root s.had list chain apart in_had among fit

    on_chain-made : Apart root (tip ∷ s.had) → fits root (commitment root list) chain ≡ true → IsOnChain list chain
    on_chain-made apart fit = on_chain-fits root (tip ∷ s.had) list chain apart (Contains-more s.had tip list in_had) (IsAmong-more s.had tip chain among) fit

    abbrev Chosen : (Answer × State → Type 0) → Bool → Option refusals.Refused → Type 0
    Chosen Goal fit due = Goal (cond fit (merkleize_tip s h chain tip evicted due) (refuse (with_slot s h machine.gone) refusals.StaleBatch))

    -- it was made
    pub making_ok : (made : M) (low high bottom : ℕ) → IsMaking means s.opened list chain tip evicted (Ok made)
        → ((chain : Chain) (tip : List Operation) → means.is_merkleized made chain tip → (low ≡ length chain.base) × (high ≡ length tip) × (bottom ≡ floor tip))
        → Goes (Reply (replies.Merkleized h low high bottom)) held (set table h (Merkleized made)) opened (made_into means.scheme s h list chain tip evicted)
    making_ok made low high bottom making sized =
        subst (λ t. Chosen Goal t (tip_refusal means.scheme.form chain tip)) (sym (and_from _ _ making.instance making.fit)) (by_due (tip_refusal means.scheme.form chain tip) refl)
      where
        Goal : Answer × State → Type 0
        Goal = Goes (Reply (replies.Merkleized h low high bottom)) held (set table h (Merkleized made)) opened

        new : machine.Slot
        new = machine.merkleized chain tip evicted

        by_due : (due : Option refusals.Refused) → tip_refusal means.scheme.form chain tip ≡ due → Goal (merkleize_tip s h chain tip evicted due)
        by_due (Some r) is_due = λ apart. absurd (none_some (making.made (on_chain apart making.fit)).0 is_due)
        by_due None is_due = λ apart.
            let now = (making.made (on_chain-made apart making.fit)).1 in
            let told = (making.made (on_chain-made apart making.fit)).2 in
            let sizes = sized chain tip now in (
              rw (sizes.0, sizes.1, sizes.2) refl,
              record {
                database = HeldIs-more members means s.opened s.had tip held s.database k.database;
                store = k.store;
                start = k.start;
                low = k.low;
                within = k.within;
                count = k.count;
                lengths = subst (λ t. length (set table h (Merkleized made)) ≡ length t) (set_set s.table h machine.gone new) (lengths_set members means table (with_slot s h machine.gone) h (Merkleized made) new k.lengths);
                slots = subst (λ t. (i : ℕ) → SlotIs members means (tip ∷ s.had) (get_or (set table h (Merkleized made)) i Gone) (slot_at t i)) (set_set s.table h machine.gone new)
                    (set_at (SlotIs members means (tip ∷ s.had)) Gone machine.gone tt table (set s.table h machine.gone) h (Merkleized made) new k.lengths
                    (λ i. SlotIs-more members means s.had tip (get_or table i Gone) (slot_at (set s.table h machine.gone) i) (k.slots i)) (now, IsAmong-more s.had tip chain among, Contains-first tip s.had, told));
              },
            )

    -- it was not
    pub making_err : (error : Error) → IsMaking means s.opened list chain tip evicted (Err error) → Goes (turn_of_error error) held table opened (made_into means.scheme s h list chain tip evicted)
    making_err error making =
        by_error error _
        (λ is_stale. choice (takes means.scheme.grafts s.opened chain.instance && fits root (commitment root list) chain) (merkleize_tip s h chain tip evicted (tip_refusal means.scheme.form chain tip)) (refuse (with_slot s h machine.gone) refusals.StaleBatch) (Goal refused.StaleBatch)
        (λ both. let taken = and-true (takes means.scheme.grafts s.opened chain.instance) (fits root (commitment root list) chain) both in
        behind is_stale taken.0 taken.1 (tip_refusal means.scheme.form chain tip)) (λ unfit apart. (refl, k)))
        (λ r other told. let due = subst Due told (making.refused other) in
        subst (λ t. Chosen (Goal r) t (tip_refusal means.scheme.form chain tip)) (sym (and_from _ _ due.0 due.1)) (refusing r due (tip_refusal means.scheme.form chain tip) refl))
      where
        Goal : Refused → Answer × State → Type 0
        Goal r = Goes (Reply (replies.Refused r)) held table opened

        Due : Option refusals.Refused → Type 0
        Due o = IfSome o (λ r. TakesOf means s.opened chain × Fits means list chain × (IsOnChain list chain → tip_refusal means.scheme.form chain tip ≡ Some r))

        behind : error ≡ errors.StaleBatch → TakesOf means s.opened chain → fits root (commitment root list) chain ≡ true → (due : Option refusals.Refused) → Goal refused.StaleBatch (merkleize_tip s h chain tip evicted due)
        behind is_stale same fit None = λ apart. absurd (making.stale is_stale same (on_chain-made apart fit))
        behind is_stale same fit (Some r) = λ apart. absurd (making.stale is_stale same (on_chain apart fit))

        refusing : (r : Refused) → Due (Some (refused_view r)) → (due : Option refusals.Refused) → tip_refusal means.scheme.form chain tip ≡ due → Goal r (merkleize_tip s h chain tip evicted due)
        refusing r due None is_due = λ apart. absurd (none_some is_due (due.2 (on_chain-made apart due.1)))
        refusing r due (Some q) is_due = λ apart. (ap refuses (sym (due.2 (on_chain apart due.1)) ∙ is_due), k)

  -- what a call says that makes a batch's tip list
  pub making_of : (x : X) (n : ℕ) (list : List Operation) (chain : Chain) (tip : List Operation) (evicted : List (Bytes × Bytes)) (made : Result M Error) → means.numbered x n → Makes means members x list chain tip evicted made → IsMaking means n list chain tip evicted made
  making_of x n list chain tip evicted (Ok b) is makes = record { instance = makes.instance n is; fit = makes.fit; made = makes.made; stale = tt; refused = tt }
  making_of x n list chain tip evicted (Err e) is makes = record {
    instance = tt;
    fit = tt;
    made = tt;
    stale = λ same. makes.stale same n is;
    refused = λ other. some-map (refusal_of e) (λ r all. (all.0 n is, all.1, all.2)) (makes.refused other);
  }

  -- a merkleize of a batch whose number is used up, under policies with these rules
  pub merkleize_made : {P : Type 0} (rules : Rules P) (Q : Answer × State → Type 0) (x after : X) (table : List (Slot B S M)) (opened h : ℕ) (policy : P) (meta : Option Bytes) (batch : B) (made : Result M Error) (s : State)
      → Holds members means (Database x) table opened s → Keeps members means x after
      → AtBatch means x batch (λ list chain above ws. Makes means members x list chain (tip_of means.scheme rules chain ws policy meta) (evictions_of means.scheme rules chain ws policy) made)
      → writing_of (get_or table h Gone) ≡ Some batch
      → ((list : List Operation) (chain : Chain) (tip : List Operation) (evicted : List (Bytes × Bytes)) → Holds members means (Database after) (set table h Gone) opened (with_slot s h machine.gone) → Contains s.had list → IsAmong s.had chain
      → IsMaking means s.opened list chain tip evicted made → Q (made_into means.scheme s h list chain tip evicted))
      → Q (machine.merkleize means.scheme rules s h policy meta)
  merkleize_made rules Q x after table opened h policy meta batch made s k keeps making e each =
      with_writing members means x table opened h s (λ list. merkleize_in means.scheme rules s h policy meta list) Q k batch e (λ list chain above ws stands in_had among above_among is.
      each list chain (tip_of means.scheme rules chain ws policy meta) (evictions_of means.scheme rules chain ws policy) (Holds-used members means x after table opened h s keeps k) in_had among
      (making_of x s.opened list chain (tip_of means.scheme rules chain ws policy meta) (evictions_of means.scheme rules chain ws policy) made (numbered-held members means s.opened x s.had s.database k.database) (making list chain above ws stands is)))

  -- an apply that was accepted
  applied_in : (peakless : IsBare means.scheme) (x after : X) (table : List (Slot B S M)) (opened : ℕ) (h : ℕ) (batch : M) (size : ℕ) (s : State) (list : List Operation)
      → Holds members means (Database x) table opened s → Counts means.scheme s.log → Contains s.had list → s.log.list ≡ list
      → s.log.start ≤ floor list → ((newer : List Operation) → Contains s.had newer → Begins list newer → floor list ≤ floor newer)
      → ((n : ℕ) → means.numbered x n → means.numbered after n)
      → ((chain : Chain) (tip : List Operation) → means.is_merkleized batch chain tip → fits root (commitment root list) chain ≡ true)
      → ((chain : Chain) (tip : List Operation) → means.is_merkleized batch chain tip → IsOnChain list chain → means.stands after tip)
      → ((chain : Chain) (tip : List Operation) → means.is_merkleized batch chain tip → IsOnChain list chain → Appended members (means.inside x) (means.inside after) (map (spelling means.scheme.form) (drop (length list) tip)))
      → ((l : List Operation) → means.stands after l → size ≡ length l)
      → (a : Slot B S M) (b : machine.Slot) → SlotIs members means s.had a b → IsSoundSlot s.had b → merkleized_of a ≡ Some batch
      → Goes (Reply (replies.Applied size)) (Database after) table opened (apply_in means.scheme s h list b)
  applied_in peakless x after table opened h batch size s list k counts in_had log_is low floors same_number fit_of did grown sized (Merkleized w) (machine.merkleized chain tip evicted) is sound e =
      let same : w ≡ batch = cc in
      let batch_is : means.is_merkleized batch chain tip = subst (λ v. means.is_merkleized v chain tip) same is.0 in
      choice (fits root (commitment root list) chain) (lines.Applied (length tip), record s { database = Some tip; log = record s.log { list = tip } }) (refuse s refusals.StaleBatch) (Goes (Reply (replies.Applied size)) (Database after) table opened)
      (λ fit apart.
      let on_chain = on_chain-fits root s.had list chain apart in_had is.1 fit in
      let stood : means.stands after tip = did chain tip batch_is on_chain in
      let begins : Begins list tip = known-begins list chain tip (inr on_chain) sound.1 sound.3 in
      let more = grown chain tip batch_is on_chain in
      let whole : s.log.list ++ drop (length list) tip ≡ tip = ap (λ xs. xs ++ drop (length list) tip) (log_is ∙ sym begins) ∙ take-append-drop (length list) tip in (
        ap lines.Applied (sized tip stood),
        record {
          database = (stood, is.2, same_number s.opened (numbered-held members means s.opened x s.had s.database k.database));
          store = record {
            start = more.start ∙ k.store.start;
            told = subst (λ xs. HasLog means.scheme (members.told (means.inside after)) (record s.log { list = xs })) whole
                (has-appended means.scheme peakless (members.told (means.inside x)) (members.told (means.inside after)) s.log (drop (length list) tip) counts k.store.told (omega (arith, k.start, k.within)) more.told);
          };
          start = k.start;
          low = le_trans low (floors tip is.2 begins);
          within = let longer = Begins-length list tip begins in let stays = k.within in omega (arith, stays, ap length log_is, longer);
          count = k.count;
          lengths = k.lengths;
          slots = k.slots;
        },
      ))
      (λ unfit. absurd (let fit = fit_of chain tip batch_is in cc))
  applied_in peakless x after table opened h batch size s list k counts in_had log_is low floors same_number fit_of did grown sized (Merkleized w) b is sound e = absurd is
  applied_in peakless x after table opened h batch size s list k counts in_had log_is low floors same_number fit_of did grown sized a b is sound e = absurd (cc)

  -- one that found the batch stale
  unapplied_in : (x : X) (table : List (Slot B S M)) (opened : ℕ) (h : ℕ) (batch : M) (s : State) (list : List Operation)
      → Holds members means (Database x) table opened s → Contains s.had list
      → ((chain : Chain) (tip : List Operation) → means.is_merkleized batch chain tip → IsOnChain list chain → ⊥)
      → (a : Slot B S M) (b : machine.Slot) → SlotIs members means s.had a b → merkleized_of a ≡ Some batch
      → Goes (Reply (replies.Refused refused.StaleBatch)) (Database x) table opened (apply_in means.scheme s h list b)
  unapplied_in x table opened h batch s list k in_had off (Merkleized w) (machine.merkleized chain tip evicted) is e =
      let same : w ≡ batch = cc in
      let batch_is : means.is_merkleized batch chain tip = subst (λ v. means.is_merkleized v chain tip) same is.0 in
      choice (fits root (commitment root list) chain) (lines.Applied (length tip), record s { database = Some tip; log = record s.log { list = tip } }) (refuse s refusals.StaleBatch) (Goes (Reply (replies.Refused refused.StaleBatch)) (Database x) table opened)
      (λ fit apart. absurd (off chain tip batch_is (on_chain-fits root s.had list chain apart in_had is.1 fit)))
      (λ unfit apart. (refl, k))
  unapplied_in x table opened h batch s list k in_had off (Merkleized w) b is e = absurd is
  unapplied_in x table opened h batch s list k in_had off a b is e = absurd (cc)

  pub apply_ok : (peakless : IsBare means.scheme) (x after : X) (table : List (Slot B S M)) (opened : ℕ) (h : ℕ) (batch : M) (size : ℕ) (s : State)
      → Holds members means (Database x) table opened s → IsSteady means.scheme s → ((n : ℕ) → means.numbered x n → means.numbered after n)
      → AtTip means x batch (λ list chain tip. Fits means list chain)
      → AtTip means x batch (λ list chain tip. IsOnChain list chain → means.stands after tip)
      → AtTip means x batch (λ list chain tip. IsOnChain list chain → Appended members (means.inside x) (means.inside after) (map (spelling means.scheme.form) (drop (length list) tip)))
      → ((l : List Operation) → means.stands after l → size ≡ length l)
      → merkleized_of (get_or table h Gone) ≡ Some batch
      → Goes (Reply (replies.Applied size)) (Database after) table opened (machine.apply means.scheme s h)
  apply_ok peakless x after table opened h batch size s k sound same_number fit did grown sized e =
      with_held members means x s.had s.database s (λ list. apply_in means.scheme s h list (slot_at s.table h)) (Goes (Reply (replies.Applied size)) (Database after) table opened) k.database
      (λ list is stands in_had. applied_in peakless x after table opened h batch size s list k sound.counts in_had (sound.held list is).0
      (some_is s.database list (λ l. s.log.start ≤ floor l) is k.low) (λ newer in_newer begins. sound.floors list newer in_had in_newer begins) same_number (λ chain tip. fit list chain tip stands) (λ chain tip. did list chain tip stands) (λ chain tip. grown list chain tip stands) sized
      (get_or table h Gone) (slot_at s.table h) (k.slots h) (sound.slots h) e)

  pub apply_err : (x : X) (given : Given X C) (table : List (Slot B S M)) (opened : ℕ) (h : ℕ) (batch : M) (error : Error) (s : State)
      → Holds members means (Database x) table opened s
      → (error ≡ errors.StaleBatch → (given ≡ Database x) × AtTip means x batch (λ list chain tip. ¬ IsOnChain list chain))
      → (error ≢ errors.StaleBatch → refusal_of error ≡ None)
      → merkleized_of (get_or table h Gone) ≡ Some batch
      → Goes (turn_of_error error) given table opened (machine.apply means.scheme s h)
  apply_err x given table opened h batch error s k stale none e =
      by_error error _
      (λ is_stale. let facts = stale is_stale in
      subst (λ g. Goes (Reply (replies.Refused refused.StaleBatch)) g table opened (machine.apply means.scheme s h)) (sym facts.0)
      (with_list members means x s.had s.database s (λ list. apply_in means.scheme s h list (slot_at s.table h)) (Goes (Reply (replies.Refused refused.StaleBatch)) (Database x) table opened) k.database
      (λ list stands in_had. unapplied_in x table opened h batch s list k in_had (λ chain tip. facts.1 list chain tip stands)
      (get_or table h Gone) (slot_at s.table h) (k.slots h) e)))
      (λ r other told. absurd (none_some (none other) told))

  -- a first part of these was appended to a database's store, and no more is stable if there are none
  abbrev GrownPart : X → Option Stored → List Bytes → Type 0
  GrownPart x left more = model.Grows (members.told (means.inside x)) left more × (more ≡ [] → model.Turns (members.told (means.inside x)) left (λ s t. t.stable ≡ s.stable))

  -- what an apply leaves in the store
  left_in : (peakless : IsBare means.scheme) (x : X) (left : Option Stored) (table : List (Slot B S M)) (opened : ℕ) (h : ℕ) (batch : M) (s : State) (list : List Operation)
      → Holds members means (Database x) table opened s → Counts means.scheme s.log → Contains s.had list → s.log.list ≡ list → Apart root s.had
      → ((chain : Chain) (tip : List Operation) → means.is_merkleized batch chain tip → (fits root (commitment root list) chain ≡ true → IsOnChain list chain)
      → GrownPart x left (cond (fits root (commitment root list) chain) (map (spelling means.scheme.form) (drop (length list) tip)) []))
      → (a : Slot B S M) (b : machine.Slot) → SlotIs members means s.had a b → merkleized_of a ≡ Some batch
      → IsLeft means.scheme left s.log ((apply_in means.scheme s h list b).1).log
  left_in peakless x left table opened h batch s list k counts in_had log_is apart grown (Merkleized w) (machine.merkleized chain tip evicted) is e =
      let same : w ≡ batch = cc in
      let batch_is : means.is_merkleized batch chain tip = subst (λ v. means.is_merkleized v chain tip) same is.0 in
      by_fit (fits root (commitment root list) chain) (grown chain tip batch_is (λ fit. on_chain-fits root s.had list chain apart in_had is.1 fit))
    where
      by_fit : (t : Bool) → GrownPart x left (cond t (map (spelling means.scheme.form) (drop (length list) tip)) [])
          → IsLeft means.scheme left s.log ((cond t (lines.Applied (length tip), record s { database = Some tip; log = record s.log { list = tip } }) (refuse s refusals.StaleBatch)).1).log
      by_fit true part = left_appended means.scheme peakless (members.told (means.inside x)) left s.log (record s.log { list = tip }) (drop (length list) tip) counts k.store.told k.start k.within (ap (λ xs. drop (length xs) tip) log_is) (leaves-now _ _ _ _ part.0) part.1
      by_fit false part = left_appended means.scheme peakless (members.told (means.inside x)) left s.log s.log [] counts k.store.told k.start k.within (drop_all (length s.log.list) s.log.list (le_refl (length s.log.list))) (leaves-now _ _ _ _ part.0) part.1
  left_in peakless x left table opened h batch s list k counts in_had log_is apart grown (Merkleized w) b is e = absurd is
  left_in peakless x left table opened h batch s list k counts in_had log_is apart grown a b is e = absurd (cc)

  pub apply_left : (peakless : IsBare means.scheme) (x : X) (left : Option Stored) (table : List (Slot B S M)) (opened : ℕ) (h : ℕ) (batch : M) (s : State)
      → Holds members means (Database x) table opened s → IsSteady means.scheme s → Apart root s.had
      → ((list : List Operation) (chain : Chain) (tip : List Operation) → means.stands x list → means.is_merkleized batch chain tip → (fits root (commitment root list) chain ≡ true → IsOnChain list chain)
      → GrownPart x left (cond (fits root (commitment root list) chain) (map (spelling means.scheme.form) (drop (length list) tip)) []))
      → merkleized_of (get_or table h Gone) ≡ Some batch
      → IsLeft means.scheme left s.log ((machine.apply means.scheme s h).1).log
  apply_left peakless x left table opened h batch s k sound apart grown e =
      with_held members means x s.had s.database s (λ list. apply_in means.scheme s h list (slot_at s.table h)) (λ next. IsLeft means.scheme left s.log (next.1).log) k.database
      (λ list is stands in_had. left_in peakless x left table opened h batch s list k sound.counts in_had (sound.held list is).0 apart (λ chain tip. grown list chain tip stands) (get_or table h Gone) (slot_at s.table h) (k.slots h) e)
