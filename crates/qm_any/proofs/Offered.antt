-- What a database says as an offer: where its batches fit and can be read, and what its refusals are.
use Rattle.std.proofs.Common.{◌≡◌, ◌≢◌, ◌≤◌, ℕ, suc, ◌^◌, ◌∙◌, ◌⊎◌, ap, ap₂, le_refl, sym, subst, refl, inl, inr, List, [], ◌++◌, length, map, drop, Option, Some, None, Bool, true, false, IfSome}
use Rattle.std.specs.Prelude.{Result, Ok, Err, IfOk, IfErr, IsErrOf, if◌then◌else◌}
use Rattle.std.specs.Option.{option_map, option_or}
use Rattle.std.proofs.lemmas.Bool.{false≢true, lt-ltb, le-ltb}
use Rattle.qm_base.specs.declared.error.Error.{Error}
use Rattle.qm_base.specs.declared.error.Error.TheVariants as errors
use Rattle.qm_base.specs.declared.error.JournalError.TheVariants as journal
use Rattle.qm_model.specs.Operations.{Bytes, Operation}
use Rattle.qm_model.specs.Forms.{Form, spelling}
use Rattle.qm_model.specs.Batches.{Commitment, Chain, boundary_list, IsOnChain, IsKnown, commitment, fits, readable}
use Rattle.qm_model.specs.Causes.{Rose}
use Rattle.qm_model.specs.Refused.{Refused, Journal, ItemTooLarge, Merkle, LocationOverflow}
use Rattle.qm_model.specs.Refusals.{tip_refusal, too_long, too_many}
use Rattle.qm_model.specs.Schemes.{takes}
use Rattle.qm_model.specs.Writes.{Write}
use Rattle.qm_model.proofs.Chains.{fits-on_chain, readable-known}
use Rattle.qm_model.proofs.Results.{err-both, err-each}
use Rattle.qm_store.specs.declared.Store as store
use Rattle.qm_store.specs.Log.{Log}
use Rattle.qm_store.specs.Reads.{IsReadError}
use Rattle.qm_store.specs.Refusals.{refusal_of}
use Rattle.qm_store.specs.Given.{IsUnchanged, store_after, store_given}
use Rattle.qm_store.specs.declared.refusal.Refusal.{Refusal}
use Rattle.qm_chain.specs.Bounds.{Bounds, IsBounds, is_at, knows}
use Rattle.qm_chain.proofs.Fits.{at-fits, at-readable}
use Rattle.qm_any.specs.Databases.{Database, IsLeft, IsDatabase, Begun, Staged, Made, IsBegun, IsStaged, IsMade, staged_keys, is_on, list_commitment}
use Rattle.qm_any.specs.Layouts.{Hashing, Layout, list_root}
use Rattle.qm_any.specs.Reading.{IsOfKeptItem, IsThroughError}
use Rattle.qm_any.specs.Tips.{own_spellings, IsTaken, IsRefused}
use Rattle.qm_any.proofs.Known.{child-boundary, child-tips}
use Rattle.qm_offer.specs.declared.meaning.Meaning as meaning
use Rattle.qm_offer.specs.Words.{Fits, IsReadFailure, Makes, ReadsOnly, Takes}

module _ {D : Type 0} (hashing : Hashing D) where
  -- a merkleized batch fits if its bounds say so
  pub at-made : (list : List Operation) (chain : Chain) (tip : List Operation) (current : Commitment) (made : Made D) → current ≡ list_commitment hashing list → IsMade hashing made chain tip
      → is_at current made.bounds.db made.bounds.ancestors ≡ fits (list_root hashing) (list_commitment hashing list) chain
  at-made list chain tip current made is batch =
      ap (λ c. is_at c made.bounds.db made.bounds.ancestors) is ∙ at-fits (list_root hashing) made.bounds chain tip (list_commitment hashing list) batch.bounds

  -- the bounds of a chain
  abbrev bounds_of : Chain → Bounds
  bounds_of chain = record {
    base = list_commitment hashing chain.base;
    db = list_commitment hashing (boundary_list chain);
    tip = list_commitment hashing chain.base;
    ancestors = map (λ k. list_commitment hashing k.tip) chain.kept;
    inactivity_floor = 0;
  }

  -- a batch does if the states that it keeps of its parent say so
  pub on-begun : (list : List Operation) (chain above : Chain) (current : Commitment) (begun : Begun D) → begun.keep ≤ suc (length begun.parent.bounds.ancestors) → current ≡ list_commitment hashing list
      → IsBegun hashing begun chain above → is_on current begun ≡ fits (list_root hashing) (list_commitment hashing list) chain
  on-begun list chain above current begun few is batch =
      ap (λ c. is_on c begun) is
      ∙ ap₂ (is_at (list_commitment hashing list)) (child-boundary begun.parent begun.keep chain above few batch.parent batch.kept)
      (child-tips begun.parent begun.keep chain above few batch.parent batch.kept)
      ∙ at-fits (list_root hashing) (bounds_of chain) chain chain.base (list_commitment hashing list) (record { base = refl; db = refl; tip = refl; ancestors = refl })

  -- what bounds know is where a batch of them can be read
  pub knows-readable : (list : List Operation) (chain : Chain) (tip : List Operation) (current : Commitment) (bounds : Bounds) → current ≡ list_commitment hashing list → IsBounds (list_root hashing) bounds chain tip
      → knows bounds current ≡ readable (list_root hashing) (list_commitment hashing list) chain tip
  knows-readable list chain tip current bounds is of = ap (knows bounds) is ∙ at-readable (list_root hashing) bounds chain tip (list_commitment hashing list) of

apart : true ≡ false → ⊥
apart is = cc

-- if a batch does not fit the list is not on its chain
pub off-chain : (root : List Operation → Bytes) (list : List Operation) (chain : Chain) → fits root (commitment root list) chain ≡ false → IsOnChain list chain → ⊥
off-chain root list chain unfit on = apart (sym (fits-on_chain root list chain on) ∙ unfit)

-- if it can not be read the list is not known
pub unknown : (root : List Operation → Bytes) (list : List Operation) (chain : Chain) (tip : List Operation) → readable root (commitment root list) chain tip ≡ false → IsKnown list chain tip → ⊥
unknown root list chain tip closed known = apart (sym (readable-known root list chain tip known) ∙ closed)

-- an error of the log is none of a stale read
log-fresh : {C D : Type 0} (members : store.Ghosts C) (old new : Log C D) (e : Error) → IsReadError members old new e → e ≡ errors.StaleRead → ⊥
log-fresh members old new e (inl memory) stale = absurd (cc (memory, stale))
log-fresh members old new e (inr (inl fault)) stale = absurd (cc (fault.0, stale))
log-fresh members old new e (inr (inr pruned)) stale = absurd (cc (pruned.2, stale))

-- nor of a stale batch
pub log-kept : {C D : Type 0} (members : store.Ghosts C) (old new : Log C D) (e : Error) → IsReadError members old new e → e ≢ errors.StaleBatch
log-kept members old new e (inl memory) stale = absurd (cc (memory, stale))
log-kept members old new e (inr (inl fault)) stale = absurd (cc (fault.0, stale))
log-kept members old new e (inr (inr pruned)) stale = absurd (cc (pruned.2, stale))

-- if it is for no item that is gone it is told as no refusal
pub log-untold : {C D : Type 0} (members : store.Ghosts C) (old new : Log C D) (e : Error) → IsOfKeptItem e → IsReadError members old new e → refusal_of e ≡ None
log-untold members old new e whole (inl memory) = ap refusal_of memory
log-untold members old new e whole (inr (inl fault)) = ap refusal_of fault.0
log-untold members old new e whole (inr (inr pruned)) = absurd (whole pruned.0 pruned.2)

-- a fault of the store is one by which its count rose
pub log-rose : {C D : Type 0} (members : store.Ghosts C) (old new : Log C D) (e : Error) → IsReadError members old new e → e ≡ errors.Journal journal.Store → Rose (members.faults old.store) (members.faults new.store)
log-rose members old new e (inl memory) fault = absurd (cc (memory, fault))
log-rose members old new e (inr (inl told)) fault = told.1
log-rose members old new e (inr (inr pruned)) fault = absurd (item-apart pruned.0 (sym pruned.2 ∙ fault))
  where
    item-apart : (n : ℕ) → errors.Journal (journal.ItemPruned n) ≡ errors.Journal journal.Store → ⊥
    item-apart n is = cc

module _ {C D : Type 0} (members : store.Ghosts C) (old new : Log C D) (can : Bool) (e : Error) where
  stale-read : IsThroughError members can old new e → e ≡ errors.StaleRead → can ≡ false
  stale-read (inl why) stale = why.1
  stale-read (inr (inl memory)) stale = absurd (cc (memory, stale))
  stale-read (inr (inr told)) stale = absurd (log-fresh members old new e told.1 stale)

  fresh-read : IsThroughError members can old new e → e ≢ errors.StaleRead → IsOfKeptItem e → refusal_of e ≡ None
  fresh-read (inl why) fresh whole = absurd (fresh why.0)
  fresh-read (inr (inl memory)) fresh whole = ap refusal_of memory
  fresh-read (inr (inr told)) fresh whole = log-untold members old new e whole told.1

  known-read : IsThroughError members can old new e → e ≢ errors.StaleRead → e ≢ errors.Memory → can ≡ true
  known-read (inl why) fresh other = absurd (fresh why.0)
  known-read (inr (inl memory)) fresh other = absurd (other memory)
  known-read (inr (inr told)) fresh other = told.0

  pub rose-read : IsThroughError members can old new e → e ≡ errors.Journal journal.Store → Rose (members.faults old.store) (members.faults new.store)
  rose-read (inl why) fault = absurd (cc (why.0, fault))
  rose-read (inr (inl memory)) fault = absurd (cc (memory, fault))
  rose-read (inr (inr told)) fault = log-rose members old new e told.1 fault

  -- so it is a failure of a read of the engine
  pub read-failure : {X B S M : Type 0} (means : meaning.Ghosts X C B S M) (list : List Operation) (chain : Chain) (tip : List Operation) → can ≡ readable means.scheme.root (commitment means.scheme.root list) chain tip
      → IsOfKeptItem e → IsThroughError members can old new e → IsReadFailure means list chain tip e
  read-failure means list chain tip is whole why = record {
    stale = λ stale known. apart (sym (is ∙ readable-known means.scheme.root list chain tip known) ∙ stale-read why stale);
    refused = λ fresh known. fresh-read why fresh whole;
    order = λ fresh other. sym is ∙ known-read why fresh other;
  }

  pub never-read : IsThroughError members can old new e → e ≢ errors.StaleBatch
  never-read (inl why) stale = absurd (cc (why.0, stale))
  never-read (inr (inl memory)) stale = absurd (cc (memory, stale))
  never-read (inr (inr told)) stale = log-kept members old new e told.1 stale

module _ {C D : Type 0} (members : store.Ghosts C) (layout : Layout D) (db : Database C D) where
  -- no read of what stands for a list fails for an item that is gone
  pub kept-items : {X : Type 0} (r : Result X Error) → ((list : List Operation) → IsDatabase members layout db list → IfErr r IsOfKeptItem)
      → IfErr r (λ e. (list : List Operation) → IsDatabase members layout db list → IsOfKeptItem e)
  kept-items r whole = err-each (IsDatabase members layout db) (λ list e. IsOfKeptItem e) r whole

  -- and a read that fails is told as no refusal
  pub read-untold : {X : Type 0} (new : Log C D) (r : Result X Error) → IfErr r (IsReadError members db.log new)
      → ((list : List Operation) → IsDatabase members layout db list → IfErr r IsOfKeptItem)
      → IfErr r (λ e. (list : List Operation) → IsDatabase members layout db list → refusal_of e ≡ None)
  read-untold new r errs whole =
      err-both r errs (kept-items r whole) (λ e why kept list is. log-untold members db.log new e (kept list is) why)

-- reads through batches
pub made-reads : {X E : Type 0} (r : Result X E) (S : List Operation → Type 0) (L : Chain → List Operation → Type 0) (Q : X → List Operation → Type 0)
    → ((list : List Operation) (chain : Chain) (tip : List Operation) → S list → L chain tip → IsKnown list chain tip → IfOk r (λ x. Q x tip))
    → IfOk r (λ x. (list : List Operation) (chain : Chain) (tip : List Operation) → S list → L chain tip → IsKnown list chain tip → Q x tip)
made-reads (Ok x) S L Q given = given
made-reads (Err e) S L Q given = tt

module _ {D : Type 0} (hashing : Hashing D) where
  pub begun-reads : {X E : Type 0} (r : Result X E) (S : List Operation → Type 0) (begun : Begun D) (Q : X → List Operation → List Write → Type 0)
      → ((list : List Operation) (chain above : Chain) → S list → IsBegun hashing begun chain above → IsKnown list above chain.base → IfOk r (λ x. Q x chain.base begun.writes))
      → IfOk r (λ x. (list : List Operation) (chain above : Chain) (ws : List Write) → S list → IsBegun hashing begun chain above × (begun.writes ≡ ws) → IsKnown list above chain.base → Q x chain.base ws)
  begun-reads (Ok x) S begun Q given = λ list chain above ws is batch known. subst (Q x chain.base) batch.1 (given list chain above is batch.0 known)
  begun-reads (Err e) S begun Q given = tt

  -- a batch that is staged, and one that gets more keys
  pub begun-staged : {X E : Type 0} (r : Result (X × Staged D) E) (S : List Operation → Type 0) (begun : Begun D) (keys : List Bytes) (Q : X → List Operation → List Write → Type 0)
      → ((list : List Operation) (chain above : Chain) → S list → IsBegun hashing begun chain above → IsKnown list above chain.base → IfOk r (λ x. Q x.0 chain.base begun.writes))
      → ((list : List Operation) (chain above : Chain) → S list → IsBegun hashing begun chain above → IsKnown list above chain.base → IfOk r (λ x. IsStaged hashing x.1 chain above))
      → IfOk r (λ x. (x.1).batch ≡ begun) → IfOk r (λ x. staged_keys x.1 ≡ keys)
      → IfOk r (λ x. (list : List Operation) (chain above : Chain) (ws : List Write) → S list → IsBegun hashing begun chain above × (begun.writes ≡ ws) → IsKnown list above chain.base
      → Q x.0 chain.base ws × (IsStaged hashing x.1 chain above × ((x.1).batch.writes ≡ ws) × (staged_keys x.1 ≡ keys)))
  begun-staged (Ok x) S begun keys Q values staged same are = λ list chain above ws is batch known. (
    subst (Q x.0 chain.base) batch.1 (values list chain above is batch.0 known),
    (staged list chain above is batch.0 known, ap (λ (b : Begun D). b.writes) same ∙ batch.1, are),
  )
  begun-staged (Err e) S begun keys Q values staged same are = tt

  pub more-staged : {R X E : Type 0} (r : Result (R × X × Staged D) E) (S : List Operation → Type 0) (before : Staged D) (keys : List Bytes) (Q : X → List Operation → List Write → Type 0)
      → ((list : List Operation) (chain above : Chain) → S list → IsStaged hashing before chain above → IsKnown list above chain.base → IfOk r (λ x. Q x.1 chain.base before.batch.writes))
      → ((list : List Operation) (chain above : Chain) → S list → IsStaged hashing before chain above → IsKnown list above chain.base → IfOk r (λ x. IsStaged hashing x.2 chain above))
      → IfOk r (λ x. (x.2).batch ≡ before.batch) → IfOk r (λ x. staged_keys x.2 ≡ staged_keys before ++ keys)
      → IfOk r (λ x. (list : List Operation) (chain above : Chain) (ws : List Write) (staged : List Bytes) → S list → IsStaged hashing before chain above × (before.batch.writes ≡ ws) × (staged_keys before ≡ staged) → IsKnown list above chain.base
      → Q x.1 chain.base ws × (IsStaged hashing x.2 chain above × ((x.2).batch.writes ≡ ws) × (staged_keys x.2 ≡ staged ++ keys)))
  more-staged (Ok x) S before keys Q values staged same are = λ list chain above ws own is batch known. (
    subst (Q x.1 chain.base) batch.1 (values list chain above is batch.0 known),
    (staged list chain above is batch.0 known, ap (λ (b : Begun D). b.writes) same ∙ batch.1, are ∙ ap (λ ks. ks ++ keys) batch.2),
  )
  more-staged (Err e) S before keys Q values staged same are = tt

  -- what an apply appends, said of bounds and of lists
  pub appends-same : (list : List Operation) (chain : Chain) (tip : List Operation) (current : Commitment) (made : Made D) → current ≡ list_commitment hashing list → IsMade hashing made chain tip
      → (if is_at current made.bounds.db made.bounds.ancestors then map (spelling hashing.form) (drop current.size tip) else []) ≡ (if fits (list_root hashing) (list_commitment hashing list) chain then map (spelling hashing.form) (drop (length list) tip) else [])
  appends-same list chain tip current made is batch =
      ap (λ b. if b then map (spelling hashing.form) (drop current.size tip) else []) (at-made hashing list chain tip current made is batch)
      ∙ ap (λ (n : ℕ). if fits (list_root hashing) (list_commitment hashing list) chain then map (spelling hashing.form) (drop n tip) else []) (ap (λ c. c.size) is)

none-some : (r : Refused) → None ≡ Some r → ⊥
none-some r is = cc

some-intro : {A : Type 0} (o : Option A) (P : A → Type 0) → ((a : A) → o ≡ Some a → P a) → IfSome o P
some-intro None P give = tt
some-intro (Some a) P give = give a refl

module _ (form : Form) (chain : Chain) (tip : List Operation) where
  -- why a tip is refused, if no spelling is too long
  short : too_long (own_spellings form chain.base tip) ≡ None → tip_refusal form chain tip ≡ too_many (length tip)
  short none = ap (λ o. option_or (option_map (λ n. Journal (ItemTooLarge n)) o) (too_many (length tip))) none

  -- a tip that is taken is not refused
  pub taken-offered : IsTaken form chain.base tip → tip_refusal form chain tip ≡ None
  taken-offered taken = short taken.0 ∙ ap (λ b. if b then Some (Merkle (LocationOverflow (length tip))) else None) (le-ltb (2 ^ 62) (length tip) taken.1)

  -- what is too long of a tip is why it is refused
  due : (e : Error) (r : Refused) → e ≢ errors.StaleBatch → IsRefused form chain.base tip e → refusal_of e ≡ Some r → tip_refusal form chain tip ≡ Some r
  due e r fresh (inl memory) told = absurd (none-some r (sym (ap refusal_of memory) ∙ told))
  due e r fresh (inr (inl stale)) told = absurd (fresh stale)
  due e r fresh (inr (inr (inl large))) told =
      ap (λ o. option_or (option_map (λ n. Journal (ItemTooLarge n)) o) (too_many (length tip))) large.1 ∙ sym (ap refusal_of large.2) ∙ told
  due e r fresh (inr (inr (inr many))) told =
      short many.0 ∙ ap (λ b. if b then Some (Merkle (LocationOverflow (length tip))) else None) (lt-ltb (2 ^ 62) (length tip) many.1) ∙ sym (ap refusal_of many.2) ∙ told

  -- a merkleize that is refused, and not as stale, is so for that if the database is on the chain and lacks no item of it; its
  -- batch is of an instance that the database takes, and fits
  pub refused-due : {C D : Type 0} (members : store.Ghosts C) (old new : Log C D) (T P On : Type 0) (e : Error) → e ≢ errors.StaleBatch → (On → IsOfKeptItem e) → (On → IsRefused form chain.base tip e ⊎ IsReadError members old new e)
      → T → (e ≢ errors.Memory → P) → IfSome (refusal_of e) (λ r. T × P × (On → tip_refusal form chain tip ≡ Some r))
  refused-due members old new T P On e fresh whole refused own give =
      some-intro (refusal_of e) (λ r. T × P × (On → tip_refusal form chain tip ≡ Some r)) (λ r told. (own, give (λ memory. none-some r (sym (ap refusal_of memory) ∙ told)), λ on. either r told on (refused on)))
    where
      either : (r : Refused) → refusal_of e ≡ Some r → On → IsRefused form chain.base tip e ⊎ IsReadError members old new e → tip_refusal form chain tip ≡ Some r
      either r told on (inl long) = due e r fresh long told
      either r told on (inr read) = absurd (none-some r (sym (log-untold members old new e (whole on) read) ∙ told))

-- What comes of a merkleize, by what it says of the tip that it makes, which is this one. It fits if it is on the chain.
pub makes : {X C B S M D : Type 0} (means : meaning.Ghosts X C B S M) (members : store.Ghosts C) (old : X) (was is : Log C D) (list : List Operation) (chain : Chain) (own tip : List Operation) (pairs evicted : List (Bytes × Bytes)) (r : Result M Error) (on : Bool)
    → means.scheme.grafts ≡ None
    → own ≡ tip
    → pairs ≡ evicted
    → on ≡ fits means.scheme.root (commitment means.scheme.root list) chain
    → IfOk r (λ _. on ≡ true)
    → (IsOnChain list chain → IfOk r (λ b. means.is_merkleized b chain own × (means.evictions b ≡ pairs)))
    → (IsOnChain list chain → IfOk r (λ _. IsTaken means.scheme.form chain.base own))
    → (IsOnChain list chain → IfErr r (λ e. IsRefused means.scheme.form chain.base own e ⊎ IsReadError members was is e))
    → IfErr r (λ e. e ≡ errors.StaleBatch → on ≡ false)
    → IfErr r (λ e. e ≢ errors.Memory → e ≢ errors.StaleBatch → on ≡ true)
    → (IsOnChain list chain → IfErr r IsOfKeptItem)
    → Makes means members old list chain tip evicted r
makes means members old was is list chain own tip pairs evicted (Ok b) on plain same told fit fitted made taken refused stale order whole = record {
  instance = λ n numbered. ap (λ grafts. takes grafts n chain.instance) plain;
  fit = sym fit ∙ fitted;
  made = λ here. (
    taken-offered means.scheme.form chain tip (subst (λ t. IsTaken means.scheme.form chain.base t) same (taken here)),
    subst (λ t. means.is_merkleized b chain t) same (made here).0,
    (made here).1 ∙ told,
  );
  stale = tt;
  refused = tt;
}
makes means members old was is list chain own tip pairs evicted (Err e) on plain same told fit fitted made taken refused stale order whole = record {
  instance = tt;
  fit = tt;
  made = tt;
  stale = λ left n numbered took. off-chain means.scheme.root list chain (sym fit ∙ stale left);
  refused = λ fresh.
      refused-due means.scheme.form chain tip members was is (Takes means old chain) (Fits means list chain) (IsOnChain list chain) e fresh whole
      (λ here. subst (λ t. IsRefused means.scheme.form chain.base t e ⊎ IsReadError members was is e) same (refused here))
      (λ n numbered. ap (λ grafts. takes grafts n chain.instance) plain) (λ memory. sym fit ∙ order memory fresh);
}

-- what holds of an answer for each list on a chain
pub ok-tips : {X E : Type 0} (r : Result X E) (S : List Operation → Type 0) (L : Chain → List Operation → Type 0) (Q : X → List Operation → Chain → List Operation → Type 0)
    → ((list : List Operation) (chain : Chain) (tip : List Operation) → S list → L chain tip → IsOnChain list chain → IfOk r (λ x. Q x list chain tip))
    → IfOk r (λ x. (list : List Operation) (chain : Chain) (tip : List Operation) → S list → L chain tip → IsOnChain list chain → Q x list chain tip)
ok-tips (Ok x) S L Q given = given
ok-tips (Err e) S L Q given = tt

-- and of an error for each of a batch
pub err-tips : {X E : Type 0} (r : Result X E) (S : List Operation → Type 0) (L : Chain → List Operation → Type 0) (Q : E → List Operation → Chain → List Operation → Type 0)
    → ((list : List Operation) (chain : Chain) (tip : List Operation) → S list → L chain tip → IfErr r (λ e. Q e list chain tip))
    → IfErr r (λ e. (list : List Operation) (chain : Chain) (tip : List Operation) → S list → L chain tip → Q e list chain tip)
err-tips (Ok x) S L Q given = tt
err-tips (Err e) S L Q given = given

-- a store's count of faults does not fall, whether a call answers or is refused
pub later-after : {X C : Type 0} (members : store.Ghosts C) (inside : X → C) (old : C) (r : Result X (Refusal X C)) → IfOk r (λ x. members.faults old ≤ members.faults (inside x)) → IfErr r (λ e. members.faults old ≤ members.faults (store_given inside e.given))
    → members.faults old ≤ members.faults (store_after inside r)
later-after members inside old (Ok x) ok err = ok
later-after members inside old (Err e) ok err = err

-- three facts of an error at once
pub err-three : {X E : Type 0} (r : Result X E) {P Q R S : E → Type 0} → IfErr r P → IfErr r Q → IfErr r R → ((e : E) → P e → Q e → R e → S e) → IfErr r S
err-three (Ok x) p q r give = tt
err-three (Err e) p q r give = give e p q r

-- two facts of an answer at once
pub ok-both : {X E : Type 0} (r : Result X E) {P Q R : X → Type 0} → IfOk r P → IfOk r Q → ((x : X) → P x → Q x → R x) → IfOk r R
ok-both (Ok x) p q give = give x p q
ok-both (Err e) p q give = tt

-- what a fault tells
pub err-of : {X E : Type 0} (r : Result X E) (x : E) (P : Type 0) → IfErr r (λ e. e ≡ x → P) → IsErrOf r x → P
err-of (Ok v) x P given is = absurd (cc is)
err-of (Err e) x P given is = given (cc is)

-- the error that a call passes on
pub err-exit : {X E : Type 0} (r : Result X E) (y e x : E) → r ≡ Err y → y ≡ e → r ≡ Err x → e ≡ x
err-exit r y e x is from fault = cc (is, from, fault)

-- want of memory is no fault of the store
pub memory-exit : {X : Type 0} (r : Result X Error) (y : Error) → r ≡ Err y → y ≡ errors.Memory → r ≡ Err (errors.Journal journal.Store) → ⊥
memory-exit r y is memory fault = let same : errors.Memory ≡ errors.Journal journal.Store = err-exit r y errors.Memory (errors.Journal journal.Store) is memory fault in absurd (cc same)

-- what reads left is what reads leave
pub left-store : {C D : Type 0} (members : store.Ghosts C) (hash : Hashing D) (old new : Database C D) → IsLeft members hash old new → IsUnchanged members old.log.store new.log.store
left-store members hash old new left = let kept = (left.read).keeps.kept in record { start = kept.start; told = kept.told }

-- an apply that fails and not as stale is for no refusal
pub unapplied-untold : (e : Error) → (e ≡ errors.StaleBatch) ⊎ ((e ≡ errors.Memory) ⊎ (e ≡ errors.Journal journal.Store)) → e ≢ errors.StaleBatch → refusal_of e ≡ None
unapplied-untold e (inl stale) fresh = absurd (fresh stale)
unapplied-untold e (inr (inl memory)) fresh = ap refusal_of memory
unapplied-untold e (inr (inr fault)) fresh = ap refusal_of fault

-- a call that ended before it read left all as it was
module _ {X C B S M : Type 0} (means : meaning.Ghosts X C B S M) (members : store.Ghosts C) (x : X) where
  unread : {T : Type 0} (r : Result T Error) → (IsErrOf r (errors.Journal journal.Store) → ⊥) → ReadsOnly means members x x r
  unread r never = record {
    same = λ list is. is;
    numbered = λ n is. is;
    store = record { start = refl; told = refl };
    faults = record { later = le_refl (members.faults (means.inside x)); failed = λ f. absurd (never f) };
  }

  pub unread-answer : {T : Type 0} (v : T) → ReadsOnly means members x x {A = T} (Ok v)
  unread-answer v = unread (Ok v) (λ e. absurd (cc e))

  pub unread-memory : {T : Type 0} (r : Result T Error) (y : Error) → r ≡ Err y → y ≡ errors.Memory → ReadsOnly means members x x r
  unread-memory r y is memory = unread r (memory-exit r y is memory)

-- what holds of want of memory holds of a call that failed for it
pub err-memory : {X : Type 0} (r : Result X Error) (y : Error) (P : Error → Type 0) → r ≡ Err y → y ≡ errors.Memory → P errors.Memory → IfErr r P
err-memory r y P is memory p = subst (λ r. IfErr r P) (sym (is ∙ ap Err memory)) p

pub memory-not_stale : errors.Memory ≢ errors.StaleBatch
memory-not_stale e = cc

pub memory-failure : {X C B S M : Type 0} (means : meaning.Ghosts X C B S M) (list : List Operation) (chain : Chain) (tip : List Operation) → IsReadFailure means list chain tip errors.Memory
memory-failure means list chain tip = record { stale = λ e. absurd (cc e); refused = λ fresh known. refl; order = λ fresh other. absurd (other refl) }

-- an unordered database offers nothing of an ordered one
pub unoffered : {A : Type 0} (t ordered : Bool) → t ≡ ordered → t ≡ false → ordered ≡ true → A
unoffered t ordered same off on = absurd (false≢true (sym off ∙ same ∙ on))
