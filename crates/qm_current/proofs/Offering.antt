-- A current database as an offer: what reads leave of it, and what comes of making a list and of taking one.
use Rattle.std.proofs.Common.{◌≡◌, ◌≢◌, ◌∙◌, ◌≤◌, ℕ, suc, true, false, Bool, ◌&&◌, List, ◌++◌, length, Option, None, Some, IfSome, ◌⊎◌, ap, ap₂, sym, subst, refl}
use Rattle.std.specs.Prelude.{◌==◌, ⊤, Result, Ok, Err, IfOk, IfErr}
use Rattle.std.proofs.lemmas.Bool.{eqb-true}
use Rattle.qm_model.specs.Batches.{Chain, IsKnown, IsOnChain, commitment, fits}
use Rattle.qm_model.specs.Opening.{count_in}
use Rattle.qm_model.specs.Operations.{Bytes, Operation}
use Rattle.qm_model.specs.Refusals.{tip_refusal}
use Rattle.qm_model.specs.Refused.{Refused}
use Rattle.qm_model.specs.Schemes.{Grafts, takes}
use Rattle.qm_model.specs.StoreModel.{Stored, metadata_in}
use Rattle.qm_model.specs.Writes.{Write}
use Rattle.qm_model.proofs.Chains.{fits-on_chain}
use Rattle.qm_model.proofs.KeyOrder.{and-true}
use Rattle.qm_base.specs.declared.error.Error.{Error}
use Rattle.qm_base.specs.declared.error.Error.TheVariants as errors
use Rattle.qm_store.specs.declared.Store as store
use Rattle.qm_store.specs.declared.refusal.Given.{Given}
use Rattle.qm_store.specs.declared.refusal.Given.TheVariants as given
use Rattle.qm_store.specs.declared.refusal.Refusal.{Refusal}
use Rattle.qm_store.specs.Log.{Log}
use Rattle.qm_store.specs.Reads.{IsReadError}
use Rattle.qm_store.specs.Refusals.{refusal_of}
use Rattle.qm_any.specs.Databases as anys
use Rattle.qm_any.specs.Layouts.{Hashing, Layout, list_root}
use Rattle.qm_any.specs.Reading.{IsOfKeptItem}
use Rattle.qm_any.specs.Tips.{IsTaken, IsRefused}
use Rattle.qm_any.proofs.Offered.{on-begun, refused-due, taken-offered}
use Rattle.qm_any.proofs.Reading.{left-database}
use Rattle.qm_offer.specs.declared.meaning.Meaning as meaning
use Rattle.qm_offer.specs.Words.{Fits, Makes, Takes}
use Rattle.qm_current.specs.Applying.{any_answer, any_given}
use Rattle.qm_current.specs.Databases.{Begun, Database, Staged, IsBegun, IsCounted, IsDatabase, IsStaged, begun_of}
use Rattle.qm_current.specs.Making.{IsLeft, can_make}
use Rattle.qm_current.specs.Offered.{IsOffered}

module _ {C D : Type 0} (members : store.Ghosts C) (layout : Layout D) (old new : Database C D) (left : IsLeft members layout old new) where
  -- reads leave a store's metadata, and the chunks whose bits are pruned
  pub left-counted : IsCounted members old → IsCounted members new
  left-counted is =
      let any = new.any in
      let counts = λ (told : Option Stored) (n : ℕ). IfSome told (λ s. count_in (metadata_in s.metadata old.name) ≡ n) in
      let told : members.told any.log.store ≡ members.told old.any.log.store = left.any.read.told in
      let pruned : any.activity.pruned ≡ old.any.activity.pruned = ap (λ (d : anys.Database C D). d.activity.pruned) left.any.rest in
      subst (IsCounted members) (sym left.rest) (subst (λ t. counts t any.activity.pruned) (sym told) (subst (counts (members.told old.any.log.store)) (sym pruned) is))

  -- so the database stands for what it stood for
  pub left-offered : (list : List Operation) → IsOffered members layout old list → IsOffered members layout new list
  left-offered list is = record {
    at = subst (λ x. IsDatabase members layout x list) (sym left.rest) (record { any = left-database members layout old.any new.any list left.any is.at.any; canonical = is.at.canonical });
    counted = left-counted is.counted;
    named = ap (λ (d : Database C D). d.name) left.rest ∙ is.named;
  }

none-some : (r : Refused) → None ≡ Some r → ⊥
none-some r is = cc

some-told : (o : Option Refused) (P : Refused → Type 0) → ((r : Refused) → o ≡ Some r → P r) → IfSome o P
some-told None P give = tt
some-told (Some r) P give = give r refl

apart : true ≡ false → ⊥
apart is = cc

-- What comes of a merkleize of a batch of this chain by a database of this instance number, where whether it can be made is said by
-- the instances and by where it fits.
module _ {X C B S M : Type 0} (means : meaning.Ghosts X C B S M) (grafts : Grafts) (grafted : means.scheme.grafts ≡ Some grafts) (old : X) (number : ℕ) (numbers : (n : ℕ) → means.numbered old n → n ≡ number) (list : List Operation) (chain : Chain) (can : Bool)
    (decided : can ≡ ((number == chain.instance) && fits means.scheme.root (commitment means.scheme.root list) chain)) where
  abbrev fit : Bool
  fit = fits means.scheme.root (commitment means.scheme.root list) chain

  both : can ≡ true → ((number == chain.instance) ≡ true) × (fit ≡ true)
  both on = and-true (number == chain.instance) fit (sym decided ∙ on)

  same-number : can ≡ true → number ≡ chain.instance
  same-number on = eqb-true number chain.instance (both on).0

  own-chain : can ≡ true → Takes means old chain
  own-chain on = λ n is.
      subst (λ k. takes means.scheme.grafts k chain.instance ≡ true) (sym (numbers n is)) (subst (λ g. takes g number chain.instance ≡ true) (sym grafted) (both on).0)

  -- a batch of its own instance that is stale is not on the list
  off-own : can ≡ false → (n : ℕ) → means.numbered old n → takes means.scheme.grafts n chain.instance ≡ true → IsOnChain list chain → ⊥
  off-own off n is took on =
      let here : (number == chain.instance) ≡ true = subst (λ k. (k == chain.instance) ≡ true) (numbers n is) (subst (λ g. takes g n chain.instance ≡ true) grafted took) in
      apart (sym (decided ∙ ap (λ b. b && fit) here ∙ fits-on_chain means.scheme.root list chain on) ∙ off)

  pub makes : {D : Type 0} (members : store.Ghosts C) (was is : Log C D) (own tip : List Operation) (pairs evicted : List (Bytes × Bytes)) (r : Result M Error)
      → own ≡ tip
      → pairs ≡ evicted
      → IfOk r (λ _. can ≡ true)
      → (chain.instance ≡ number → IsOnChain list chain → IfOk r (λ b. means.is_merkleized b chain own × (means.evictions b ≡ pairs)))
      → (chain.instance ≡ number → IsOnChain list chain → IfOk r (λ _. IsTaken means.scheme.form chain.base own))
      → (chain.instance ≡ number → IsOnChain list chain → IfErr r (λ e. IsRefused means.scheme.form chain.base own e ⊎ IsReadError members was is e))
      → IfErr r (λ e. e ≡ errors.StaleBatch → can ≡ false)
      → IfErr r (λ e. e ≢ errors.Memory → e ≢ errors.StaleBatch → can ≡ true)
      → (IsOnChain list chain → IfErr r IsOfKeptItem)
      → Makes means members old list chain tip evicted r
  makes members was is own tip pairs evicted (Ok b) same told fitted made taken refused stale order whole = record {
    instance = own-chain fitted;
    fit = (both fitted).1;
    made = λ here. (
      taken-offered means.scheme.form chain tip (subst (λ t. IsTaken means.scheme.form chain.base t) same (taken (sym (same-number fitted)) here)),
      subst (λ t. means.is_merkleized b chain t) same (made (sym (same-number fitted)) here).0,
      (made (sym (same-number fitted)) here).1 ∙ told,
    );
    stale = tt;
    refused = tt;
  }
  makes members was is own tip pairs evicted (Err e) same told fitted made taken refused stale order whole = record {
    instance = tt;
    fit = tt;
    made = tt;
    stale = λ left n numbered took here. off-own (stale left) n numbered took here;
    refused = λ fresh.
        some-told (refusal_of e) (λ r. Takes means old chain × Fits means list chain × (IsOnChain list chain → tip_refusal means.scheme.form chain tip ≡ Some r)) (λ r told.
        let on = order (λ memory. none-some r (sym (ap refusal_of memory) ∙ told)) fresh in
        let due =
        refused-due means.scheme.form chain tip members was is ⊤ ⊤ (IsOnChain list chain) e fresh whole
        (λ here. subst (λ t. IsRefused means.scheme.form chain.base t e ⊎ IsReadError members was is e) same (refused (sym (same-number on)) here)) tt (λ memory. tt)
        in
        let at = subst (λ o. IfSome o (λ x. ⊤ × ⊤ × (IsOnChain list chain → tip_refusal means.scheme.form chain tip ≡ Some x))) told due in
        (own-chain on, (both on).1, at.2));
  }

-- a batch keeps no more than its parent has
pub few-kept : {D : Type 0} (batch : anys.Begun D) (parent : anys.Made D) (keep : ℕ) → batch.parent ≡ parent → batch.keep ≡ keep → keep ≤ suc (length parent.bounds.ancestors) → batch.keep ≤ suc (length batch.parent.bounds.ancestors)
few-kept batch parent keep is kept few = subst (λ (p : anys.Made _). batch.keep ≤ suc (length p.bounds.ancestors)) (sym is) (subst (λ n. n ≤ suc (length parent.bounds.ancestors)) (sym kept) few)

module _ {D : Type 0} (hashing : Hashing D) (chunk : ℕ) where
  -- whether a batch can be made, by its chain
  pub decides : {C : Type 0} (db : Database C D) (batch : Begun D) (list : List Operation) (chain above : Chain) → batch.any.keep ≤ suc (length batch.any.parent.bounds.ancestors) → db.any.commitment ≡ anys.list_commitment hashing list → IsBegun hashing chunk batch chain above
      → can_make db batch ≡ ((db.instance == chain.instance) && fits (list_root hashing) (commitment (list_root hashing) list) chain)
  decides db batch list chain above few is begun =
      ap₂ (λ n b. (db.instance == n) && b) begun.numbered (on-begun hashing list chain above db.any.commitment batch.any few is begun.any)

  -- a staged batch is begun as the batch was that is staged
  pub staged-begun : (batch : Staged D) (chain above : Chain) → IsStaged hashing chunk batch chain above → IsBegun hashing chunk (begun_of batch) chain above
  staged-begun batch chain above is = record { any = is.any.begun; parent = is.parent; numbered = is.numbered }

  -- one that is staged as an any one is, of a batch that is begun
  pub staged-of : (batch : Staged D) (begun : Begun D) (chain above : Chain) → begun_of batch ≡ begun → anys.IsStaged hashing batch.any chain above → IsBegun hashing chunk begun chain above → IsStaged hashing chunk batch chain above
  staged-of batch begun chain above same staged is =
      let of = subst (λ b. IsBegun hashing chunk b chain above) (sym same) is in record { any = staged; parent = of.parent; numbered = of.numbered }

  -- a batch that is staged, and one that gets more keys, over a database that may be known to stand for more
  pub begun-staged : {X E : Type 0} (r : Result (X × Staged D) E) (S T : List Operation → Type 0) (begun : Begun D) (keys : List Bytes) (Q : X → List Operation → List Write → Type 0) → ((list : List Operation) → T list → S list)
      → ((list : List Operation) (chain above : Chain) → S list → anys.IsBegun hashing begun.any chain above → IsKnown list above chain.base → IfOk r (λ x. Q x.0 chain.base begun.any.writes))
      → ((list : List Operation) (chain above : Chain) → S list → anys.IsBegun hashing begun.any chain above → IsKnown list above chain.base → IfOk r (λ x. anys.IsStaged hashing (x.1).any chain above))
      → IfOk r (λ x. begun_of x.1 ≡ begun) → IfOk r (λ x. anys.staged_keys (x.1).any ≡ keys)
      → IfOk r (λ x. (list : List Operation) (chain above : Chain) (ws : List Write) → T list → IsBegun hashing chunk begun chain above × (begun.any.writes ≡ ws) → IsKnown list above chain.base
      → Q x.0 chain.base ws × (IsStaged hashing chunk x.1 chain above × ((x.1).any.batch.writes ≡ ws) × (anys.staged_keys (x.1).any ≡ keys)))
  begun-staged (Ok x) S T begun keys Q from values staged same are = λ list chain above ws is batch known. (
    subst (Q x.0 chain.base) batch.1 (values list chain above (from list is) batch.0.any known),
    (
      staged-of x.1 begun chain above same (staged list chain above (from list is) batch.0.any known) batch.0,
      ap (λ (b : Begun D). b.any.writes) same ∙ batch.1,
      are,
    ),
  )
  begun-staged (Err e) S T begun keys Q from values staged same are = tt

  pub more-staged : {R X E : Type 0} (r : Result (R × X × Staged D) E) (S T : List Operation → Type 0) (before : Staged D) (keys : List Bytes) (Q : X → List Operation → List Write → Type 0) → ((list : List Operation) → T list → S list)
      → ((list : List Operation) (chain above : Chain) → S list → anys.IsStaged hashing before.any chain above → IsKnown list above chain.base → IfOk r (λ x. Q x.1 chain.base before.any.batch.writes))
      → ((list : List Operation) (chain above : Chain) → S list → anys.IsStaged hashing before.any chain above → IsKnown list above chain.base → IfOk r (λ x. anys.IsStaged hashing (x.2).any chain above))
      → IfOk r (λ x. begun_of x.2 ≡ begun_of before) → IfOk r (λ x. anys.staged_keys (x.2).any ≡ anys.staged_keys before.any ++ keys)
      → IfOk r (λ x. (list : List Operation) (chain above : Chain) (ws : List Write) (staged : List Bytes) → T list → IsStaged hashing chunk before chain above × (before.any.batch.writes ≡ ws) × (anys.staged_keys before.any ≡ staged) → IsKnown list above chain.base
      → Q x.1 chain.base ws × (IsStaged hashing chunk x.2 chain above × ((x.2).any.batch.writes ≡ ws) × (anys.staged_keys (x.2).any ≡ staged ++ keys)))
  more-staged (Ok x) S T before keys Q from values staged same are = λ list chain above ws own is batch known. (
    subst (Q x.1 chain.base) batch.1 (values list chain above (from list is) batch.0.any known),
    (
      staged-of x.2 (begun_of before) chain above same (staged list chain above (from list is) batch.0.any known) (staged-begun before chain above batch.0),
      ap (λ (b : Begun D). b.any.writes) same ∙ batch.1,
      are ∙ ap (λ ks. ks ++ keys) batch.2,
    ),
  )
  more-staged (Err e) S T before keys Q from values staged same are = tt

-- what a call answered that takes the database by value
abbrev Answer : Type 0 → Type 0 → Type 0
Answer C D = Result (Database C D) (Refusal (Database C D) C)

module _ {C D : Type 0} where
  -- what is said of the any database of an answer
  pub answered-ok : (r : Answer C D) (P : anys.Database C D → Type 0) → IfOk (any_answer r) P → IfOk r (λ x. P x.any)
  answered-ok (Ok x) P p = p
  answered-ok (Err e) P p = tt

  -- and of a refusal
  pub answered-err : (r : Answer C D) (P : Refusal (anys.Database C D) C → Type 0) → IfErr (any_answer r) P → IfErr r (λ e. P (record { given = any_given e.given; error = e.error }))
  answered-err (Ok x) P p = tt
  answered-err (Err e) P p = p

  -- a database is given back if its any one is, if none but it is
  pub given-same : (g : Given (Database C D) C) (any : anys.Database C D) (old : Database C D) → any_given g ≡ given.Database any → ((x : Database C D) → g ≡ given.Database x → x ≡ old) → g ≡ given.Database old
  given-same (given.Database x) any old is back = ap given.Database (back x refl)
  given-same (given.Store s) any old is back = absurd (cc is)

-- what holds of an answer for each list of a batch
pub made-each : {X E : Type 0} (r : Result X E) (L : Chain → List Operation → Type 0) (Q : X → Chain → List Operation → Type 0) → ((chain : Chain) (tip : List Operation) → L chain tip → IfOk r (λ x. Q x chain tip))
    → IfOk r (λ x. (chain : Chain) (tip : List Operation) → L chain tip → Q x chain tip)
made-each (Ok x) L Q given = given
made-each (Err e) L Q given = tt
