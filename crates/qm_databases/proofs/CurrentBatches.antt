-- What reads leave of a current database.
use Rattle.std.proofs.Common.{◌≡◌, ◌∙◌, ◌&&◌, ◌++◌, ◌∷◌, ℕ, Bool, true, false, ap, subst, sym, List, [], None}
use Rattle.std.specs.Prelude.{◌==◌, Result, IfErr}
use Rattle.std.proofs.lemmas.Bool.{eqb-true}
use Rattle.qm_model.specs.Batches.{Chain, IsOnChain, commitment, fits}
use Rattle.qm_model.proofs.Chains.{fits-on_chain}
use Rattle.qm_model.proofs.KeyOrder.{and-true}
use Rattle.qm_model.specs.Operations.{Bytes, Operation}
use Rattle.qm_model.specs.Writes.{Write}
use Rattle.qm_model.proofs.Results.{err-both, err-then}
use Rattle.qm_base.specs.declared.error.Error.{Error}
use Rattle.qm_base.specs.declared.error.Error.TheVariants.{Journal}
use Rattle.qm_base.specs.declared.error.JournalError.TheVariants.{Store}
use Rattle.qm_store.specs.declared.Store as store
use Rattle.qm_store.specs.Refusals.{refusal_of}
use Rattle.qm_any.specs.Databases as anys
use Rattle.qm_any.specs.Layouts.{Hashing, Layout}
use Rattle.qm_any.specs.Reading.{Reads}
use Rattle.qm_any.proofs.Offered.{err-of, left-store, log-rose, log-untold}
use Rattle.qm_any.proofs.Reading.{left-database}
use Rattle.qm_current.specs.Databases.{Begun, Database, IsDatabase}
use Rattle.qm_roots.specs.Kept.{Kept}
use Rattle.qm_databases.specs.Current.{IsBatch, current_means}
use Rattle.qm_databases.specs.Words.{ReadsOnly}

module _ {C D : Type 0} (members : store.Ghosts C) (layout : Layout D) (old new : Database C D) (rest : new ≡ record old { any = new.any }) where
  -- it stands for what it stood for
  pub left-current : anys.IsLeft members layout.hashing old.any new.any → (list : List Operation) → IsDatabase members layout old list → IsDatabase members layout new list
  left-current left list is = subst (λ x. IsDatabase members layout x list) (sym rest) (record { any = left-database members layout old.any new.any list left is.any; canonical = is.canonical })

  module _ {A : Type 0} (r : Result A Error) (reads : Reads members layout old.any new.any r) where
    pub reads-only : ReadsOnly (current_means members layout) members old new r
    reads-only = record {
      same = left-current reads.left;
      numbered = λ n is. ap (λ (d : Database C D). d.instance) rest ∙ is;
      store = left-store members layout.hashing old.any new.any reads.left;
      faults = record {
        later = (reads.left).read.keeps.later;
        failed = err-of r (Journal Store) _ (err-then r reads.error (λ e why fault. log-rose members old.any.log new.any.log e why fault));
      };
    }

    -- and tells no refusal
    pub reads-untold : (list : List Operation) → IsDatabase members layout old list → IfErr r (λ e. refusal_of e ≡ None)
    reads-untold list is = err-both r reads.error (reads.whole list is.any) (λ e why kept. log-untold members old.any.log new.any.log e kept why)

-- a batch of its parts
abbrev of : {D : Type 0} → anys.Begun D → Kept D → ℕ → Begun D
of any parent instance = record { any = any; parent = parent; instance = instance }

of-parts : {D : Type 0} (batch : Begun D) (any : anys.Begun D) (parent : Kept D) (instance : ℕ) → batch.any ≡ any → batch.parent ≡ parent → batch.instance ≡ instance → batch ≡ of any parent instance
of-parts batch any parent instance same above number =
    ap (λ a. of a batch.parent batch.instance) same ∙ ap (λ p. of any p batch.instance) above ∙ ap (of any parent) number

-- a batch with one more write is of the same chain
pub wrote : {D : Type 0} (hashing : Hashing D) (chunk : ℕ) (old new : Begun D) (chain above : Chain) (ws : List Write) (more : Write)
    → new.any ≡ record old.any { writes = old.any.writes ++ more ∷ [] } → new.parent ≡ old.parent → new.instance ≡ old.instance → IsBatch hashing chunk old chain above ws → IsBatch hashing chunk new chain above (ws ++ more ∷ [])
wrote hashing chunk old new chain above ws more any parent instance is =
    subst (λ b. IsBatch hashing chunk b chain above (ws ++ more ∷ [])) (sym (of-parts new (record old.any { writes = old.any.writes ++ more ∷ [] }) old.parent old.instance any parent instance))
    (record {
      begun = record { any = record { parent = is.begun.any.parent; kept = is.begun.any.kept }; parent = is.begun.parent; numbered = is.begun.numbered };
      writes = ap (λ w. w ++ more ∷ []) is.writes;
      few = is.few;
    })

apart : true ≡ false → ⊥
apart is = cc

-- Whether a batch of this chain is made by a database of this instance, at this list.
module _ (root : List Operation → Bytes) (own : ℕ) (list : List Operation) (chain : Chain) (can : Bool) (decided : can ≡ ((own == chain.instance) && fits root (commitment root list) chain)) where
  -- then it began on that instance
  pub own-instance : can ≡ true → (chain.instance ≡ own) × ((own == chain.instance) ≡ true)
  own-instance on =
      let same = (and-true (own == chain.instance) (fits root (commitment root list) chain) (sym decided ∙ on)).0 in (sym (eqb-true own chain.instance same), same)

  -- and fits the list
  pub on-list : can ≡ true → fits root (commitment root list) chain ≡ true
  on-list on = (and-true (own == chain.instance) (fits root (commitment root list) chain) (sym decided ∙ on)).1

  -- else, if it began on that instance, the list is not on its chain
  pub off-own : can ≡ false → (own == chain.instance) ≡ true → IsOnChain list chain → ⊥
  off-own off same here = apart (sym (decided ∙ ap (λ b. b && fits root (commitment root list) chain) same ∙ fits-on_chain root list chain here) ∙ off)
