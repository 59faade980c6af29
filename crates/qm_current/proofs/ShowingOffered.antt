-- What a current database shows, as an offer says it.
use Rattle.std.proofs.Common.{◌≡◌, ◌∙◌, ℕ, Bool, true, false, List, Option, None, Some, IfSome, ap, sym, subst, refl}
use Rattle.std.specs.Prelude.{is_some, if◌then◌else◌, Result, Ok, Err, IfOk, IfErr}
use Rattle.qm_model.specs.Opening.{count_in}
use Rattle.qm_model.specs.Operations.{Operation}
use Rattle.qm_model.specs.StoreModel.{Stored, metadata_in}
use Rattle.qm_store.specs.declared.Store as store
use Rattle.qm_any.specs.Layouts.{Layout}
use Rattle.qm_current.specs.Databases.{Database}
use Rattle.qm_current.specs.Offered.{IsOffered, offered_name}

-- what is so of the chunks whose bits are pruned is so of those that metadata counts
pub counted-at : {C D : Type 0} (members : store.Ghosts C) (layout : Layout D) (db : Database C D) (list : List Operation) → IsOffered members layout db list → (P : ℕ → Type 0) → P db.any.activity.pruned
    → IfSome (members.told db.any.log.store) (λ s. P (count_in (metadata_in s.metadata offered_name)))
counted-at members layout db list is P p = by (members.told db.any.log.store) is.counted
  where
    by : (o : Option Stored) → IfSome o (λ s. count_in (metadata_in s.metadata db.name) ≡ db.any.activity.pruned) → IfSome o (λ s. P (count_in (metadata_in s.metadata offered_name)))
    by None counts = tt
    by (Some s) counts = subst P (sym counts ∙ ap (λ n. count_in (metadata_in s.metadata n)) is.named) p

-- there is a check of absences where there is to be one
pub is-some-if : {A : Type 0} (b : Bool) (x : A) → is_some (if b then Some x else None) ≡ b
is-some-if true x = refl
is-some-if false x = refl

-- what is said of what comes of a check, if there is one
pub ok-if : {A X E : Type 0} (b : Bool) (x : A) (r : Result X E) (P : A → X → Type 0) → (b ≡ true → IfOk r (P x)) → IfOk r (λ v. IfSome (if b then Some x else None) (λ a. P a v))
ok-if true x r P given = given refl
ok-if false x (Ok v) P given = tt
ok-if false x (Err e) P given = tt

-- and of why it fails
pub err-if : {A X E : Type 0} (b : Bool) (x : A) (r : Result X E) (P : E → Type 0) → (b ≡ true → IfErr r P) → IfErr r (λ e. IfSome (if b then Some x else None) (λ a. P e))
err-if true x r P given = given refl
err-if false x (Ok v) P given = tt
err-if false x (Err e) P given = tt
