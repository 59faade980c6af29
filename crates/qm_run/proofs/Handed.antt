-- What a refused call of the database inside gives back.
use Rattle.std.proofs.Common.{◌≡◌, ◌∙◌, ℕ, Option, ap, subst, sym, Err}
use Rattle.qm_store.specs.declared.Store as store
use Rattle.qm_store.specs.declared.refusal.Given.{Given}
use Rattle.qm_store.specs.declared.refusal.Given.TheVariants.{Database, Store}
use Rattle.qm_store.specs.declared.refusal.Refusal.{Refusal}
use Rattle.qm_offer.specs.declared.meaning.Meaning as meaning
use Rattle.qm_offer.specs.Words.{Applies, Opens, IsUnpruned}

-- the database that is given back, or another one
abbrev database-or : {X C : Type 0} → Given X C → X → X
database-or (Database x) other = x
database-or (Store s) other = other

-- and the store
abbrev store-or : {X C : Type 0} → Given X C → C → C
store-or (Database x) other = other
store-or (Store s) other = s

pub database-same : {X C : Type 0} (a b : X) (given : Given X C) → given ≡ Database a → given ≡ Database b → a ≡ b
database-same a b given first second = ap (λ g. database-or g a) (sym first) ∙ ap (λ g. database-or g a) second

pub store-same : {X C : Type 0} (a b : C) (given : Given X C) → given ≡ Store a → given ≡ Store b → a ≡ b
store-same a b given first second = ap (λ g. store-or g a) (sym first) ∙ ap (λ g. store-or g a) second

pub not-both : {X C : Type 0} (x : X) (s : C) (given : Given X C) → given ≡ Database x → given ≡ Store s → ⊥
not-both {X = X} {C = C} x s given first second = by given first second
  where
    by : (given : Given X C) → given ≡ Database x → given ≡ Store s → ⊥
    by (Database y) first second = absurd (cc second)
    by (Store t) first second = absurd (cc first)

module _ {X C B S M : Type 0} (means : meaning.Ghosts X C B S M) (members : store.Ghosts C) (refusal : Refusal X C) (given : Given X C) (is : refusal.given ≡ given) where
  -- a refusal with what it gives back told
  abbrev told : Refusal X C
  told = record { given = given; error = refusal.error }

  pub applies-told : (old : X) (batch : M) → Applies means members old batch (Err refusal) → Applies means members old batch (Err told)
  applies-told old batch a = subst (λ g. Applies means members old batch (Err (record { given = g; error = refusal.error }))) is a

  pub opens-told : (old : C) (bound : Option ℕ) (number : ℕ) → Opens means members old bound number (Err refusal) → Opens means members old bound number (Err told)
  opens-told old bound number a = subst (λ g. Opens means members old bound number (Err (record { given = g; error = refusal.error }))) is a

  pub unpruned-told : (to : ℕ) (old : X) → IsUnpruned means members to old refusal → IsUnpruned means members to old told
  unpruned-told to old a = subst (λ g. IsUnpruned means members to old (record { given = g; error = refusal.error })) is a
