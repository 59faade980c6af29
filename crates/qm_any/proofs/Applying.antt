-- What a database gives back that takes a batch's list, and that of a batch that cannot be applied.
use Rattle.std.proofs.Common.{◌≡◌, ◌⊎◌, ℕ, inl, inr, arith}
use Rattle.std.specs.Prelude.{Result, Ok, Err, IfOk, IfErr}
use Rattle.qm_model.specs.Causes.{IsCause}
use Rattle.qm_base.specs.declared.error.Error.{Error}
use Rattle.qm_base.specs.declared.error.Error.TheVariants as errors
use Rattle.qm_base.specs.declared.error.JournalError.TheVariants as journal
use Rattle.qm_store.specs.declared.refusal.Refusal.{Refusal}
use Rattle.qm_store.specs.Given.{store_given, store_after}

-- what holds of the store of a database and of the store that is given back holds of the one that is there afterwards
pub after-both : {X C : Type 0} (inside : X → C) (r : Result X (Refusal X C)) (P : C → Type 0) → IfOk r (λ x. P (inside x)) → IfErr r (λ e. P (store_given inside e.given)) → P (store_after inside r)
after-both inside (Ok x) P p q = p
after-both inside (Err e) P p q = q

-- what is told of an error by four clauses
pub err-four : {X E : Type 0} {P Q R T S : E → Type 0} (r : Result X E) → IfErr r P → IfErr r Q → IfErr r R → IfErr r T → ((e : E) → P e → Q e → R e → T e → S e) → IfErr r S
err-four (Ok x) p q s t join = tt
err-four (Err e) p q s t join = join e p q s t

module _ {P : Type 0} (e : Error) (why : (e ≡ errors.Memory) ⊎ ((e ≡ errors.StaleBatch) × P)) where
  -- what a stale batch tells
  pub stale-told : e ≡ errors.StaleBatch → P
  stale-told stale = by why
    where
      by : (e ≡ errors.Memory) ⊎ ((e ≡ errors.StaleBatch) × P) → P
      by (inl memory) = absurd (cc (memory, stale))
      by (inr told) = told.1

  pub stale-or : (e ≡ errors.StaleBatch) ⊎ (e ≡ errors.Memory)
  stale-or = by why
    where
      by : (e ≡ errors.Memory) ⊎ ((e ≡ errors.StaleBatch) × P) → (e ≡ errors.StaleBatch) ⊎ (e ≡ errors.Memory)
      by (inl memory) = inr memory
      by (inr told) = inl told.0

  pub stale-causes : (e ≡ errors.StaleBatch) ⊎ ((e ≡ errors.Memory) ⊎ (e ≡ errors.Journal journal.Store))
  stale-causes = by why
    where
      by : (e ≡ errors.Memory) ⊎ ((e ≡ errors.StaleBatch) × P) → (e ≡ errors.StaleBatch) ⊎ ((e ≡ errors.Memory) ⊎ (e ≡ errors.Journal journal.Store))
      by (inl memory) = inr (inl memory)
      by (inr told) = inl told.0

  pub stale-cause : (n : ℕ) → IsCause n n (e ≡ errors.Journal journal.Store)
  stale-cause n = record { later = omega arith; failed = by why }
    where
      by : (e ≡ errors.Memory) ⊎ ((e ≡ errors.StaleBatch) × P) → {X : Type 0} → e ≡ errors.Journal journal.Store → X
      by (inl memory) fault = absurd (cc (memory, fault))
      by (inr told) fault = absurd (cc (told.0, fault))

-- want of memory and a store's fault tell of no stale batch
pub never-stale : {X : Type 0} (e : Error) → (e ≡ errors.Memory) ⊎ (e ≡ errors.Journal journal.Store) → e ≡ errors.StaleBatch → X
never-stale e (inl memory) stale = absurd (cc (memory, stale))
never-stale e (inr fault) stale = absurd (cc (fault, stale))
