-- What an opening gives back if one of its calls refused, and what the other clauses say there.
use Rattle.std.proofs.Common.{◌≡◌, ◌⊎◌, inl, inr, Option, refl, subst}
use Rattle.std.specs.Prelude.{IsSome}
use Rattle.qm_model.specs.Causes.{IsCause}
use Rattle.qm_model.specs.Refused.{Refused}
use Rattle.qm_base.specs.declared.error.Error.{Error}
use Rattle.qm_base.specs.declared.error.Error.TheVariants as errors
use Rattle.qm_base.specs.declared.error.JournalError.TheVariants as journal
use Rattle.qm_base.specs.declared.error.Corrupt.TheVariants as corrupt
use Rattle.qm_store.specs.declared.Store as store
use Rattle.qm_store.specs.declared.refusal.Given.{Given}
use Rattle.qm_store.specs.declared.refusal.Given.TheVariants as variants
use Rattle.qm_store.specs.Given.{store_given}
use Rattle.qm_store.specs.Log.{IsKept}
use Rattle.qm_store.specs.Refusals.{refusal_of, IsDue}

-- want of memory and a store's fault are due whatever is
pub plain-due : (e : Error) (due : Option Refused) → (e ≡ errors.Memory) ⊎ (e ≡ errors.Journal journal.Store) → IsDue e due
plain-due e due (inl memory) = rw memory tt
plain-due e due (inr fault) = rw fault tt

-- they refuse for no reason
pub plain-refusal : {X : Type 0} (e : Error) → (e ≡ errors.Memory) ⊎ (e ≡ errors.Journal journal.Store) → IsSome (refusal_of e) → X
plain-refusal e (inl memory) some = let none = rw memory at some in absurd (cc none)
plain-refusal e (inr fault) some = let none = rw fault at some in absurd (cc none)

-- what a refused opening gives back of which no database stands
pub fresh-back : {C X : Type 0} (members : store.Ghosts C) (inside : X → C) (old : C) (given : Given X C) (e : Error) → ((x : X) → given ≡ variants.Database x → ⊥) → members.start (store_given inside given) ≡ members.start old
    → (e ≡ errors.Memory) ⊎ ((e ≡ errors.Journal journal.Store) ⊎ (e ≡ errors.DataCorrupted corrupt.HeadDoesNotMatch)) → (e ≡ errors.DataCorrupted corrupt.HeadDoesNotMatch → (s : C) × (given ≡ variants.Store s) × IsKept members old s)
    → IsCause (members.faults old) (members.faults (store_given inside given)) (e ≡ errors.Journal journal.Store)
    → (s : C) × (given ≡ variants.Store s) × (members.start s ≡ members.start old) × (IsSome (refusal_of e) → IsKept members old s) × IsCause (members.faults old) (members.faults s) (e ≡ errors.Journal journal.Store)
fresh-back members inside old (variants.Database x) e none start causes head cause = absurd (none x refl)
fresh-back {C} members inside old (variants.Store s) e none start causes head cause = (s, refl, start, kept causes, cause)
  where
    kept : (e ≡ errors.Memory) ⊎ ((e ≡ errors.Journal journal.Store) ⊎ (e ≡ errors.DataCorrupted corrupt.HeadDoesNotMatch)) → IsSome (refusal_of e) → IsKept members old s
    kept (inl memory) some = plain-refusal e (inl memory) some
    kept (inr (inl fault)) some = plain-refusal e (inr fault) some
    kept (inr (inr damaged)) some =
        let back = head damaged in
        let same : back.0 ≡ s = cc back.1 in
        subst (IsKept members old) same back.2
