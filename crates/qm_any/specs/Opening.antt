-- What comes of opening the list that a store keeps.
use Rattle.std.specs.Prelude.{◌≡◌, ◌≤◌, ◌*◌, ℕ, List, Option, None, Some, IfSome, IsSome, option_map, Result, IfOk, IfErr, OnOk}
use Rattle.qm_model.specs.Causes.{IsCause}
use Rattle.qm_model.specs.Mmb.{log}
use Rattle.qm_model.specs.Opening as model
use Rattle.qm_model.specs.Opening.{size_of}
use Rattle.qm_model.specs.Operations.{Operation}
use Rattle.qm_model.specs.Refused.{Refused}
use Rattle.qm_model.specs.StoreModel.{Stored, Turns}
use Rattle.qm_model.specs.Taken.{IsTaken, selected_size, taken, LeavesOpening}
use Rattle.qm_base.specs.declared.error.Error.TheVariants.{Journal}
use Rattle.qm_base.specs.declared.error.JournalError.TheVariants as journal
use Rattle.qm_store.specs.declared.Store as store
use Rattle.qm_store.specs.declared.refusal.Given.TheVariants.{Store}
use Rattle.qm_store.specs.declared.refusal.Refusal.{Refusal}
use Rattle.qm_store.specs.Given.{store_given, IsUnchanged}
use Rattle.qm_store.specs.Log.{IsKept}
use Rattle.qm_store.specs.Refusals.{refusal_of, IsDue}
use Rattle.qm_offer.specs.Crashing.{FailsOpening}
use Rattle.qm_open.specs.declared.pruned.Pruned.{Pruned}
use Rattle.qm_open.specs.Selecting.{refusal_up_to, refusal_at}
use Rattle.qm_any.specs.Databases.{Database, IsDatabase}
use Rattle.qm_any.specs.Layouts.{Layout}
use Rattle.qm_any.specs.Offered.{scheme_of}

-- the height of the nodes over a chunk of this number of bytes, a power of two: it has a bit for each of 2^height locations
abbrev pub height_of : ℕ → ℕ
height_of chunk = log (8 * chunk)

-- this number of pruned chunks, with the threshold for it
abbrev pub pruned_view : ℕ → ℕ × Option ℕ → Pruned
pruned_view chunk p = record { chunks = p.0; height = height_of chunk; threshold = p.1 }

module _ {C D : Type 0} (members : store.Ghosts C) (layout : Layout D) (digest_size : ℕ) where
  -- What comes of opening a store, of which a list of this size is selected, 0 for the fresh one. The database stands for that list, what the
  -- store has after it is gone, and its bits begin with this number of pruned chunks, if one is told; or the store is refused as is due, and
  -- is as it was; or memory or the store failed. Of a store that tells no items its start and its faults are told.
  pub record Opens (due : Stored → Option Refused) (size : Stored → ℕ) (chunks : Option ℕ) (old : C) (result : Result (Database C D) (Refusal (Database C D) C)) : Type 0 where
    pub opened : IfSome (members.told old) (λ s. (list : List Operation) → IsTaken (scheme_of digest_size layout.hashing) s (size s) list → IfOk result (λ db. IsDatabase members layout db list))
    pub offered : IfSome (members.told old) (λ s. OnOk result (due s ≡ None))
    pub became : IfOk result (λ db. Turns (members.told old) (members.told db.log.store) (λ s new. new ≡ taken (scheme_of digest_size layout.hashing) (size s) s))
    pub pruned : IfOk result (λ db. IfSome chunks (λ n. db.activity.pruned ≡ n))
    pub refused : IfSome (members.told old) (λ s. IfErr result (λ r. IsDue r.error (due s)))
    pub unopened : IfErr result (λ r. IfSome (members.told old) (λ s. IsSome (due s) → IsUnchanged members old (store_given (λ db. db.log.store) r.given)))
    pub left : IfErr result (λ r. Turns (members.told old) (members.told (store_given (λ db. db.log.store) r.given)) (λ s new. LeavesOpening (scheme_of digest_size layout.hashing) (size s) s new))
    pub failed : IfErr result (λ r. Turns (members.told old) (members.told (store_given (λ db. db.log.store) r.given)) (λ s. FailsOpening (scheme_of digest_size layout.hashing) (size s) s))
    pub start : IfOk result (λ db. members.start db.log.store ≡ members.start old)
    pub later : IfOk result (λ db. members.faults old ≤ members.faults db.log.store)
    pub back : IfErr result (λ r. (s : C) × (r.given ≡ Store s) × (members.start s ≡ members.start old) × (IsSome (refusal_of r.error) → IsKept members old s)
        × IsCause (members.faults old) (members.faults s) (r.error ≡ Journal journal.Store))

  -- the same of an opening up to a bound, of which these chunks are pruned
  abbrev pub OpensUpTo : Option Pruned → Option ℕ → C → Result (Database C D) (Refusal (Database C D) C) → Type 0
  OpensUpTo pruned bound old result = Opens (refusal_up_to layout.hashing.form layout.hashing.shape digest_size pruned bound) (selected_size (scheme_of digest_size layout.hashing) bound) (option_map (λ p. p.chunks) pruned) old result

  -- and of one up to a commit that is selected, None in an empty store
  abbrev pub OpensAt : Option model.Selected → ℕ → C → Result (Database C D) (Refusal (Database C D) C) → Type 0
  OpensAt at chunks old result = Opens (refusal_at layout.hashing.form layout.hashing.shape digest_size at) (λ _. size_of at) (Some chunks) old result
