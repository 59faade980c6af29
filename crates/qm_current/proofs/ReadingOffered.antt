-- What reads of a current database say as an offer, by what they say of the any database within.
use Rattle.std.proofs.Common.{◌≡◌, ◌≢◌, ◌∙◌, ℕ, List, true, None, ap, sym}
use Rattle.std.specs.Prelude.{Result, IfOk, IfErr, IsErrOf}
use Rattle.qm_model.specs.Operations.{Operation}
use Rattle.qm_model.specs.Batches.{Chain, commitment, readable}
use Rattle.qm_model.specs.Causes.{IsCause}
use Rattle.qm_model.proofs.Results.{err-both, err-then, ok-each, ok-then}
use Rattle.qm_base.specs.declared.error.Error.{Error}
use Rattle.qm_base.specs.declared.error.Error.TheVariants as errors
use Rattle.qm_base.specs.declared.error.JournalError.TheVariants as journal
use Rattle.qm_chain.specs.Bounds.{Bounds, IsBounds, knows}
use Rattle.qm_store.specs.declared.Store as store
use Rattle.qm_store.specs.Given.{IsUnchanged}
use Rattle.qm_store.specs.Refusals.{refusal_of}
use Rattle.qm_any.specs.Databases as anys
use Rattle.qm_any.specs.Layouts.{Layout, list_root}
use Rattle.qm_any.specs.Reading.{Reads, ReadsThrough}
use Rattle.qm_any.proofs.Offered as offers
use Rattle.qm_offer.specs.declared.meaning.Meaning as meaning
use Rattle.qm_offer.specs.Words.{IsReadFailure}
use Rattle.qm_current.specs.Databases.{Database}
use Rattle.qm_current.specs.Making.{IsLeft}
use Rattle.qm_current.specs.Offered.{IsOffered}

module _ {C D : Type 0} (members : store.Ghosts C) (layout : Layout D) (old new : Database C D) where
  -- a call that reads the any database within, and changes nothing beside it, reads the database
  pub left-by : anys.IsLeft members layout.hashing old.any new.any → new ≡ record old { any = new.any } → IsLeft members layout old new
  left-by any rest = record { any = any; rest = rest }

  -- reads leave the number of the instance
  pub left-numbered : IsLeft members layout old new → (n : ℕ) → old.instance ≡ n → new.instance ≡ n
  left-numbered left n is = ap (λ (d : Database C D). d.instance) left.rest ∙ is

  -- and the store
  pub left-store : IsLeft members layout old new → IsUnchanged members old.any.log.store new.any.log.store
  left-store left = offers.left-store members layout.hashing old.any new.any left.any

  module _ {T : Type 0} (r : Result T Error) where
    -- what a read found on each list that the any database stands for it found on each of the database
    pub found : (P : List Operation → T → Type 0) → ((list : List Operation) → anys.IsDatabase members layout old.any list → IfOk r (P list))
        → IfOk r (λ v. (list : List Operation) → IsOffered members layout old list → P list v)
    found P given = ok-each (IsOffered members layout old) P r (λ list is. given list is.at.any)

    module _ (reads : Reads members layout old.any new.any r) where
      -- a fault of the store is one by which its count rose
      pub read-cause : IsCause (members.faults old.any.log.store) (members.faults new.any.log.store) (IsErrOf r (errors.Journal journal.Store))
      read-cause = record {
        later = reads.left.read.keeps.later;
        failed = offers.err-of r (errors.Journal journal.Store) _ (err-then r reads.error (λ e why. offers.log-rose members old.any.log new.any.log e why));
      }

      -- a read is not refused as a stale batch
      pub read-never : IfErr r (λ e. e ≢ errors.StaleBatch)
      read-never = err-then r reads.error (λ e why. offers.log-kept members old.any.log new.any.log e why)

      -- and for no refusal of a database that stands
      pub read-untold : IfErr r (λ e. (list : List Operation) → IsOffered members layout old list → refusal_of e ≡ None)
      read-untold =
          err-then r (offers.read-untold members layout old.any new.any.log r reads.error reads.whole)
          (λ e told list is. told list is.at.any)

    module _ (bounds : Bounds) (reads : ReadsThrough members layout old.any new.any r bounds) where
      -- the same of a read through a batch
      pub through-cause : IsCause (members.faults old.any.log.store) (members.faults new.any.log.store) (IsErrOf r (errors.Journal journal.Store))
      through-cause = record {
        later = reads.left.read.keeps.later;
        failed = offers.err-of r (errors.Journal journal.Store) _ (err-then r reads.error (λ e why. offers.rose-read members old.any.log new.any.log (knows bounds old.any.commitment) e why));
      }

      pub through-never : IfErr r (λ e. e ≢ errors.StaleBatch)
      through-never = err-then r reads.error (λ e why. offers.never-read members old.any.log new.any.log (knows bounds old.any.commitment) e why)

      -- one that answers can be read
      pub through-readable : IfOk r (λ _. (list : List Operation) (chain : Chain) (tip : List Operation) → IsOffered members layout old list → IsBounds (list_root layout.hashing) bounds chain tip
          → readable (list_root layout.hashing) (commitment (list_root layout.hashing) list) chain tip ≡ true)
      through-readable = ok-then r reads.readable (λ v can list chain tip is of.
          sym (offers.knows-readable layout.hashing list chain tip old.any.commitment bounds is.at.any.commitment of) ∙ can)

      -- and one that does not fails as reads through a batch do
      pub through-failure : {X B S M : Type 0} (means : meaning.Ghosts X C B S M)
          → ((list : List Operation) (chain : Chain) (tip : List Operation) → readable (list_root layout.hashing) (commitment (list_root layout.hashing) list) chain tip ≡ readable means.scheme.root (commitment means.scheme.root list) chain tip)
          → IfErr r (λ e. (list : List Operation) (chain : Chain) (tip : List Operation) → IsOffered members layout old list → IsBounds (list_root layout.hashing) bounds chain tip
          → IsReadFailure means list chain tip e)
      through-failure means same =
          err-both r reads.error (offers.kept-items members layout old.any r reads.whole)
          (λ e why kept list chain tip is of. offers.read-failure members old.any.log new.any.log (knows bounds old.any.commitment) e means list chain tip
          (offers.knows-readable layout.hashing list chain tip old.any.commitment bounds is.at.any.commitment of ∙ same list chain tip) (kept list is.at.any) why)
