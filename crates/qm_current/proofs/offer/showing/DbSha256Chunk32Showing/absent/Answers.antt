use Rattle.std.proofs.Common.{◌≡◌, Some, None, IfSome}
use Rattle.std.specs.Prelude.{if◌then◌else◌, option_map}
use Rattle.qm_model.specs.Checks.{absent_check}
use Rattle.qm_model.specs.Live.{live, live_of}
use Rattle.qm_model.specs.Refusals.{existing_refusal}
use Rattle.qm_model.proofs.Results.{err-each, err-then, ok-each}
use Rattle.qm_base.specs.declared.error.Error.TheVariants as errors
use Rattle.qm_base.specs.declared.error.JournalError.TheVariants as journal
use Rattle.qm_graft.specs.Grafting.{grafting}
use Rattle.qm_store.specs.Refusals.{IsDue}
use Rattle.qm_any.specs.Offered.{sha256_layout}
use Rattle.qm_any.proofs.Offered as offers
use Rattle.sha2.specs.Sha256.{sha256}
use Rattle.qm_current.specs.Offered.{IsOffered, absences_of}
use Rattle.qm_current.proofs.Offering.{left-offered}
use Rattle.qm_current.proofs.ReadingOffered.{left-numbered, left-store}
use Rattle.qm_current.proofs.ShowingOffered.{err-if, ok-if}
use Rattle.qm_current.proofs.offer.showing.DbSha256Chunk32Showing.absent.Goals as goal

pub returns : goal.returns
returns g c =
    let form = g.U.Update.form in
    let layout = sha256_layout g.F.Family.shape 32 form g.I.Unordered.index_key in
    let key = g.U.Key.ByteString.bytes c.args.key.now in
    let check = absent_check sha256 g.F.Family.shape (grafting 32) form in
    let left = c.absent.ensures.left in
    let caused = c.absent.ensures.caused in
    let old = c.args.self.now in
    let new = c.absent.new.db in
    let r = c.absent.result in
    record {
      shown = ok-each (IsOffered g.C.Store layout old) (λ list v. v ≡ option_map (λ check. check list key) (absences_of sha256 g.F.Family.shape (grafting 32) form)) r (λ list is. c.absent.ensures.shown list is.at);
      absent = ok-each (IsOffered g.C.Store layout old) (λ list v. IfSome (if form.ordered then Some check else None) (λ check. live_of (live list) key ≡ None)) r
          (λ list is. ok-if form.ordered check r (λ check v. live_of (live list) key ≡ None) (λ ordered. c.absent.ensures.absent ordered list is.at));
      refused = err-each (IsOffered g.C.Store layout old) (λ list e. IfSome (if form.ordered then Some check else None) (λ check. IsDue e (existing_refusal (live_of (live list) key)))) r
          (λ list is. err-if form.ordered check r (λ e. IsDue e (existing_refusal (live_of (live list) key))) (λ ordered. c.absent.ensures.refused ordered list is.at));
      reads = record {
        same = λ list is. left-offered g.C.Store layout old new left list is;
        numbered = λ n is. left-numbered g.C.Store layout old new left n is;
        store = left-store g.C.Store layout old new left;
        faults = record { later = left.any.read.keeps.later; failed = offers.err-of r (errors.Journal journal.Store) _ (err-then r caused (λ e why. why.cause)) };
      };
      never = err-then r caused (λ e why. why.fresh);
    }
