-- What an error of a call refuses.
use Rattle.std.specs.Prelude.{◌≡◌, List, Contains, Option, None, Some, IfSome, option_map}
use Rattle.qm_model.specs.Refused as refusals
use Rattle.qm_base.specs.declared.error.JournalError.{JournalError}
use Rattle.qm_base.specs.declared.error.JournalError.TheVariants as journal
use Rattle.qm_base.specs.declared.error.Error.{Error}
use Rattle.qm_base.specs.declared.error.Error.TheVariants as errors
use Rattle.qm_base.specs.Views.{corrupt_view, tree_view}

-- why a log refused, if its store did not fail
abbrev pub log_refusal : JournalError → Option refusals.LogRefused
log_refusal journal.Store = None
log_refusal (journal.ItemPruned n) = Some (refusals.ItemPruned n)
log_refusal (journal.ItemTooLarge n) = Some (refusals.ItemTooLarge n)

-- why a call refused, if it is not for want of memory or a failing store
abbrev pub refusal_of : Error → Option refusals.Refused
refusal_of errors.Memory = None
refusal_of errors.InvalidInitializationBound = Some refusals.InvalidInitializationBound
refusal_of errors.StaleBatch = Some refusals.StaleBatch
refusal_of errors.StaleRead = Some refusals.StaleRead
refusal_of errors.KeyNotFound = Some refusals.KeyNotFound
refusal_of errors.KeyExists = Some refusals.KeyExists
refusal_of (errors.OperationPruned n) = Some (refusals.OperationPruned n)
refusal_of (errors.PruneBeyondMinRequired p m) = Some (refusals.PruneBeyondMinRequired p m)
refusal_of (errors.HistoricalFloorPruned n) = Some (refusals.HistoricalFloorPruned n)
refusal_of (errors.DataCorrupted c) = Some (refusals.DataCorrupted (corrupt_view c))
refusal_of (errors.Merkle e) = Some (refusals.Merkle (tree_view e))
refusal_of (errors.Journal e) = option_map refusals.Journal (log_refusal e)

-- an error refuses for no other reason than is due
abbrev pub IsDue : Error → Option refusals.Refused → Type 0
IsDue e due = IfSome (refusal_of e) (λ r. due ≡ Some r)

-- an error is want of memory, a failing store, or refuses for one of these reasons
abbrev pub IsAmong : Error → List refusals.Refused → Type 0
IsAmong e reasons = IfSome (refusal_of e) (Contains reasons)
