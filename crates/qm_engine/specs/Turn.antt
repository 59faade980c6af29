-- What an error of a call comes to.
use Rattle.qm_base.specs.declared.error.JournalError.{JournalError}
use Rattle.qm_base.specs.declared.error.JournalError.TheVariants as journal
use Rattle.qm_base.specs.declared.error.Error.{Error}
use Rattle.qm_base.specs.declared.error.Error.TheVariants as errors
use Rattle.qm_lines.specs.declared.reply.Reply.TheVariants.{Refused, Done}
use Rattle.qm_lines.specs.declared.reply.LogRefused.TheVariants as log
use Rattle.qm_lines.specs.declared.reply.Refused.TheVariants as refused
use Rattle.std.specs.Prelude.{Result, Ok, Err}
use Rattle.qm_store.specs.declared.refusal.Given.{Given}
use Rattle.qm_store.specs.declared.refusal.Given.TheVariants.{Database}
use Rattle.qm_store.specs.declared.refusal.Refusal.{Refusal}
use Rattle.qm_engine.specs.declared.session.Turn.{Turn}
use Rattle.qm_engine.specs.declared.session.Turn.TheVariants.{Reply, Memory, StoreFault}

abbrev pub turn_of_log : {K V D : Type 0} → JournalError → Turn K V D
turn_of_log journal.Store = StoreFault
turn_of_log (journal.ItemPruned n) = Reply (Refused (refused.Journal (log.ItemPruned n)))
turn_of_log (journal.ItemTooLarge n) = Reply (Refused (refused.Journal (log.ItemTooLarge n)))

abbrev pub turn_of_error : {K V D : Type 0} → Error → Turn K V D
turn_of_error errors.Memory = Memory
turn_of_error errors.InvalidInitializationBound = Reply (Refused refused.InvalidInitializationBound)
turn_of_error errors.StaleBatch = Reply (Refused refused.StaleBatch)
turn_of_error errors.StaleRead = Reply (Refused refused.StaleRead)
turn_of_error errors.KeyNotFound = Reply (Refused refused.KeyNotFound)
turn_of_error errors.KeyExists = Reply (Refused refused.KeyExists)
turn_of_error (errors.OperationPruned n) = Reply (Refused (refused.OperationPruned n))
turn_of_error (errors.PruneBeyondMinRequired p m) = Reply (Refused (refused.PruneBeyondMinRequired p m))
turn_of_error (errors.HistoricalFloorPruned n) = Reply (Refused (refused.HistoricalFloorPruned n))
turn_of_error (errors.DataCorrupted c) = Reply (Refused (refused.DataCorrupted c))
turn_of_error (errors.Merkle e) = Reply (Refused (refused.Merkle e))
turn_of_error (errors.Journal e) = turn_of_log e

-- what a call gives that takes a database by value: another one, or what its refusal gives
abbrev pub given_after : {X C : Type 0} → Result X (Refusal X C) → Given X C
given_after (Ok x) = Database x
given_after (Err r) = r.given

-- what it comes to, if it has no answer but that it is done
abbrev pub turn_settled : {K V D X C : Type 0} → Result X (Refusal X C) → Turn K V D
turn_settled (Ok x) = Reply Done
turn_settled (Err r) = turn_of_error r.error
