use Rattle.std.proofs.Common.{append-nil, codes}
use Rattle.std.specs.String.{string_bytes}
use Rattle.qm_lines.proofs.Written.{pushed}
use Rattle.qm_lines.proofs.text.write_refused.Goals as goal

pub returns-in-NoSuchHandle : goal.returns-in-NoSuchHandle
returns-in-NoSuchHandle c = rw c.in-NoSuchHandle.is c.write_number.ensures

pub returns-in-HistoricalFloorPruned : goal.returns-in-HistoricalFloorPruned
returns-in-HistoricalFloorPruned c = rw c.in-HistoricalFloorPruned.is c.write_number-in-HistoricalFloorPruned.ensures

pub returns-in-NotOffered : goal.returns-in-NotOffered
returns-in-NotOffered c = rw c.in-NotOffered.is (pushed (string_bytes c.args.out.now) (string_bytes c.push_str.new.self) (codes "refused NotOffered") c.push_str.result c.push_str.ensures.bytes)

pub returns-in-NoDatabase : goal.returns-in-NoDatabase
returns-in-NoDatabase c = rw c.in-NoDatabase.is (pushed (string_bytes c.args.out.now) (string_bytes c.push_str-in-NoDatabase.new.self) (codes "refused NoDatabase") c.push_str-in-NoDatabase.result c.push_str-in-NoDatabase.ensures.bytes)

pub returns-in-InvalidInitializationBound : goal.returns-in-InvalidInitializationBound
returns-in-InvalidInitializationBound c = rw c.in-InvalidInitializationBound.is (pushed (string_bytes c.args.out.now) (string_bytes c.push_str-in-InvalidInitializationBound.new.self) (codes "refused InvalidInitializationBound") c.push_str-in-InvalidInitializationBound.result c.push_str-in-InvalidInitializationBound.ensures.bytes)

pub returns-in-StaleBatch : goal.returns-in-StaleBatch
returns-in-StaleBatch c = rw c.in-StaleBatch.is (pushed (string_bytes c.args.out.now) (string_bytes c.push_str-in-StaleBatch.new.self) (codes "refused StaleBatch") c.push_str-in-StaleBatch.result c.push_str-in-StaleBatch.ensures.bytes)

pub returns-in-StaleRead : goal.returns-in-StaleRead
returns-in-StaleRead c = rw c.in-StaleRead.is (pushed (string_bytes c.args.out.now) (string_bytes c.push_str-in-StaleRead.new.self) (codes "refused StaleRead") c.push_str-in-StaleRead.result c.push_str-in-StaleRead.ensures.bytes)

pub returns-in-KeyNotFound : goal.returns-in-KeyNotFound
returns-in-KeyNotFound c = rw c.in-KeyNotFound.is (pushed (string_bytes c.args.out.now) (string_bytes c.push_str-in-KeyNotFound.new.self) (codes "refused KeyNotFound") c.push_str-in-KeyNotFound.result c.push_str-in-KeyNotFound.ensures.bytes)

pub returns-in-KeyExists : goal.returns-in-KeyExists
returns-in-KeyExists c = rw c.in-KeyExists.is (pushed (string_bytes c.args.out.now) (string_bytes c.push_str-in-KeyExists.new.self) (codes "refused KeyExists") c.push_str-in-KeyExists.result c.push_str-in-KeyExists.ensures.bytes)

pub returns-in-OperationPruned : goal.returns-in-OperationPruned
returns-in-OperationPruned c = rw c.in-OperationPruned.is c.write_number-in-OperationPruned.ensures

pub returns-in-SlotCount : goal.returns-in-SlotCount
returns-in-SlotCount c = rw c.in-SlotCount.is (simp append-nil at c.write_numbers.ensures)

pub returns-in-PruneBeyondMinRequired : goal.returns-in-PruneBeyondMinRequired
returns-in-PruneBeyondMinRequired c = rw c.in-PruneBeyondMinRequired.is (simp append-nil at c.write_numbers-in-PruneBeyondMinRequired.ensures)

pub returns-in-DataCorrupted : goal.returns-in-DataCorrupted
returns-in-DataCorrupted c = rw c.in-DataCorrupted.is c.write_corrupt.ensures

pub returns-in-Merkle : goal.returns-in-Merkle
returns-in-Merkle c = rw c.in-Merkle.is c.write_tree.ensures

pub returns-in-Journal : goal.returns-in-Journal
returns-in-Journal c = rw c.in-Journal.is c.write_log.ensures
