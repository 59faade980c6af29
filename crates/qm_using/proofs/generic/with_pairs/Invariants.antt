use Rattle.std.proofs.Common.{◌++◌, List, map}
use Rattle.qm_model.specs.Batches.{Chain}
use Rattle.qm_model.specs.Writes.{Write}
use Rattle.qm_databases.specs.Words.{put_of}
use Rattle.qm_using.proofs.generic.with_pairs.Given as goal

abbrev pub invariant-loop-key : goal.invariant-loop-key
invariant-loop-key g l =
    (chain above : Chain) (ws : List Write) → g.D.Batch.UnmerkleizedBatch.means.is_batch l.fn.batch chain above ws
    → g.D.Batch.UnmerkleizedBatch.means.is_batch l.batch chain above (ws ++ map (put_of g.D.Key.ByteString.bytes g.D.Value.ByteString.bytes) l.yielded)
