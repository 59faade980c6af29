use Rattle.std.proofs.Common.{◌≡◌, List, ◌++◌, length, map}
use Rattle.qm_model.specs.Operations.{Operation}
use Rattle.qm_any.specs.Databases.{IsDatabase, IsLeft}
use Rattle.qm_any.proofs.OrderedReads.{laid_out}
use Rattle.qm_base.specs.Views.{pair_view}
use Rattle.qm_batch.specs.Scans.{left_of}
use Rattle.qm_any.proofs.offer.ranges.collected.Given as goal

abbrev pub invariant-loop : goal.invariant-loop
invariant-loop g l =
    let layout = laid_out g.N.Chunks.LEN g.H.Digest.Digest.bytes g.H.Hasher.hash g.F.Family.shape g.U.Update.form g.I.Unordered.index_key in
    record {
      left : IsLeft g.C.Store layout.hashing l.initial.db l.db;
      count : length l.pairs.items ≡ l.counter;
      value : (list : List Operation) → IsDatabase g.C.Store layout l.initial.db list →
          left_of g.I.Unordered.index_key l.initial.scan list ≡ map (pair_view g.U.Key.ByteString.bytes g.U.Value.ByteString.bytes) l.pairs.items ++ left_of g.I.Unordered.index_key l.scan list;
    }
