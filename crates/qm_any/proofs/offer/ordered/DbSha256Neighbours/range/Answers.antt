use Rattle.std.proofs.Common.{◌≡◌, map}
use Rattle.qm_model.proofs.Results.{err-then, ok-each, ok-then}
use Rattle.qm_model.specs.Ranges.{pairs_in}
use Rattle.qm_any.specs.Databases.{IsDatabase}
use Rattle.qm_any.proofs.Reading.{left-database}
use Rattle.qm_base.specs.declared.error.Error.TheVariants.{Journal}
use Rattle.qm_base.specs.declared.error.JournalError.TheVariants.{Store}
use Rattle.qm_base.specs.Views.{limit_of, pair_view}
use Rattle.qm_any.proofs.Offered.{err-of, left-store, read-untold, log-rose, log-kept, unoffered, unread-answer}
use Rattle.qm_any.proofs.offer.ordered.DbSha256Neighbours.range.Goals as goal
use Rattle.qm_any.specs.Offered.{sha256_hashing, sha256_layout}

pub returns-then-not-is_ordered : goal.returns-then-not-is_ordered
returns-then-not-is_ordered g c = record {
  pairs = λ ordered. unoffered _ _ c.is_ordered.ensures c.if-not-is_ordered.true ordered;
  reads = unread-answer _ g.C.Store c.args.self.now _;
  never = tt;
  refused = tt;
}

pub returns : goal.returns
returns g c = record {
  pairs =
      ok-then c.pairs_of.result (ok-each (IsDatabase g.C.Store (sha256_layout g.F.Family.shape g.N.Chunks.LEN g.U.Update.form g.I.Unordered.index_key) c.args.self.now)
      (λ list found. map (pair_view g.U.Key.ByteString.bytes g.U.Value.ByteString.bytes) found.items ≡ pairs_in (limit_of g.U.Key.ByteString.bytes c.args.low.now) (limit_of g.U.Key.ByteString.bytes c.args.high.now) list) c.pairs_of.result c.pairs_of.ensures.pairs)
      (λ found given ordered list is. given list is);
  reads = record {
    same = λ list is. left-database g.C.Store (sha256_layout g.F.Family.shape g.N.Chunks.LEN g.U.Update.form g.I.Unordered.index_key) c.args.self.now c.pairs_of.new.db list c.pairs_of.ensures.reads.left is;
    numbered = λ n is. tt;
    store = left-store g.C.Store (sha256_hashing g.F.Family.shape g.U.Update.form) c.args.self.now c.pairs_of.new.db c.pairs_of.ensures.reads.left;
    faults = record {
      later = (c.pairs_of.ensures.reads.left).read.keeps.later;
      failed = err-of c.pairs_of.result (Journal Store) _ (err-then c.pairs_of.result c.pairs_of.ensures.reads.error (λ e why fault. log-rose g.C.Store c.args.self.now.log c.pairs_of.new.db.log e why fault));
    };
  };
  never = err-then c.pairs_of.result c.pairs_of.ensures.reads.error (λ e why. log-kept g.C.Store c.args.self.now.log c.pairs_of.new.db.log e why);
  refused = read-untold g.C.Store (sha256_layout g.F.Family.shape g.N.Chunks.LEN g.U.Update.form g.I.Unordered.index_key) c.args.self.now c.pairs_of.new.db.log c.pairs_of.result c.pairs_of.ensures.reads.error c.pairs_of.ensures.reads.whole;
}
