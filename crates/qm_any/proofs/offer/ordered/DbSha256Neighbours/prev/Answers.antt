use Rattle.std.proofs.Common.{◌≡◌, option_map}
use Rattle.qm_model.proofs.Results.{err-then, ok-each, ok-then}
use Rattle.qm_model.specs.Live.{live_keys}
use Rattle.qm_model.specs.Ranges.{key_below}
use Rattle.qm_any.specs.Databases.{IsDatabase}
use Rattle.qm_any.proofs.Reading.{left-database}
use Rattle.qm_base.specs.declared.error.Error.TheVariants.{Journal}
use Rattle.qm_base.specs.declared.error.JournalError.TheVariants.{Store}
use Rattle.qm_any.proofs.Offered.{err-of, left-store, read-untold, log-rose, log-kept, unoffered, unread-answer}
use Rattle.qm_any.proofs.offer.ordered.DbSha256Neighbours.prev.Goals as goal
use Rattle.qm_any.specs.Offered.{sha256_hashing, sha256_layout}

pub returns-then-not-is_ordered : goal.returns-then-not-is_ordered
returns-then-not-is_ordered g c = record {
  below = λ ordered. unoffered _ _ c.is_ordered.ensures c.if-not-is_ordered.true ordered;
  reads = unread-answer _ g.C.Store c.args.self.now _;
  never = tt;
  refused = tt;
}

pub returns : goal.returns
returns g c = record {
  below =
      ok-then c.get_prev_key.result (ok-each (IsDatabase g.C.Store (sha256_layout g.F.Family.shape g.N.Chunks.LEN g.U.Update.form g.I.Unordered.index_key) c.args.self.now) (λ list k. option_map g.U.Key.ByteString.bytes k ≡ key_below (live_keys list) (g.U.Key.ByteString.bytes c.args.key.now)) c.get_prev_key.result c.get_prev_key.ensures.value)
      (λ k given ordered. given);
  reads = record {
    same = λ list is. left-database g.C.Store (sha256_layout g.F.Family.shape g.N.Chunks.LEN g.U.Update.form g.I.Unordered.index_key) c.args.self.now c.get_prev_key.new.self list c.get_prev_key.ensures.reads.left is;
    numbered = λ n is. tt;
    store = left-store g.C.Store (sha256_hashing g.F.Family.shape g.U.Update.form) c.args.self.now c.get_prev_key.new.self c.get_prev_key.ensures.reads.left;
    faults = record {
      later = (c.get_prev_key.ensures.reads.left).read.keeps.later;
      failed = err-of c.get_prev_key.result (Journal Store) _ (err-then c.get_prev_key.result c.get_prev_key.ensures.reads.error (λ e why fault. log-rose g.C.Store c.args.self.now.log c.get_prev_key.new.self.log e why fault));
    };
  };
  never = err-then c.get_prev_key.result c.get_prev_key.ensures.reads.error (λ e why. log-kept g.C.Store c.args.self.now.log c.get_prev_key.new.self.log e why);
  refused = read-untold g.C.Store (sha256_layout g.F.Family.shape g.N.Chunks.LEN g.U.Update.form g.I.Unordered.index_key) c.args.self.now c.get_prev_key.new.self.log c.get_prev_key.result c.get_prev_key.ensures.reads.error c.get_prev_key.ensures.reads.whole;
}
