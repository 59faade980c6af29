use Rattle.std.proofs.Common.{◌≡◌, Option, option_map}
use Rattle.qm_model.proofs.Results.{err-then, ok-each, ok-then}
use Rattle.qm_model.specs.Live.{live, live_of}
use Rattle.qm_model.specs.Operations.{Bytes}
use Rattle.qm_base.specs.Listed.{whole_view}
use Rattle.qm_any.specs.Databases.{IsDatabase}
use Rattle.qm_any.proofs.Reading.{left-database}
use Rattle.qm_base.specs.declared.error.Error.TheVariants.{Journal}
use Rattle.qm_base.specs.declared.error.JournalError.TheVariants.{Store}
use Rattle.qm_any.proofs.Offered.{err-of, left-store, read-untold, log-rose, log-kept, unoffered, unread-answer}
use Rattle.qm_any.proofs.offer.ordered.DbSha256Neighbours.all.Goals as goal
use Rattle.qm_any.specs.Offered.{sha256_hashing, sha256_layout}

pub returns-then-not-is_ordered : goal.returns-then-not-is_ordered
returns-then-not-is_ordered g c = record {
  whole = λ ordered. unoffered _ _ c.is_ordered.ensures c.if-not-is_ordered.true ordered;
  reads = unread-answer _ g.C.Store c.args.self.now _;
  never = tt;
  refused = tt;
}

pub returns : goal.returns
returns g c = record {
  whole =
      ok-then c.get_all.result (ok-each (IsDatabase g.C.Store (sha256_layout g.F.Family.shape g.N.Chunks.LEN g.U.Update.form g.I.Unordered.index_key) c.args.self.now) (λ list p. option_map (whole_view g.U.Key.ByteString.bytes g.U.Value.ByteString.bytes) p ≡ option_map {U = Bytes × Option Bytes} (λ e. (e.value, e.next)) (live_of (live list) (g.U.Key.ByteString.bytes c.args.key.now))) c.get_all.result c.get_all.ensures.value)
      (λ p given ordered. given);
  reads = record {
    same = λ list is. left-database g.C.Store (sha256_layout g.F.Family.shape g.N.Chunks.LEN g.U.Update.form g.I.Unordered.index_key) c.args.self.now c.get_all.new.self list c.get_all.ensures.reads.left is;
    numbered = λ n is. tt;
    store = left-store g.C.Store (sha256_hashing g.F.Family.shape g.U.Update.form) c.args.self.now c.get_all.new.self c.get_all.ensures.reads.left;
    faults = record {
      later = (c.get_all.ensures.reads.left).read.keeps.later;
      failed = err-of c.get_all.result (Journal Store) _ (err-then c.get_all.result c.get_all.ensures.reads.error (λ e why fault. log-rose g.C.Store c.args.self.now.log c.get_all.new.self.log e why fault));
    };
  };
  never = err-then c.get_all.result c.get_all.ensures.reads.error (λ e why. log-kept g.C.Store c.args.self.now.log c.get_all.new.self.log e why);
  refused = read-untold g.C.Store (sha256_layout g.F.Family.shape g.N.Chunks.LEN g.U.Update.form g.I.Unordered.index_key) c.args.self.now c.get_all.new.self.log c.get_all.result c.get_all.ensures.reads.error c.get_all.ensures.reads.whole;
}
