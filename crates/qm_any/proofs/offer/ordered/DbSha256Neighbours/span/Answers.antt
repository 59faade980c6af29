use Rattle.std.proofs.Common.{◌∙◌, option_map}
use Rattle.qm_model.specs.Ranges.{span_of}
use Rattle.qm_base.specs.Listed.{span_view}
use Rattle.qm_any.proofs.Reading.{left-database}
use Rattle.qm_any.proofs.Offered.{left-store, log-untold, log-rose, log-kept, unoffered, unread-answer}
use Rattle.qm_any.proofs.OfferedSpans.{same-located}
use Rattle.qm_any.proofs.offer.ordered.DbSha256Neighbours.span.Goals as goal
use Rattle.qm_any.specs.Offered.{sha256_hashing, sha256_layout}

pub returns-then-not-is_ordered : goal.returns-then-not-is_ordered
returns-then-not-is_ordered g c = record {
  span = λ ordered. unoffered _ _ c.is_ordered.ensures c.if-not-is_ordered.true ordered;
  reads = unread-answer _ g.C.Store c.args.self.now _;
  never = tt;
  refused = tt;
}

pub returns-in-Ok : goal.returns-in-Ok
returns-in-Ok g c = record {
  span =
      λ ordered list is. same-located (option_map (span_view g.U.Key.ByteString.bytes g.U.Value.ByteString.bytes) c.span_from.result) (span_of list (g.U.Key.ByteString.bytes c.args.key.now)) (c.span_from.ensures ordered ∙ c.in-Ok.ensures.value list is);
  reads = record {
    same = λ list is. left-database g.C.Store (sha256_layout g.F.Family.shape g.N.Chunks.LEN g.U.Update.form g.I.Unordered.index_key) c.args.self.now c.get_span.new.self list c.get_span.ensures.reads.left is;
    numbered = λ n is. tt;
    store = left-store g.C.Store (sha256_hashing g.F.Family.shape g.U.Update.form) c.args.self.now c.get_span.new.self c.get_span.ensures.reads.left;
    faults = record { later = (c.get_span.ensures.reads.left).read.keeps.later; failed = λ fault. absurd (cc fault) };
  };
  never = tt;
  refused = tt;
}

pub returns-in-Err : goal.returns-in-Err
returns-in-Err g c = record {
  span = tt;
  reads = record {
    same = λ list is. left-database g.C.Store (sha256_layout g.F.Family.shape g.N.Chunks.LEN g.U.Update.form g.I.Unordered.index_key) c.args.self.now c.get_span.new.self list c.get_span.ensures.reads.left is;
    numbered = λ n is. tt;
    store = left-store g.C.Store (sha256_hashing g.F.Family.shape g.U.Update.form) c.args.self.now c.get_span.new.self c.get_span.ensures.reads.left;
    faults = record { later = (c.get_span.ensures.reads.left).read.keeps.later; failed = λ fault. log-rose g.C.Store c.args.self.now.log c.get_span.new.self.log c.in-Err.error c.in-Err.ensures.reads.error (cc fault) };
  };
  never = log-kept g.C.Store c.args.self.now.log c.get_span.new.self.log c.in-Err.error c.in-Err.ensures.reads.error;
  refused = λ list is. log-untold g.C.Store c.args.self.now.log c.get_span.new.self.log c.in-Err.error (c.in-Err.ensures.reads.whole list is) c.in-Err.ensures.reads.error;
}
