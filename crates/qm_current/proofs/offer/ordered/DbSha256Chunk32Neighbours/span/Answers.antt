use Rattle.std.proofs.Common.{◌∙◌, option_map}
use Rattle.qm_model.specs.Ranges.{span_of}
use Rattle.qm_base.specs.Listed.{span_view}
use Rattle.qm_any.specs.Offered.{sha256_layout}
use Rattle.qm_any.proofs.Offered.{log-untold, log-rose, log-kept, unoffered, unread-answer}
use Rattle.qm_any.proofs.OfferedSpans.{same-located}
use Rattle.qm_current.proofs.Offering.{left-offered}
use Rattle.qm_current.proofs.ReadingOffered.{left-by, left-numbered, left-store}
use Rattle.qm_current.proofs.offer.ordered.DbSha256Chunk32Neighbours.span.Goals as goal

pub returns-then-not-is_ordered : goal.returns-then-not-is_ordered
returns-then-not-is_ordered g c = record {
  span = λ ordered. unoffered _ _ c.is_ordered.ensures c.if-not-is_ordered.true ordered;
  reads = unread-answer _ g.C.Store c.args.self.now _;
  never = tt;
  refused = tt;
}

pub returns-in-Ok : goal.returns-in-Ok
returns-in-Ok g c =
    let layout = sha256_layout g.F.Family.shape 32 g.U.Update.form g.I.Unordered.index_key in
    let left = left-by g.C.Store layout c.args.self.now c.get_span.new.self c.get_span.ensures.reads.left c.get_span.ensures.rest in
    record {
      span =
          λ ordered list is. same-located (option_map (span_view g.U.Key.ByteString.bytes g.U.Value.ByteString.bytes) c.span_from.result) (span_of list (g.U.Key.ByteString.bytes c.args.key.now)) (c.span_from.ensures ordered ∙ c.in-Ok.ensures.value list is.at.any);
      reads = record {
        same = λ list is. left-offered g.C.Store layout c.args.self.now c.get_span.new.self left list is;
        numbered = λ n is. left-numbered g.C.Store layout c.args.self.now c.get_span.new.self left n is;
        store = left-store g.C.Store layout c.args.self.now c.get_span.new.self left;
        faults = record { later = c.get_span.ensures.reads.left.read.keeps.later; failed = λ fault. absurd (cc fault) };
      };
      never = tt;
      refused = tt;
    }

pub returns-in-Err : goal.returns-in-Err
returns-in-Err g c =
    let layout = sha256_layout g.F.Family.shape 32 g.U.Update.form g.I.Unordered.index_key in
    let left = left-by g.C.Store layout c.args.self.now c.get_span.new.self c.get_span.ensures.reads.left c.get_span.ensures.rest in
    let old = c.args.self.now.any.log in
    let new = c.get_span.new.self.any.log in
    record {
      span = tt;
      reads = record {
        same = λ list is. left-offered g.C.Store layout c.args.self.now c.get_span.new.self left list is;
        numbered = λ n is. left-numbered g.C.Store layout c.args.self.now c.get_span.new.self left n is;
        store = left-store g.C.Store layout c.args.self.now c.get_span.new.self left;
        faults = record { later = c.get_span.ensures.reads.left.read.keeps.later; failed = λ fault. log-rose g.C.Store old new c.in-Err.error c.in-Err.ensures.reads.error (cc fault) };
      };
      never = log-kept g.C.Store old new c.in-Err.error c.in-Err.ensures.reads.error;
      refused = λ list is. log-untold g.C.Store old new c.in-Err.error (c.in-Err.ensures.reads.whole list is.at.any) c.in-Err.ensures.reads.error;
    }
