use Rattle.std.proofs.Common.{◌≡◌, map}
use Rattle.qm_model.specs.Ranges.{pairs_in}
use Rattle.qm_base.specs.Views.{limit_of, pair_view}
use Rattle.qm_any.specs.Offered.{sha256_layout}
use Rattle.qm_model.proofs.Results.{ok-then}
use Rattle.qm_any.proofs.Offered.{unoffered, unread-answer}
use Rattle.qm_current.proofs.Offering.{left-offered}
use Rattle.qm_current.proofs.ReadingOffered.{found, left-by, left-numbered, left-store, read-cause, read-never, read-untold}
use Rattle.qm_current.proofs.offer.ordered.DbSha256Chunk32Neighbours.range.Goals as goal

pub returns-then-not-is_ordered : goal.returns-then-not-is_ordered
returns-then-not-is_ordered g c = record {
  pairs = λ ordered. unoffered _ _ c.is_ordered.ensures c.if-not-is_ordered.true ordered;
  reads = unread-answer _ g.C.Store c.args.self.now _;
  never = tt;
  refused = tt;
}

pub returns : goal.returns
returns g c =
    let layout = sha256_layout g.F.Family.shape 32 g.U.Update.form g.I.Unordered.index_key in
    let left = left-by g.C.Store layout c.args.self.now c.get_pairs.new.self c.get_pairs.ensures.reads.left c.get_pairs.ensures.rest in
    record {
      pairs = ok-then c.get_pairs.result (found g.C.Store layout c.args.self.now c.get_pairs.new.self c.get_pairs.result (λ list v. map (pair_view g.U.Key.ByteString.bytes g.U.Value.ByteString.bytes) v.items ≡ pairs_in (limit_of g.U.Key.ByteString.bytes c.args.low.now) (limit_of g.U.Key.ByteString.bytes c.args.high.now) list) c.get_pairs.ensures.pairs) (λ v given ordered. given);
      reads = record {
        same = λ list is. left-offered g.C.Store layout c.args.self.now c.get_pairs.new.self left list is;
        numbered = λ n is. left-numbered g.C.Store layout c.args.self.now c.get_pairs.new.self left n is;
        store = left-store g.C.Store layout c.args.self.now c.get_pairs.new.self left;
        faults = read-cause g.C.Store layout c.args.self.now c.get_pairs.new.self c.get_pairs.result c.get_pairs.ensures.reads;
      };
      never = read-never g.C.Store layout c.args.self.now c.get_pairs.new.self c.get_pairs.result c.get_pairs.ensures.reads;
      refused = read-untold g.C.Store layout c.args.self.now c.get_pairs.new.self c.get_pairs.result c.get_pairs.ensures.reads;
    }
