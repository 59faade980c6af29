use Rattle.std.proofs.Common.{◌≡◌, Option, option_map}
use Rattle.qm_model.specs.Live.{live, live_of}
use Rattle.qm_model.specs.Operations.{Bytes}
use Rattle.qm_base.specs.Listed.{whole_view}
use Rattle.qm_any.specs.Offered.{sha256_layout}
use Rattle.qm_model.proofs.Results.{ok-then}
use Rattle.qm_any.proofs.Offered.{unoffered, unread-answer}
use Rattle.qm_current.proofs.Offering.{left-offered}
use Rattle.qm_current.proofs.ReadingOffered.{found, left-by, left-numbered, left-store, read-cause, read-never, read-untold}
use Rattle.qm_current.proofs.offer.ordered.DbSha256Chunk32Neighbours.all.Goals as goal

pub returns-then-not-is_ordered : goal.returns-then-not-is_ordered
returns-then-not-is_ordered g c = record {
  whole = λ ordered. unoffered _ _ c.is_ordered.ensures c.if-not-is_ordered.true ordered;
  reads = unread-answer _ g.C.Store c.args.self.now _;
  never = tt;
  refused = tt;
}

pub returns : goal.returns
returns g c =
    let layout = sha256_layout g.F.Family.shape 32 g.U.Update.form g.I.Unordered.index_key in
    let left = left-by g.C.Store layout c.args.self.now c.get_all.new.self c.get_all.ensures.reads.left c.get_all.ensures.rest in
    record {
      whole = ok-then c.get_all.result (found g.C.Store layout c.args.self.now c.get_all.new.self c.get_all.result (λ list p. option_map (whole_view g.U.Key.ByteString.bytes g.U.Value.ByteString.bytes) p ≡ option_map {U = Bytes × Option Bytes} (λ e. (e.value, e.next)) (live_of (live list) (g.U.Key.ByteString.bytes c.args.key.now))) c.get_all.ensures.value) (λ v given ordered. given);
      reads = record {
        same = λ list is. left-offered g.C.Store layout c.args.self.now c.get_all.new.self left list is;
        numbered = λ n is. left-numbered g.C.Store layout c.args.self.now c.get_all.new.self left n is;
        store = left-store g.C.Store layout c.args.self.now c.get_all.new.self left;
        faults = read-cause g.C.Store layout c.args.self.now c.get_all.new.self c.get_all.result c.get_all.ensures.reads;
      };
      never = read-never g.C.Store layout c.args.self.now c.get_all.new.self c.get_all.result c.get_all.ensures.reads;
      refused = read-untold g.C.Store layout c.args.self.now c.get_all.new.self c.get_all.result c.get_all.ensures.reads;
    }
