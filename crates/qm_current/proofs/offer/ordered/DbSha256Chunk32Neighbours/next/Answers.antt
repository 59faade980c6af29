use Rattle.std.proofs.Common.{◌≡◌, option_map}
use Rattle.qm_model.specs.Live.{live_keys}
use Rattle.qm_model.specs.Ranges.{key_above}
use Rattle.qm_any.specs.Offered.{sha256_layout}
use Rattle.qm_model.proofs.Results.{ok-then}
use Rattle.qm_any.proofs.Offered.{unoffered, unread-answer}
use Rattle.qm_current.proofs.Offering.{left-offered}
use Rattle.qm_current.proofs.ReadingOffered.{found, left-by, left-numbered, left-store, read-cause, read-never, read-untold}
use Rattle.qm_current.proofs.offer.ordered.DbSha256Chunk32Neighbours.next.Goals as goal

pub returns-then-not-is_ordered : goal.returns-then-not-is_ordered
returns-then-not-is_ordered g c = record {
  above = λ ordered. unoffered _ _ c.is_ordered.ensures c.if-not-is_ordered.true ordered;
  reads = unread-answer _ g.C.Store c.args.self.now _;
  never = tt;
  refused = tt;
}

pub returns : goal.returns
returns g c =
    let layout = sha256_layout g.F.Family.shape 32 g.U.Update.form g.I.Unordered.index_key in
    let left = left-by g.C.Store layout c.args.self.now c.get_next_key.new.self c.get_next_key.ensures.reads.left c.get_next_key.ensures.rest in
    record {
      above = ok-then c.get_next_key.result (found g.C.Store layout c.args.self.now c.get_next_key.new.self c.get_next_key.result (λ list k. option_map g.U.Key.ByteString.bytes k ≡ key_above (live_keys list) (g.U.Key.ByteString.bytes c.args.key.now)) c.get_next_key.ensures.value) (λ v given ordered. given);
      reads = record {
        same = λ list is. left-offered g.C.Store layout c.args.self.now c.get_next_key.new.self left list is;
        numbered = λ n is. left-numbered g.C.Store layout c.args.self.now c.get_next_key.new.self left n is;
        store = left-store g.C.Store layout c.args.self.now c.get_next_key.new.self left;
        faults = read-cause g.C.Store layout c.args.self.now c.get_next_key.new.self c.get_next_key.result c.get_next_key.ensures.reads;
      };
      never = read-never g.C.Store layout c.args.self.now c.get_next_key.new.self c.get_next_key.result c.get_next_key.ensures.reads;
      refused = read-untold g.C.Store layout c.args.self.now c.get_next_key.new.self c.get_next_key.result c.get_next_key.ensures.reads;
    }
