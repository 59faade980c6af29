use Rattle.std.proofs.Common.{◌≡◌, map, option_map}
use Rattle.qm_model.specs.Live.{value_of}
use Rattle.qm_any.specs.Offered.{sha256_layout}
use Rattle.qm_current.proofs.Offering.{left-offered}
use Rattle.qm_current.proofs.ReadingOffered.{found, left-by, left-numbered, left-store, read-cause, read-never, read-untold}
use Rattle.qm_current.proofs.offer.reads.DbSha256Chunk32Reading.get.Goals as goal

pub returns : goal.returns
returns g c =
    let layout = sha256_layout g.F.Family.shape 32 g.U.Update.form g.I.Unordered.index_key in
    let left = left-by g.C.Store layout c.args.self.now c.get_many.new.self c.get_many.ensures.reads.left c.get_many.ensures.rest in
    record {
      values = found g.C.Store layout c.args.self.now c.get_many.new.self c.get_many.result (λ list v. map (option_map g.U.Value.ByteString.bytes) v.items ≡ map (λ k. value_of list (g.U.Key.ByteString.bytes k)) c.args.keys.now) c.get_many.ensures.values;
      reads = record {
        same = λ list is. left-offered g.C.Store layout c.args.self.now c.get_many.new.self left list is;
        numbered = λ n is. left-numbered g.C.Store layout c.args.self.now c.get_many.new.self left n is;
        store = left-store g.C.Store layout c.args.self.now c.get_many.new.self left;
        faults = read-cause g.C.Store layout c.args.self.now c.get_many.new.self c.get_many.result c.get_many.ensures.reads;
      };
      never = read-never g.C.Store layout c.args.self.now c.get_many.new.self c.get_many.result c.get_many.ensures.reads;
      refused = read-untold g.C.Store layout c.args.self.now c.get_many.new.self c.get_many.result c.get_many.ensures.reads;
    }
