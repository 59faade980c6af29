use Rattle.std.proofs.Common.{◌≡◌, refl, map, option_map}
use Rattle.qm_model.proofs.Results.{err-then, ok-then}
use Rattle.qm_model.specs.Writes.{read_through}
use Rattle.qm_any.specs.Databases as anys
use Rattle.qm_any.specs.Offered.{sha256_hashing, sha256_layout}
use Rattle.qm_any.proofs.Offered.{begun-reads}
use Rattle.qm_current.proofs.Offering.{left-offered}
use Rattle.qm_current.proofs.ReadingOffered.{left-by, left-numbered, left-store, through-cause, through-failure, through-never, through-readable}
use Rattle.qm_current.proofs.offer.reads.DbSha256Chunk32Reading.get_through.Goals as goal

pub returns : goal.returns
returns g c =
    let layout = sha256_layout g.F.Family.shape 32 g.U.Update.form g.I.Unordered.index_key in
    let left = left-by g.C.Store layout c.args.self.now c.get_many.new.db c.get_many.ensures.reads.left c.get_many.ensures.rest in
    record {
      readable = ok-then c.get_many.result (through-readable g.C.Store layout c.args.self.now c.get_many.new.db c.get_many.result c.args.batch.now.any.parent.bounds c.get_many.ensures.reads) (λ v can list chain above ws is batch. can list above chain.base is batch.0.any.parent.bounds);
      values =
          ok-then c.get_many.result (begun-reads (sha256_hashing g.F.Family.shape g.U.Update.form) c.get_many.result (anys.IsDatabase g.C.Store layout c.args.self.now.any) c.args.batch.now.any (λ v base ws. map (option_map g.U.Value.ByteString.bytes) v.items ≡ map (λ k. read_through base ws (g.U.Key.ByteString.bytes k)) c.args.keys.now) c.get_many.ensures.values)
          (λ v given list chain above ws is batch known. given list chain above ws is.at.any (batch.0.any, batch.1) known);
      failure = err-then c.get_many.result (through-failure g.C.Store layout c.args.self.now c.get_many.new.db c.get_many.result c.args.batch.now.any.parent.bounds c.get_many.ensures.reads _ (λ list chain tip. refl)) (λ e why list chain above ws is batch. why list above chain.base is batch.0.any.parent.bounds);
      reads = record {
        same = λ list is. left-offered g.C.Store layout c.args.self.now c.get_many.new.db left list is;
        numbered = λ n is. left-numbered g.C.Store layout c.args.self.now c.get_many.new.db left n is;
        store = left-store g.C.Store layout c.args.self.now c.get_many.new.db left;
        faults = through-cause g.C.Store layout c.args.self.now c.get_many.new.db c.get_many.result c.args.batch.now.any.parent.bounds c.get_many.ensures.reads;
      };
      never = through-never g.C.Store layout c.args.self.now c.get_many.new.db c.get_many.result c.args.batch.now.any.parent.bounds c.get_many.ensures.reads;
    }
