use Rattle.std.proofs.Common.{◌≡◌, List, refl, subst, sym, map, option_map}
use Rattle.qm_model.specs.Live.{value_of}
use Rattle.qm_model.specs.Batches.{Chain}
use Rattle.qm_model.specs.Operations.{Operation}
use Rattle.qm_model.proofs.Results.{err-then, ok-then}
use Rattle.qm_any.specs.Databases as anys
use Rattle.qm_any.specs.Offered.{sha256_hashing, sha256_layout}
use Rattle.qm_any.proofs.Offered.{made-reads}
use Rattle.qm_current.specs.Databases.{IsMade}
use Rattle.qm_current.specs.Offered.{IsOffered}
use Rattle.qm_current.proofs.Offering.{left-offered}
use Rattle.qm_current.proofs.ReadingOffered.{left-by, left-numbered, left-store, through-cause, through-failure, through-never, through-readable}
use Rattle.qm_current.proofs.offer.reads.DbSha256Chunk32Reading.get_from.Goals as goal

pub returns : goal.returns
returns g c =
    let hashing = sha256_hashing g.F.Family.shape g.U.Update.form in
    let made = λ (chain : Chain) (tip : List Operation) (batch : IsMade hashing 32 c.args.batch.now.value chain tip). subst (λ b. anys.IsMade hashing b.any chain tip) (sym c.deref.ensures) batch.any in
    let layout = sha256_layout g.F.Family.shape 32 g.U.Update.form g.I.Unordered.index_key in
    let left = left-by g.C.Store layout c.args.self.now c.get_many.new.db c.get_many.ensures.reads.left c.get_many.ensures.rest in
    record {
      readable = ok-then c.get_many.result (through-readable g.C.Store layout c.args.self.now c.get_many.new.db c.get_many.result c.deref.result.now.any.bounds c.get_many.ensures.reads) (λ v can list chain tip is batch. can list chain tip is (made chain tip batch).bounds);
      values =
          made-reads c.get_many.result (IsOffered g.C.Store layout c.args.self.now) (IsMade hashing 32 c.args.batch.now.value) (λ v tip. map (option_map g.U.Value.ByteString.bytes) v.items ≡ map (λ k. value_of tip (g.U.Key.ByteString.bytes k)) c.args.keys.now)
          (λ list chain tip is batch known. c.get_many.ensures.values list chain tip is.at.any (made chain tip batch) known);
      failure = err-then c.get_many.result (through-failure g.C.Store layout c.args.self.now c.get_many.new.db c.get_many.result c.deref.result.now.any.bounds c.get_many.ensures.reads _ (λ list chain tip. refl)) (λ e why list chain tip is batch. why list chain tip is (made chain tip batch).bounds);
      reads = record {
        same = λ list is. left-offered g.C.Store layout c.args.self.now c.get_many.new.db left list is;
        numbered = λ n is. left-numbered g.C.Store layout c.args.self.now c.get_many.new.db left n is;
        store = left-store g.C.Store layout c.args.self.now c.get_many.new.db left;
        faults = through-cause g.C.Store layout c.args.self.now c.get_many.new.db c.get_many.result c.deref.result.now.any.bounds c.get_many.ensures.reads;
      };
      never = through-never g.C.Store layout c.args.self.now c.get_many.new.db c.get_many.result c.deref.result.now.any.bounds c.get_many.ensures.reads;
    }
