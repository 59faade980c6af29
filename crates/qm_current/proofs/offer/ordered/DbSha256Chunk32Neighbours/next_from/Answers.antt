use Rattle.std.proofs.Common.{◌≡◌, List, refl, subst, sym, option_map}
use Rattle.qm_model.specs.Live.{live_keys}
use Rattle.qm_model.specs.Ranges.{key_above}
use Rattle.qm_model.specs.Batches.{Chain}
use Rattle.qm_model.specs.Operations.{Operation}
use Rattle.qm_model.proofs.Results.{err-then, ok-then}
use Rattle.qm_any.specs.Databases as anys
use Rattle.qm_any.specs.Offered.{sha256_hashing, sha256_layout}
use Rattle.qm_any.proofs.Offered.{made-reads, unoffered, unread-answer}
use Rattle.qm_current.specs.Databases.{IsMade}
use Rattle.qm_current.specs.Offered.{IsOffered}
use Rattle.qm_current.proofs.Offering.{left-offered}
use Rattle.qm_current.proofs.ReadingOffered.{left-by, left-numbered, left-store, through-cause, through-failure, through-never, through-readable}
use Rattle.qm_current.proofs.offer.ordered.DbSha256Chunk32Neighbours.next_from.Goals as goal

pub returns-then-not-is_ordered : goal.returns-then-not-is_ordered
returns-then-not-is_ordered g c = record {
  readable = λ ordered. unoffered _ _ c.is_ordered.ensures c.if-not-is_ordered.true ordered;
  above = λ ordered. unoffered _ _ c.is_ordered.ensures c.if-not-is_ordered.true ordered;
  failure = tt;
  reads = unread-answer _ g.C.Store c.args.self.now _;
  never = tt;
}

pub returns : goal.returns
returns g c =
    let hashing = sha256_hashing g.F.Family.shape g.U.Update.form in
    let made = λ (chain : Chain) (tip : List Operation) (batch : IsMade hashing 32 c.args.batch.now.value chain tip). subst (λ b. anys.IsMade hashing b.any chain tip) (sym c.deref.ensures) batch.any in
    let layout = sha256_layout g.F.Family.shape 32 g.U.Update.form g.I.Unordered.index_key in
    let left = left-by g.C.Store layout c.args.self.now c.get_next_key.new.db c.get_next_key.ensures.reads.left c.get_next_key.ensures.rest in
    record {
      readable = ok-then c.get_next_key.result (through-readable g.C.Store layout c.args.self.now c.get_next_key.new.db c.get_next_key.result c.deref.result.now.any.bounds c.get_next_key.ensures.reads) (λ v can ordered list chain tip is batch. can list chain tip is (made chain tip batch).bounds);
      above =
          ok-then c.get_next_key.result (made-reads c.get_next_key.result (IsOffered g.C.Store layout c.args.self.now) (IsMade hashing 32 c.args.batch.now.value) (λ k tip. option_map g.U.Key.ByteString.bytes k ≡ key_above (live_keys tip) (g.U.Key.ByteString.bytes c.args.key.now))
          (λ list chain tip is batch known. c.get_next_key.ensures.value list chain tip is.at.any (made chain tip batch) known)) (λ v given ordered. given);
      failure = err-then c.get_next_key.result (through-failure g.C.Store layout c.args.self.now c.get_next_key.new.db c.get_next_key.result c.deref.result.now.any.bounds c.get_next_key.ensures.reads _ (λ list chain tip. refl)) (λ e why list chain tip is batch. why list chain tip is (made chain tip batch).bounds);
      reads = record {
        same = λ list is. left-offered g.C.Store layout c.args.self.now c.get_next_key.new.db left list is;
        numbered = λ n is. left-numbered g.C.Store layout c.args.self.now c.get_next_key.new.db left n is;
        store = left-store g.C.Store layout c.args.self.now c.get_next_key.new.db left;
        faults = through-cause g.C.Store layout c.args.self.now c.get_next_key.new.db c.get_next_key.result c.deref.result.now.any.bounds c.get_next_key.ensures.reads;
      };
      never = through-never g.C.Store layout c.args.self.now c.get_next_key.new.db c.get_next_key.result c.deref.result.now.any.bounds c.get_next_key.ensures.reads;
    }
