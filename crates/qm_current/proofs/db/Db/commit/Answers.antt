use Rattle.std.proofs.Common.{refl}
use Rattle.qm_model.specs.StoreModel.{settled}
use Rattle.qm_model.proofs.Results.{ok-then}
use Rattle.qm_any.specs.Lasting.{HasLeftStable}
use Rattle.qm_any.specs.Layouts.{hashing_of, layout_of}
use Rattle.qm_current.proofs.Lasting.{lasted-counted, lasted-joined, of, over-lasted, over-refused, over-stands}
use Rattle.qm_current.specs.Applying.{store_in}
use Rattle.qm_current.proofs.Crashing.{e, enough-of, laws, places-of, settled-safe}
use Rattle.qm_current.proofs.db.Db.commit.Goals as goal

pub over-requires : goal.over-requires
over-requires g c =
    let hashing = hashing_of g.H.Digest.Digest.bytes g.H.Hasher g.F.Family g.U.Update in
    let own = c.self.inside in
    ok-then c.commit.result c.commit.ensures.committed (λ any last. lasted-joined g.C.Store hashing settled g.N.Chunks.LEN (of own.any own.canonical own.instance own.name.now) any last c.self.invariant)

pub returns : goal.returns
returns g c =
    let members = g.C.Store in
    let layout = layout_of g.N.Chunks.LEN g.H.Digest.Digest.bytes g.H.Hasher g.F.Family g.U.Update g.I.Unordered in
    let own = c.self.inside in
    let done = c.commit.result in
    let last = over-lasted members layout c.args.self own.any own.canonical own.instance own.name.now c.self.view_is done c.over.result c.over.ensures settled c.commit.ensures.committed in
    let given = over-refused members layout c.args.self own.any own.canonical own.instance own.name.now c.self.view_is done c.over.result c.over.ensures (HasLeftStable members) c.commit.ensures.refused in
    record {
      stands = λ list is. over-stands members layout c.args.self own.any own.canonical own.instance own.name.now c.self.view_is done c.over.result c.over.ensures list (c.commit.ensures.stands list) is;
      counted = λ counted. ok-then c.over.result last (λ db left. lasted-counted members layout settled c.args.self db (λ s. refl) left counted);
      committed = last;
      refused = given;
      crashes = λ rules log.
          let places = places-of g.F.Family.shape g.F.Family.births g.met.F.Family.numbered g.met.F.Family.peaked in
          let name = c.args.self.name in
          settled-safe members store_in (e layout g.H.Digest.Digest.SIZE name rules g.F.Family.births places (enough-of g.N.Chunks.LEN g.met.N.Chunks.least)) (laws layout g.H.Digest.Digest.SIZE name rules g.F.Family.births places (enough-of g.N.Chunks.LEN g.met.N.Chunks.least)) log c.args.self.any.log.store c.over.result
          (ok-then c.over.result last (λ db left. left.any.store.told)) given;
    }
