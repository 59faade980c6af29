use Rattle.std.proofs.Common.{◌≡◌, ap}
use Rattle.std.specs.Prelude.{IfOk, option_map}
use Rattle.qm_model.specs.Writes.{read_through}
use Rattle.qm_any.specs.Databases as anys
use Rattle.qm_any.specs.Layouts.{hashing_of, layout_of}
use Rattle.qm_any.specs.Reading.{AtBegun, ReadsThrough}
use Rattle.qm_current.specs.Databases.{Begun, Database}
use Rattle.qm_current.proofs.Making.{left-joined, two}
use Rattle.qm_current.proofs.batch.UnmerkleizedBatch.get.Goals as goal

pub invariant_of-db : goal.invariant_of-db
invariant_of-db g c =
    let hashing = hashing_of g.D.Digest.bytes g.H.Hasher g.F.Family g.U.Update in
    left-joined g.C.Store hashing g.N.Chunks.LEN (record { any = c.db.inside.any; canonical = c.db.inside.canonical; instance = c.db.inside.instance; name = c.db.inside.name.now }) c.get.new.db c.get.ensures.reads.left c.db.invariant

pub returns : goal.returns
returns g c =
    let key = g.U.Key.ByteString.bytes in
    let value = g.U.Value.ByteString.bytes in
    let layout = layout_of g.N.Chunks.LEN g.D.Digest.bytes g.H.Hasher g.F.Family g.U.Update g.I.Unordered in
    let r = c.get.result in
    let db_any = ap (λ (d : Database g.row.C.Denot g.row.D.Denot). d.any) c.db.view_is in
    let self_any = ap (λ (b : Begun g.row.D.Denot). b.any) c.self.view_is in
    record {
      value = two (λ (d : anys.Database g.row.C.Denot g.row.D.Denot) (b : anys.Begun g.row.D.Denot). AtBegun g.C.Store layout d b (λ chain above. IfOk r (λ v. option_map value v ≡ read_through chain.base b.writes (key c.args.key.now)))) db_any self_any c.get.ensures.value;
      reads = two (λ (d : anys.Database g.row.C.Denot g.row.D.Denot) (b : anys.Begun g.row.D.Denot). ReadsThrough g.C.Store layout d c.get.new.db r b.parent.bounds) db_any self_any c.get.ensures.reads;
      rest = ap (λ (d : Database g.row.C.Denot g.row.D.Denot). record d { any = c.get.new.db }) c.db.view_is;
    }
