use Rattle.std.proofs.Common.{◌≡◌, ◌∙◌, ap, map}
use Rattle.std.specs.Prelude.{IfOk, option_map}
use Rattle.qm_model.specs.Live.{value_of}
use Rattle.qm_any.specs.Databases as anys
use Rattle.qm_any.specs.Layouts.{hashing_of, layout_of}
use Rattle.qm_any.specs.Reading.{AtMade, ReadsThrough}
use Rattle.qm_current.specs.Databases.{Database, Made}
use Rattle.qm_current.proofs.Making.{left-joined, two}
use Rattle.qm_current.proofs.batch.MerkleizedBatch.get_many.Goals as goal

pub invariant_of-db : goal.invariant_of-db
invariant_of-db g c =
    let hashing = hashing_of g.D.Digest.bytes g.H.Hasher g.F.Family g.U.Update in
    left-joined g.C.Store hashing g.N.Chunks.LEN (record { any = c.db.inside.any; canonical = c.db.inside.canonical; instance = c.db.inside.instance; name = c.db.inside.name.now }) c.get_many.new.db c.get_many.ensures.reads.left c.db.invariant

pub returns : goal.returns
returns g c =
    let key = g.U.Key.ByteString.bytes in
    let value = g.U.Value.ByteString.bytes in
    let layout = layout_of g.N.Chunks.LEN g.D.Digest.bytes g.H.Hasher g.F.Family g.U.Update g.I.Unordered in
    let r = c.get_many.result in
    let db_any = ap (λ (d : Database g.row.C.Denot g.row.D.Denot). d.any) c.db.view_is in
    let self_any = c.deref.ensures ∙ ap (λ (b : Made g.row.D.Denot). b.any) c.self.view_is in
    record {
      values = two (λ (d : anys.Database g.row.C.Denot g.row.D.Denot) (b : anys.Made g.row.D.Denot). AtMade g.C.Store layout d b (λ chain tip. IfOk r (λ v. map (option_map value) v.items ≡ map (λ k. value_of tip (key k)) c.args.keys.now))) db_any self_any c.get_many.ensures.values;
      reads = two (λ (d : anys.Database g.row.C.Denot g.row.D.Denot) (b : anys.Made g.row.D.Denot). ReadsThrough g.C.Store layout d c.get_many.new.db r b.bounds) db_any self_any c.get_many.ensures.reads;
      rest = ap (λ (d : Database g.row.C.Denot g.row.D.Denot). record d { any = c.get_many.new.db }) c.db.view_is;
    }
