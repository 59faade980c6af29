use Rattle.std.proofs.Common.{◌≡◌, ◌∙◌, ap}
use Rattle.std.specs.Prelude.{IfOk, option_map}
use Rattle.qm_model.specs.Live.{live_keys}
use Rattle.qm_model.specs.Ranges.{key_below}
use Rattle.qm_any.specs.Databases as anys
use Rattle.qm_any.specs.Layouts.{hashing_of, layout_of}
use Rattle.qm_any.specs.Reading.{AtMade, ReadsThrough}
use Rattle.qm_current.specs.Databases.{Database, Made}
use Rattle.qm_current.proofs.Making.{left-joined, two}
use Rattle.qm_current.proofs.batch.MerkleizedBatch.get_prev_key.Goals as goal

pub invariant_of-db : goal.invariant_of-db
invariant_of-db g c =
    let hashing = hashing_of g.D.Digest.bytes g.H.Hasher g.F.Family g.U.Update in
    left-joined g.C.Store hashing g.N.Chunks.LEN (record { any = c.db.inside.any; canonical = c.db.inside.canonical; instance = c.db.inside.instance; name = c.db.inside.name.now }) c.get_prev_key.new.db c.get_prev_key.ensures.reads.left c.db.invariant

pub returns : goal.returns
returns g c =
    let key = g.U.Key.ByteString.bytes in
    let layout = layout_of g.N.Chunks.LEN g.D.Digest.bytes g.H.Hasher g.F.Family g.U.Update g.I.Unordered in
    let r = c.get_prev_key.result in
    let db_any = ap (λ (d : Database g.row.C.Denot g.row.D.Denot). d.any) c.db.view_is in
    let self_any = c.deref.ensures ∙ ap (λ (b : Made g.row.D.Denot). b.any) c.self.view_is in
    record {
      value = two (λ (d : anys.Database g.row.C.Denot g.row.D.Denot) (b : anys.Made g.row.D.Denot). AtMade g.C.Store layout d b (λ chain tip. IfOk r (λ found. option_map key found ≡ key_below (live_keys tip) (key c.args.key.now)))) db_any self_any c.get_prev_key.ensures.value;
      reads = two (λ (d : anys.Database g.row.C.Denot g.row.D.Denot) (b : anys.Made g.row.D.Denot). ReadsThrough g.C.Store layout d c.get_prev_key.new.db r b.bounds) db_any self_any c.get_prev_key.ensures.reads;
      rest = ap (λ (d : Database g.row.C.Denot g.row.D.Denot). record d { any = c.get_prev_key.new.db }) c.db.view_is;
    }
