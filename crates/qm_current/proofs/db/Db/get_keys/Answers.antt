use Rattle.std.proofs.Common.{◌≡◌, ap, subst, map}
use Rattle.std.specs.Prelude.{IfOk}
use Rattle.qm_model.specs.Ranges.{keys_in}
use Rattle.qm_base.specs.Views.{limit_of}
use Rattle.qm_any.specs.Layouts.{hashing_of, layout_of}
use Rattle.qm_any.specs.Reading.{AtList, Reads}
use Rattle.qm_current.specs.Databases.{Database}
use Rattle.qm_current.proofs.Making.{left-joined}
use Rattle.qm_current.proofs.db.Db.get_keys.Goals as goal

pub invariant_of-self : goal.invariant_of-self
invariant_of-self g c =
    let hashing = hashing_of g.H.Digest.Digest.bytes g.H.Hasher g.F.Family g.U.Update in
    left-joined g.C.Store hashing g.N.Chunks.LEN (record { any = c.self.inside.any; canonical = c.self.inside.canonical; instance = c.self.inside.instance; name = c.self.inside.name.now }) c.keys_of.new.db c.keys_of.ensures.reads.left c.self.invariant

pub returns : goal.returns
returns g c =
    let key = g.U.Key.ByteString.bytes in
    let layout = layout_of g.N.Chunks.LEN g.H.Digest.Digest.bytes g.H.Hasher g.F.Family g.U.Update g.I.Unordered in
    let r = c.keys_of.result in
    let db_any = ap (λ (d : Database g.row.C.Denot g.row.H-Digest.Denot). d.any) c.self.view_is in
    record {
      keys = subst (λ d. AtList g.C.Store layout d (λ list. IfOk r (λ keys. map key keys.items ≡ keys_in (limit_of key c.args.low.now) (limit_of key c.args.high.now) list))) db_any c.keys_of.ensures.keys;
      reads = subst (λ d. Reads g.C.Store layout d c.keys_of.new.db r) db_any c.keys_of.ensures.reads;
      rest = ap (λ (d : Database g.row.C.Denot g.row.H-Digest.Denot). record d { any = c.keys_of.new.db }) c.self.view_is;
    }
