use Rattle.std.proofs.Common.{◌≡◌, ap, subst, map}
use Rattle.std.specs.Prelude.{IfOk, option_map}
use Rattle.qm_model.specs.Live.{value_of}
use Rattle.qm_any.specs.Layouts.{hashing_of, layout_of}
use Rattle.qm_any.specs.Reading.{AtList, Reads}
use Rattle.qm_current.specs.Databases.{Database}
use Rattle.qm_current.proofs.Making.{left-joined}
use Rattle.qm_current.proofs.db.Db.get_many.Goals as goal

pub invariant_of-self : goal.invariant_of-self
invariant_of-self g c =
    let hashing = hashing_of g.H.Digest.Digest.bytes g.H.Hasher g.F.Family g.U.Update in
    left-joined g.C.Store hashing g.N.Chunks.LEN (record { any = c.self.inside.any; canonical = c.self.inside.canonical; instance = c.self.inside.instance; name = c.self.inside.name.now }) c.get_many.new.self c.get_many.ensures.reads.left c.self.invariant

pub returns : goal.returns
returns g c =
    let key = g.U.Key.ByteString.bytes in
    let value = g.U.Value.ByteString.bytes in
    let layout = layout_of g.N.Chunks.LEN g.H.Digest.Digest.bytes g.H.Hasher g.F.Family g.U.Update g.I.Unordered in
    let r = c.get_many.result in
    let db_any = ap (λ (d : Database g.row.C.Denot g.row.H-Digest.Denot). d.any) c.self.view_is in
    record {
      values = subst (λ d. AtList g.C.Store layout d (λ list. IfOk r (λ v. map (option_map value) v.items ≡ map (λ k. value_of list (key k)) c.args.keys.now))) db_any c.get_many.ensures.values;
      reads = subst (λ d. Reads g.C.Store layout d c.get_many.new.self r) db_any c.get_many.ensures.reads;
      rest = ap (λ (d : Database g.row.C.Denot g.row.H-Digest.Denot). record d { any = c.get_many.new.self }) c.self.view_is;
    }
