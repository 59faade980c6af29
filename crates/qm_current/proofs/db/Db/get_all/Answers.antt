use Rattle.std.proofs.Common.{◌≡◌, ap, subst, Option, Some}
use Rattle.std.specs.Prelude.{IfOk, option_map}
use Rattle.qm_model.specs.Live.{live, live_of}
use Rattle.qm_model.specs.Operations.{Bytes}
use Rattle.qm_any.specs.Layouts.{hashing_of, layout_of}
use Rattle.qm_any.specs.Reading.{AtList, Reads}
use Rattle.qm_current.specs.Databases.{Database}
use Rattle.qm_current.proofs.Making.{left-joined}
use Rattle.qm_current.proofs.db.Db.get_all.Goals as goal

pub invariant_of-self : goal.invariant_of-self
invariant_of-self g c =
    let hashing = hashing_of g.H.Digest.Digest.bytes g.H.Hasher g.F.Family g.U.Update in
    left-joined g.C.Store hashing g.N.Chunks.LEN (record { any = c.self.inside.any; canonical = c.self.inside.canonical; instance = c.self.inside.instance; name = c.self.inside.name.now }) c.get_all.new.self c.get_all.ensures.reads.left c.self.invariant

pub returns : goal.returns
returns g c =
    let key = g.U.Key.ByteString.bytes in
    let value = g.U.Value.ByteString.bytes in
    let layout = layout_of g.N.Chunks.LEN g.H.Digest.Digest.bytes g.H.Hasher g.F.Family g.U.Update g.I.Unordered in
    let r = c.get_all.result in
    let db_any = ap (λ (d : Database g.row.C.Denot g.row.H-Digest.Denot). d.any) c.self.view_is in
    record {
      value = subst (λ d. AtList g.C.Store layout d (λ list. IfOk r (λ found. option_map {U = Bytes × Option Bytes} (λ p. (value p.0, Some (key p.1))) found ≡ option_map {U = Bytes × Option Bytes} (λ e. (e.value, e.next)) (live_of (live list) (key c.args.key.now))))) db_any c.get_all.ensures.value;
      reads = subst (λ d. Reads g.C.Store layout d c.get_all.new.self r) db_any c.get_all.ensures.reads;
      rest = ap (λ (d : Database g.row.C.Denot g.row.H-Digest.Denot). record d { any = c.get_all.new.self }) c.self.view_is;
    }
