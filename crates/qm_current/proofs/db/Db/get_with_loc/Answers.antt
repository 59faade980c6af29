use Rattle.std.proofs.Common.{◌≡◌, ap, subst}
use Rattle.std.specs.Prelude.{IfOk, option_map}
use Rattle.qm_step.specs.Changes.{update_of}
use Rattle.qm_step.specs.Views.{read_view}
use Rattle.qm_any.specs.Layouts.{hashing_of, layout_of}
use Rattle.qm_any.specs.Reading.{AtList, Reads}
use Rattle.qm_current.specs.Databases.{Database}
use Rattle.qm_current.proofs.Making.{left-joined}
use Rattle.qm_current.proofs.db.Db.get_with_loc.Goals as goal

pub invariant_of-self : goal.invariant_of-self
invariant_of-self g c =
    let hashing = hashing_of g.H.Digest.Digest.bytes g.H.Hasher g.F.Family g.U.Update in
    left-joined g.C.Store hashing g.N.Chunks.LEN (record { any = c.self.inside.any; canonical = c.self.inside.canonical; instance = c.self.inside.instance; name = c.self.inside.name.now }) c.get_with_loc.new.self c.get_with_loc.ensures.reads.left c.self.invariant

pub returns : goal.returns
returns g c =
    let key = g.U.Key.ByteString.bytes in
    let layout = layout_of g.N.Chunks.LEN g.H.Digest.Digest.bytes g.H.Hasher g.F.Family g.U.Update g.I.Unordered in
    let r = c.get_with_loc.result in
    let db_any = ap (λ (d : Database g.row.C.Denot g.row.H-Digest.Denot). d.any) c.self.view_is in
    record {
      value = subst (λ d. AtList g.C.Store layout d (λ list. IfOk r (λ found. option_map (read_view g.U.Update.view) found ≡ update_of list (key c.args.key.now)))) db_any c.get_with_loc.ensures.value;
      reads = subst (λ d. Reads g.C.Store layout d c.get_with_loc.new.self r) db_any c.get_with_loc.ensures.reads;
      rest = ap (λ (d : Database g.row.C.Denot g.row.H-Digest.Denot). record d { any = c.get_with_loc.new.self }) c.self.view_is;
    }
