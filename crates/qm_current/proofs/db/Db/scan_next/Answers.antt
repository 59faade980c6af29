use Rattle.std.proofs.Common.{ap, subst}
use Rattle.std.specs.Option.{option_transpose}
use Rattle.qm_base.specs.Views.{pair_view}
use Rattle.qm_batch.specs.Scans.{IsStep, left_of}
use Rattle.qm_any.specs.Layouts.{hashing_of, layout_of}
use Rattle.qm_any.specs.Reading.{AtList, Reads}
use Rattle.qm_current.specs.Databases.{Database}
use Rattle.qm_current.proofs.Making.{left-joined}
use Rattle.qm_current.proofs.db.Db.scan_next.Goals as goal

pub invariant_of-self : goal.invariant_of-self
invariant_of-self g c =
    let hashing = hashing_of g.H.Digest.Digest.bytes g.H.Hasher g.F.Family g.U.Update in
    left-joined g.C.Store hashing g.N.Chunks.LEN (record { any = c.self.inside.any; canonical = c.self.inside.canonical; instance = c.self.inside.instance; name = c.self.inside.name.now }) c.scan_next.new.self c.scan_next.ensures.reads.left c.self.invariant

pub returns : goal.returns
returns g c =
    let key = g.U.Key.ByteString.bytes in
    let value = g.U.Value.ByteString.bytes in
    let layout = layout_of g.N.Chunks.LEN g.H.Digest.Digest.bytes g.H.Hasher g.F.Family g.U.Update g.I.Unordered in
    let r = c.scan_next.result in
    let db_any = ap (λ (d : Database g.row.C.Denot g.row.H-Digest.Denot). d.any) c.self.view_is in
    record {
      value = subst (λ d. AtList g.C.Store layout d (λ list. IsStep (pair_view key value) (left_of g.I.Unordered.index_key c.args.scan.now list) (left_of g.I.Unordered.index_key c.scan_next.new.scan list) r)) db_any c.scan_next.ensures.value;
      reads = subst (λ d. Reads g.C.Store layout d c.scan_next.new.self (option_transpose r)) db_any c.scan_next.ensures.reads;
      rest = ap (λ (d : Database g.row.C.Denot g.row.H-Digest.Denot). record d { any = c.scan_next.new.self }) c.self.view_is;
    }
