use Rattle.std.proofs.Common.{◌≡◌, ◌+◌, ap, subst, length, take, drop, None}
use Rattle.std.specs.Prelude.{IfErr, IfOk, OnOk}
use Rattle.std.specs.NonZero.{non_zero_u64_get}
use Rattle.qm_model.specs.RangeProofs as range_proofs
use Rattle.qm_model.specs.Refusals.{proof_count}
use Rattle.qm_graft.specs.Grafting.{grafting}
use Rattle.qm_keyproofs.specs.Views.{chunk_views, range_view}
use Rattle.qm_operations.specs.Views.{operation_views}
use Rattle.qm_store.specs.Refusals.{IsDue}
use Rattle.qm_any.specs.Databases as anys
use Rattle.qm_any.specs.Layouts.{hashing_of, layout_of}
use Rattle.qm_shown.specs.Refusals.{from_refusal, IsCaused}
use Rattle.qm_current.specs.Databases.{Database}
use Rattle.qm_current.specs.Shown.{AtList}
use Rattle.qm_current.proofs.Making.{left-joined}
use Rattle.qm_current.proofs.db.Db.range_proof.Goals as goal

pub invariant_of-self : goal.invariant_of-self
invariant_of-self g c =
    let hashing = hashing_of g.H.Digest.Digest.bytes g.H.Hasher g.F.Family g.U.Update in
    left-joined g.C.Store hashing g.N.Chunks.LEN (record { any = c.self.inside.any; canonical = c.self.inside.canonical; instance = c.self.inside.instance; name = c.self.inside.name.now }) c.range_proof.new.db c.range_proof.ensures.left c.self.invariant

pub returns : goal.returns
returns g c =
    let members = g.C.Store in
    let bytes = g.H.Digest.Digest.bytes in
    let hash = g.H.Hasher.hash in
    let shape = g.F.Family.shape in
    let form = g.U.Update.form in
    let size = g.N.Chunks.LEN in
    let hashing = hashing_of bytes g.H.Hasher g.F.Family g.U.Update in
    let layout = layout_of size bytes g.H.Hasher g.F.Family g.U.Update g.I.Unordered in
    let r = c.range_proof.result in
    let new = c.range_proof.new.db in
    let start = c.args.start in
    let max = non_zero_u64_get c.args.max in
    let views = operation_views g.U.Update.view g.U.Key.ByteString.bytes g.U.Value.ByteString.bytes in
    let told = c.range_proof.ensures in
    let view = c.self.view_is in
    record {
      offered = subst (λ (d : Database g.row.C.Denot g.row.H-Digest.Denot). AtList members layout d (λ list. OnOk r (from_refusal members size d.any list start ≡ None))) view (λ list is. told.offered list is.any is.canonical);
      proof = subst (λ (d : Database g.row.C.Denot g.row.H-Digest.Denot). AtList members layout d (λ list. IfOk r (λ shown. range_view bytes shown.0 ≡ range_proofs.range_proof hash shape (grafting size) form list start (start + proof_count (length list) start max)))) view (λ list is. told.proof list is.any is.canonical);
      operations = subst (λ (d : Database g.row.C.Denot g.row.H-Digest.Denot). AtList members layout d (λ list. IfOk r (λ shown. views shown.1.items ≡ take (proof_count (length list) start max) (drop start list)))) view (λ list is. told.operations list is.any is.canonical);
      chunks = subst (λ (d : Database g.row.C.Denot g.row.H-Digest.Denot). AtList members layout d (λ list. IfOk r (λ shown. chunk_views shown.2.items ≡ range_proofs.chunks_of (grafting size) list start (start + proof_count (length list) start max)))) view (λ list is. told.chunks list is.any is.canonical);
      refused = subst (λ (d : Database g.row.C.Denot g.row.H-Digest.Denot). AtList members layout d (λ list. IfErr r (λ e. IsDue e (from_refusal members size d.any list start)))) view (λ list is. told.refused list is.any is.canonical);
      caused = subst (λ (d : Database g.row.C.Denot g.row.H-Digest.Denot). IfErr r (IsCaused members d.any new)) view told.caused;
      left = record {
        any = subst (λ (d : Database g.row.C.Denot g.row.H-Digest.Denot). anys.IsLeft members hashing d.any new) view told.left;
        rest = ap (λ (d : Database g.row.C.Denot g.row.H-Digest.Denot). record d { any = new }) view;
      };
    }
