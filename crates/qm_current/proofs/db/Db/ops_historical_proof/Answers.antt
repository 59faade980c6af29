use Rattle.std.proofs.Common.{◌≡◌, ◌≤◌, ◌+◌, ap, subst, take, drop, None}
use Rattle.std.specs.Prelude.{IfErr, IfOk, OnOk}
use Rattle.std.specs.NonZero.{non_zero_u64_get}
use Rattle.qm_model.specs.Proofs.{ops_proof}
use Rattle.qm_model.specs.Refusals.{proof_count, proof_refusal}
use Rattle.qm_operations.specs.Views.{operation_views}
use Rattle.qm_proofs.specs.Proofs.{proof_view}
use Rattle.qm_store.specs.Refusals.{IsDue}
use Rattle.qm_build.specs.Reasons.{proof_reasons}
use Rattle.qm_any.specs.Databases as anys
use Rattle.qm_any.specs.Layouts.{hashing_of, layout_of}
use Rattle.qm_any.specs.Reading.{AtList}
use Rattle.qm_any.specs.Reasons.{IsProofError}
use Rattle.qm_current.specs.Databases.{Database}
use Rattle.qm_current.proofs.Making.{left-joined}
use Rattle.qm_current.proofs.db.Db.ops_historical_proof.Goals as goal

pub invariant_of-self : goal.invariant_of-self
invariant_of-self g c =
    let hashing = hashing_of g.H.Digest.Digest.bytes g.H.Hasher g.F.Family g.U.Update in
    left-joined g.C.Store hashing g.N.Chunks.LEN (record { any = c.self.inside.any; canonical = c.self.inside.canonical; instance = c.self.inside.instance; name = c.self.inside.name.now }) c.historical_proof.new.self c.historical_proof.ensures.left c.self.invariant

pub returns : goal.returns
returns g c =
    let members = g.C.Store in
    let bytes = g.H.Digest.Digest.bytes in
    let layout = layout_of g.N.Chunks.LEN bytes g.H.Hasher g.F.Family g.U.Update g.I.Unordered in
    let hashing = hashing_of bytes g.H.Hasher g.F.Family g.U.Update in
    let r = c.historical_proof.result in
    let new = c.historical_proof.new.self in
    let size = c.args.size in
    let start = c.args.start in
    let count = proof_count size start (non_zero_u64_get c.args.max) in
    let views = operation_views g.U.Update.view g.U.Key.ByteString.bytes g.U.Value.ByteString.bytes in
    let told = c.historical_proof.ensures in
    let db_any = ap (λ (d : Database g.row.C.Denot g.row.H-Digest.Denot). d.any) c.self.view_is in
    record {
      offered = subst (λ d. AtList members layout d (λ list. OnOk r (proof_refusal (members.start d.log.store) list size start ≡ None))) db_any told.offered;
      kept = subst (λ (d : anys.Database g.row.C.Denot g.row.H-Digest.Denot). OnOk r (members.start d.log.store ≤ start)) db_any told.kept;
      proof = subst (λ d. AtList members layout d (λ list. IfOk r (λ shown. proof_view bytes shown.0 ≡ ops_proof g.H.Hasher.hash g.F.Family.shape g.U.Update.form (take size list) start (start + count)))) db_any told.proof;
      operations = subst (λ d. AtList members layout d (λ list. IfOk r (λ shown. views shown.1.items ≡ take count (drop start list)))) db_any told.operations;
      refused = subst (λ d. AtList members layout d (λ list. IfErr r (λ e. IsDue e (proof_refusal (members.start d.log.store) list size start)))) db_any told.refused;
      unproved = subst (λ (d : anys.Database g.row.C.Denot g.row.H-Digest.Denot). IfErr r (IsProofError members (proof_reasons size start) d.log new.log)) db_any told.unproved;
      left = record {
        any = subst (λ d. anys.IsLeft members hashing d new) db_any told.left;
        rest = ap (λ (d : Database g.row.C.Denot g.row.H-Digest.Denot). record d { any = new }) c.self.view_is;
      };
    }
