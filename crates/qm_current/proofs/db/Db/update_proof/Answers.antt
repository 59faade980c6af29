use Rattle.std.proofs.Common.{◌≡◌, ap, subst, Some}
use Rattle.std.specs.Prelude.{IfErr, IfOk}
use Rattle.qm_model.specs.Live.{live, live_of}
use Rattle.qm_model.specs.RangeProofs as range_proofs
use Rattle.qm_model.specs.Refusals.{lacking_refusal}
use Rattle.qm_graft.specs.Grafting.{grafting}
use Rattle.qm_keyproofs.specs.Views.{operation_view}
use Rattle.qm_step.specs.Changes.{update_of}
use Rattle.qm_store.specs.Refusals.{IsDue}
use Rattle.qm_any.specs.Databases as anys
use Rattle.qm_any.specs.Layouts.{hashing_of, layout_of}
use Rattle.qm_shown.specs.Refusals.{IsCaused}
use Rattle.qm_current.specs.Databases.{Database}
use Rattle.qm_current.specs.Shown.{AtList}
use Rattle.qm_current.proofs.Making.{left-joined}
use Rattle.qm_current.proofs.db.Db.update_proof.Goals as goal

pub invariant_of-self : goal.invariant_of-self
invariant_of-self g c =
    let hashing = hashing_of g.H.Digest.Digest.bytes g.H.Hasher g.F.Family g.U.Update in
    left-joined g.C.Store hashing g.N.Chunks.LEN (record { any = c.self.inside.any; canonical = c.self.inside.canonical; instance = c.self.inside.instance; name = c.self.inside.name.now }) c.update_proof.new.db c.update_proof.ensures.left c.self.invariant

pub returns : goal.returns
returns g c =
    let members = g.C.Store in
    let bytes = g.H.Digest.Digest.bytes in
    let hash = g.H.Hasher.hash in
    let shape = g.F.Family.shape in
    let form = g.U.Update.form in
    let size = g.N.Chunks.LEN in
    let hashing = hashing_of bytes g.H.Hasher g.F.Family g.U.Update in
    let layout = layout_of size bytes g.H.Hasher g.F.Family g.U.Update g.I.Unordered in
    let key = g.U.Key.ByteString.bytes c.args.key.now in
    let r = c.update_proof.result in
    let new = c.update_proof.new.db in
    let told = c.update_proof.ensures in
    let view = c.self.view_is in
    record {
      update = subst (λ (d : Database g.row.C.Denot g.row.H-Digest.Denot). AtList members layout d (λ list. IfOk r (λ shown. update_of list key ≡ Some (shown.1.loc, g.U.Update.view shown.0)))) view (λ list is. told.update list is.any is.canonical);
      proof = subst (λ (d : Database g.row.C.Denot g.row.H-Digest.Denot). AtList members layout d (λ list. IfOk r (λ shown. operation_view bytes shown.1 ≡ range_proofs.operation_proof hash shape (grafting size) form list shown.1.loc))) view (λ list is. told.proof list is.any is.canonical);
      refused = subst (λ (d : Database g.row.C.Denot g.row.H-Digest.Denot). AtList members layout d (λ list. IfErr r (λ e. IsDue e (lacking_refusal (live_of (live list) key))))) view (λ list is. told.refused list is.any is.canonical);
      caused = subst (λ (d : Database g.row.C.Denot g.row.H-Digest.Denot). IfErr r (IsCaused members d.any new)) view told.caused;
      left = record {
        any = subst (λ (d : Database g.row.C.Denot g.row.H-Digest.Denot). anys.IsLeft members hashing d.any new) view told.left;
        rest = ap (λ (d : Database g.row.C.Denot g.row.H-Digest.Denot). record d { any = new }) view;
      };
    }
