use Rattle.std.proofs.Common.{◌≡◌, ap, subst, true, None}
use Rattle.std.specs.Prelude.{IfErr, IfOk, OnOk}
use Rattle.qm_model.specs.Checks.{exclusion_proof}
use Rattle.qm_model.specs.Forms.{Form}
use Rattle.qm_model.specs.Live.{live, live_of}
use Rattle.qm_model.specs.Refusals.{existing_refusal}
use Rattle.qm_graft.specs.Grafting.{grafting}
use Rattle.qm_keyproofs.specs.Exclusions.{exclusion_view}
use Rattle.qm_store.specs.Refusals.{IsDue}
use Rattle.qm_any.specs.Databases as anys
use Rattle.qm_any.specs.Layouts.{Layout, hashing_with}
use Rattle.qm_shown.specs.Refusals.{IsCaused}
use Rattle.qm_current.specs.Databases.{Database}
use Rattle.qm_current.specs.Shown.{AtList}
use Rattle.qm_current.proofs.Making.{left-joined}
use Rattle.qm_current.proofs.shown.ordered.Db+F+C+I+H+Ordered+K+V+N.exclusion_proof.Goals as goal

pub invariant_of-self : goal.invariant_of-self
invariant_of-self g c =
    let bytes = g.H.Digest.Digest.bytes in
    let form : Form = record { ordered = true; sizes = g.V.ValueEncoding.fixed; is_key = g.K.ByteString.has; is_value = g.V.Value.ByteString.has } in
    let hashing = hashing_with bytes g.H.Hasher.hash g.F.Family.shape form in
    left-joined g.C.Store hashing g.N.Chunks.LEN (record { any = c.self.inside.any; canonical = c.self.inside.canonical; instance = c.self.inside.instance; name = c.self.inside.name.now }) c.exclusion_proof.new.db c.exclusion_proof.ensures.left c.self.invariant

pub returns : goal.returns
returns g c =
    let members = g.C.Store in
    let bytes = g.H.Digest.Digest.bytes in
    let hash = g.H.Hasher.hash in
    let shape = g.F.Family.shape in
    let size = g.N.Chunks.LEN in
    let form : Form = record { ordered = true; sizes = g.V.ValueEncoding.fixed; is_key = g.K.ByteString.has; is_value = g.V.Value.ByteString.has } in
    let hashing = hashing_with bytes g.H.Hasher.hash g.F.Family.shape form in
    let layout : Layout g.row.H-Digest.Denot = record { hashing = hashing; chunk = size; index_key = g.I.Unordered.index_key } in
    let key = g.K.ByteString.bytes c.args.key.now in
    let r = c.exclusion_proof.result in
    let new = c.exclusion_proof.new.db in
    let told = c.exclusion_proof.ensures in
    let view = c.self.view_is in
    record {
      absent = subst (λ (d : Database g.row.C.Denot g.row.H-Digest.Denot). AtList members layout d (λ list. OnOk r (live_of (live list) key ≡ None))) view (λ list is. told.absent list is.any is.canonical);
      proof = subst (λ (d : Database g.row.C.Denot g.row.H-Digest.Denot). AtList members layout d (λ list. IfOk r (λ p. exclusion_view bytes g.K.ByteString.bytes g.V.Value.ByteString.bytes p ≡ exclusion_proof hash shape (grafting size) form list key))) view (λ list is. told.proof list is.any is.canonical);
      refused = subst (λ (d : Database g.row.C.Denot g.row.H-Digest.Denot). AtList members layout d (λ list. IfErr r (λ e. IsDue e (existing_refusal (live_of (live list) key))))) view (λ list is. told.refused list is.any is.canonical);
      caused = subst (λ (d : Database g.row.C.Denot g.row.H-Digest.Denot). IfErr r (IsCaused members d.any new)) view told.caused;
      left = record {
        any = subst (λ (d : Database g.row.C.Denot g.row.H-Digest.Denot). anys.IsLeft members hashing d.any new) view told.left;
        rest = ap (λ (d : Database g.row.C.Denot g.row.H-Digest.Denot). record d { any = new }) view;
      };
    }
