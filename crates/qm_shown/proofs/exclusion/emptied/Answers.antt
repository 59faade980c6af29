use Rattle.std.proofs.Common.{◌∙◌, ◌-◌, ap, ap₂, subst, true}
use Rattle.qm_model.specs.Batches.{Commitment}
use Rattle.qm_model.specs.Forms.{Form}
use Rattle.qm_model.specs.RangeProofs.{emptied, operation_proof}
use Rattle.qm_graft.specs.Grafting.{grafting}
use Rattle.qm_graft.proofs.Fitting.{grafting-span}
use Rattle.qm_any.specs.Layouts.{Layout, hashing_with}
use Rattle.qm_store.specs.Refusals.{IsDue}
use Rattle.qm_shown.specs.Refusals.{from_refusal}
use Rattle.qm_shown.proofs.Keys.{due-none, last-offered}
use Rattle.qm_shown.proofs.exclusion.emptied.Goals as goal

pub returns-in-Ok-proof_at-clause-proof : goal.returns-in-Ok-proof_at-clause-proof
returns-in-Ok-proof_at-clause-proof g c = λ list stands own.
    let form : Form = record { ordered = true; sizes = g.V.ValueEncoding.fixed; is_key = g.K.ByteString.has; is_value = g.V.Value.ByteString.has } in
    let last = c.new.ensures ∙ c.last_of-last.ensures ∙ ap (λ n. n - 1) (c.get.ensures ∙ c.size.ensures ∙ ap (λ (k : Commitment). k.size) stands.commitment) in
    ap₂ emptied (c.in-Ok-proof_at.ensures.proof list stands own ∙ ap (operation_proof g.H.Hasher.hash g.F.Family.shape (grafting g.N.Chunks.LEN) form list) last) (c.in-Ok.ensures ∙ stands.metadata)

pub returns-in-Err-proof_at-clause-refused : goal.returns-in-Err-proof_at-clause-refused
returns-in-Err-proof_at-clause-refused g c = λ list stands own.
    let size = g.N.Chunks.LEN in
    let power = g.met.N.Chunks.power in
    let db = c.args.db.now in
    let form : Form = record { ordered = true; sizes = g.V.ValueEncoding.fixed; is_key = g.K.ByteString.has; is_value = g.V.Value.ByteString.has } in
    let layout : Layout g.row.H-Digest.Denot = record { hashing = hashing_with g.H.Digest.Digest.bytes g.H.Hasher.hash g.F.Family.shape form; chunk = size; index_key = g.I.Unordered.index_key } in
    let last = c.new.ensures ∙ c.last_of-last.ensures ∙ ap (λ n. n - 1) (c.get.ensures ∙ c.size.ensures ∙ ap (λ (k : Commitment). k.size) stands.commitment) in
    let e = c.in-Err-proof_at.error in
    due-none e (subst (IsDue e) (ap (from_refusal g.C.Store size db list) last ∙ last-offered g.C.Store layout db list (grafting-span size power.0 power.1) stands) (c.in-Err-proof_at.ensures.refused list stands own))
