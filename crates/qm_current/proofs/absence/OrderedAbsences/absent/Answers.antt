use Rattle.std.proofs.Common.{◌∙◌, ℕ, Bool, true, Option, Some, ap, ap₂}
use Rattle.qm_model.specs.Checks.{location_of}
use Rattle.qm_model.specs.Forms.{Form}
use Rattle.qm_model.specs.RangeProofs.{exclusion_verdict}
use Rattle.qm_graft.specs.Grafting.{grafting}
use Rattle.qm_current.specs.Databases.{Database}
use Rattle.qm_current.proofs.absence.OrderedAbsences.absent.Goals as goal

pub returns-in-Ok-clause-shown : goal.returns-in-Ok-clause-shown
returns-in-Ok-clause-shown g c = λ list is.
    let form : Form = record { ordered = true; sizes = g.V.ValueEncoding.fixed; is_key = g.K.ByteString.has; is_value = g.V.Value.ByteString.has } in
    let made = c.in-Ok.ensures.proof list is in
    let root = c.root-root.ensures ∙ ap (λ (d : Database _ _). d.canonical.root) c.exclusion_proof.ensures.left.rest ∙ is.canonical.root in
    let verdict = c.verify-is_accepted.ensures.answer ∙ ap₂ (λ p r. exclusion_verdict g.H.Hasher.hash g.F.Family.shape (grafting g.N.Chunks.LEN) form p (g.K.ByteString.bytes c.args.key.now) r) made root in
    ap₂ {C = Option (ℕ × Bool)} (λ n b. Some (n, b)) (c.location_of.ensures ∙ ap location_of made) verdict

pub returns-in-Ok-clause-absent : goal.returns-in-Ok-clause-absent
returns-in-Ok-clause-absent g c = λ ordered list is. c.in-Ok.ensures.absent list is
