use Rattle.std.proofs.Common.{◌∙◌, ap, subst}
use Rattle.std.specs.Prelude.{IfErr}
use Rattle.std.specs.NonZero.{non_zero_u64_get}
use Rattle.qm_proofs.specs.Proofs.{proof_view}
use Rattle.qm_build.specs.Reasons.{proof_reasons}
use Rattle.qm_any.specs.Reasons.{IsProofError}
use Rattle.qm_any.proofs.Telling.{proof-whole}
use Rattle.qm_any.proofs.db.Db.proof.Goals as goal

pub returns-clause-proof : goal.returns-clause-proof
returns-clause-proof g c = λ list is.
    proof-whole c.historical_proof.result g.H.Hasher.hash g.F.Family.shape g.U.Update.form list (λ shown. proof_view g.H.Digest.Digest.bytes shown.0) c.size-size.result c.args.start (non_zero_u64_get c.args.max)
    (c.size-size.ensures ∙ ap (λ k. k.size) is.commitment) (c.historical_proof.ensures.proof list is)

pub returns-clause-unproved : goal.returns-clause-unproved
returns-clause-unproved g c =
    subst (λ n. IfErr c.historical_proof.result (IsProofError g.C.Store (proof_reasons n c.args.start) c.args.self.now.log c.historical_proof.new.self.log)) c.size-size.ensures c.historical_proof.ensures.unproved
