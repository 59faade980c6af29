-- What the decoder finds is the proof that the bytes spell.
use Rattle.std.proofs.Common.{arith}
use Rattle.qm_model.specs.Forms.{variable}
use Rattle.qm_client.specs.Views.{proof_view}
use Rattle.qm_client.proofs.ProofForms.{found_proof, found_no_proof}
use Rattle.qm_client.proofs.decode.decode_proof.Goals as goal

pub returns-clause-some : goal.returns-clause-some
returns-clause-some g c =
    found_proof (proof_view g.D.Digest.bytes) variable g.N.Chunks.LEN g.D.Digest.SIZE c.args.bytes.now _ (λ i. omega (arith, c.type_inv.bytes i)) c.by_tag.ensures

pub returns-clause-none : goal.returns-clause-none
returns-clause-none g c =
    found_no_proof (proof_view g.D.Digest.bytes) variable g.N.Chunks.LEN g.D.Digest.SIZE c.args.bytes.now _ c.by_tag.ensures
