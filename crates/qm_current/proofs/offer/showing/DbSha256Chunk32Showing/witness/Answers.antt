use Rattle.std.proofs.Common.{◌∙◌, ap}
use Rattle.qm_model.specs.Batches.{Commitment}
use Rattle.qm_graft.specs.Grafting.{grafting}
use Rattle.qm_keyproofs.specs.Views.{witness_view}
use Rattle.qm_any.specs.Offered.{digest_bytes}
use Rattle.sha2.specs.Sha256.{sha256}
use Rattle.qm_current.proofs.Checking.{witness-shown}
use Rattle.qm_current.proofs.offer.showing.DbSha256Chunk32Showing.witness.Goals as goal

pub returns-clause-shown : goal.returns-clause-shown
returns-clause-shown g c = λ list is.
    witness-shown sha256 g.F.Family.shape (grafting 32) g.U.Update.form list (witness_view digest_bytes c.in_ok-witness.witness) (digest_bytes c.ops_root-operations.result) (digest_bytes c.root-root.result) c.verify.result
    (c.in_ok-witness.ensures list is.at) (c.ops_root-operations.ensures ∙ ap (λ (k : Commitment). k.root) is.at.any.commitment) (c.root-root.ensures ∙ is.at.canonical.root) c.verify.ensures.answer
