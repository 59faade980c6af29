use Rattle.std.proofs.Common.{subst}
use Rattle.std.specs.Prelude.{IfSome}
use Rattle.qm_client.specs.ProofForms.{IsProofSpelling}
use Rattle.qm_model.proofs.Forms.{AreBytes-all}
use Rattle.qm_client.proofs.ProofForms.{read-proof_spelling, proof_spelling-read, proof_spelling-once}
use Rattle.qm_client.proofs.laws.proofs_of_keys_are_read.Goals as goal

pub returns-clause-spelled : goal.returns-clause-spelled
returns-clause-spelled c form chunk size proof is = read-proof_spelling form chunk size proof is

pub returns-clause-read : goal.returns-clause-read
returns-clause-read c form chunk size bytes proof below is = subst (λ o. IfSome o (IsProofSpelling form chunk size bytes)) is (proof_spelling-read form chunk size bytes (AreBytes-all bytes below))

pub returns-clause-once : goal.returns-clause-once
returns-clause-once c form chunk size a b one other same = proof_spelling-once form chunk size a b one other same
