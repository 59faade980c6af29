-- What definitions see of the program's proofs of keys.
use Rattle.std.specs.Prelude.{List}
use Rattle.qm_model.specs.Operations.{Bytes}
use Rattle.qm_model.specs.RangeProofs.{OperationProof, spanned, emptied}
use Rattle.qm_keyproofs.specs.Views.{operation_view}
use Rattle.qm_keyproofs.specs.Exclusions.{exclusion_view}
use Rattle.qm_client.specs.ProofForms.{KeyProof, held, linked, absent}
use Rattle.qm_client.specs.declared.proof.AnyProof.{AnyProof}
use Rattle.qm_client.specs.declared.proof.AnyProof.TheVariants.{Held, Linked, Absent}

abbrev pub proof_view : {F N D : Type 0} {g : _} → (D → Bytes) → AnyProof F N D g → KeyProof
proof_view bytes (Held proof) = held (operation_view bytes proof)
proof_view bytes (Linked proof) = linked (operation_view bytes proof.proof) proof.next_key
proof_view bytes (Absent proof) = absent (exclusion_view bytes (λ k. k) (λ v. v) proof)

-- the digests beside the operation
abbrev pub operation_in : KeyProof → OperationProof
operation_in (held proof) = proof
operation_in (linked proof next) = proof
operation_in (absent (spanned proof key value next)) = proof
operation_in (absent (emptied proof meta)) = proof

abbrev pub digests_in : KeyProof → List Bytes
digests_in proof = ((operation_in proof).range).proof.digests
