-- What definitions see of the program's proofs.
use Rattle.std.specs.Prelude.{List, map, option_map}
use Rattle.qm_model.specs.Operations.{Bytes}
use Rattle.qm_model.specs.RangeProofs as model
use Rattle.qm_proofs.specs.Proofs.{proof_view}
use Rattle.qm_chunks.specs.Views.{partial_view}
use Rattle.qm_keyproofs.specs.declared.chunk.ChunkBytes.{ChunkBytes}
use Rattle.qm_keyproofs.specs.declared.range.RangeProof.{RangeProof}
use Rattle.qm_keyproofs.specs.declared.operation.OperationProof.{OperationProof}
use Rattle.qm_keyproofs.specs.declared.witness.OpsRootWitness.{OpsRootWitness}

-- the bytes of chunks
abbrev pub chunk_views : {N : Type 0} {g : _} → List (ChunkBytes N g) → List Bytes
chunk_views chunks = map (λ c. c.bytes.items) chunks

module _ {D : Type 0} (bytes : D → Bytes) where
  abbrev pub range_view : RangeProof D → model.RangeProof
  range_view range = record {
    proof = proof_view bytes range.proof;
    pending = option_map bytes range.pending_chunk_digest;
    partial = option_map bytes range.partial_chunk_digest;
    ops_root = bytes range.ops_root;
  }

  abbrev pub operation_view : {F N : Type 0} {g : _} → OperationProof F N D g → model.OperationProof
  operation_view proof = record { location = proof.loc; chunk = proof.chunk.bytes.items; range = range_view proof.range_proof }

  abbrev pub witness_view : OpsRootWitness D → model.Witness
  witness_view witness = record {
    grafted_root = bytes witness.grafted_root;
    pending = option_map bytes witness.pending_chunk_digest;
    partial = partial_view bytes witness.partial_chunk;
  }
