-- What definitions see of the program's proofs of absence.
use Rattle.std.specs.Prelude.{option_map}
use Rattle.qm_model.specs.Operations.{Bytes}
use Rattle.qm_model.specs.RangeProofs.{Exclusion, spanned, emptied}
use Rattle.qm_keyproofs.specs.declared.exclusion.ExclusionProof.{ExclusionProof}
use Rattle.qm_keyproofs.specs.declared.exclusion.ExclusionProof.TheVariants.{KeyValue, Commit}
use Rattle.qm_keyproofs.specs.Views.{operation_view}

abbrev pub exclusion_view : {F N K V D W : Type 0} {g : _} → (D → Bytes) → (K → Bytes) → (W → Bytes) → ExclusionProof F N K V D W g → Exclusion
exclusion_view bytes key_bytes value_bytes (KeyValue proof update) =
    spanned (operation_view bytes proof) (key_bytes update.key) (value_bytes update.value) (key_bytes update.next_key)
exclusion_view bytes key_bytes value_bytes (Commit proof metadata) = emptied (operation_view bytes proof) (option_map value_bytes metadata)
