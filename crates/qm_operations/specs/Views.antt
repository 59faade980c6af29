-- The program's operations over byte strings.
use Rattle.std.specs.Prelude.{List, map, option_map}
use Rattle.qm_model.specs.Operations.{Bytes, Operation, delete, commit}
use Rattle.qm_operations.specs.declared.operation.Operation as declared
use Rattle.qm_operations.specs.declared.operation.Operation.TheVariants.{Update, Delete, CommitFloor}

module _ {U K V : Type 0} (update_view : U → Operation) (key_bytes : K → Bytes) (value_bytes : V → Bytes) where
  abbrev pub operation_view : {F : Type 0} → declared.Operation F U K V → Operation
  operation_view (Update u) = update_view u
  operation_view (Delete k) = delete (key_bytes k)
  operation_view (CommitFloor m f) = commit (option_map value_bytes m) f

  abbrev pub operation_views : {F : Type 0} → List (declared.Operation F U K V) → List Operation
  operation_views ops = map operation_view ops
