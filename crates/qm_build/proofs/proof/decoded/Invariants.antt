use Rattle.std.proofs.Common.{◌≡◌, List, All, map, take}
use Rattle.qm_operations.specs.Views.{operation_views}
use Rattle.qm_model.specs.Forms.{IsOf, spelling}
use Rattle.qm_model.specs.Operations.{Operation}
use Rattle.qm_build.proofs.proof.decoded.Given as goal

abbrev pub invariant-loop-item : goal.invariant-loop-item
invariant-loop-item g l = (list : List Operation) → All (IsOf g.U.Update.form) list → map (λ v. v.items) l.items ≡ map (spelling g.U.Update.form) list
    → operation_views g.U.Update.view g.U.Key.ByteString.bytes g.U.Value.ByteString.bytes l.made.items ≡ take l.item-index list
