use Rattle.std.proofs.Common.{◌≡◌, ◌++◌, All, take, map}
use Rattle.qm_operations.specs.Views.{operation_views}
use Rattle.qm_model.specs.Forms.{IsOf, spelling}
use Rattle.qm_any.specs.Tips.{IsLow}
use Rattle.qm_any.proofs.operations.spell.Given as goal

-- the spellings of the operations so far, which are of the form
abbrev pub invariant-loop-operation : goal.invariant-loop-operation
invariant-loop-operation g l =
    let views = operation_views g.U.Update.view g.U.Key.ByteString.bytes g.U.Value.ByteString.bytes (take l.operation-index l.operations) in
    record {
      of : All IsLow views → All (IsOf g.U.Update.form) views;
      items : map (λ v. v.items) l.items.items ≡ map (λ v. v.items) l.initial.items.items ++ map (spelling g.U.Update.form) views;
    }
