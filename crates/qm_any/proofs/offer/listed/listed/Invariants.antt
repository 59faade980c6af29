use Rattle.std.proofs.Common.{◌≡◌, take, map}
use Rattle.qm_base.specs.Listed.{listed_view}
use Rattle.qm_operations.specs.Views.{operation_views}
use Rattle.qm_any.proofs.offer.listed.listed.Given as goal

abbrev pub invariant-loop-operation : goal.invariant-loop-operation
invariant-loop-operation g l =
    let key = g.U.Key.ByteString.bytes in
    let value = g.U.Value.ByteString.bytes in
    map (listed_view key value) l.list.items ≡ operation_views g.U.Update.view key value (take l.operation-index l.operations)
