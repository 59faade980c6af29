-- What the decoder finds is the operation that the bytes spell.
use Rattle.std.proofs.Common.{arith}
use Rattle.qm_operations.specs.Views.{operation_view}
use Rattle.qm_model.proofs.Forms.{found_spelling, found_none}
use Rattle.qm_operations.proofs.operation.Operation.decode.Goals as goal

pub returns-clause-some : goal.returns-clause-some
returns-clause-some g c =
    found_spelling (operation_view g.U.Update.view g.U.Key.ByteString.bytes g.U.Value.ByteString.bytes) g.U.Update.form c.args.bytes.now _ (λ i. omega (arith, c.type_inv.bytes i)) c.decoded.ensures

pub returns-clause-none : goal.returns-clause-none
returns-clause-none g c =
    found_none (operation_view g.U.Update.view g.U.Key.ByteString.bytes g.U.Value.ByteString.bytes) g.U.Update.form c.args.bytes.now _ c.decoded.ensures
