-- The key after the tag is that of the update that the bytes spell.
use Rattle.std.proofs.Common.{◌∙◌}
use Rattle.qm_operations.proofs.Parts.{update_key-spelling}
use Rattle.qm_operations.proofs.operation.Operation.update_key.Goals as goal

pub returns : goal.returns
returns g c = λ op is. c.read_update_key.ensures ∙ update_key-spelling g.U.Update.form c.args.bytes.now op is
