use Rattle.std.proofs.Common.{◌≡◌, true}
use Rattle.qm_model.specs.Operations.{Bytes}
use Rattle.qm_step.proofs.MovesMaps.{next-known}
use Rattle.std.proofs.lemmas.Result.{IfOk-from_err}
use Rattle.qm_step.proofs.moves.relinked.Goals as goal

pub from_bytes-requires : goal.from_bytes-requires
from_bytes-requires g c = next-known (λ (k : Bytes). g.K.ByteString.has k ≡ true) c.args.keys.now.entries c.as_bytes.result.now c.in-Some.next.now c.requires c.in-Some.ensures

pub returns-in_err-next_key : goal.returns-in_err-next_key
returns-in_err-next_key g c = IfOk-from_err c.from_residual.result _ c.from_residual.ensures.0

pub returns-in_err-key : goal.returns-in_err-key
returns-in_err-key g c = IfOk-from_err c.from_residual-in_err-key.result _ c.from_residual-in_err-key.ensures.0

pub returns-in_err-value : goal.returns-in_err-value
returns-in_err-value g c = IfOk-from_err c.from_residual-in_err-value.result _ c.from_residual-in_err-value.ensures.0
