use Rattle.std.proofs.Common.{◌∙◌, ap, sym}
use Rattle.std.proofs.lemmas.Result.{IfOk-from_err}
use Rattle.qm_batch.specs.Scans.{behind}
use Rattle.qm_batch.proofs.Going.{behind-none, behind-some}
use Rattle.qm_batch.proofs.scan.behind.Goals as goal

pub returns-in_err-key-in-Some : goal.returns-in_err-key-in-Some
returns-in_err-key-in-Some g c = IfOk-from_err c.from_residual.result _ c.from_residual.ensures.0

pub returns-in_ok-key-in-Some : goal.returns-in_ok-key-in-Some
returns-in_ok-key-in-Some g c =
    let key = g.K.ByteString.bytes in
    ap (λ k. behind (key k)) c.in_ok-key-in-Some.ensures ∙ behind-some key g.V.ByteString.bytes c.args.pairs.now c.in-Some.field-0.now (sym c.in-Some.ensures.value)

pub returns-in-None : goal.returns-in-None
returns-in-None g c = behind-none g.K.ByteString.bytes g.V.ByteString.bytes c.args.pairs.now (sym c.in-None.ensures.value)
