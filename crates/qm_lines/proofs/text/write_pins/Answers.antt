use Rattle.std.proofs.Common.{codes, map}
use Rattle.std.proofs.lemmas.Result.{IfOk-from_err}
use Rattle.std.specs.String.{string_bytes}
use Rattle.qm_machine.specs.Text as texts
use Rattle.qm_lines.proofs.Written.{written_behind}
use Rattle.qm_lines.proofs.text.write_pins.Goals as goal

pub returns-in_err-push_str : goal.returns-in_err-push_str
returns-in_err-push_str g c = IfOk-from_err c.from_residual.result _ c.from_residual.ensures.0

pub returns : goal.returns
returns g c =
    written_behind (string_bytes c.args.out.now) (string_bytes c.push_str.new.self) (string_bytes c.write_digests.new.out) (codes "pins") (texts.digests_text (map g.D.Digest.bytes c.args.digests.now)) c.write_digests.result
    c.in_ok-push_str.ensures.bytes c.write_digests.ensures
