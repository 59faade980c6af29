use Rattle.std.proofs.Common.{codes, map}
use Rattle.std.proofs.lemmas.Result.{IfOk-from_err}
use Rattle.std.specs.Prelude.{option_map}
use Rattle.std.specs.String.{string_bytes}
use Rattle.qm_machine.specs.Text as texts
use Rattle.qm_lines.proofs.Written.{written_behind}
use Rattle.qm_lines.proofs.text.write_read.Goals as goal

pub returns-in_err-push_str : goal.returns-in_err-push_str
returns-in_err-push_str g c = IfOk-from_err c.from_residual.result _ c.from_residual.ensures.0

pub returns : goal.returns
returns g c =
    written_behind (string_bytes c.args.out.now) (string_bytes c.push_str.new.self) (string_bytes c.write_values.new.out) (codes "read") (texts.values_text (map (option_map g.V.ByteString.bytes) c.args.values.now)) c.write_values.result
    c.in_ok-push_str.ensures.bytes c.write_values.ensures
