use Rattle.std.proofs.Common.{◌++◌, codes, decimal, map}
use Rattle.std.specs.String.{string_bytes}
use Rattle.qm_machine.specs.Text as texts
use Rattle.qm_base.specs.Listed.{listed_view}
use Rattle.qm_lines.proofs.Written.{written_behind}
use Rattle.qm_lines.proofs.text.write_listed.Goals as goal

pub returns : goal.returns
returns g c =
    written_behind (string_bytes c.args.out.now) (string_bytes c.write_number.new.out) (string_bytes c.write_operations.new.out) (codes "ops " ++ decimal c.args.base) (texts.operations_text (map (listed_view g.K.ByteString.bytes g.V.ByteString.bytes) c.args.ops.now)) c.write_operations.result
    c.in_ok-write_number.ensures c.write_operations.ensures
