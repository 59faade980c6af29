use Rattle.std.proofs.Common.{codes, sym}
use Rattle.std.specs.String.{string_bytes}
use Rattle.qm_lines.proofs.Written.{pushed, written_behind}
use Rattle.qm_lines.proofs.text.write_corrupt.Goals as goal

pub returns : goal.returns
returns c =
    rw (sym c.text.ensures)
    (written_behind (string_bytes c.args.out.now) (string_bytes c.push_str.new.self) (string_bytes c.push_str-2.new.self) (codes "refused DataCorrupted ") c.text.result.now c.push_str-2.result
    c.in_ok-push_str.ensures.bytes (pushed (string_bytes c.push_str.new.self) (string_bytes c.push_str-2.new.self) c.text.result.now c.push_str-2.result c.push_str-2.ensures.bytes))
