use Rattle.std.proofs.Common.{◌++◌, codes}
use Rattle.std.specs.String.{string_bytes}
use Rattle.hex.specs.Hex.{encode_lower}
use Rattle.qm_lines.proofs.Written.{written_behind}
use Rattle.qm_lines.proofs.text.write_roots.Goals as goal

pub returns : goal.returns
returns g c =
    written_behind (string_bytes c.args.out.now) (string_bytes c.write_hex.new.out) (string_bytes c.write_hex-2.new.out) (codes "root " ++ encode_lower (g.D.Digest.bytes c.args.root.now)) (codes " " ++ encode_lower (g.D.Digest.bytes c.args.operations.now)) c.write_hex-2.result
    (rw c.bytes.ensures at c.in_ok-write_hex.ensures) (rw c.bytes-2.ensures at c.write_hex-2.ensures)
