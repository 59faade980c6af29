use Rattle.std.proofs.Common.{◌++◌, append_assoc, codes, decimal, map}
use Rattle.std.specs.declared.alloc.AllocError.{AllocError}
use Rattle.std.specs.String.{string_bytes}
use Rattle.qm_base.specs.Listed.{listed_view}
use Rattle.qm_machine.specs.Text as texts
use Rattle.qm_lines.proofs.Written.{written_behind}
use Rattle.qm_lines.proofs.text.write_proved.Goals as goal

pub returns : goal.returns
returns g c =
    simp append_assoc at (written_behind {T = Unit {0}} {E = AllocError} (string_bytes c.args.out.now) (string_bytes c.write_proof.new.out) (string_bytes c.write_operations.new.out)
    (codes "proof " ++ (decimal c.args.leaves ++ (codes " " ++ (decimal c.args.inactive ++ (texts.digests_text (map g.D.Digest.bytes c.args.digests.now) ++ codes " /"))))) (texts.operations_text (map (listed_view g.K.ByteString.bytes g.V.ByteString.bytes) c.args.ops.now)) c.write_operations.result
    c.in_ok-write_proof.ensures c.write_operations.ensures)
