use Rattle.std.proofs.Common.{◌≡◌, ◌++◌, map, take}
use Rattle.std.specs.String.{string_bytes}
use Rattle.qm_machine.specs.Text as texts
use Rattle.qm_base.specs.Listed.{listed_view}
use Rattle.qm_lines.proofs.text.write_operations.Given as goal

abbrev pub invariant-loop-op : goal.invariant-loop-op
invariant-loop-op g l = string_bytes l.out ≡ string_bytes l.fn.out ++ texts.operations_text (map (listed_view g.K.ByteString.bytes g.V.ByteString.bytes) (take l.op-index l.ops))
