use Rattle.std.proofs.Common.{◌≡◌, ◌++◌, map, take}
use Rattle.std.specs.String.{string_bytes}
use Rattle.qm_machine.specs.Text as texts
use Rattle.qm_base.specs.Views.{pair_view}
use Rattle.qm_lines.proofs.text.write_pairs.Given as goal

abbrev pub invariant-loop-key : goal.invariant-loop-key
invariant-loop-key g l = string_bytes l.out ≡ string_bytes l.fn.out ++ (l.name ++ texts.pairs_text (map (pair_view g.K.ByteString.bytes g.V.ByteString.bytes) (take l.key-index l.pairs)))
