use Rattle.std.proofs.Common.{◌≡◌, ◌++◌, codes, map, take}
use Rattle.std.specs.String.{string_bytes}
use Rattle.qm_machine.specs.Text as texts
use Rattle.qm_lines.proofs.text.write_keys.Given as goal

abbrev pub invariant-loop-key : goal.invariant-loop-key
invariant-loop-key g l = string_bytes l.out ≡ string_bytes l.fn.out ++ (codes "keys" ++ texts.keys_text (map g.K.ByteString.bytes (take l.key-index l.keys)))
