use Rattle.std.proofs.Common.{◌≡◌, ◌++◌, map, take}
use Rattle.std.specs.String.{string_bytes}
use Rattle.qm_machine.specs.Text as texts
use Rattle.qm_lines.proofs.text.write_digests.Given as goal

abbrev pub invariant-loop-digest : goal.invariant-loop-digest
invariant-loop-digest g l = string_bytes l.out ≡ string_bytes l.fn.out ++ texts.digests_text (map g.D.Digest.bytes (take l.digest-index l.digests))
