use Rattle.std.proofs.Common.{◌≡◌, ◌++◌, List, map, drop, option_map}
use Rattle.qm_model.specs.Writes.{Write}
use Rattle.qm_machine.specs.Grammar.{each_write}
use Rattle.qm_lines.specs.Parsed.{byte_write, lent}
use Rattle.qm_lines.proofs.parse.staged.writes.Given as goal

abbrev pub invariant-loop-word : goal.invariant-loop-word
invariant-loop-word l = option_map (λ (ws : List Write). map byte_write l.writes.items ++ ws) (each_write (drop l.word-index (lent l.words))) ≡ each_write (lent l.words)
