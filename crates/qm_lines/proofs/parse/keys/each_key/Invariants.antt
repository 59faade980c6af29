use Rattle.std.proofs.Common.{◌≡◌, ◌++◌, List, map, drop, option_map}
use Rattle.qm_model.specs.Operations.{Bytes}
use Rattle.qm_machine.specs.Grammar.{each_key}
use Rattle.qm_lines.proofs.parse.keys.each_key.Given as goal

abbrev pub invariant-loop-word : goal.invariant-loop-word
invariant-loop-word l = option_map (λ (ks : List Bytes). l.keys.items ++ ks) (each_key (drop l.word-index (map (λ x. x.now) l.words))) ≡ each_key (map (λ x. x.now) l.words)
