use Rattle.std.proofs.Common.{◌≡◌, ◌++◌, codes, decimal, flat_map, take}
use Rattle.std.specs.String.{string_bytes}
use Rattle.qm_lines.proofs.text.write_numbers.Given as goal

abbrev pub invariant-loop-number : goal.invariant-loop-number
invariant-loop-number l = string_bytes l.out ≡ string_bytes l.fn.out ++ (l.name ++ flat_map (λ n. codes " " ++ decimal n) (take l.number-index l.numbers))
