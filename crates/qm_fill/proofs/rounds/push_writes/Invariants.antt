use Rattle.std.proofs.Common.{◌≡◌, ◌++◌, map, take}
use Rattle.qm_lines.specs.Parsed.{byte_line}
use Rattle.qm_fill.specs.Commands.{write_of}
use Rattle.qm_fill.proofs.rounds.push_writes.Given as goal

abbrev pub invariant-loop-draw : goal.invariant-loop-draw
invariant-loop-draw l = map byte_line l.commands.items ≡ map byte_line l.fn.commands.items ++ map (write_of l.number) (take l.draw-index l.draws)
