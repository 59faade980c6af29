use Rattle.std.proofs.Common.{◌≤◌, Option, List, length, map}
use Rattle.std.specs.Prelude.{⊤}
use Rattle.qm_index.specs.Ways.{Up, FirstOf}
use Rattle.qm_index.proofs.table_row.TableRow.first_from.Given as goal

abbrev pub invariant-loop-table : goal.invariant-loop-table
invariant-loop-table g l =
    (found : Option (List _)) → FirstOf Up (λ j. ⊤) (map g.B.Table.entries l.rest) found → FirstOf Up (λ j. l.fn.place ≤ j) l.fn.self found

abbrev pub decreases-loop-table : goal.decreases-loop-table
decreases-loop-table g l = length l.rest
