use Rattle.std.proofs.Common.{◌<◌, Option, List, length, map}
use Rattle.qm_index.specs.Ways.{Down, FirstOf}
use Rattle.qm_index.proofs.table_row.TableRow.last_before.Given as goal

abbrev pub invariant-loop-table : goal.invariant-loop-table
invariant-loop-table g l =
    (found : Option (List _)) → FirstOf Down (λ j. j < length (map g.B.Table.entries l.rest)) (map g.B.Table.entries l.rest) found → FirstOf Down (λ j. j < l.fn.place) l.fn.self found

abbrev pub decreases-loop-table : goal.decreases-loop-table
decreases-loop-table g l = length l.rest
