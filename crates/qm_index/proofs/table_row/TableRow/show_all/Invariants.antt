use Rattle.std.proofs.Common.{length, map}
use Rattle.std.specs.List.{FoldsTo, flat_map}
use Rattle.std.specs.Fn.{CalledAt}
use Rattle.qm_index.specs.Buckets.{all_values}
use Rattle.qm_index.proofs.table_row.TableRow.show_all.Given as goal

abbrev pub invariant-loop-table : goal.invariant-loop-table
invariant-loop-table g l =
    goal.F-IsAlwaysCallable g l.visit
    × ((last : _) → FoldsTo (λ p x q. CalledAt g.F.FnMut p x tt q) l.visit (flat_map all_values (map g.B.Table.entries l.rest)) last → FoldsTo (λ p x q. CalledAt g.F.FnMut p x tt q) l.fn.visit (flat_map all_values l.fn.self) last)

abbrev pub decreases-loop-table : goal.decreases-loop-table
decreases-loop-table g l = length l.rest
