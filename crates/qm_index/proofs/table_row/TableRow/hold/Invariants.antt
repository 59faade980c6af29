use Rattle.std.proofs.Common.{◌≡◌, ◌-◌, ◌≤◌, ℕ, length, map}
use Rattle.qm_index.specs.Partitioned.{joined, AreParts}
use Rattle.qm_index.proofs.table_row.TableRow.hold.Given as goal

abbrev pub invariant-loop-alloc : goal.invariant-loop-alloc
invariant-loop-alloc g l =
    ((p : ℕ) → joined p (map g.B.Table.entries l.self-inside.tables.items) ≡ joined p l.fn.self)
    × ((most : ℕ) → l.count ≤ most → AreParts most l.fn.self → AreParts most (map g.B.Table.entries l.self-inside.tables.items))

abbrev pub decreases-loop-alloc : goal.decreases-loop-alloc
decreases-loop-alloc g l = l.count - length l.self-inside.tables.items
