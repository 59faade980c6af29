use Rattle.std.proofs.Common.{◌≡◌, ◌⊎◌, ◌<◌, ◌≤◌, ◌+◌, [], ℕ, length}
use Rattle.std.specs.Prelude.{slice_index_or}
use Rattle.qm_index.specs.Partitioned.{part_at}
use Rattle.qm_index.proofs.table_row.TableRow.replace.Given as goal

abbrev pub invariant-loop-i : goal.invariant-loop-i
invariant-loop-i g l =
    (length l.self ≡ length l.initial.self)
    × ((j : ℕ) → j < l.i → slice_index_or l.self (l.place + j) [] ≡ part_at l.first l.initial.other (l.from + j))
    × ((j : ℕ) → (j < l.place) ⊎ (l.place + l.i ≤ j) → slice_index_or l.self j [] ≡ slice_index_or l.initial.self j [])
    × ((j : ℕ) → l.i ≤ j → part_at l.first l.other (l.from + j) ≡ part_at l.first l.initial.other (l.from + j))
