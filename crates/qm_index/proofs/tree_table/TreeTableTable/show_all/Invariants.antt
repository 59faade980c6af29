use Rattle.std.specs.Fn.{CalledAt}
use Rattle.qm_index.specs.Buckets.{all_values}
use Rattle.qm_index.proofs.Visits.{LeadOn}
use Rattle.qm_index.proofs.tree_table.TreeTableTable.show_all.Given as goal

abbrev pub invariant-loop-bucket : goal.invariant-loop-bucket
invariant-loop-bucket g l =
    (goal.iterator-loop-bucket g).can_next l.bucket-iterator
    × (goal.iterator-loop-bucket g).is_finite l.bucket-iterator
    × goal.F-IsAlwaysCallable g l.visit
    × LeadOn (λ p x q. CalledAt g.F.FnMut p x tt q) l.fn.visit (all_values l.fn.self) l.visit l.bucket-iterator
