use Rattle.std.proofs.Common.{Some, sym, subst}
use Rattle.qm_index.specs.Ways.{Up, FirstIs}
use Rattle.qm_index.proofs.TreeWays.{tree-first}
use Rattle.qm_index.proofs.tree_table.TreeTableOrderedTable.first.Goals as goal

pub returns-in-Some : goal.returns-in-Some
returns-in-Some g c =
    subst (λ b. FirstIs Up c.args.self.now (Some b)) (sym c.values.ensures.value)
    (subst (λ es. FirstIs Up es (Some c.in-Some.bucket.now)) c.self.view_is
    (tree-first c.self.inside.buckets c.in-Some.field-0-0.now c.in-Some.bucket.now c.in-Some.ensures.value c.in-Some.ensures.least))
