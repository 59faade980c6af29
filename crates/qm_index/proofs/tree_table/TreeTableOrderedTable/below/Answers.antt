use Rattle.std.proofs.Common.{Some, None, sym, subst}
use Rattle.std.specs.BTreeMap.Range.{IsRangeOf}
use Rattle.std.specs.Ordering.{nat_cmp}
use Rattle.std.specs.declared.ops.Bound.TheVariants.{Excluded, Unbounded}
use Rattle.qm_index.specs.Ways.{Down, NextIs}
use Rattle.qm_index.proofs.TreeWays.{tree-below, tree-none-below}
use Rattle.qm_index.proofs.tree_table.TreeTableOrderedTable.below.Goals as goal

pub returns-in-Some : goal.returns-in-Some
returns-in-Some g c =
    subst (λ b. NextIs Down c.args.self.now c.args.index_key (Some b)) (sym c.values.ensures.value)
    (subst (λ es. NextIs Down es c.args.index_key (Some c.in-Some.bucket.now)) c.self.view_is
    (tree-below c.self.inside.buckets c.args.index_key (c.in-Some.field-0-0.now, c.in-Some.bucket.now) c.next_back.new.self
    (subst (IsRangeOf nat_cmp Unbounded (Excluded c.args.index_key) c.self.inside.buckets) c.in-Some.ensures.steps (c.range.ensures.in_range tt))))

pub returns-in-None : goal.returns-in-None
returns-in-None g c =
    subst (λ es. NextIs Down es c.args.index_key None) c.self.view_is
    (tree-none-below c.self.inside.buckets c.args.index_key
    (subst (IsRangeOf nat_cmp Unbounded (Excluded c.args.index_key) c.self.inside.buckets) c.in-None.ensures.steps.0 (c.range.ensures.in_range tt)))
