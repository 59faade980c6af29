use Rattle.std.proofs.Common.{sym, ap, ◌∙◌, subst}
use Rattle.std.specs.List.{FoldsTo}
use Rattle.std.specs.Fn.{CalledAt}
use Rattle.qm_index.specs.Buckets.{IsIndex, all_values}
use Rattle.qm_index.specs.Partitioned.{joined_parts}
use Rattle.qm_index.proofs.Partitions.{values-all, joined-index}
use Rattle.qm_index.proofs.partitioned.IndexUnordered.for_each_value.Goals as goal

pub returns : goal.returns
returns g c = record {
  shown = (
    c.show_all.result,
    subst (λ values. FoldsTo (λ p x q. CalledAt g.F.FnMut p x tt q) c.args.visit values c.show_all.result)
        (sym (values-all c.self.inside.first c.self.inside.parts) ∙ ap (λ parts. all_values (joined_parts parts)) c.self.view_is) c.show_all.ensures,
  );
  index = subst (λ parts. IsIndex (joined_parts parts)) c.self.view_is (joined-index c.self.inside.first c.self.inside.parts c.self.invariant.0.indices);
}
