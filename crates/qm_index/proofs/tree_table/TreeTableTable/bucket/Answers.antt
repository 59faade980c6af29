use Rattle.std.proofs.Common.{◌∙◌, None, Some, ap, subst}
use Rattle.qm_index.specs.Buckets.{IsIndex, bucket_at}
use Rattle.qm_index.proofs.Trees.{bucket-found}
use Rattle.qm_index.proofs.tree_table.TreeTableTable.bucket.Goals as goal

pub returns-in-Some : goal.returns-in-Some
returns-in-Some g c = record {
  value = c.values.ensures.value ∙ bucket-found c.self.inside.buckets c.args.index_key (Some c.in-Some.bucket.now) c.in-Some.ensures.value ∙ ap (λ es. bucket_at es c.args.index_key) c.self.view_is;
  index = subst IsIndex c.self.view_is c.self.invariant;
}

pub returns-in-None : goal.returns-in-None
returns-in-None g c = record {
  value = bucket-found c.self.inside.buckets c.args.index_key None c.in-None.ensures.value ∙ ap (λ es. bucket_at es c.args.index_key) c.self.view_is;
  index = subst IsIndex c.self.view_is c.self.invariant;
}
