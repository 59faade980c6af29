use Rattle.std.proofs.Common.{◌∙◌, None, Some, ap₂, subst}
use Rattle.qm_index.specs.Buckets.{IsIndex, bucket_at}
use Rattle.qm_index.proofs.Trees.{bucket-found}
use Rattle.qm_index.proofs.ordered.IndexUnordered.bucket.Goals as goal

pub returns-in-Some : goal.returns-in-Some
returns-in-Some g c = record {
  value = c.values.ensures.value ∙ bucket-found c.self.inside.buckets c.index_key.result (Some c.in-Some.bucket.now) c.in-Some.ensures.value ∙ ap₂ bucket_at c.self.view_is c.index_key.ensures;
  index = subst IsIndex c.self.view_is c.self.invariant;
}

pub returns-in-None : goal.returns-in-None
returns-in-None g c = record {
  value = bucket-found c.self.inside.buckets c.index_key.result None c.in-None.ensures.value ∙ ap₂ bucket_at c.self.view_is c.index_key.ensures;
  index = subst IsIndex c.self.view_is c.self.invariant;
}
