use Rattle.std.proofs.Common.{Some, ap, refl, subst, sym, ◌∙◌}
use Rattle.std.proofs.lemmas.Option.{none-some}
use Rattle.std.specs.Prelude.{option_map}
use Rattle.std.specs.Map.{keys_of}
use Rattle.qm_index.specs.Buckets.{bucket_at, IsIndex}
use Rattle.qm_index.specs.Neighbours.{least_key}
use Rattle.qm_index.proofs.TreeNeighbours.{least-found, none-in}
use Rattle.qm_index.proofs.ordered.IndexOrdered.first_bucket.Goals as goal

pub returns-in-Some-clause-value : goal.returns-in-Some-clause-value
returns-in-Some-clause-value g c =
    ap (λ values. Some values) c.values.ensures.value
    ∙ sym (least-found c.self.inside.buckets c.in-Some.field-0-0.now c.in-Some.bucket.now c.in-Some.ensures.value c.in-Some.ensures.least)
    ∙ ap (λ entries. option_map (bucket_at entries) (least_key (keys_of entries))) c.self.view_is

pub returns-in-Some-clause-none : goal.returns-in-Some-clause-none
returns-in-Some-clause-none g c = (λ same. absurd (none-some _ (sym same)), λ empty. absurd (none-some _ (sym (returns-in-Some-clause-value g c ∙ ap (λ entries. option_map (bucket_at entries) (least_key (keys_of entries))) empty))))

pub returns-in-Some-clause-index : goal.returns-in-Some-clause-index
returns-in-Some-clause-index g c = subst IsIndex c.self.view_is c.self.invariant

pub returns-in-None : goal.returns-in-None
returns-in-None g c = record {
  value =
      let empty = sym c.self.view_is ∙ none-in c.self.inside.buckets.entries c.in-None.ensures.variant.1 in
      ap (λ entries. option_map (bucket_at entries) (least_key (keys_of entries))) (sym empty);
  none = (λ same. sym c.self.view_is ∙ none-in c.self.inside.buckets.entries c.in-None.ensures.variant.1, λ empty. refl);
  index = subst IsIndex c.self.view_is c.self.invariant;
}
