use Rattle.std.proofs.Common.{Some, false, refl, ap, ap₂, sym, ◌∙◌, subst}
use Rattle.std.specs.Prelude.{option_map}
use Rattle.std.proofs.lemmas.Option.{none-some}
use Rattle.std.specs.BTreeMap.Range.{IsRangeOf}
use Rattle.std.specs.Map.{keys_of}
use Rattle.std.specs.Ordering.{nat_cmp}
use Rattle.std.specs.declared.ops.Bound.TheVariants.{Excluded, Unbounded}
use Rattle.qm_index.specs.Buckets.{bucket_at, IsIndex}
use Rattle.qm_index.specs.Neighbours.{least_key, next_key, neighbour_at}
use Rattle.qm_index.proofs.TreeNeighbours.{next-found, next-wrapped}
use Rattle.qm_index.proofs.ordered.IndexOrdered.next_bucket.Goals as goal

pub returns-in-Some-clause-value : goal.returns-in-Some-clause-value
returns-in-Some-clause-value g c =
    ap (λ values. Some (values, false)) c.values.ensures.value
    ∙ sym (next-found c.self.inside.buckets c.index_key-index_key.result (c.in-Some.field-0-0.now, c.in-Some.bucket.now) c.next.new.self
    (subst (IsRangeOf nat_cmp (Excluded c.index_key-index_key.result) Unbounded c.self.inside.buckets) c.in-Some.ensures.steps (c.range.ensures.in_range tt)))
    ∙ ap₂ (λ entries k. neighbour_at entries (next_key (keys_of entries) k)) c.self.view_is c.index_key-index_key.ensures

pub returns-in-Some-first_bucket-clause-value : goal.returns-in-Some-first_bucket-clause-value
returns-in-Some-first_bucket-clause-value g c =
    sym (next-wrapped c.self.inside.buckets c.index_key-index_key.result c.in-Some-first_bucket.values.now
    (subst (IsRangeOf nat_cmp (Excluded c.index_key-index_key.result) Unbounded c.self.inside.buckets) c.in-None.ensures.steps.0 (c.range.ensures.in_range tt))
    (ap (λ entries. option_map (bucket_at entries) (least_key (keys_of entries))) c.self.view_is ∙ sym c.in-Some-first_bucket.ensures.value))
    ∙ ap₂ (λ entries k. neighbour_at entries (next_key (keys_of entries) k)) c.self.view_is c.index_key-index_key.ensures

pub returns-in-Some-clause-none : goal.returns-in-Some-clause-none
returns-in-Some-clause-none g c = (λ same. absurd (none-some _ (sym same)), λ empty. absurd (none-some _ (sym (returns-in-Some-clause-value g c ∙ ap (λ entries. neighbour_at entries (next_key (keys_of entries) (g.T.Translator.index_key c.args.key.now))) empty))))

pub returns-in-Some-clause-index : goal.returns-in-Some-clause-index
returns-in-Some-clause-index g c = subst IsIndex c.self.view_is c.self.invariant

pub returns-in-Some-first_bucket-clause-none : goal.returns-in-Some-first_bucket-clause-none
returns-in-Some-first_bucket-clause-none g c = (λ same. absurd (none-some _ (sym same)), λ empty. absurd (none-some _ (sym (returns-in-Some-first_bucket-clause-value g c ∙ ap (λ entries. neighbour_at entries (next_key (keys_of entries) (g.T.Translator.index_key c.args.key.now))) empty))))

pub returns-in-Some-first_bucket-clause-index : goal.returns-in-Some-first_bucket-clause-index
returns-in-Some-first_bucket-clause-index g c = subst IsIndex c.self.view_is c.self.invariant

pub returns-in-None-first_bucket : goal.returns-in-None-first_bucket
returns-in-None-first_bucket g c = record {
  value =
      let empty = c.in-None-first_bucket.ensures.none.0 refl in
      ap (λ entries. neighbour_at entries (next_key (keys_of entries) (g.T.Translator.index_key c.args.key.now))) (sym empty);
  none = (λ same. c.in-None-first_bucket.ensures.none.0 refl, λ empty. refl);
  index = subst IsIndex c.self.view_is c.self.invariant;
}
