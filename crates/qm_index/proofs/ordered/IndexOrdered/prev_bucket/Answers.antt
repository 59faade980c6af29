use Rattle.std.proofs.Common.{Some, true, false, refl, ap, ap₂, sym, ◌∙◌, subst}
use Rattle.std.proofs.lemmas.Option.{none-some}
use Rattle.std.specs.BTreeMap.Range.{IsRangeOf}
use Rattle.std.specs.Map.{keys_of}
use Rattle.std.specs.Ordering.{nat_cmp}
use Rattle.std.specs.declared.ops.Bound.TheVariants.{Excluded, Unbounded}
use Rattle.qm_index.specs.Buckets.{IsIndex}
use Rattle.qm_index.specs.Neighbours.{prev_key, neighbour_at}
use Rattle.qm_index.proofs.TreeNeighbours.{prev-found, prev-wrapped, greatest-found, none-in}
use Rattle.qm_index.proofs.ordered.IndexOrdered.prev_bucket.Goals as goal

pub returns-in-Some-clause-value : goal.returns-in-Some-clause-value
returns-in-Some-clause-value g c =
    ap (λ values. Some (values, false)) c.values.ensures.value
    ∙ sym (prev-found c.self.inside.buckets c.index_key-index_key.result (c.in-Some.field-0-0.now, c.in-Some.bucket.now) c.next_back.new.self
    (subst (IsRangeOf nat_cmp Unbounded (Excluded c.index_key-index_key.result) c.self.inside.buckets) c.in-Some.ensures.steps (c.range.ensures.in_range tt)))
    ∙ ap₂ (λ entries k. neighbour_at entries (prev_key (keys_of entries) k)) c.self.view_is c.index_key-index_key.ensures

pub returns-in-Some-last_key_value-clause-value : goal.returns-in-Some-last_key_value-clause-value
returns-in-Some-last_key_value-clause-value g c =
    let last = c.in-Some-last_key_value in
    ap (λ values. Some (values, true)) c.values-in-Some-last_key_value.ensures.value
    ∙ sym (prev-wrapped c.self.inside.buckets c.index_key-index_key.result last.bucket.now
    (subst (IsRangeOf nat_cmp Unbounded (Excluded c.index_key-index_key.result) c.self.inside.buckets) c.in-None.ensures.steps.0 (c.range.ensures.in_range tt))
    (greatest-found c.self.inside.buckets last.field-0-0.now last.bucket.now last.ensures.value last.ensures.greatest))
    ∙ ap₂ (λ entries k. neighbour_at entries (prev_key (keys_of entries) k)) c.self.view_is c.index_key-index_key.ensures

pub returns-in-Some-clause-none : goal.returns-in-Some-clause-none
returns-in-Some-clause-none g c = (λ same. absurd (none-some _ (sym same)), λ empty. absurd (none-some _ (sym (returns-in-Some-clause-value g c ∙ ap (λ entries. neighbour_at entries (prev_key (keys_of entries) (g.T.Translator.index_key c.args.key.now))) empty))))

pub returns-in-Some-clause-index : goal.returns-in-Some-clause-index
returns-in-Some-clause-index g c = subst IsIndex c.self.view_is c.self.invariant

pub returns-in-Some-last_key_value-clause-none : goal.returns-in-Some-last_key_value-clause-none
returns-in-Some-last_key_value-clause-none g c = (λ same. absurd (none-some _ (sym same)), λ empty. absurd (none-some _ (sym (returns-in-Some-last_key_value-clause-value g c ∙ ap (λ entries. neighbour_at entries (prev_key (keys_of entries) (g.T.Translator.index_key c.args.key.now))) empty))))

pub returns-in-Some-last_key_value-clause-index : goal.returns-in-Some-last_key_value-clause-index
returns-in-Some-last_key_value-clause-index g c = subst IsIndex c.self.view_is c.self.invariant

pub returns-in-None-last_key_value : goal.returns-in-None-last_key_value
returns-in-None-last_key_value g c = record {
  value =
      let empty = sym c.self.view_is ∙ none-in c.self.inside.buckets.entries c.in-None-last_key_value.ensures.variant.1 in
      ap (λ entries. neighbour_at entries (prev_key (keys_of entries) (g.T.Translator.index_key c.args.key.now))) (sym empty);
  none = (λ same. sym c.self.view_is ∙ none-in c.self.inside.buckets.entries c.in-None-last_key_value.ensures.variant.1, λ empty. refl);
  index = subst IsIndex c.self.view_is c.self.invariant;
}
