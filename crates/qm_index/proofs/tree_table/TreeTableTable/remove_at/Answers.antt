use Rattle.std.proofs.Common.{◌≡◌, ◌<◌, ◌≤◌, arith, Some, None, refl, ap, ◌∙◌, sym, subst, subst₂, [], length}
use Rattle.std.specs.Prelude.{remove}
use Rattle.qm_index.specs.Buckets.{IsIndex, Puts, bucket_at}
use Rattle.qm_index.proofs.Maps.{remove_last}
use Rattle.qm_index.proofs.Trees.{stays_index, puts, bucket-found, written-index, written-puts, written-back, place-found}
use Rattle.qm_index.proofs.tree_table.TreeTableTable.remove_at.Goals as goal

pub remove-requires-clause-place : goal.remove-requires-clause-place
remove-requires-clause-place g c =
    place-found c.self.inside.buckets (c.get_mut.follows.lender c.in-Some.bucket.now) c.args.index_key c.in-Some.bucket.now c.in-Some.bucket.now c.in-Some.ensures.value (c.get_mut.follows.holds c.in-Some.bucket.now) c.args.i
    (subst₂ (λ entries k. c.args.i < length (bucket_at entries k)) (sym c.self.view_is) (sym refl) c.requires)

pub invariant_of-self : goal.invariant_of-self
invariant_of-self g c =
    written-index c.self.inside.buckets (c.get_mut.follows.lender c.remove.new.self) c.args.index_key c.in-Some.bucket.now c.remove.new.self c.in-Some.ensures.value (c.get_mut.follows.holds c.remove.new.self) c.self.invariant c.remove.ensures.some

pub returns-in-Some : goal.returns-in-Some
returns-in-Some g c = record {
  remove =
      subst₂ (λ old k. Puts old (c.get_mut.follows.lender c.remove.new.self).entries k (remove (bucket_at old k) c.args.i)) c.self.view_is refl
      (written-puts c.self.inside.buckets (c.get_mut.follows.lender c.remove.new.self) c.args.index_key c.in-Some.bucket.now c.remove.new.self c.in-Some.ensures.value (c.get_mut.follows.holds c.remove.new.self)
      (λ values. remove values c.args.i) c.remove.ensures.value);
  index = invariant_of-self g c;
}

pub invariant_of-self-in-Some-2 : goal.invariant_of-self-in-Some-2
invariant_of-self-in-Some-2 g c =
    let m = c.get_mut.follows.lender c.in-Some.bucket.now in
    let n = c.remove-in-Some-2.new.self in
    let k = c.args.index_key in
    let same : m.entries ≡ c.self.inside.buckets.entries = written-back c.self.inside.buckets m k c.in-Some.bucket.now c.in-Some.bucket.now c.in-Some.ensures.value (c.get_mut.follows.holds c.in-Some.bucket.now) refl in
    stays_index m n k None (subst IsIndex (sym same) c.self.invariant) c.remove-in-Some-2.ensures.updates c.remove-in-Some-2.ensures.ordered (λ none. cc)

pub returns-in-Some-2 : goal.returns-in-Some-2
returns-in-Some-2 g c = record {
  remove =
      let m = c.get_mut.follows.lender c.in-Some.bucket.now in
      let n = c.remove-in-Some-2.new.self in
      let k = c.args.index_key in
      let found = c.in-Some.bucket.now in
      let same : m.entries ≡ c.self.inside.buckets.entries = written-back c.self.inside.buckets m k c.in-Some.bucket.now c.in-Some.bucket.now c.in-Some.ensures.value (c.get_mut.follows.holds c.in-Some.bucket.now) refl in
      let there : found ≡ bucket_at c.args.self.now c.args.index_key =
      bucket-found c.self.inside.buckets k (Some found) c.in-Some.ensures.value ∙ ap (λ es. bucket_at es c.args.index_key) c.self.view_is in
      let place : c.args.i < length found = subst (λ values. c.args.i < length values) (sym there) c.requires in
      let one : length found ≤ 1 = subst (λ values. length values ≤ 1) c.values.ensures.value (omega (arith, c.if-values-gt1.false)) in
      let none : [] ≡ remove (bucket_at c.args.self.now c.args.index_key) c.args.i = sym (remove_last found c.args.i place one) ∙ ap (λ values. remove values c.args.i) there in
      subst (λ old. Puts old n.entries c.args.index_key (remove (bucket_at c.args.self.now c.args.index_key) c.args.i)) (same ∙ c.self.view_is)
      (subst₂ (λ k values. Puts m.entries n.entries k values) refl none (puts m n k None c.remove-in-Some-2.ensures.updates));
  index = invariant_of-self-in-Some-2 g c;
}
