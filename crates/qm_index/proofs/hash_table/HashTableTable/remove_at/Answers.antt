use Rattle.std.proofs.Common.{◌<◌, ◌≤◌, arith, length, refl, subst, subst₂, sym}
use Rattle.std.specs.Prelude.{remove}
use Rattle.qm_index.specs.Buckets.{IsIndex, Puts, bucket_at}
use Rattle.qm_index.proofs.Changed.{place-in, no-place}
use Rattle.qm_index.proofs.Tables.{written-index, written-puts, written-back, lost-index, lost-puts}
use Rattle.qm_index.proofs.hash_table.HashTableTable.remove_at.Goals as goal

pub remove-requires-clause-place : goal.remove-requires-clause-place
remove-requires-clause-place g c =
    place-in c.self.inside.buckets.entries c.args.index_key c.in-Some.bucket.now c.args.i c.in-Some.ensures.value
    (subst₂ (λ entries k. c.args.i < length (bucket_at entries k)) (sym c.self.view_is) (sym refl) c.requires)

pub remove-requires-clause-several : goal.remove-requires-clause-several
remove-requires-clause-several g c = subst (λ values. 1 < length values) c.values.ensures.value c.if-values-gt1.true

pub invariant_of-self : goal.invariant_of-self
invariant_of-self g c =
    written-index c.self.inside.buckets (c.get_mut.follows.lender c.remove.new.self) c.args.index_key c.in-Some.bucket.now c.remove.new.self c.in-Some.ensures.value (c.get_mut.follows.holds c.remove.new.self) c.self.invariant c.remove.ensures.some

pub returns-in-Some : goal.returns-in-Some
returns-in-Some g c = record {
  remove = subst₂ (λ old k. Puts old (c.get_mut.follows.lender c.remove.new.self).entries k (remove (bucket_at old k) c.args.i)) c.self.view_is refl
      (written-puts c.self.inside.buckets (c.get_mut.follows.lender c.remove.new.self) c.args.index_key c.in-Some.bucket.now c.remove.new.self c.in-Some.ensures.value (c.get_mut.follows.holds c.remove.new.self)
      (λ values. remove values c.args.i) c.remove.ensures.value);
  index = invariant_of-self g c;
}

pub invariant_of-self-in-Some-2 : goal.invariant_of-self-in-Some-2
invariant_of-self-in-Some-2 g c =
    let found = c.in-Some.bucket.now in
    let m = c.get_mut.follows.lender found in
    let same = written-back c.self.inside.buckets m c.args.index_key found found c.in-Some.ensures.value (c.get_mut.follows.holds found) refl in
    lost-index m c.remove-in-Some-2.new.self c.args.index_key (subst IsIndex (sym same) c.self.invariant) c.remove-in-Some-2.ensures.updates c.remove-in-Some-2.ensures.unique

pub returns-in-Some-2 : goal.returns-in-Some-2
returns-in-Some-2 g c =
    let found = c.in-Some.bucket.now in
    let m = c.get_mut.follows.lender found in
    let k = c.args.index_key in
    let n = c.remove-in-Some-2.new.self in
    let same = written-back c.self.inside.buckets m k found found c.in-Some.ensures.value (c.get_mut.follows.holds found) refl in
    let place = subst₂ (λ entries k. c.args.i < length (bucket_at entries k)) (sym c.self.view_is) (sym refl) c.requires in
    record {
      remove =
          subst₂ (λ old k. Puts old n.entries k (remove (bucket_at old k) c.args.i)) c.self.view_is refl
          (lost-puts c.self.inside.buckets m n k found c.args.i same c.in-Some.ensures.value c.remove-in-Some-2.ensures.updates place (subst (λ values. length values ≤ 1) c.values.ensures.value (omega (arith, c.if-values-gt1.false))));
      index = invariant_of-self-in-Some-2 g c;
    }

pub returns-in-None : goal.returns-in-None
returns-in-None g c =
    absurd (no-place c.self.inside.buckets.entries c.args.index_key c.args.i c.in-None.ensures.value
    (subst₂ (λ entries k. c.args.i < length (bucket_at entries k)) (sym c.self.view_is) (sym refl) c.requires))

pub invariant_of-self-in-None : goal.invariant_of-self-in-None
invariant_of-self-in-None g c = subst (λ m. IsIndex m.entries) (sym c.get_mut.follows.holds-at-none) c.self.invariant
