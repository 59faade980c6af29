use Rattle.std.proofs.Common.{refl, Some, None, ◌∙◌, subst, subst₂, ◌∷◌, ◌++◌, []}
use Rattle.std.specs.BTreeMap.{Updates}
use Rattle.std.specs.Ordering.{nat_cmp}
use Rattle.qm_index.specs.Buckets.{Puts, bucket_at}
use Rattle.qm_index.proofs.Trees.{stays_index, puts, bucket-found, written-index, written-puts, written-back}
use Rattle.std.proofs.lemmas.Result.{on_ok_weaker, on_err_weaker}
use Rattle.qm_index.proofs.tree_table.TreeTableTable.insert.Goals as goal

pub invariant_of-self : goal.invariant_of-self
invariant_of-self g c =
    written-index c.self.inside.buckets (c.get_mut.follows.lender c.push.new.self) c.args.index_key c.in-Some.bucket.now c.push.new.self c.in-Some.ensures.value (c.get_mut.follows.holds c.push.new.self)
    c.self.invariant c.push.ensures.some

pub invariant_of-self-in-None : goal.invariant_of-self-in-None
invariant_of-self-in-None g c =
    let m = c.self.inside.buckets in
    let n = c.insert.new.self in
    let k = c.args.index_key in
    let updates : Updates nat_cmp m n k (Some (c.args.value ∷ [])) = subst₂ (λ m w. Updates nat_cmp m n k (Some w)) c.get_mut.follows.holds-at-none c.of.ensures c.in_ok-insert-in-None.ensures.updates in
    stays_index m n k (Some (c.args.value ∷ [])) c.self.invariant updates c.insert.ensures.ordered (λ none. cc)

pub returns-in-Some : goal.returns-in-Some
returns-in-Some g c = record {
  ok =
      on_ok_weaker c.push.result
      (λ pushed. subst₂ (λ old k. Puts old (c.get_mut.follows.lender c.push.new.self).entries k (bucket_at old k ++ c.args.value ∷ [])) c.self.view_is refl
      (written-puts c.self.inside.buckets (c.get_mut.follows.lender c.push.new.self) c.args.index_key c.in-Some.bucket.now c.push.new.self c.in-Some.ensures.value (c.get_mut.follows.holds c.push.new.self)
      (λ values. values ++ c.args.value ∷ []) pushed))
      c.push.ensures.ok;
  err =
      on_err_weaker c.push.result
      (λ same. written-back c.self.inside.buckets (c.get_mut.follows.lender c.push.new.self) c.args.index_key c.in-Some.bucket.now c.push.new.self c.in-Some.ensures.value (c.get_mut.follows.holds c.push.new.self) same ∙ c.self.view_is)
      c.push.ensures.err;
  index = invariant_of-self g c;
}

pub returns-in_ok-insert-in-None : goal.returns-in_ok-insert-in-None
returns-in_ok-insert-in-None g c = record {
  ok =
      let m = c.self.inside.buckets in
      let n = c.insert.new.self in
      let k = c.args.index_key in
      let updates : Updates nat_cmp m n k (Some (c.args.value ∷ [])) = subst₂ (λ m w. Updates nat_cmp m n k (Some w)) c.get_mut.follows.holds-at-none c.of.ensures c.in_ok-insert-in-None.ensures.updates in
      subst₂ (λ old k. Puts old n.entries k (bucket_at old k ++ c.args.value ∷ [])) c.self.view_is refl
      (subst (λ values. Puts m.entries n.entries k (values ++ c.args.value ∷ [])) (bucket-found m k None c.in-None.ensures.value) (puts m n k (Some (c.args.value ∷ [])) updates));
  err = tt;
  index = invariant_of-self-in-None g c;
}
