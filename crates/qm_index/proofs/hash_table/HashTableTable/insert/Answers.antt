use Rattle.std.proofs.Common.{◌≡◌, ◌∙◌, ◌∷◌, ◌++◌, ℕ, nat_eq, cond, [], Some, None, refl, ap, sym, subst, subst₂}
use Rattle.std.proofs.lemmas.Result.{IfOk-from_err, err_from_is_err_and, on_ok_weaker, on_err_weaker}
use Rattle.std.specs.Map.{lookup}
use Rattle.qm_index.specs.Buckets.{IsIndex, Puts, bucket_at}
use Rattle.qm_index.proofs.Changed.{changed-by, changed-index}
use Rattle.qm_index.proofs.Tables.{written-index, written-puts, written-back}
use Rattle.qm_index.proofs.hash_table.HashTableTable.insert.Goals as goal

pub invariant_of-self : goal.invariant_of-self
invariant_of-self g c =
    written-index c.self.inside.buckets (c.get_mut.follows.lender c.push.new.self) c.args.index_key c.in-Some.bucket.now c.push.new.self c.in-Some.ensures.value (c.get_mut.follows.holds c.push.new.self)
    c.self.invariant c.push.ensures.some

pub returns-in-Some : goal.returns-in-Some
returns-in-Some g c =
    let m = c.self.inside.buckets in
    let n = c.get_mut.follows.lender c.push.new.self in
    let k = c.args.index_key in
    record {
      ok = on_ok_weaker c.push.result
          (λ pushed. subst₂ (λ old k. Puts old n.entries k (bucket_at old k ++ c.args.value ∷ [])) c.self.view_is refl
          (written-puts m n k c.in-Some.bucket.now c.push.new.self c.in-Some.ensures.value (c.get_mut.follows.holds c.push.new.self) (λ values. values ++ c.args.value ∷ []) pushed))
          c.push.ensures.ok;
      err = on_err_weaker c.push.result (λ same. written-back m n k c.in-Some.bucket.now c.push.new.self c.in-Some.ensures.value (c.get_mut.follows.holds c.push.new.self) same ∙ c.self.view_is) c.push.ensures.err;
      index = invariant_of-self g c;
    }

pub invariant_of-self-in-None : goal.invariant_of-self-in-None
invariant_of-self-in-None g c =
    let m = c.self.inside.buckets in
    let n = c.insert.new.self in
    let k = c.args.index_key in
    let changed : (q : ℕ) → lookup (nat_eq q) n.entries ≡ cond (nat_eq k q) (Some (c.args.value ∷ [])) (lookup (nat_eq q) m.entries) =
    subst₂ (λ m w. (q : ℕ) → lookup (nat_eq q) n.entries ≡ cond (nat_eq k q) (Some w) (lookup (nat_eq q) m.entries)) c.get_mut.follows.holds-at-none c.of.ensures c.in_ok-insert-in-None.ensures.updates.0 in
    changed-index m.entries k n.entries (Some (c.args.value ∷ [])) changed c.self.invariant c.insert.ensures.unique (λ none. cc)

pub returns-in_ok-insert-in-None : goal.returns-in_ok-insert-in-None
returns-in_ok-insert-in-None g c =
    let m = c.self.inside.buckets in
    let n = c.insert.new.self in
    let k = c.args.index_key in
    let changed : (q : ℕ) → lookup (nat_eq q) n.entries ≡ cond (nat_eq k q) (Some (c.args.value ∷ [])) (lookup (nat_eq q) m.entries) =
    subst₂ (λ m w. (q : ℕ) → lookup (nat_eq q) n.entries ≡ cond (nat_eq k q) (Some w) (lookup (nat_eq q) m.entries)) c.get_mut.follows.holds-at-none c.of.ensures c.in_ok-insert-in-None.ensures.updates.0 in
    record {
      ok = subst₂ (λ old k. Puts old n.entries k (bucket_at old k ++ c.args.value ∷ [])) c.self.view_is refl
          (changed-by m.entries k n.entries (Some (c.args.value ∷ [])) changed None c.in-None.ensures.value (λ values. values ++ c.args.value ∷ []) refl);
      err = tt;
      index = invariant_of-self-in-None g c;
    }

pub invariant_of-self-in_err-insert-in-None : goal.invariant_of-self-in_err-insert-in-None
invariant_of-self-in_err-insert-in-None g c = subst IsIndex (sym (c.in_err-insert-in-None.ensures.err ∙ ap (λ m. m.entries) c.get_mut.follows.holds-at-none)) c.self.invariant

pub returns-in_err-insert-in-None : goal.returns-in_err-insert-in-None
returns-in_err-insert-in-None g c =
    let exit = err_from_is_err_and c.from_residual.result c.from_residual.ensures.1 in
    record {
      ok = IfOk-from_err c.from_residual.result _ c.from_residual.ensures.0;
      err = rw exit.1 (c.in_err-insert-in-None.ensures.err ∙ ap (λ m. m.entries) c.get_mut.follows.holds-at-none ∙ c.self.view_is);
      index = invariant_of-self-in_err-insert-in-None g c;
    }
