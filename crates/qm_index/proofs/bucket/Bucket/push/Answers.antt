use Rattle.std.proofs.Common.{◌∙◌, ◌∷◌, ◌++◌, [], ap, subst, sym}
use Rattle.std.proofs.lemmas.Result.{on_ok_weaker, on_err_weaker}
use Rattle.qm_index.specs.Held.{values_in, IsHeld}
use Rattle.qm_index.proofs.Maps.{held-some}
use Rattle.qm_index.proofs.bucket.Bucket.push.Goals as goal

pub with_one_more-held-requires : goal.with_one_more-held-requires
with_one_more-held-requires g c = subst IsHeld (sym c.replace-held.ensures.value) c.self.invariant

pub invariant_of-self : goal.invariant_of-self
invariant_of-self g c = c.with_one_more-held.ensures.held

pub returns : goal.returns
returns g c = record {
  ok = on_ok_weaker c.with_one_more-held.result.1
      (λ more. more ∙ ap (λ h. values_in h ++ c.args.value ∷ []) c.replace-held.ensures.value ∙ ap (λ vs. vs ++ c.args.value ∷ []) c.self.view_is)
      c.with_one_more-held.ensures.ok;
  err = on_err_weaker c.with_one_more-held.result.1 (λ same. same ∙ ap values_in c.replace-held.ensures.value ∙ c.self.view_is) c.with_one_more-held.ensures.err;
  some = held-some c.with_one_more-held.result.0 c.with_one_more-held.ensures.held;
}
