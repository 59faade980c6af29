use Rattle.std.proofs.Common.{◌∙◌, ◌∷◌, [], ◌++◌, map, refl}
use Rattle.std.proofs.lemmas.Result.{IfOk-from_err, err_from_is_err_and, on_ok_weaker}
use Rattle.qm_model.proofs.Chains.{Contains-first, Contains-more}
use Rattle.qm_store.specs.Log.{digests_from}
use Rattle.qm_store.proofs.log.add_items.Goals as goal

pub returns-in_err-batch : goal.returns-in_err-batch
returns-in_err-batch g c =
    let result = c.from_residual.result in
    let failed = c.from_residual.ensures.0 in
    let exit = err_from_is_err_and result c.from_residual.ensures.1 in
    record {
      start = IfOk-from_err result _ failed;
      leaves = IfOk-from_err result _ failed;
      stands = λ list stands. IfOk-from_err result _ failed;
      err = rw exit.1 refl;
    }

pub returns : goal.returns
returns g c = record {
  start = on_ok_weaker c.apply_batch.result (λ ends. ends.0) c.apply_batch.ensures.bounds;
  leaves = on_ok_weaker c.apply_batch.result (λ ends. ends.1 ∙ c.in_ok-batch.ensures.leaves) c.apply_batch.ensures.bounds;
  stands = λ list stands.
      let leaves = digests_from g.H.Hasher.hash g.F.Family.shape 0 in
      let old = leaves list in
      let new = leaves (list ++ map (λ v. v.items) c.args.items.now) in
      c.apply_batch.ensures.stands g.H.Hasher.hash old new (old ∷ []) (c.in_ok-batch.ensures.history list stands) (Contains-more (old ∷ []) new old (Contains-first old [])) stands;
  err = c.apply_batch.ensures.err;
}
