use Rattle.std.proofs.Common.{◌∙◌, ◌∷◌, [], ◌++◌, map, refl}
use Rattle.std.proofs.lemmas.Result.{IfOk-from_err, err_from_is_err_and, on_ok_weaker}
use Rattle.qm_model.proofs.Chains.{Contains-first, Contains-more}
use Rattle.qm_store.proofs.log.add_leaves.Goals as goal

pub returns-in_err-batch : goal.returns-in_err-batch
returns-in_err-batch g c =
    let result = c.from_residual.result in
    let failed = c.from_residual.ensures.0 in
    let exit = err_from_is_err_and result c.from_residual.ensures.1 in
    record {
      start = IfOk-from_err result _ failed;
      leaves = IfOk-from_err result _ failed;
      stands = λ list stands. IfOk-from_err result _ failed;
      err = rw exit.1 refl;
    }

pub returns : goal.returns
returns g c = record {
  start = on_ok_weaker c.apply_batch.result (λ ends. ends.0) c.apply_batch.ensures.bounds;
  leaves = on_ok_weaker c.apply_batch.result (λ ends. ends.1 ∙ c.in_ok-batch.ensures.leaves) c.apply_batch.ensures.bounds;
  stands = λ list stands.
      c.apply_batch.ensures.stands g.H.Hasher.hash list (list ++ map g.H.Digest.Digest.bytes c.args.digests.now) (list ∷ [])
      (c.in_ok-batch.ensures.history list stands) (Contains-more (list ∷ []) (list ++ map g.H.Digest.Digest.bytes c.args.digests.now) list (Contains-first list [])) stands;
  err = c.apply_batch.ensures.err;
}
