use Rattle.std.proofs.Common.{◌≡◌, ◌-◌, suc, length, sym, arith}
use Rattle.std.proofs.lemmas.List.{length-map}
use Rattle.std.proofs.lemmas.Result.{err_from_is_err_and}
use Rattle.qm_model.specs.Forms.{spelling}
use Rattle.qm_model.proofs.Results.{told-one, told-any}
use Rattle.qm_build.proofs.Decoding.{each}
use Rattle.qm_build.proofs.Ended.{metadata-last, ends-so, no-update}
use Rattle.qm_build.proofs.read.last_metadata.Goals as goal

pub returns-in-CommitFloor : goal.returns-in-CommitFloor
returns-in-CommitFloor g c = record {
  value = λ ops has ended.
      let size : suc (c.bounds-size.result.1 - 1) ≡ length ops = let long = length-map ops (spelling g.U.Update.form) in omega (arith, c.bounds-size.ensures.size, has.logged.size, long, c.requires) in
      told-one _ _ (g.C.Store.told c.args.log.now.store) (c.in_ok-operation.ensures.value ops has) (λ is.
      sym (metadata-last _ ops (c.bounds-size.result.1 - 1) _ _ size (rw c.in-CommitFloor.is at is)));
  corrupt = each (g.C.Store.told c.args.log.now.store) (λ s. tt);
  read = c.read_operation.ensures.read;
  error = tt;
}

pub returns-in-Update : goal.returns-in-Update
returns-in-Update g c = record {
  value = λ ops has ended.
      let size : suc (c.bounds-size.result.1 - 1) ≡ length ops = let long = length-map ops (spelling g.U.Update.form) in omega (arith, c.bounds-size.ensures.size, has.logged.size, long, c.requires) in
      told-one _ _ (g.C.Store.told c.args.log.now.store) (c.in_ok-operation.ensures.value ops has) (λ is.
      absurd (no-update (g.U.Update.view c.in-Update.field-0) (g.met.U.Update.updates c.in-Update.field-0) (ends-so ops (c.bounds-size.result.1 - 1) _ ended size (rw c.in-Update.is at is))));
  corrupt = each (g.C.Store.told c.args.log.now.store) (λ s. tt);
  read = c.read_operation.ensures.read;
  error = tt;
}

pub returns : goal.returns
returns g c = record {
  value = λ ops has ended.
      let size : suc (c.bounds-size.result.1 - 1) ≡ length ops = let long = length-map ops (spelling g.U.Update.form) in omega (arith, c.bounds-size.ensures.size, has.logged.size, long, c.requires) in
      told-one _ _ (g.C.Store.told c.args.log.now.store) (c.in_ok-operation.ensures.value ops has) (λ is.
      let some = ends-so ops (c.bounds-size.result.1 - 1) _ ended size (rw c.in-Delete.is at is) in
      cc);
  corrupt = each (g.C.Store.told c.args.log.now.store) (λ s. tt);
  read = c.read_operation.ensures.read;
  error = tt;
}

pub returns-in_err-operation : goal.returns-in_err-operation
returns-in_err-operation g c =
    let exit = err_from_is_err_and c.from_residual.result c.from_residual.ensures.1 in
    rw (exit.1, exit.2) (record {
      value = λ ops has ended. told-any _ (g.C.Store.told c.args.log.now.store) tt;
      corrupt = rw c.bounds-size.ensures.size at c.in_err-operation.ensures.corrupt;
      read = c.read_operation.ensures.read;
      error = c.in_err-operation.ensures.error;
    })
