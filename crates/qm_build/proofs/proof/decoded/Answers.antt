use Rattle.std.proofs.Common.{◌≡◌, ◌≢◌, ◌⊎◌, [], inl, inr, refl, sym, subst, get_or}
use Rattle.std.proofs.lemmas.Result.{err_from_is_err_and}
use Rattle.qm_operations.specs.Views.{operation_view}
use Rattle.qm_model.specs.Forms.{IsSpelling}
use Rattle.qm_model.specs.Operations.{delete}
use Rattle.qm_base.specs.declared.error.Error.{Error}
use Rattle.qm_build.proofs.Telling.{item-spells, decoded-more, decoded-all}
use Rattle.qm_build.proofs.proof.decoded.Goals as goal

-- an error that is one of two and not the other
the-other : (e one other : Error) → (e ≡ one) ⊎ (e ≡ other) → e ≢ other → e ≡ one
the-other e one other (inl is) not = is
the-other e one other (inr is) not = absurd (not is)

pub returns-in_err-operation : goal.returns-in_err-operation
returns-in_err-operation g c =
    let exit = err_from_is_err_and c.from_residual.result c.from_residual.ensures.1 in
    let refused = c.in_err-operation.ensures in
    rw (exit.1, exit.2) (record {
      value = λ list all spelled. tt;
      whole = λ list all spelled.
          let i = c.loop-item.item-index in
          let op = get_or list i (delete []) in
          let spells = item-spells g.U.Update.form (λ v. v.items) c.args.items.now list i c.item-item.result (delete []) c.loop-item-test.true c.item-item.is spelled all in
          the-other _ _ _ refused.never (λ lost. (refused.none lost).1 op (subst (λ bs. IsSpelling g.U.Update.form bs op) (sym c.deref.ensures.value) spells));
      never = refused.never;
    })

pub returns-in_err-push : goal.returns-in_err-push
returns-in_err-push g c =
    let exit = err_from_is_err_and c.from_residual-in_err-push.result c.from_residual-in_err-push.ensures.1 in
    rw (exit.1, exit.2) (record { value = λ list all spelled. tt; whole = λ list all spelled. refl; never = inl refl })

pub loop-item-preserved : goal.loop-item-preserved
loop-item-preserved g c = λ list all spelled.
    let view = operation_view g.U.Update.view g.U.Key.ByteString.bytes g.U.Value.ByteString.bytes in
    let op = c.in_ok-operation.operation in
    let spells = subst (λ bs. IsSpelling g.U.Update.form bs (view op)) c.deref.ensures.value c.in_ok-operation.ensures.spelled in
    decoded-more g.U.Update.form view (λ v. v.items) c.args.items.now list c.loop-item.item-index c.item-item.result c.loop-item.made.items c.push.new.self.items op
    c.loop-item-test.true c.item-item.is spelled all c.in_ok-push.ensures.items spells (c.loop-item.invariant list all spelled)

pub returns : goal.returns
returns g c = record {
  value = λ list all spelled.
      decoded-all g.U.Update.form (operation_view g.U.Update.view g.U.Key.ByteString.bytes g.U.Value.ByteString.bytes) (λ v. v.items) c.args.items.now list c.loop-item.item-index c.loop-item.made.items c.loop-item-test.false spelled (c.loop-item.invariant list all spelled);
  whole = λ list all spelled. tt;
  never = tt;
}
