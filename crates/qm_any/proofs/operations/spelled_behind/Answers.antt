use Rattle.std.proofs.Common.{◌≡◌, ◌∙◌, ◌+◌, None, ap, arith, length, map, refl, subst, sym, inl, inr}
use Rattle.std.proofs.lemmas.List.{length-map}
use Rattle.std.proofs.lemmas.Result.{IfOk-from_err, err_from_is_err_and}
use Rattle.qm_model.specs.Forms.{spelling}
use Rattle.qm_model.specs.Refusals.{too_long}
use Rattle.qm_operations.specs.Views.{operation_view}
use Rattle.qm_any.specs.Tips.{IsTooLong}
use Rattle.qm_any.proofs.operations.spelled_behind.Goals as goal

pub returns-in_err-items : goal.returns-in_err-items
returns-in_err-items g c =
    let exit = err_from_is_err_and c.from_residual.result c.from_residual.ensures.1 in
    record {
      items = IfOk-from_err c.from_residual.result _ c.from_residual.ensures.0;
      taken = IfOk-from_err c.from_residual.result _ c.from_residual.ensures.0;
      refused = rw (exit.1, exit.2) (inl refl);
    }

pub returns-in_err-refuse : goal.returns-in_err-refuse
returns-in_err-refuse g c =
    let exit = err_from_is_err_and c.from_residual-in_err-refuse.result c.from_residual-in_err-refuse.ensures.1 in
    let view = operation_view g.U.Update.view g.U.Key.ByteString.bytes g.U.Value.ByteString.bytes in
    let spelt = c.in_ok-items.ensures.items in
    let long : length c.in_ok-items.items.items ≡ length c.args.operations.now =
    sym (length-map c.in_ok-items.items.items (λ v. v.items)) ∙ ap length spelt ∙ length-map (map view c.args.operations.now) (spelling g.U.Update.form) ∙ length-map c.args.operations.now view in
    let count : c.args.size + c.len.result ≡ c.args.size + length c.args.operations.now = omega (arith, c.len.ensures, c.in_ok-items.items.ok.0, long) in
    record {
      items = IfOk-from_err c.from_residual-in_err-refuse.result _ c.from_residual-in_err-refuse.ensures.0;
      taken = IfOk-from_err c.from_residual-in_err-refuse.result _ c.from_residual-in_err-refuse.ensures.0;
      refused = rw (exit.1, exit.2) (inr (subst (λ n. IsTooLong (map (spelling g.U.Update.form) (map view c.args.operations.now)) n c.in_err-refuse.field-0.0) count
          (subst (λ xs. IsTooLong xs (c.args.size + c.len.result) c.in_err-refuse.field-0.0) (ap (map (λ v. v.items)) c.deref.ensures.value ∙ spelt) c.in_err-refuse.ensures.err)));
    }

pub returns : goal.returns
returns g c =
    let fits = c.in_ok-refuse.ensures.ok in
    record {
      items = c.in_ok-items.ensures.items;
      taken = record {
        short = subst (λ xs. too_long xs ≡ None) (ap (map (λ v. v.items)) c.deref.ensures.value ∙ c.in_ok-items.ensures.items) fits.0;
        few = omega (arith, c.len.ensures, c.in_ok-items.items.ok.0, fits.1);
        of = c.in_ok-items.ensures.of;
      };
      refused = tt;
    }
