use Rattle.std.proofs.Common.{◌∙◌, ap, ap₂, refl, sym, map}
use Rattle.std.specs.BTreeMap.{insert_entry}
use Rattle.std.specs.Ordering.{nat_cmp}
use Rattle.std.proofs.lemmas.Option.{none-some, same_Some}
use Rattle.qm_step.specs.PlanViews.{unordered_view}
use Rattle.qm_step.proofs.PlanPlaces.{insert-shown}
use Rattle.std.proofs.lemmas.Result.{IfOk-from_err, on_ok_weaker}
use Rattle.qm_step.proofs.writes.put_rewrite.Goals as goal

pub returns-in_ok-operation-in-Some : goal.returns-in_ok-operation-in-Some
returns-in_ok-operation-in-Some g c =
    let view = unordered_view g.K.ByteString.bytes g.V.Value.ByteString.bytes in
    record {
      live = on_ok_weaker c.put.result
          (λ put at is.
          ap (map (λ e. (e.0, view e.1))) put ∙ insert-shown view c.args.rewrites.now.entries c.in-Some.at c.in_ok-operation-in-Some.operation
          ∙ ap₂ (λ n op. insert_entry nat_cmp (map (λ e. (e.0, view e.1)) c.args.rewrites.now.entries) n op) (same_Some c.in-Some.at at (sym c.in-Some.is ∙ c.at.ensures ∙ is)) c.in_ok-operation-in-Some.ensures)
          c.put.ensures.entries;
      other = on_ok_weaker c.put.result (λ put none. absurd (none-some c.in-Some.at (sym none ∙ sym c.at.ensures ∙ c.in-Some.is))) c.put.ensures.entries;
    }

pub returns-in_err-operation-in-Some : goal.returns-in_err-operation-in-Some
returns-in_err-operation-in-Some g c = record {
  live = IfOk-from_err c.from_residual.result _ c.from_residual.ensures.0;
  other = IfOk-from_err c.from_residual.result _ c.from_residual.ensures.0;
}

pub returns-in-None : goal.returns-in-None
returns-in-None g c = record {
  live = λ at is. absurd (none-some at (sym c.in-None.is ∙ c.at.ensures ∙ is));
  other = λ none. refl;
}
