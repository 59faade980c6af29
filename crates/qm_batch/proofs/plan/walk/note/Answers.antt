use Rattle.std.proofs.lemmas.Result.{err_from_is_err_and}
use Rattle.std.proofs.Common.{◌≡◌, ◌∙◌, ◌++◌, ◌∷◌, [], ℕ, Option, Some, None, ap, append-nil, map, refl, sym}
use Rattle.std.specs.Prelude.{is_some, option_map, option_to_list}
use Rattle.std.proofs.lemmas.List.{map-append}
use Rattle.qm_model.specs.Operations.{Bytes}
use Rattle.qm_model.specs.Walk.{Action}
use Rattle.qm_chain.specs.Policies.{action_view}
use Rattle.qm_step.specs.Going.{decided_for, value_for}
use Rattle.qm_step.specs.PlanViews.{decided_view, decided_views}
use Rattle.qm_batch.proofs.plan.walk.note.Goals as goal

-- what is decided, by the value that an action leaves
none-decided : (key : Bytes) (next : Option Bytes) (before : Option ℕ) (action : Action) → None ≡ value_for action → decided_for key next before action ≡ None
none-decided key next before action none = ap (option_map (λ value. record { key = key; value = value; next = next; before = before })) (sym none)

some-decided : (key : Bytes) (next : Option Bytes) (before : Option ℕ) (action : Action) (value : Option Bytes) → Some value ≡ value_for action →
    decided_for key next before action ≡ Some (record { key = key; value = value; next = next; before = before })
some-decided key next before action value some = ap (option_map (λ value. record { key = key; value = value; next = next; before = before })) (sym some)

pub returns-in_err-push : goal.returns-in_err-push
returns-in_err-push g c =
    let exit = err_from_is_err_and c.from_residual.result c.from_residual.ensures.1 in
    record {
      goes = rw exit.1 tt;
      decided = rw exit.1 tt;
      walk = rw exit.1 tt;
      evicted = rw exit.1 tt;
      memory = rw exit.1 exit.2;
    }

pub returns-in_default : goal.returns-in_default
returns-in_default g c = record {
  goes = ap is_some (sym (none-decided (g.K.ByteString.bytes c.args.key) (option_map g.K.ByteString.bytes c.args.next) c.args.before (action_view g.V.ByteString.bytes c.args.action) (c.in_default.ensures g.V.ByteString.bytes)));
  decided =
      let ds = decided_views g.K.ByteString.bytes g.V.ByteString.bytes c.args.going.now.decided.items in
      sym (append-nil ds) ∙ ap (λ o. ds ++ option_to_list o) (sym (none-decided (g.K.ByteString.bytes c.args.key) (option_map g.K.ByteString.bytes c.args.next) c.args.before (action_view g.V.ByteString.bytes c.args.action) (c.in_default.ensures g.V.ByteString.bytes)));
  walk = refl;
  evicted = refl;
  memory = tt;
}

pub returns : goal.returns
returns g c = record {
  goes = ap is_some (sym (some-decided (g.K.ByteString.bytes c.args.key) (option_map g.K.ByteString.bytes c.args.next) c.args.before (action_view g.V.ByteString.bytes c.args.action) _ (c.in-Some.ensures g.V.ByteString.bytes)));
  decided =
      let view = decided_view g.K.ByteString.bytes g.V.ByteString.bytes in
      let items = c.args.going.now.decided.items in
      ap (map view) c.in_ok-push.ensures.items ∙ map-append view items (_ ∷ [])
      ∙ ap (λ o. map view items ++ option_to_list o) (sym (some-decided (g.K.ByteString.bytes c.args.key) (option_map g.K.ByteString.bytes c.args.next) c.args.before (action_view g.V.ByteString.bytes c.args.action) _ (c.in-Some.ensures g.V.ByteString.bytes)));
  walk = c.decide.ensures;
  evicted = refl;
  memory = tt;
}
