use Rattle.std.proofs.Common.{◌≡◌, ◌∙◌, ◌++◌, ap, sym, subst, subst₂, ◌-◌, map, count_by, true, refl}
use Rattle.std.specs.Prelude.{All, IfSome, filter_map, is_none}
use Rattle.qm_model.specs.Ordered.{IsRing}
use Rattle.qm_step.specs.Kinds.{kind_of}
use Rattle.qm_step.specs.Going.{write_for, IsDecided}
use Rattle.qm_step.specs.Moves.{before_evicted}
use Rattle.qm_step.specs.PlanViews.{decided_views, touch_views}
use Rattle.qm_step.specs.Rings.{touch_in}
use Rattle.qm_step.specs.Touches.{IsFrom, operations_of}
use Rattle.qm_step.specs.Views.{read_view}
use Rattle.qm_step.proofs.OrderedKinds.{ring-over}
use Rattle.qm_step.proofs.Reading.{told-given}
use Rattle.qm_step.specs.declared.decided.Decided.{Decided}
use Rattle.std.proofs.lemmas.Result.{err_from_is_err_and}
use Rattle.qm_model.proofs.Results.{told-err}
use Rattle.qm_base.proofs.Reading.{reads-on, reads-short}
use Rattle.qm_batch.proofs.plan.own_of.Goals as goal

pub returns : goal.returns
returns g c = record {
  touches = λ lent base ws is known written lent_ring ring are apart.
      let key = g.U.Key.ByteString.bytes in
      let value = g.U.Value.ByteString.bytes in
      let form = g.U.Update.form in
      let kind = kind_of form in
      let views = touch_views g.U.Update.view key value in
      let made = views c.args.made.items in
      let makes : base ++ operations_of made ≡ base ++ kind.writes base ws = ap (λ ops. base ++ ops) written.operations in
      let ds = decided_views key value c.args.walked.decided.items in
      let told_items = g.L.Items.reads.told c.args.log.now in
      let befores : (form.ordered ≡ true → IfSome told_items (λ _. map (read_view g.U.Update.view) c.in_ok-found.found.items ≡ filter_map (before_evicted (base ++ operations_of made)) ds)) = λ ordered.
      subst₂ (λ ms ds. IsRing (base ++ operations_of (views ms)) → All (IsFrom base) (views ms) → IfSome told_items (λ _. map (read_view g.U.Update.view) c.in_ok-found.found.items ≡ filter_map (before_evicted (base ++ operations_of (views ms))) (decided_views key value ds)))
      c.deref-2.ensures.value c.deref-3.ensures.value (c.in_ok-found.ensures.value lent base ordered is known (lent_ring ordered)) (ring-over form base ws made ring written ordered) written.from in
      told-given (form.ordered ≡ true) told_items befores (λ found.
      c.in_ok-touches.ensures.value base ws known.size ring written (subst (λ ops. All (IsDecided base ops) ds) (sym makes) are) apart (λ ordered. ap (map (read_view g.U.Update.view)) c.deref-4.ensures.value ∙ found ordered)
      ∙ ap (λ ops. made ++ map (touch_in base) (kind.moves ops (map write_for ds))) makes);
  moves = c.moved.ensures.live;
  live = c.saturating_sub-live.ensures ∙ ap (λ n. c.args.behind - n) (c.evicted.ensures.count ∙ ap (count_by (λ (d : Decided _ _). is_none d.value)) c.deref.ensures.value);
  floor = refl;
  evicted = refl;
  count = c.in_ok-touches.ensures.count;
  reads = reads-short g.L.Items.reads _ c.befores_of.ensures.reads.left tt;
}

pub returns-in_err-found : goal.returns-in_err-found
returns-in_err-found g c =
    let exit = err_from_is_err_and c.from_residual.result c.from_residual.ensures.1 in
    record {
      touches = λ lent base ws is known written lent_ring ring are apart. told-err _ (g.L.Items.reads.told c.args.log.now) c.from_residual.result exit.0 exit.1;
      moves = rw exit.1 tt;
      live = rw exit.1 tt;
      floor = rw exit.1 tt;
      evicted = rw exit.1 tt;
      count = rw exit.1 tt;
      reads = reads-on g.L.Items.reads c.from_residual.result c.in_err-found.ensures.reads exit.1 exit.2;
    }

pub returns-in_err-touches : goal.returns-in_err-touches
returns-in_err-touches g c =
    let exit = err_from_is_err_and c.from_residual-in_err-touches.result c.from_residual-in_err-touches.ensures.1 in
    record {
      touches = λ lent base ws is known written lent_ring ring are apart. told-err _ (g.L.Items.reads.told c.args.log.now) c.from_residual-in_err-touches.result exit.0 exit.1;
      moves = rw exit.1 tt;
      live = rw exit.1 tt;
      floor = rw exit.1 tt;
      evicted = rw exit.1 tt;
      count = rw exit.1 tt;
      reads = reads-short g.L.Items.reads c.from_residual-in_err-touches.result c.befores_of.ensures.reads.left (rw (exit.1, exit.2) refl);
    }
