use Rattle.std.proofs.Common.{◌≡◌, ◌∙◌, ◌+◌, length, map, max, min, ap, sym, subst, arith, ℕ, refl}
use Rattle.qm_model.proofs.Results.{told-one, told-err}
use Rattle.qm_model.specs.Live.{floor}
use Rattle.qm_model.specs.Walk.{walk}
use Rattle.qm_step.specs.Going.{AreDecided}
use Rattle.qm_step.specs.PlanViews.{decided_view, decided_views, pair_views, touch_view}
use Rattle.qm_base.specs.Views.{pair_view}
use Rattle.qm_batch.proofs.PlanGoing.{going-begins}
use Rattle.qm_batch.proofs.PlanMoves.{made-long}
use Rattle.std.proofs.lemmas.Result.{err_from_is_err_and}
use Rattle.qm_chain.specs.declared.walk.Walk.{Walk}
use Rattle.qm_base.proofs.Reading.{reads-short, read-none, reads-on, reads-where}
use Rattle.qm_batch.proofs.plan.walk.walk_from.Goals as goal

pub returns : goal.returns
returns g c = record {
  value = λ lent base list is active behind.
      let key = g.U.Key.ByteString.bytes in
      let value = g.U.Value.ByteString.bytes in
      let made = c.args.made.now in
      let on = behind c.in_ok-replaced.replaced c.in_ok-replaced.ensures in
      let long = made-long (touch_view g.U.Update.view key value) base list made on.makes in
      let size = (on.known).size in
      let low = (on.known).floor in
      let place = c.get-floor.ensures in
      let top : c.new-2.result ≡ max (floor base) (length list) = omega (arith, c.new-2.ensures, c.max-tip.ensures, long, size, low, place) in
      let at : c.new.result ≡ floor base = c.new.ensures ∙ place ∙ low in
      let begun : c.new-walk.result ≡ record { floor = floor base; end = min c.new-2.result (floor base + c.args.limits.entries + c.args.limits.skips); entries = c.args.limits.entries; skips = c.args.limits.skips } =
      c.new-walk.ensures ∙ ap (λ n. record { floor = n; end = min c.new-2.result (n + c.args.limits.entries + c.args.limits.skips); entries = c.args.limits.entries; skips = c.args.limits.skips }) at in
      told-one _ _ (g.L.Items.reads.told c.args.log.now) (c.in_ok-walk_on.ensures.value lent base list _ is active on
      (going-begins g.P.Policy.rules base list _ _ c.new-walk.result c.args.policy.now c.new-2.result c.args.limits.entries c.args.limits.skips (ap (map (decided_view key value)) c.new-3.ensures.items) (ap (map (pair_view key value)) c.new-4.ensures.items) top begun)) (λ decided.
      subst (λ (n : ℕ). AreDecided base list (decided_views key value c.walk_on.new.going.decided.items) (pair_views key value c.walk_on.new.going.evicted.items) n c.walk_on.new.policy (walk g.P.Policy.rules list (floor base) (record { entries = c.args.limits.entries; skips = c.args.limits.skips }) c.args.policy.now)) (sym c.get.ensures) decided);
  reads = reads-short g.L.Items.reads _ c.walk_on.ensures.reads.left tt;
}

pub returns-in_err-walk_on : goal.returns-in_err-walk_on
returns-in_err-walk_on g c =
    let exit = err_from_is_err_and c.from_residual-in_err-walk_on.result c.from_residual-in_err-walk_on.ensures.1 in
    record {
      value = λ lent base list is active behind. told-err _ (g.L.Items.reads.told c.args.log.now) c.from_residual-in_err-walk_on.result exit.0 exit.1;
      reads =
          reads-on g.L.Items.reads c.from_residual-in_err-walk_on.result
          (reads-where g.L.Items.reads _ (λ above.
          let floor = ap (λ (w : Walk _). w.floor) c.new-walk.ensures in
          omega (arith, above, floor, c.new.ensures, c.get-floor.ensures))
          c.in_err-walk_on.ensures.reads) exit.1 exit.2;
    }

pub returns-in_err-replaced : goal.returns-in_err-replaced
returns-in_err-replaced g c =
    let exit = err_from_is_err_and c.from_residual.result c.from_residual.ensures.1 in
    record {
      value = λ lent base list is active behind. told-err _ (g.L.Items.reads.told c.args.log.now) c.from_residual.result exit.0 exit.1;
      reads = reads-short g.L.Items.reads c.from_residual.result (read-none g.L.Items.reads g.met.L.Items.unread c.args.log.now) (rw (exit.1, exit.2) refl);
    }
