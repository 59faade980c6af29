use Rattle.std.proofs.Common.{◌∙◌, ◌++◌, ap, map, subst, sym, true≢false, refl}
use Rattle.qm_model.proofs.Results.{told-any, told-err}
use Rattle.qm_step.specs.Layers.{LeadOver}
use Rattle.qm_step.specs.PlanViews.{decided_views, touch_views}
use Rattle.qm_step.specs.Touches.{operations_of}
use Rattle.qm_step.specs.Views.{read_view}
use Rattle.qm_step.proofs.MovesAll.{none-gone}
use Rattle.qm_step.proofs.MovesFound.{none-before}
use Rattle.std.proofs.lemmas.Result.{err_from_is_err_and}
use Rattle.qm_base.proofs.Reading.{reads-short, read-none}
use Rattle.qm_batch.proofs.plan.ordered.moves.befores_of.Goals as goal
use Rattle.qm_batch.proofs.plan.ordered.moves.befores_of.Goals.{then-not-is_ordered-via-then-not-is_ordered, then-not-is_ordered-via-else-not-is_ordered+then-evicted-eq0}

pub returns-then-not-is_ordered : goal.returns-then-not-is_ordered
returns-then-not-is_ordered g c = record {
  value = λ lent list ordered is base ring over from.
      let key = g.U.Key.ByteString.bytes in
      let value = g.U.Value.ByteString.bytes in
      elim c.then-not-is_ordered.branch [
        | then-not-is_ordered-via-then-not-is_ordered w ↦ absurd (true≢false (sym ordered ∙ sym c.is_ordered.ensures ∙ w.if-not-is_ordered.true))
        | then-not-is_ordered-via-else-not-is_ordered+then-evicted-eq0 w ↦
            told-any _ (g.L.Items.reads.told c.args.log.now)
            (ap (map (read_view g.U.Update.view)) c.new.ensures.items
            ∙ sym (none-before (list ++ operations_of (touch_views g.U.Update.view key value c.args.made.now)) (decided_views key value c.args.decided.now)
            (none-gone key value c.args.decided.now (sym w.evicted.ensures.count ∙ w.if-evicted-eq0.true))))
      ];
  reads = reads-short g.L.Items.reads _ (read-none g.L.Items.reads g.met.L.Items.unread c.args.log.now) tt;
}

pub returns : goal.returns
returns g c = record {
  value = λ lent list ordered is base ring over from.
      let key = g.U.Key.ByteString.bytes in
      let value = g.U.Value.ByteString.bytes in
      let mid = list ++ operations_of (touch_views g.U.Update.view key value c.args.made.now) in
      let leads = subst (λ ls. LeadOver (map (λ l. l.value) ls) lent mid) (sym c.deref.ensures.value) (c.in_ok-layers.ensures lent list base from) in
      c.find_before.ensures.value lent mid is leads ring over;
  reads = c.find_before.ensures.reads;
}

pub returns-in_err-layers : goal.returns-in_err-layers
returns-in_err-layers g c =
    let exit = err_from_is_err_and c.from_residual.result c.from_residual.ensures.1 in
    record {
      value = λ lent list ordered is base ring over from. told-err _ (g.L.Items.reads.told c.args.log.now) c.from_residual.result exit.0 exit.1;
      reads = reads-short g.L.Items.reads c.from_residual.result (read-none g.L.Items.reads g.met.L.Items.unread c.args.log.now) (rw (exit.1, exit.2) refl);
    }
