use Rattle.std.proofs.Common.{◌∙◌, refl, sym, subst, arith}
use Rattle.std.proofs.lemmas.List.{take_all}
use Rattle.qm_bits.specs.Bitmaps.{all_bits}
use Rattle.qm_step.specs.Views.{change_view, changes_view}
use Rattle.qm_step.proofs.Entries.{view-before, view-now}
use Rattle.qm_overlay.specs.Marks.{AreMarked}
use Rattle.qm_overlay.proofs.Shifting.{stage, stage-next, stage-all, tip-longer, alike-start, alike-then}
use Rattle.std.proofs.lemmas.Result.{IfOk-from_err}
use Rattle.qm_overlay.proofs.Laying.{on_err}
use Rattle.qm_overlay.proofs.steps.move_entries.Goals as goal

pub loop-entry-init : goal.loop-entry-init
loop-entry-init g c = (record { pruned = refl; count = refl }, refl, λ base tip are few has. has.live)

pub loop-entry-preserved : goal.loop-entry-preserved
loop-entry-preserved g c =
    let size = g.N.Chunks.LEN in
    let first = g.M.Marks.bitmap c.args.activity.now in
    let old = g.M.Marks.bitmap c.loop-entry.activity in
    let mid = g.M.Marks.bitmap c.clear_at.new.activity in
    let new = g.M.Marks.bitmap c.mark_at.new.activity in
    let value = g.V.ByteString.bytes in
    let entry = c.entry-item.result in
    let alike = c.loop-entry.invariant.0 in (
      alike-then size first mid new (alike-then size first old mid alike c.clear_at.ensures.alike) c.mark_at.ensures.alike,
      c.in_ok-mark_at.ensures.below ∙ c.in_ok-clear_at.ensures.below ∙ c.loop-entry.invariant.1,
      λ base tip are few has.
          stage-next g.K.ByteString.bytes (change_view value) c.args.entries.now c.loop-entry.entry-index entry c.loop-entry-test.true c.entry-item.is size first old mid new base tip c.base_old_loc.result c.loc.result
          c.requires are few has alike c.clear_at.ensures.alike (c.base_old_loc.ensures ∙ sym (view-before value entry.1)) (c.loc.ensures ∙ sym (view-now value entry.1)) c.in_ok-clear_at.ensures.bits c.in_ok-mark_at.ensures.bits
          (c.loop-entry.invariant.2 base tip are few has),
    )

pub returns : goal.returns
returns g c = record {
  alike = c.loop-entry.invariant.0;
  live = λ base tip are few has.
      let size = g.N.Chunks.LEN in
      let first = g.M.Marks.bitmap c.args.activity.now in
      let last = g.M.Marks.bitmap c.loop-entry.activity in
      let views = changes_view g.K.ByteString.bytes g.V.ByteString.bytes in
      let bits = all_bits size last in
      let start_is = alike-start size first last c.loop-entry.invariant.0.pruned in
      let longer = tip-longer (views c.args.entries.now) base tip are in
      let kept = has.kept in
      record {
        live = stage-all (views c.args.entries.now) base tip are bits
            (subst (λ xs. AreMarked bits (stage (views xs) base)) (take_all c.loop-entry.entry-index c.args.entries.now c.loop-entry-test.false) (c.loop-entry.invariant.2 base tip are few has));
        kept = omega (arith, start_is, longer, kept);
      };
  below = c.loop-entry.invariant.1;
  err = tt;
}

pub returns-in_err-clear_at : goal.returns-in_err-clear_at
returns-in_err-clear_at g c = record {
  alike = IfOk-from_err c.from_residual.result _ c.from_residual.ensures.0;
  live = λ base tip are few has. IfOk-from_err c.from_residual.result _ c.from_residual.ensures.0;
  below = IfOk-from_err c.from_residual.result _ c.from_residual.ensures.0;
  err = on_err c.from_residual.result c.in_err-clear_at.ensures.err;
}

pub returns-in_err-mark_at : goal.returns-in_err-mark_at
returns-in_err-mark_at g c = record {
  alike = IfOk-from_err c.from_residual-in_err-mark_at.result _ c.from_residual-in_err-mark_at.ensures.0;
  live = λ base tip are few has. IfOk-from_err c.from_residual-in_err-mark_at.result _ c.from_residual-in_err-mark_at.ensures.0;
  below = IfOk-from_err c.from_residual-in_err-mark_at.result _ c.from_residual-in_err-mark_at.ensures.0;
  err = on_err c.from_residual-in_err-mark_at.result c.in_err-mark_at.ensures.err;
}
