use Rattle.std.proofs.Common.{◌≡◌, ◌∙◌, ◌-◌, ◌+◌, ◌<◌, ap, refl, sym, subst, arith, map, length, take}
use Rattle.std.proofs.lemmas.List.{take_all}
use Rattle.qm_step.specs.Changes.{AreChanges, LeadTo}
use Rattle.qm_step.specs.Views.{changes_view}
use Rattle.qm_step.proofs.Staged.{lead-at}
use Rattle.qm_overlay.specs.Marks.{HasLive}
use Rattle.qm_overlay.proofs.Shifting.{lead-longer, alike-then}
use Rattle.std.proofs.lemmas.Result.{IfOk-from_err}
use Rattle.qm_overlay.proofs.Laying.{on_err}
use Rattle.qm_chain.specs.Ascending.{IsAscending}
use Rattle.qm_overlay.proofs.steps.move_bits.Goals as goal

pub loop-step-init : goal.loop-step-init
loop-step-init g c = (
  record { pruned = refl; count = refl },
  refl,
  λ from tip lead few has.
      let views = changes_view g.K.ByteString.bytes g.V.ByteString.bytes in
      (from, subst (λ ds. LeadTo (map (λ d. views d.value) ds) from tip) (sym (take_all (length c.args.diffs.now) c.args.diffs.now (omega arith))) lead, has),
)

pub loop-step-preserved : goal.loop-step-preserved
loop-step-preserved g c =
    let size = g.N.Chunks.LEN in
    let first = g.M.Marks.bitmap c.args.activity.now in
    let old = g.M.Marks.bitmap c.loop-step.activity in
    let new = g.M.Marks.bitmap c.move_entries.new.activity in
    let alike = c.loop-step.invariant.0 in (
      alike-then size first old new alike c.in_ok-move_entries.ensures.alike,
      c.in_ok-move_entries.ensures.below ∙ c.loop-step.invariant.1,
      λ from tip lead few has.
          let xs = c.args.diffs.now in
          let at = c.loop-step.step - 1 in
          let within : at < length xs = omega (arith, c.loop-step-test.true, c.loop-step.auto.step) in
          let next : c.loop-step.step ≡ at + 1 = omega (arith, c.loop-step-test.true) in
          let views = changes_view g.K.ByteString.bytes g.V.ByteString.bytes in
          let before = c.loop-step.invariant.2 from tip lead few has in
          let step = lead-at (λ d. views d.value) xs at c.loop-step.step c.index-diffs-step.result before.0 tip within next c.index-diffs-step.is before.1 in
          let entries = ap views (c.entries.ensures.value ∙ c.deref.ensures) in
          let longer = lead-longer (map (λ d. views d.value) (take at xs)) step.0 tip step.2 in
          let count = alike.count in
          (step.0, step.2, c.in_ok-move_entries.ensures.live before.0 step.0 (subst (λ cs. AreChanges cs before.0 step.0) (sym entries) step.1) (omega (arith, longer, few, count)) before.2),
    )

pub returns : goal.returns
returns g c = record {
  alike = c.loop-step.invariant.0;
  live = λ from tip lead few has.
      let none : c.loop-step.step ≡ 0 = omega (arith, c.loop-step-test.false) in
      let views = changes_view g.K.ByteString.bytes g.V.ByteString.bytes in
      let last = c.loop-step.invariant.2 from tip lead few has in
      let same : last.0 ≡ tip = subst (λ n. LeadTo (map (λ d. views d.value) (take n c.args.diffs.now)) last.0 tip) none last.1 in
      subst (HasLive g.N.Chunks.LEN (g.M.Marks.bitmap c.loop-step.activity)) same last.2;
  below = c.loop-step.invariant.1;
  err = tt;
}

pub returns-in_err-move_entries : goal.returns-in_err-move_entries
returns-in_err-move_entries g c = record {
  alike = IfOk-from_err c.from_residual.result _ c.from_residual.ensures.0;
  live = λ from tip lead few has. IfOk-from_err c.from_residual.result _ c.from_residual.ensures.0;
  below = IfOk-from_err c.from_residual.result _ c.from_residual.ensures.0;
  err = on_err c.from_residual.result c.in_err-move_entries.ensures.err;
}

pub move_entries-requires : goal.move_entries-requires
move_entries-requires g c = subst (λ es. IsAscending (map (λ e. g.K.ByteString.bytes e.0) es)) (sym c.entries.ensures.value) c.entries.ensures.ascending
