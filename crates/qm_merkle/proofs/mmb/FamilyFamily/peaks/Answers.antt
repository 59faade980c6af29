use Rattle.std.proofs.Common.{◌≡◌, suc, ◌+◌, ◌-◌, ◌++◌, ◌∷◌, [], ap, sym, ◌∙◌, arith, append-nil}
use Rattle.qm_model.specs.Mmb.{log}
use Rattle.qm_model.proofs.MmbPeaks.{peaks_below, peak_at, peaks-step, peaks_below-zero, peaks_below-all, some_above}
use Rattle.qm_merkle.proofs.MmrCalls.{taken}
use Rattle.qm_merkle.proofs.mmb.FamilyFamily.peaks.Goals as goal

pub peak_at-requires-clause-some : goal.peak_at-requires-clause-some
peak_at-requires-clause-some c = some_above (c.get-next.result + 1) (suc (c.places.place - 1)) c.places.invariant.some (omega (arith, c.places-test.true, c.places.invariant.low))

pub places-preserved : goal.places-preserved
places-preserved c =
    let found = c.places.found.items in
    let place = c.places.place in
    let next = c.get-next.result + 1 in
    let some = some_above next place c.places.invariant.some c.places.invariant.low in
    record {
      some = c.places.invariant.some;
      low = omega (arith, c.places.invariant.low);
      least = omega (arith, c.places.invariant.least);
      row =
          ap (λ m. m ++ peaks_below (place - 1) next) (c.in_ok-push.ensures.items ∙ ap (λ x. found ++ x ∷ []) c.peak_at.ensures)
          ∙ taken found (peak_at (place - 1) next) _ _ _ (peaks-step place next c.places-test.true some) c.places.invariant.row;
    }

pub returns : goal.returns
returns c =
    let last : c.places.place ≡ 0 = omega arith in
    let next = c.get-next.result + 1 in
    sym (append-nil c.places.found.items)
    ∙ ap (λ r. c.places.found.items ++ r) (sym (ap (λ h. peaks_below h next) last ∙ peaks_below-zero next))
    ∙ c.places.invariant.row ∙ ap (λ n. peaks_below (log (n + 1)) (n + 1)) c.get-next.ensures ∙ peaks_below-all c.args.leaves
