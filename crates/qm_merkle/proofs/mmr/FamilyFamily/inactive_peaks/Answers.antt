use Rattle.std.proofs.Common.{◌≡◌, ◌+◌, ap, sym, ◌∙◌, arith, ap₂, add-zero, ℕ}
use Rattle.std.specs.Prelude.{count_by, nat_le}
use Rattle.qm_model.specs.Trees.{inactive_peaks, end_of}
use Rattle.qm_model.specs.Mmr.{mmr}
use Rattle.qm_model.proofs.MmrPeaks.{peaks_below-zero}
use Rattle.qm_merkle.proofs.MmrCalls.{counted, counted-one, counted-none}
use Rattle.qm_merkle.proofs.mmr.FamilyFamily.inactive_peaks.Goals as goal

regroup : (count all later total : ℕ) → all ≡ 1 + later → count + all ≡ total → count + 1 + later ≡ total
regroup count all later total e h = omega arith

pub places-preserved-then-has_inactive_peak : goal.places-preserved-then-has_inactive_peak
places-preserved-then-has_inactive_peak c =
    let step = counted-one c.get-floor.result c.places.height c.get-leaves.result c.places-test.true (c.has_inactive_peak.ensures.0 c.if-has_inactive_peak.true) in
    record { low = omega arith; counted = regroup c.places.count _ _ _ step c.places.invariant.counted }

pub places-preserved : goal.places-preserved
places-preserved c =
    let step = counted-none _ c.get-floor.result c.places.height c.get-leaves.result c.places-test.true c.has_inactive_peak.ensures c.if-has_inactive_peak.false in
    record { low = omega arith; counted = ap (λ k. c.places.count + k) (sym step) ∙ c.places.invariant.counted }

pub returns : goal.returns
returns c =
    let last : c.places.height ≡ 0 = omega arith in
    let none : counted c.get-floor.result c.places.height c.get-leaves.result ≡ 0 = ap (λ h. counted c.get-floor.result h c.get-leaves.result) last ∙ ap (count_by (λ p. nat_le (end_of p) c.get-floor.result)) (peaks_below-zero c.get-leaves.result) in
    sym (ap (λ k. c.places.count + k) none ∙ add-zero c.places.count) ∙ c.places.invariant.counted ∙ ap₂ (inactive_peaks mmr) c.get-leaves.ensures c.get-floor.ensures
