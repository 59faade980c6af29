use Rattle.std.proofs.Common.{◌≡◌, ap, ◌∙◌, arith, length}
use Rattle.qm_model.specs.Trees.{peaks}
use Rattle.qm_model.specs.Mmr.{mmr}
use Rattle.qm_model.proofs.MmrPeaks.{peaks_below, peaks-one, peaks-none, peaks_below-zero, peaks_below-all}
use Rattle.qm_merkle.proofs.MmrCalls.{no_digit}
use Rattle.qm_merkle.proofs.mmr.FamilyFamily.peak_count.Goals as goal

pub places-init : goal.places-init
places-init c = record { low = omega arith; counted = omega (arith, ap length (peaks_below-all c.get-leaves.result (omega (arith, c.requires, c.get-leaves.ensures)))) }

pub places-preserved-then-has_peak : goal.places-preserved-then-has_peak
places-preserved-then-has_peak c =
    let step = ap length (peaks-one c.places.height c.get-leaves.result c.places-test.true (c.has_peak.ensures.0 c.if-has_peak.true)) in
    record { low = omega (arith, c.places.invariant.low); counted = omega (arith, step, c.places.invariant.counted) }

pub places-preserved : goal.places-preserved
places-preserved c =
    let step = ap length (peaks-none c.places.height c.get-leaves.result c.places-test.true (no_digit _ _ c.has_peak.ensures c.if-has_peak.false)) in
    record { low = omega (arith, c.places.invariant.low); counted = omega (arith, step, c.places.invariant.counted) }

pub returns : goal.returns
returns c =
    let last : c.places.height ≡ 0 = omega arith in
    let none = ap length (ap (λ h. peaks_below h c.get-leaves.result) last ∙ peaks_below-zero c.get-leaves.result) in
    omega (arith, none, c.places.invariant.counted, ap (λ n. length (peaks mmr n)) c.get-leaves.ensures)
