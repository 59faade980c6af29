use Rattle.std.proofs.Common.{◌≡◌, ℕ, ◌+◌, ◌-◌, ap, ap₂, sym, ◌∙◌, arith, add-zero}
use Rattle.std.specs.Prelude.{count_by, nat_le}
use Rattle.qm_model.specs.Trees.{end_of}
use Rattle.qm_model.specs.Mmb.{log}
use Rattle.qm_model.proofs.MmbPeaks.{peaks_below-zero, peaks_below-all, some_above}
use Rattle.qm_merkle.proofs.MmbCalls.{counted, counted-one, counted-none}
use Rattle.qm_merkle.proofs.mmb.FamilyFamily.inactive_peaks.Goals as goal

regroup : (count all later total : ℕ) → all ≡ 1 + later → count + all ≡ total → count + 1 + later ≡ total
regroup count all later total e h = omega arith

pub peak_end-requires-clause-some : goal.peak_end-requires-clause-some
peak_end-requires-clause-some c = some_above (c.get-next.result + 1) (c.places.place - 1) c.places.invariant.some (omega (arith, c.places.invariant.low))

pub places-preserved-then-peak_end-floor : goal.places-preserved-then-peak_end-floor
places-preserved-then-peak_end-floor c =
    let step = counted-one c.get-floor.result c.places.place (c.get-next.result + 1) c.places.invariant.some c.places-test.true c.places.invariant.low (omega (arith, c.peak_end.ensures, c.if-peak_end-floor.true)) in
    record {
      some = c.places.invariant.some;
      low = omega (arith, c.places.invariant.low);
      least = omega (arith, c.places.invariant.least);
      few = omega (arith, c.places-test.true, c.places.invariant.few);
      counted = regroup c.places.count _ _ _ step c.places.invariant.counted;
    }

pub places-preserved : goal.places-preserved
places-preserved c =
    let step = counted-none c.get-floor.result c.places.place (c.get-next.result + 1) c.places.invariant.some c.places-test.true c.places.invariant.low (omega (arith, c.peak_end.ensures, c.if-peak_end-floor.false)) in
    record {
      some = c.places.invariant.some;
      low = omega (arith, c.places.invariant.low);
      least = omega (arith, c.places.invariant.least);
      few = omega (arith, c.places.invariant.few);
      counted = ap (λ k. c.places.count + k) (sym step) ∙ c.places.invariant.counted;
    }

pub returns : goal.returns
returns c =
    let last : c.places.place ≡ 0 = omega arith in
    let next = c.get-next.result + 1 in
    let floor = c.get-floor.result in
    let none : counted floor c.places.place next ≡ 0 = ap (λ h. counted floor h next) last ∙ ap (count_by (λ p. nat_le (end_of p) floor)) (peaks_below-zero next) in
    sym (ap (λ k. c.places.count + k) none ∙ add-zero c.places.count) ∙ c.places.invariant.counted
    ∙ ap₂ (λ n f. counted f (log (n + 1)) (n + 1)) c.get-next.ensures c.get-floor.ensures
    ∙ ap (count_by (λ p. nat_le (end_of p) c.args.floor)) (peaks_below-all c.args.leaves)
