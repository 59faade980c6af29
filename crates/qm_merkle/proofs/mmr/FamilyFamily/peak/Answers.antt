use Rattle.std.proofs.Common.{◌≡◌, ◌<◌, ◌≤◌, ◌-◌, ℕ, suc, List, ◌∷◌, ap, sym, ◌∙◌, arith, length, Some, ⊎_elim}
use Rattle.std.specs.Prelude.{slice_get}
use Rattle.std.proofs.lemmas.Bool.{cases_lt}
use Rattle.qm_model.specs.Trees.{Node, peaks}
use Rattle.qm_model.specs.Mmr.{mmr}
use Rattle.qm_model.proofs.MmrPeaks.{peaks_below, peak_at, peaks-one, peaks-none, peaks_below-zero}
use Rattle.qm_merkle.proofs.MmrCalls.{no_digit}
use Rattle.qm_merkle.proofs.mmr.FamilyFamily.peak.Goals as goal

-- if there is a peak, there is a height
some_height : (h n left : ℕ) → left < length (peaks_below h n) → 0 < h
some_height h n left lt = ⊎_elim (λ (high : 0 < h). high)
    (λ (none : h ≤ 0).
    let flat : h ≡ 0 = omega arith in
    absurd (omega (arith, ap length (ap (λ k. peaks_below k n) flat ∙ peaks_below-zero n))))
    (cases_lt 0 h)

-- the peaks after the first
behind : (ps rest : List Node) (p : Node) (left : ℕ) → ps ≡ p ∷ rest → 0 < left → slice_get ps left ≡ slice_get rest (left - 1)
behind ps rest p left is some =
    let next : left ≡ suc (left - 1) = omega arith in
    ap (λ xs. slice_get xs left) is ∙ ap (slice_get (p ∷ rest)) next

pub overflow_sub-height : goal.overflow_sub-height
overflow_sub-height c = some_height c.places.height c.get-leaves.result c.places.left c.places.invariant.there

pub places-smaller-then-has_peak : goal.places-smaller-then-has_peak
places-smaller-then-has_peak c = let some = some_height c.places.height c.get-leaves.result c.places.left c.places.invariant.there in omega arith

pub places-smaller : goal.places-smaller
places-smaller c = let some = some_height c.places.height c.get-leaves.result c.places.left c.places.invariant.there in omega arith

pub returns-then-left-eq0 : goal.returns-then-left-eq0
returns-then-left-eq0 c =
    let h = c.places.height in
    let n = c.get-leaves.result in
    let some = some_height h n c.places.left c.places.invariant.there in
    let step = peaks-one h n some (c.has_peak.ensures.0 c.if-has_peak.true) in
    let first : c.places.left ≡ 0 = omega (arith, c.if-left-eq0.true) in
    ap (λ m. slice_get (peaks mmr m) c.args.number) (sym c.get-leaves.ensures)
    ∙ c.places.invariant.peak ∙ ap (slice_get (peaks_below h n)) first ∙ ap (λ xs. slice_get xs 0) step ∙ ap Some (sym c.new.ensures)

pub places-preserved-then-has_peak : goal.places-preserved-then-has_peak
places-preserved-then-has_peak c =
    let h = c.places.height in
    let n = c.get-leaves.result in
    let some = some_height h n c.places.left c.places.invariant.there in
    let step = peaks-one h n some (c.has_peak.ensures.0 c.if-has_peak.true) in
    let left : 0 < c.places.left = omega (arith, c.if-left-eq0.false) in
    record {
      low = omega (arith, c.places.invariant.low);
      there = omega (arith, ap length step, c.places.invariant.there);
      peak = c.places.invariant.peak ∙ behind (peaks_below h n) (peaks_below (h - 1) n) (peak_at (h - 1) n) c.places.left step left;
    }

pub places-preserved : goal.places-preserved
places-preserved c =
    let h = c.places.height in
    let n = c.get-leaves.result in
    let some = some_height h n c.places.left c.places.invariant.there in
    let step = peaks-none h n some (no_digit _ _ c.has_peak.ensures c.if-has_peak.false) in
    record {
      low = omega (arith, c.places.invariant.low);
      there = omega (arith, ap length step, c.places.invariant.there);
      peak = c.places.invariant.peak ∙ ap (λ xs. slice_get xs c.places.left) step;
    }
