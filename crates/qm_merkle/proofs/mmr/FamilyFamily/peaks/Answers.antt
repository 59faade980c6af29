use Rattle.std.proofs.Common.{◌≡◌, ◌-◌, ◌++◌, ◌∷◌, [], ap, sym, ◌∙◌, arith, append-nil}
use Rattle.qm_model.specs.Trees.{peaks}
use Rattle.qm_model.specs.Mmr.{mmr}
use Rattle.qm_model.proofs.MmrPeaks.{peaks_below, peak_at, peaks-one, peaks-none, peaks_below-zero}
use Rattle.qm_merkle.proofs.MmrCalls.{taken, no_digit}
use Rattle.qm_merkle.proofs.mmr.FamilyFamily.peaks.Goals as goal

pub places-preserved-in-Continue-1 : goal.places-preserved-in-Continue-1
places-preserved-in-Continue-1 c =
    let found = c.places.found.items in
    let height = c.places.height in
    let leaves = c.get-count.result in
    record {
      low = omega arith;
      row =
          ap (λ m. m ++ peaks_below (height - 1) leaves) (c.in_ok-push.ensures.items ∙ ap (λ x. found ++ x ∷ []) c.new.ensures)
          ∙ taken found (peak_at (height - 1) leaves) _ _ _ (peaks-one height leaves c.places-test.true (c.has_peak.ensures.0 c.if-has_peak.true)) c.places.invariant.row;
    }

pub places-preserved : goal.places-preserved
places-preserved c =
    let none = no_digit _ _ c.has_peak.ensures c.if-has_peak.false in
    record {
      low = omega arith;
      row = ap (λ r. c.places.found.items ++ r) (sym (peaks-none c.places.height c.get-count.result c.places-test.true none)) ∙ c.places.invariant.row;
    }

pub returns : goal.returns
returns c =
    let last : c.places.height ≡ 0 = omega arith in
    sym (append-nil c.places.found.items)
    ∙ ap (λ r. c.places.found.items ++ r) (sym (ap (λ h. peaks_below h c.get-count.result) last ∙ peaks_below-zero c.get-count.result))
    ∙ c.places.invariant.row ∙ ap (peaks mmr) c.get-count.ensures
