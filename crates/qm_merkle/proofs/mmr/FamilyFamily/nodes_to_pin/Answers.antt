use Rattle.std.proofs.Common.{◌≡◌, ◌+◌, ◌-◌, ◌++◌, ◌∷◌, [], ap, sym, ◌∙◌, arith, append-nil, map}
use Rattle.qm_model.specs.Trees.{peak_positions}
use Rattle.qm_model.specs.Mmr.{mmr, size}
use Rattle.qm_model.proofs.MmrPeaks.{peaks_below, peak_at, peaks-one, peaks-none, peaks_below-zero, peak_at-end}
use Rattle.qm_merkle.proofs.MmrCalls.{taken, no_digit}
use Rattle.qm_merkle.proofs.mmr.FamilyFamily.nodes_to_pin.Goals as goal

pub places-preserved-in-Continue-1 : goal.places-preserved-in-Continue-1
places-preserved-in-Continue-1 c =
    let found = c.places.found.items in
    let height = c.places.height in
    let leaves = c.get-leaves.result in
    let digit = c.has_peak.ensures.0 c.if-has_peak.true in
    let place : c.new.result ≡ mmr.position (peak_at (height - 1) leaves) =
    c.new.ensures ∙ c.position.ensures ∙ ap (λ e. size (e - 1) + (height - 1)) (c.peak_end.ensures ∙ sym (peak_at-end (height - 1) leaves digit)) in
    record {
      low = omega arith;
      row =
          ap (λ m. m ++ map mmr.position (peaks_below (height - 1) leaves)) (c.in_ok-push.ensures.items ∙ ap (λ x. found ++ x ∷ []) place)
          ∙ taken found (mmr.position (peak_at (height - 1) leaves)) _ _ _ (ap (map mmr.position) (peaks-one height leaves c.places-test.true digit)) c.places.invariant.row;
    }

pub places-preserved : goal.places-preserved
places-preserved c =
    let none = no_digit _ _ c.has_peak.ensures c.if-has_peak.false in
    record {
      low = omega arith;
      row = ap (λ r. c.places.found.items ++ map mmr.position r) (sym (peaks-none c.places.height c.get-leaves.result c.places-test.true none)) ∙ c.places.invariant.row;
    }

pub returns : goal.returns
returns c =
    let last : c.places.height ≡ 0 = omega arith in
    sym (append-nil c.places.found.items)
    ∙ ap (λ r. c.places.found.items ++ map mmr.position r) (sym (ap (λ h. peaks_below h c.get-leaves.result) last ∙ peaks_below-zero c.get-leaves.result))
    ∙ c.places.invariant.row ∙ ap (peak_positions mmr) c.get-leaves.ensures
