use Rattle.std.proofs.Common.{◌≡◌, ℕ, suc, ◌+◌, ◌-◌, ◌^◌, ◌++◌, ◌∷◌, [], ap, ap₂, sym, ◌∙◌, arith, append-nil, map}
use Rattle.std.specs.Prelude.{◌==◌, if◌then◌else◌}
use Rattle.qm_model.specs.Mmb.{mmb, log, size}
use Rattle.qm_model.proofs.MmbPeaks.{peaks_below, peak_at, peak_at-end, peaks-step, peaks_below-zero, peaks_below-all, some_above}
use Rattle.qm_merkle.proofs.MmrCalls.{taken}
use Rattle.qm_merkle.proofs.MmbCalls.{log_within, end_bounds}
use Rattle.qm_merkle.proofs.mmb.FamilyFamily.nodes_to_pin.Goals as goal

-- where a node stands that ends there and has this height
abbrev place_of : ℕ → ℕ → ℕ
place_of end height = size ((if height == 0 then end else end + 2 ^ (height - 1) - 1) - 1) + (if height == 0 then 0 else 1)

pub peak_end-end-requires-clause-some : goal.peak_end-end-requires-clause-some
peak_end-end-requires-clause-some c = some_above (c.get-next.result + 1) (c.places.place - 1) c.places.invariant.some (omega (arith, c.places.invariant.low))

pub position-requires-clause-some : goal.position-requires-clause-some
position-requires-clause-some c =
    omega (arith, c.peak_end-end.ensures, (end_bounds c.places.place (c.get-next.result + 1) c.places.invariant.some c.places-test.true c.places.invariant.low).0)

pub position-requires-clause-within : goal.position-requires-clause-within
position-requires-clause-within c =
    omega (arith, c.requires, c.get-next.ensures, c.peak_end-end.ensures, (end_bounds c.places.place (c.get-next.result + 1) c.places.invariant.some c.places-test.true c.places.invariant.low).1)

pub position-requires-clause-low : goal.position-requires-clause-low
position-requires-clause-low c =
    let top = log_within (c.get-next.result + 1) c.places.invariant.some (omega (arith, c.requires, c.get-next.ensures)) in
    omega (arith, c.peak_height-height.ensures, c.places-test.true, c.places.invariant.low, top)

pub places-preserved : goal.places-preserved
places-preserved c =
    let found = c.places.found.items in
    let place = c.places.place in
    let next = c.get-next.result + 1 in
    let some = some_above next place c.places.invariant.some c.places.invariant.low in
    let above = some_above next (suc (place - 1)) c.places.invariant.some (omega (arith, c.places-test.true, c.places.invariant.low)) in
    let stands : c.new.result ≡ mmb.position (peak_at (place - 1) next) =
    c.new.ensures ∙ c.position.ensures ∙ ap₂ place_of (c.peak_end-end.ensures ∙ sym (peak_at-end (place - 1) next above)) c.peak_height-height.ensures in
    record {
      some = c.places.invariant.some;
      low = omega (arith, c.places.invariant.low);
      least = omega (arith, c.places.invariant.least);
      row =
          ap (λ m. m ++ map mmb.position (peaks_below (place - 1) next)) (c.in_ok-push.ensures.items ∙ ap (λ x. found ++ x ∷ []) stands)
          ∙ taken found (mmb.position (peak_at (place - 1) next)) _ _ _ (ap (map mmb.position) (peaks-step place next c.places-test.true some)) c.places.invariant.row;
    }

pub returns : goal.returns
returns c =
    let last : c.places.place ≡ 0 = omega arith in
    let next = c.get-next.result + 1 in
    sym (append-nil c.places.found.items)
    ∙ ap (λ r. c.places.found.items ++ map mmb.position r) (sym (ap (λ h. peaks_below h next) last ∙ peaks_below-zero next))
    ∙ c.places.invariant.row ∙ ap (λ n. map mmb.position (peaks_below (log (n + 1)) (n + 1))) c.get-next.ensures ∙ ap (map mmb.position) (peaks_below-all c.args.leaves)
