use Rattle.std.proofs.Common.{◌≡◌, ◌≤◌, take, length, List, map}
use Rattle.qm_model.specs.Operations.{Operation}
use Rattle.qm_bits.specs.Bitmaps.{bit_count}
use Rattle.qm_step.specs.Changes.{LeadTo}
use Rattle.qm_step.specs.Views.{changes_view}
use Rattle.qm_overlay.specs.Marks.{HasLive, IsAlike}
use Rattle.qm_overlay.proofs.steps.move_bits.Given as goal

abbrev pub invariant-loop-step : goal.invariant-loop-step
invariant-loop-step g l =
    let views = changes_view g.K.ByteString.bytes g.V.ByteString.bytes in
    let size = g.N.Chunks.LEN in
    let first = g.M.Marks.bitmap l.initial.activity in
    let now = g.M.Marks.bitmap l.activity in
    IsAlike size first now × (g.M.Marks.below l.activity ≡ g.M.Marks.below l.initial.activity)
    × ((from tip : List Operation) → LeadTo (map (λ d. views d.value) l.diffs) from tip → length tip ≤ bit_count size first → HasLive size first from
    → (done : List Operation) × LeadTo (map (λ d. views d.value) (take l.step l.diffs)) done tip × HasLive size now done)
