use Rattle.std.proofs.Common.{◌≡◌, ◌≤◌, take, length, List}
use Rattle.qm_model.specs.Operations.{Operation}
use Rattle.qm_bits.specs.Bitmaps.{bit_count, all_bits}
use Rattle.qm_step.specs.Changes.{AreChanges}
use Rattle.qm_step.specs.Views.{changes_view}
use Rattle.qm_overlay.specs.Marks.{AreMarked, HasLive, IsAlike}
use Rattle.qm_overlay.proofs.Shifting.{stage}
use Rattle.qm_overlay.proofs.steps.move_entries.Given as goal

abbrev pub invariant-loop-entry : goal.invariant-loop-entry
invariant-loop-entry g l =
    let views = changes_view g.K.ByteString.bytes g.V.ByteString.bytes in
    let size = g.N.Chunks.LEN in
    let first = g.M.Marks.bitmap l.initial.activity in
    let now = g.M.Marks.bitmap l.activity in
    IsAlike size first now × (g.M.Marks.below l.activity ≡ g.M.Marks.below l.initial.activity)
    × ((base tip : List Operation) → AreChanges (views l.entries) base tip → length tip ≤ bit_count size first → HasLive size first base
    → AreMarked (all_bits size now) (stage (views (take l.entry-index l.entries)) base))
