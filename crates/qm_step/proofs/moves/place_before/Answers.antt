use Rattle.std.proofs.Common.{◌-◌, length, refl}
use Rattle.std.proofs.lemmas.Option.{slice_get_past, slice_get_read}
use Rattle.qm_step.specs.PlanViews.{touch_view, touch_views}
use Rattle.qm_step.proofs.MovesPlaces.{placed-low, placed-behind, placed-past}
use Rattle.qm_step.proofs.moves.place_before.Goals as goal

pub returns-in-Some : goal.returns-in-Some
returns-in-Some g c =
    let i = c.args.at - c.args.size in
    let found = c.in-Some.ensures.lookup in
    placed-behind (touch_view g.U.Update.view g.U.Key.ByteString.bytes g.U.Value.ByteString.bytes) c.args.size c.args.made.now c.args.at c.if-at-size.false c.in-Some.touch.now
    (slice_get_read c.args.made.now (length c.args.made.now) i c.in-Some.touch.now refl found.3.0 found.1)

pub returns-in-None : goal.returns-in-None
returns-in-None g c = placed-past (touch_view g.U.Update.view g.U.Key.ByteString.bytes g.U.Value.ByteString.bytes) c.args.size c.args.made.now c.args.at c.if-at-size.false (slice_get_past c.args.made.now (c.args.at - c.args.size) c.in-None.ensures.lookup.3)

pub returns-then-at-size : goal.returns-then-at-size
returns-then-at-size g c = placed-low c.args.size (touch_views g.U.Update.view g.U.Key.ByteString.bytes g.U.Value.ByteString.bytes c.args.made.now) c.args.at c.if-at-size.true
