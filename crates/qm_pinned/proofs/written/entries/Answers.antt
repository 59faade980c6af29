use Rattle.std.proofs.Common.{◌∙◌, ap}
use Rattle.qm_model.specs.StoreModel.{Entry}
use Rattle.qm_model.specs.Opening.{metadata_key}
use Rattle.qm_pinned.proofs.Finding.{written-next}
use Rattle.qm_pinned.proofs.written.entries.Goals as goal

pub loop-number-preserved : goal.loop-number-preserved
loop-number-preserved g c =
    written-next _ g.D.Digest.bytes c.args.count c.loop-number.number c.index-pins-number.result c.args.pins.now c.in_ok-entry-2.field-0 _ _ c.loop-number-test.true c.index-pins-number.is
    (c.in_ok-entry-2.ensures ∙ ap {B = Entry} (λ v. record { key = metadata_key 0 c.loop-number.number; value = v }) c.bytes.ensures) c.loop-number.invariant c.in_ok-push-2.ensures.items
