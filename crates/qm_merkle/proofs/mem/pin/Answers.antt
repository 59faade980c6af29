use Rattle.std.proofs.Common.{◌∙◌, add-one}
use Rattle.qm_merkle.proofs.Lookups.{pin_at-next}
use Rattle.qm_merkle.proofs.mem.pin.Goals as goal

pub loop-i-preserved : goal.loop-i-preserved
loop-i-preserved g c =
    rw add-one (pin_at-next c.args.positions.now c.args.digests.now c.loop-i.i c.args.position c.index-positions-i.result c.loop-i-test.true c.requires
    c.index-positions-i.is (λ e. c.if-get-position.false (c.get.ensures ∙ e)) ∙ c.loop-i.invariant)
