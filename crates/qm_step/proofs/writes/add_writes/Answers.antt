use Rattle.std.proofs.Common.{◌∙◌, ◌++◌, ap, sym, map, take, append-nil}
use Rattle.std.proofs.lemmas.List.{take_all}
use Rattle.qm_model.specs.Writes.{last_writes}
use Rattle.qm_step.specs.PlanViews.{keyed}
use Rattle.qm_step.specs.Views.{write_view}
use Rattle.qm_step.proofs.PlanWanted.{write-next}
use Rattle.qm_step.proofs.writes.add_writes.Goals as goal

pub loop-write-init : goal.loop-write-init
loop-write-init g c = λ ws so_far. so_far ∙ ap (λ us. map keyed (last_writes us)) (sym (append-nil ws))

pub loop-write-preserved : goal.loop-write-preserved
loop-write-preserved g c = λ ws so_far.
    let key = g.K.ByteString.bytes in
    let value = g.V.ByteString.bytes in
    c.in_ok-add_write.ensures (ws ++ map (write_view key value) (take c.loop-write.write-index c.args.writes.now)) (c.loop-write.invariant ws so_far)
    ∙ ap (λ us. map keyed (last_writes us)) (write-next key value ws c.args.writes.now c.loop-write.write-index c.write-item.result c.as_ref.result c.loop-write-test.true c.write-item.is c.as_ref.ensures.value)

pub returns : goal.returns
returns g c = λ ws so_far.
    let view = write_view g.K.ByteString.bytes g.V.ByteString.bytes in
    c.loop-write.invariant ws so_far ∙ ap (λ xs. map keyed (last_writes (ws ++ map view xs))) (take_all c.loop-write.write-index c.args.writes.now c.loop-write-test.false)
