use Rattle.std.proofs.lemmas.Result.{on_ok_weaker}
use Rattle.qm_step.specs.PlanViews.{last_write_view}
use Rattle.qm_step.proofs.PlanLoops.{put-more}
use Rattle.qm_step.proofs.writes.add_write.Goals as goal

pub returns : goal.returns
returns g c = on_ok_weaker c.put.result (λ put ws so_far. put-more (last_write_view g.K.ByteString.bytes g.V.ByteString.bytes) c.args.last.now.entries c.put.new.map.entries ws c.as_bytes.result _ c.as_bytes.ensures.value put so_far) c.put.ensures.entries
