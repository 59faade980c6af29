use Rattle.qm_chunks.proofs.Spans.{lowered_within}
use Rattle.qm_graft.proofs.places.grafted_position.Goals as goal

pub place-requires : goal.place-requires
place-requires g c = rw c.lowered.ensures (lowered_within c.height-height.result c.args.node c.requires)
