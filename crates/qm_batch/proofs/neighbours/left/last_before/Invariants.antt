use Rattle.std.proofs.Common.{◌≡◌, map, option_map, length}
use Rattle.std.specs.Option.{option_or}
use Rattle.qm_step.specs.Nearest.{limit_view, last_key}
use Rattle.qm_chain.proofs.KeyOrder.{Ascends}
use Rattle.qm_batch.proofs.neighbours.left.last_before.Given as goal

abbrev pub invariant-loop-rest : goal.invariant-loop-rest
invariant-loop-rest g l = record {
  ascending : Ascends (map (λ e. g.K.ByteString.bytes e.0) l.rest);
  last : last_key (limit_view l.limit) (map (λ e. g.K.ByteString.bytes e.0) l.entries) ≡ option_or (last_key (limit_view l.limit) (map (λ e. g.K.ByteString.bytes e.0) l.rest)) (option_map (λ k. k.now) l.last);
}

abbrev pub decreases-loop-rest : goal.decreases-loop-rest
decreases-loop-rest g l = length l.rest
