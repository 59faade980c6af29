use Rattle.std.proofs.Common.{◌≡◌, map, drop}
use Rattle.qm_merkle.specs.Batches.{layers_at}
use Rattle.qm_merkle.proofs.batch.layers_digest.Given as goal

abbrev pub invariant-loop-layer : goal.invariant-loop-layer
invariant-loop-layer g l = layers_at g.F.Family.shape (map (λ r. r.value) (drop l.layer-index l.layers)) l.position ≡ layers_at g.F.Family.shape (map (λ r. r.value) l.layers) l.position
