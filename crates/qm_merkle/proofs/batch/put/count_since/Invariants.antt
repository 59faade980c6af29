use Rattle.std.proofs.Common.{◌≡◌, ◌++◌, take, drop, map}
use Rattle.qm_merkle.specs.Batches.{layers_since}
use Rattle.qm_merkle.proofs.batch.put.count_since.Given as goal

abbrev pub invariant-loop-layer : goal.invariant-loop-layer
invariant-loop-layer g l = record {
  count : l.count ≡ l.layer-index;
  since : take l.layer-index (map (λ r. r.value) l.layers) ++ layers_since l.leaves (drop l.layer-index (map (λ r. r.value) l.layers)) ≡ layers_since l.leaves (map (λ r. r.value) l.layers);
}
