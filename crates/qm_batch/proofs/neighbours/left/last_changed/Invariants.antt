use Rattle.std.proofs.Common.{◌≡◌, map, option_map, take}
use Rattle.qm_step.specs.Nearest.{limit_view, last_key, changed_keys}
use Rattle.qm_batch.proofs.neighbours.left.last_changed.Given as goal

abbrev pub invariant-loop-layer : goal.invariant-loop-layer
invariant-loop-layer g l = option_map (λ k. k.now) l.last ≡ last_key (limit_view l.limit) (changed_keys (map (λ l. l.value) (take l.layer-index l.layers)))
