use Rattle.std.proofs.Common.{◌≡◌, map, length}
use Rattle.std.specs.Prelude.{filter}
use Rattle.qm_model.specs.Ranges.{is_before}
use Rattle.qm_step.specs.Nearest.{limit_view, last_key, changed_keys, left_keys}
use Rattle.qm_batch.proofs.neighbours.left.last_left.Given as goal

abbrev pub invariant-loop-key : goal.invariant-loop-key
invariant-loop-key g l = last_key (limit_view l.limit) (left_keys (map (λ l. l.value) l.layers)) ≡ last_key (limit_view l.initial.limit) (left_keys (map (λ l. l.value) l.layers))

abbrev pub decreases-loop-key : goal.decreases-loop-key
decreases-loop-key g l = length (filter (is_before (limit_view l.limit)) (changed_keys (map (λ l. l.value) l.layers)))
