use Rattle.std.proofs.Common.{◌≡◌, ◌++◌, map}
use Rattle.std.specs.Prelude.{filter_map}
use Rattle.qm_model.specs.Keys.{successor}
use Rattle.qm_step.specs.Moves.{place_before, rewritten_naming}
use Rattle.qm_step.specs.OrderedViews.{ordered_touch, ordered_touches}
use Rattle.qm_step.proofs.moves.add_rewritten.Given as goal

abbrev pub invariant-loop-found : goal.invariant-loop-found
invariant-loop-found g l =
    let key = g.K.ByteString.bytes in
    let value = g.V.Value.ByteString.bytes in
    map (ordered_touch key value) l.touches.items ++ filter_map (λ v. rewritten_naming (successor (map (λ e. e.0.now) l.keys.entries) (key v.now.1.key)) (place_before l.size (ordered_touches key value l.made) v.now.0) (key v.now.1.key) (value v.now.1.value)) l.found-iterator ≡ map (ordered_touch key value) l.initial.touches.items ++ filter_map (λ v. rewritten_naming (successor (map (λ e. e.0.now) l.keys.entries) (key v.now.1.key)) (place_before l.size (ordered_touches key value l.made) v.now.0) (key v.now.1.key) (value v.now.1.value)) (map (λ e. e.1) l.broken.entries)
