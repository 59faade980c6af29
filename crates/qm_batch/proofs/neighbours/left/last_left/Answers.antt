use Rattle.std.proofs.Common.{◌∙◌, ap, sym, map}
use Rattle.std.specs.Prelude.{option_map}
use Rattle.qm_step.specs.Nearest.{changed_keys, is_left, limit_view}
use Rattle.qm_step.proofs.LastKeys.{last-ends, last-fails, last-fewer, last-passes}
use Rattle.qm_batch.proofs.neighbours.left.last_left.Goals as goal

pub returns-then-is_left : goal.returns-then-is_left
returns-then-is_left g c =
    let layers = map (λ l. l.value) c.args.layers.now in
    let last = sym c.last_changed.ensures ∙ ap (option_map (λ k. k.now)) c.in-Some.is in
    sym (last-passes (limit_view c.loop-key.limit) (is_left layers) (changed_keys layers) c.in-Some.key.now last (sym c.is_left.ensures ∙ c.if-is_left.true)) ∙ c.loop-key.invariant

pub loop-key-smaller : goal.loop-key-smaller
loop-key-smaller g c =
    let layers = map (λ l. l.value) c.args.layers.now in
    last-fewer (limit_view c.loop-key.limit) (changed_keys layers) c.in-Some.key.now (sym c.last_changed.ensures ∙ ap (option_map (λ k. k.now)) c.in-Some.is)

pub loop-key-preserved : goal.loop-key-preserved
loop-key-preserved g c =
    let layers = map (λ l. l.value) c.args.layers.now in
    let last = sym c.last_changed.ensures ∙ ap (option_map (λ k. k.now)) c.in-Some.is in
    sym (last-fails (limit_view c.loop-key.limit) (is_left layers) (changed_keys layers) c.in-Some.key.now last (sym c.is_left.ensures ∙ c.if-is_left.false)) ∙ c.loop-key.invariant

pub returns : goal.returns
returns g c =
    let layers = map (λ l. l.value) c.args.layers.now in
    sym (last-ends (limit_view c.loop-key.limit) (is_left layers) (changed_keys layers) (sym c.last_changed.ensures ∙ ap (option_map (λ k. k.now)) c.in_default.is)) ∙ c.loop-key.invariant
