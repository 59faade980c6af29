use Rattle.std.proofs.Common.{◌∙◌, ap, sym, map}
use Rattle.std.specs.Prelude.{option_map}
use Rattle.std.specs.Option.{option_or}
use Rattle.qm_model.specs.Ranges.{unlimited}
use Rattle.qm_step.specs.Nearest.{last_key, left_keys}
use Rattle.qm_step.proofs.LastKeys.{predecessor-last}
use Rattle.qm_batch.proofs.neighbours.left.left_before.Goals as goal

pub returns-in-None : goal.returns-in-None
returns-in-None g c =
    let keys = left_keys (map (λ l. l.value) c.args.layers.now) in
    c.last_left-in-None.ensures
    ∙ ap (λ o. option_or o (last_key unlimited keys)) (sym (ap (option_map (λ k. k.now)) c.in-None.is) ∙ c.last_left.ensures)
    ∙ sym (predecessor-last keys c.args.key.now)
