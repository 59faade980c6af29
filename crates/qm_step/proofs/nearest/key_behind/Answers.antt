use Rattle.std.proofs.Common.{◌∙◌, sym, ap, map}
use Rattle.qm_step.proofs.NearestKeys.{behind-found, behind-wraps, none-left}
use Rattle.qm_model.specs.Keys.{successor}
use Rattle.qm_step.proofs.nearest.key_behind.Goals as goal

pub returns-in-Some : goal.returns-in-Some
returns-in-Some g c =
    behind-found c.args.keys.now.entries c.args.key.now c.range.ensures.ordered (c.in-Some.behind.now, c.in-Some.field-0-1.now) c.next.new.self (sym (c.range.ensures.between tt) ∙ c.in-Some.ensures.steps)

pub returns-in-Some-first_key_value : goal.returns-in-Some-first_key_value
returns-in-Some-first_key_value g c =
    behind-wraps c.args.keys.now.entries c.args.key.now c.range.ensures.ordered (c.in-Some-first_key_value.first.now, c.in-Some-first_key_value.field-0-1.now) (sym (c.range.ensures.between tt) ∙ c.in-None.ensures.steps.0) c.in-Some-first_key_value.ensures.first

pub returns-in-None-first_key_value : goal.returns-in-None-first_key_value
returns-in-None-first_key_value g c = ap (λ es. successor (map (λ e. e.0.now) es) c.args.key.now) (sym (none-left c.args.keys.now.entries c.in-None-first_key_value.ensures.variant.1))
