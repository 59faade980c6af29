use Rattle.std.proofs.Common.{◌∙◌, sym}
use Rattle.qm_step.proofs.NearestKeys.{before-found, before-wraps, none-left}
use Rattle.qm_step.proofs.nearest.entry_before.Goals as goal

pub returns-in-Some : goal.returns-in-Some
returns-in-Some g c =
    before-found c.args.entries.now.entries c.args.key.now c.range.ensures.ordered c.next_back.new.self (c.in-Some.before.now, c.in-Some.value.now) (sym (c.range.ensures.between tt) ∙ c.in-Some.ensures.steps)

pub returns-in-Some-last_key_value : goal.returns-in-Some-last_key_value
returns-in-Some-last_key_value g c =
    before-wraps c.args.entries.now.entries c.args.key.now c.range.ensures.ordered (c.in-Some-last_key_value.last.now, c.in-Some-last_key_value.value.now) (sym (c.range.ensures.between tt) ∙ c.in-None.ensures.steps.0) c.in-Some-last_key_value.ensures.last

pub returns-in-None-last_key_value : goal.returns-in-None-last_key_value
returns-in-None-last_key_value g c = none-left c.args.entries.now.entries c.in-None-last_key_value.ensures.variant.1
