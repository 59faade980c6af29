use Rattle.std.proofs.Common.{◌∙◌, sym, ℕ, Vec, Global}
use Rattle.qm_build.proofs.Behind.{behind-found, behind-wraps}
use Rattle.qm_build.proofs.links.key_behind.Goals as goal

pub returns-in-Some : goal.returns-in-Some
returns-in-Some c =
    behind-found (λ (v : Vec ℕ Global). v.items) c.args.key.now.items c.args.links.now.entries c.range.ensures.ordered (c.in-Some.behind.now, c.in-Some.field-0-1.now) c.next.new.self (sym (c.range.ensures.between tt) ∙ c.in-Some.ensures.steps)

pub returns-in-Some-first_key_value : goal.returns-in-Some-first_key_value
returns-in-Some-first_key_value c =
    behind-wraps (λ (v : Vec ℕ Global). v.items) c.args.key.now.items c.args.links.now.entries c.range.ensures.ordered (c.in-Some-first_key_value.first.now, c.in-Some-first_key_value.field-0-1.now) (sym (c.range.ensures.between tt) ∙ c.in-None.ensures.steps.0) c.in-Some-first_key_value.ensures.first
