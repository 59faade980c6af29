use Rattle.std.proofs.Common.{◌≡◌, ◌≤◌, ◌<◌, ◌+◌, ◌*◌, ◌^◌, ◌-◌}
use Rattle.qm_index.specs.Translated.{capped}
use Rattle.qm_index.proofs.translator.capped.Given as goal

-- what is left gives the result
abbrev pub invariant-loop : goal.invariant-loop
invariant-loop l = (l.counter ≤ l.width) × (l.number < 256 ^ l.counter) × (l.number * 256 ^ (l.width - l.counter) + capped (l.width - l.counter) l.rest ≡ capped l.fn.width l.fn.key)
