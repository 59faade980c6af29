use Rattle.std.proofs.Common.{◌≡◌, ◌≤◌, take, count_by}
use Rattle.std.specs.Prelude.{is_none}
use Rattle.qm_step.proofs.decided.evicted.Given as goal

abbrev pub invariant-loop-one : goal.invariant-loop-one
invariant-loop-one g l = (l.count ≡ count_by (λ d. is_none d.value) (take l.one-index l.decided)) × (l.count ≤ l.one-index)
