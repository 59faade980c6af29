use Rattle.std.proofs.Common.{ap, is_some}
use Rattle.qm_model.proofs.KeyOrder.{successor-is, is-successor, successor-some, predecessor-is, is-predecessor, predecessor-some, successor-predecessor, predecessor-successor}
use Rattle.qm_model.proofs.laws.successors_are_next.Goals as goal

pub returns-clause-successor : goal.returns-clause-successor
returns-clause-successor c keys key next = (successor-is keys key next, is-successor keys key next)

pub returns-clause-predecessor : goal.returns-clause-predecessor
returns-clause-predecessor c keys key previous = (predecessor-is keys key previous, is-predecessor keys key previous)

pub returns-clause-some_successor : goal.returns-clause-some_successor
returns-clause-some_successor c keys key k at = ap is_some (successor-some keys key k at).1

pub returns-clause-some_predecessor : goal.returns-clause-some_predecessor
returns-clause-some_predecessor c keys key k at = ap is_some (predecessor-some keys key k at).1

pub returns-clause-turned : goal.returns-clause-turned
returns-clause-turned c keys key next at there = (successor-predecessor keys key next at, predecessor-successor keys next key there)
