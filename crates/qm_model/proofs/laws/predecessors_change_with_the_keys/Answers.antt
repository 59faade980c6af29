use Rattle.qm_model.proofs.KeyOrder.{predecessor-same, predecessor-new, predecessor-append, predecessor-other, predecessor-gone, predecessor-skips}
use Rattle.qm_model.proofs.laws.predecessors_change_with_the_keys.Goals as goal

pub returns-clause-same : goal.returns-clause-same
returns-clause-same c xs ys key same = predecessor-same xs ys key same

pub returns-clause-new : goal.returns-clause-new
returns-clause-new c keys key previous k h = predecessor-new keys key previous k h

pub returns-clause-both : goal.returns-clause-both
returns-clause-both c xs ys key previous other h k = predecessor-append xs ys key previous other h k

pub returns-clause-kept : goal.returns-clause-kept
returns-clause-kept c keys key previous gone h differs = predecessor-other keys key previous gone h differs

pub returns-clause-gone : goal.returns-clause-gone
returns-clause-gone c keys key gone previous h k differs = predecessor-gone keys key gone previous h k differs

pub returns-clause-skipped : goal.returns-clause-skipped
returns-clause-skipped c keys fewer key gone part h none = predecessor-skips keys fewer key gone part h none
