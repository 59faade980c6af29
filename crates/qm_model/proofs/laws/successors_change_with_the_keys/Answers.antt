use Rattle.qm_model.proofs.KeyOrder.{successor-same, successor-new, successor-append, successor-other, successor-gone, successor-skips}
use Rattle.qm_model.proofs.laws.successors_change_with_the_keys.Goals as goal

pub returns-clause-same : goal.returns-clause-same
returns-clause-same c xs ys key same = successor-same xs ys key same

pub returns-clause-new : goal.returns-clause-new
returns-clause-new c keys key next k h = successor-new keys key next k h

pub returns-clause-both : goal.returns-clause-both
returns-clause-both c xs ys key next other h k = successor-append xs ys key next other h k

pub returns-clause-kept : goal.returns-clause-kept
returns-clause-kept c keys key next gone h differs = successor-other keys key next gone h differs

pub returns-clause-gone : goal.returns-clause-gone
returns-clause-gone c keys key gone next h k differs = successor-gone keys key gone next h k differs

pub returns-clause-skipped : goal.returns-clause-skipped
returns-clause-skipped c keys fewer key gone part h none = successor-skips keys fewer key gone part h none
