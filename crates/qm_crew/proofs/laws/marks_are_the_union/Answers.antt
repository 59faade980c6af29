use Rattle.qm_crew.proofs.Orders.{marks-the-union}
use Rattle.qm_crew.proofs.laws.marks_are_the_union.Goals as goal

pub returns : goal.returns
returns c = marks-the-union
