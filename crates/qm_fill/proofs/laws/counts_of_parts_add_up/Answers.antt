use Rattle.qm_fill.proofs.Counting.{counts_of-append}
use Rattle.qm_fill.proofs.laws.counts_of_parts_add_up.Goals as goal

pub returns : goal.returns
returns g c = λ a b. counts_of-append a b
