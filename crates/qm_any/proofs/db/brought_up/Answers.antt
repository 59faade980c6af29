use Rattle.std.proofs.lemmas.Result.{on_ok_weaker}
use Rattle.qm_any.proofs.db.brought_up.Goals as goal

pub returns-clause-index : goal.returns-clause-index
returns-clause-index g c = λ list tip lead indexed. on_ok_weaker c.apply_bits.result (λ count. c.in_ok-apply_diffs.ensures list tip lead indexed) c.apply_bits.ensures.count
