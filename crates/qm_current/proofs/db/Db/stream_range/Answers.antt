use Rattle.std.proofs.Common.{ap}
use Rattle.qm_batch.specs.Scans.{left_of}
use Rattle.qm_current.proofs.db.Db.stream_range.Goals as goal

pub returns-clause-value : goal.returns-clause-value
returns-clause-value g c = λ list. ap (λ s. left_of g.I.Unordered.index_key s list) c.new.ensures
