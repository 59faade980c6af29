use Rattle.std.proofs.Common.{◌∙◌}
use Rattle.qm_model.proofs.Results.{ok-then}
use Rattle.qm_current.proofs.offer.reads.DbSha256Chunk32Reading.metadata.Goals as goal

pub returns : goal.returns
returns g c = ok-then c.get_metadata.result c.get_metadata.ensures (λ v told list is. told ∙ is.at.any.metadata)
