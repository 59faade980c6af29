use Rattle.std.proofs.Common.{◌∙◌, ap}
use Rattle.qm_current.proofs.offer.reads.DbSha256Chunk32Reading.root.Goals as goal

pub returns : goal.returns
returns g c = λ list is. record { root = c.root.ensures ∙ is.at.canonical.root; operations = c.ops_root.ensures ∙ ap (λ k. k.root) is.at.any.commitment }
