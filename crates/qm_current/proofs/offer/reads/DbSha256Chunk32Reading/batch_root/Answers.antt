use Rattle.std.proofs.Common.{◌∙◌, ap}
use Rattle.qm_current.proofs.offer.reads.DbSha256Chunk32Reading.batch_root.Goals as goal

pub returns : goal.returns
returns g c = λ chain tip batch. record {
  root = c.root.ensures ∙ ap (λ b. b.kept.root) c.deref.ensures ∙ batch.kept.root;
  operations = c.ops_root.ensures ∙ ap (λ b. b.any.bounds.tip.root) c.deref-2.ensures ∙ ap (λ k. k.root) batch.any.bounds.tip;
}
