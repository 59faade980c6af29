use Rattle.std.proofs.Common.{◌+◌, ap, sym, ◌∙◌}
use Rattle.qm_model.specs.Mmb.{log}
use Rattle.qm_model.proofs.MmbPeaks.{length-peaks}
use Rattle.qm_merkle.proofs.mmb.FamilyFamily.peak_count.Goals as goal

pub returns : goal.returns
returns c = c.log.ensures.exact ∙ ap (λ n. log (n + 1)) c.get.ensures ∙ sym (length-peaks c.args.leaves)
