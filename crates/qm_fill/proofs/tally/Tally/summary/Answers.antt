use Rattle.std.proofs.Common.{rules}
use Rattle.qm_fill.specs.Summary.{summary_text}
use Rattle.qm_fill.proofs.tally.Tally.summary.Goals as goal

pub returns : goal.returns
unfolding summary_text
returns c = search rules
