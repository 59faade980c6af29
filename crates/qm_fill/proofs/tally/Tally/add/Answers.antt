use Rattle.std.proofs.Common.{◌++◌, ◌∙◌, ap}
use Rattle.qm_lines.specs.Parsed.{byte_line}
use Rattle.qm_fill.proofs.Counting.{counted_one}
use Rattle.qm_fill.proofs.Tallied.{byte_answer}
use Rattle.qm_fill.proofs.tally.Tally.add.Goals as goal

pub returns-clause-ok : goal.returns-clause-ok
returns-clause-ok g c =
    rw (← c.self.view_is) (counted_one _ (byte_line c.args.command.now) (byte_answer g.D.Digest.bytes c.args.reply.now) c.refusals_in.result _ c.refusals_in.ensures
    (c.in_ok-extend_from_slice.ensures.items ∙ ap (λ t. c.self.inside.shown.items ++ t) (c.deref.ensures.value ∙ c.in_ok-text.ensures)))
