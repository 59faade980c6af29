use Rattle.std.proofs.Common.{sym}
use Rattle.qm_machine.specs.Grammar as grammar
use Rattle.qm_lines.specs.Parsed.{lent}
use Rattle.qm_lines.proofs.Parts.{some_said}
use Rattle.qm_lines.proofs.parse.policies.optional_number.Goals as goal

pub returns : goal.returns
returns c =
    some_said c.args.name.now grammar.number_of (lent c.args.parts.now) c.in-Some.word.now (lent c.in-Some.rest.now) _ c.in-Some.ensures (sym c.in_ok-number.ensures)
