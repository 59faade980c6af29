use Rattle.std.proofs.Common.{arith}
use Rattle.qm_lines.proofs.Parts.{few_parts}
use Rattle.qm_lines.proofs.parse.policies.rule.Goals as goal

pub returns-in_default : goal.returns-in_default
returns-in_default c = few_parts c.args.parts.now (omega (arith, c.in_default.len_below))
