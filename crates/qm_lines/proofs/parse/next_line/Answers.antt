use Rattle.std.proofs.Common.{◌≤◌, ◌+◌, ◌∷◌, length, take, ◌∙◌, ap, sym, arith, rules}
use Rattle.std.proofs.lemmas.List.{take_rest, drop_all}
use Rattle.qm_model.specs.Operations.{Bytes}
use Rattle.qm_machine.specs.Grammar.{lines_of}
use Rattle.qm_lines.proofs.Inputs.{one_line, first_line}
use Rattle.qm_lines.proofs.parse.next_line.Goals as goal

pub returns-then-end-input-clause-some : goal.returns-then-end-input-clause-some
returns-then-end-input-clause-some c =
    let input : Bytes = c.args.input.now in
    let end = c.line_length-end.result in
    first_line input end c.if-end-input.true (c.line_length-end.ensures.found c.if-end-input.true) c.line_length-end.ensures.before
    ∙ ap (λ (r : Bytes). take end input ∷ lines_of r) (sym (take_rest input (end + 1)))

pub returns-else-end-input-clause-some : goal.returns-else-end-input-clause-some
returns-else-end-input-clause-some c =
    let input : Bytes = c.args.input.now in
    let end = c.line_length-end.result in
    let all : length input ≤ end = c.if-end-input.false in
    one_line input (search rules) (λ k within. c.line_length-end.ensures.before k (omega arith))
    ∙ ap (λ (r : Bytes). input ∷ lines_of r) (sym (take_rest input end ∙ drop_all end input all))
