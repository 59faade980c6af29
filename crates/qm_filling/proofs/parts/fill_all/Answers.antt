use Rattle.std.proofs.Common.{◌≡◌, ◌++◌, ℕ, length, map, Ok, Err, arith, sym, ◌∙◌, ap, subst}
use Rattle.std.proofs.lemmas.List.{length-map}
use Rattle.qm_lines.specs.Parsed.{byte_line}
use Rattle.qm_fill.specs.Commands.{opening, rounds, ending}
use Rattle.qm_fill.specs.Summary.{Counts}
use Rattle.qm_filling.specs.Filled.{Fills}
use Rattle.qm_filling.proofs.Parted.{rounds-length}
use Rattle.qm_filling.proofs.Joined.{joined, ended}
use Rattle.qm_filling.proofs.parts.fill_all.Goals as goal

pub returns-in-Err : goal.returns-in-Err
returns-in-Err g c =
    let seed : ℕ = c.args.fill.seed in
    let n : ℕ = c.args.fill.rounds in
    let first = c.fill_part-session in
    let part = subst (λ t. Fills g.C.Store g.X.Meaning opening c.args.session t first.result.0 (Err c.in-Err.end)) c.new-tally.ensures
    (subst (λ r. Fills g.C.Store g.X.Meaning opening c.args.session c.new-tally.result first.result.0 r) c.in-Err.is
    (subst (λ ls. Fills g.C.Store g.X.Meaning ls c.args.session c.new-tally.result first.result.0 first.result.1) c.opening.ensures first.ensures)) in
    ended g.C.Store g.X.Meaning opening (rounds seed n ++ ending) c.args.session first.result.0 first.result.0 _ c.in-Err.end part

pub returns-in-Err-counted : goal.returns-in-Err-counted
returns-in-Err-counted g c =
    let seed : ℕ = c.args.fill.seed in
    let n : ℕ = c.args.fill.rounds in
    let first = c.fill_part-session in
    let second = c.fill_rounds-session in
    let part = subst (λ t. Fills g.C.Store g.X.Meaning opening c.args.session t first.result.0 (Ok c.in-Ok.tally)) c.new-tally.ensures
    (subst (λ r. Fills g.C.Store g.X.Meaning opening c.args.session c.new-tally.result first.result.0 r) c.in-Ok.is
    (subst (λ ls. Fills g.C.Store g.X.Meaning ls c.args.session c.new-tally.result first.result.0 first.result.1) c.opening.ensures first.ensures)) in
    let middle = subst (λ r. Fills g.C.Store g.X.Meaning (rounds seed n) first.result.0 c.in-Ok.tally second.result.0 r) c.in-Err-counted.is second.ensures in
    joined g.C.Store g.X.Meaning opening (rounds seed n ++ ending) c.args.session first.result.0 second.result.0 _ c.in-Ok.tally (Err c.in-Err-counted.end) part
    (ended g.C.Store g.X.Meaning (rounds seed n) ending first.result.0 second.result.0 second.result.0 c.in-Ok.tally c.in-Err-counted.end middle)

pub fill_part-requires-clause-opened : goal.fill_part-requires-clause-opened
fill_part-requires-clause-opened g c =
    let few : length c.ending.result ≡ 6 = sym (length-map c.ending.result byte_line) ∙ ap length c.ending.ensures in
    let first = sym (length-map c.opening.result byte_line) ∙ ap length c.opening.ensures in
    omega (arith, few, first, rounds-length c.args.fill.seed c.args.fill.rounds, c.fill_rounds-session.ensures.opened, c.fill_part-session.ensures.opened, c.requires, length-map c.opening.result byte_line)

pub fill_part-requires-clause-counted : goal.fill_part-requires-clause-counted
fill_part-requires-clause-counted g c =
    let few : length c.ending.result ≡ 6 = sym (length-map c.ending.result byte_line) ∙ ap length c.ending.ensures in
    let first = subst (λ r. Fills g.C.Store g.X.Meaning (map byte_line c.opening.result) c.args.session c.new-tally.result c.fill_part-session.result.0 r) c.in-Ok.is c.fill_part-session.ensures in
    let second = subst (λ r. Fills g.C.Store g.X.Meaning (rounds c.args.fill.seed c.args.fill.rounds) c.fill_part-session.result.0 c.in-Ok.tally c.fill_rounds-session.result.0 r) c.in-Ok-counted.is c.fill_rounds-session.ensures in
    let none : c.new-tally.result.commands ≡ 0 = ap (λ (t : Counts). t.commands) c.new-tally.ensures in
    omega (arith, few, ap length c.opening.ensures, rounds-length c.args.fill.seed c.args.fill.rounds, first.counted, second.counted, none)

pub returns : goal.returns
returns g c =
    let seed : ℕ = c.args.fill.seed in
    let n : ℕ = c.args.fill.rounds in
    let first = c.fill_part-session in
    let second = c.fill_rounds-session in
    let third = c.fill_part in
    let part = subst (λ t. Fills g.C.Store g.X.Meaning opening c.args.session t first.result.0 (Ok c.in-Ok.tally)) c.new-tally.ensures
    (subst (λ r. Fills g.C.Store g.X.Meaning opening c.args.session c.new-tally.result first.result.0 r) c.in-Ok.is
    (subst (λ ls. Fills g.C.Store g.X.Meaning ls c.args.session c.new-tally.result first.result.0 first.result.1) c.opening.ensures first.ensures)) in
    let middle = subst (λ r. Fills g.C.Store g.X.Meaning (rounds seed n) first.result.0 c.in-Ok.tally second.result.0 r) c.in-Ok-counted.is second.ensures in
    let last = subst (λ ls. Fills g.C.Store g.X.Meaning ls second.result.0 c.in-Ok-counted.tally third.result.0 third.result.1) c.ending.ensures third.ensures in
    joined g.C.Store g.X.Meaning opening (rounds seed n ++ ending) c.args.session first.result.0 third.result.0 _ c.in-Ok.tally third.result.1 part
    (joined g.C.Store g.X.Meaning (rounds seed n) ending first.result.0 second.result.0 third.result.0 c.in-Ok.tally c.in-Ok-counted.tally third.result.1 middle last)
