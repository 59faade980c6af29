use Rattle.qm_machine.specs.Grammar.{forms}
use Rattle.qm_lines.specs.Parsed.{lent}
use Rattle.qm_lines.proofs.Forms.{by_form, by_first, by_later}
use Rattle.qm_lines.proofs.parse.commands.of_words.Goals as goal

pub returns-then-is : goal.returns-then-is
returns-then-is c = by_first c.open.result c.args.words.now c.in-Some.name.now c.in-Some.words.now c.in-Some.ensures.cases.0 (by_form c.in-Some.name.now.now (lent c.in-Some.words.now) forms 0 tt c.open.result c.if-is.ensures c.open.ensures)

pub returns-then-is-2 : goal.returns-then-is-2
returns-then-is-2 c = by_first c.alone.result c.args.words.now c.in-Some.name.now c.in-Some.words.now c.in-Some.ensures.cases.0 (by_form c.in-Some.name.now.now (lent c.in-Some.words.now) forms 1 (c.if-is.ensures, tt) c.alone.result c.if-is-2.ensures c.alone.ensures)

pub returns-then-is-3 : goal.returns-then-is-3
returns-then-is-3 c = by_first c.child.result c.args.words.now c.in-Some.name.now c.in-Some.words.now c.in-Some.ensures.cases.0 (by_form c.in-Some.name.now.now (lent c.in-Some.words.now) forms 2 (c.if-is.ensures, (c.if-is-2.ensures, tt)) c.child.result c.if-is-3.ensures c.child.ensures)

pub returns-then-is-4 : goal.returns-then-is-4
returns-then-is-4 c = by_first c.alone-then-is-4.result c.args.words.now c.in-Some.name.now c.in-Some.words.now c.in-Some.ensures.cases.0 (by_form c.in-Some.name.now.now (lent c.in-Some.words.now) forms 3 (c.if-is.ensures, (c.if-is-2.ensures, (c.if-is-3.ensures, tt))) c.alone-then-is-4.result c.if-is-4.ensures c.alone-then-is-4.ensures)

pub returns-then-is-5 : goal.returns-then-is-5
returns-then-is-5 c = by_first c.put.result c.args.words.now c.in-Some.name.now c.in-Some.words.now c.in-Some.ensures.cases.0 (by_form c.in-Some.name.now.now (lent c.in-Some.words.now) forms 4 (c.if-is.ensures, (c.if-is-2.ensures, (c.if-is-3.ensures, (c.if-is-4.ensures, tt)))) c.put.result c.if-is-5.ensures c.put.ensures)

pub returns-then-is-6 : goal.returns-then-is-6
returns-then-is-6 c = by_first c.del.result c.args.words.now c.in-Some.name.now c.in-Some.words.now c.in-Some.ensures.cases.0 (by_form c.in-Some.name.now.now (lent c.in-Some.words.now) forms 5 (c.if-is.ensures, (c.if-is-2.ensures, (c.if-is-3.ensures, (c.if-is-4.ensures, (c.if-is-5.ensures, tt))))) c.del.result c.if-is-6.ensures c.del.ensures)

pub returns-then-is-7 : goal.returns-then-is-7
returns-then-is-7 c = by_first c.merkleize.result c.args.words.now c.in-Some.name.now c.in-Some.words.now c.in-Some.ensures.cases.0 (by_form c.in-Some.name.now.now (lent c.in-Some.words.now) forms 6 (c.if-is.ensures, (c.if-is-2.ensures, (c.if-is-3.ensures, (c.if-is-4.ensures, (c.if-is-5.ensures, (c.if-is-6.ensures, tt)))))) c.merkleize.result c.if-is-7.ensures c.merkleize.ensures)

pub returns-else-is-7 : goal.returns-else-is-7
returns-else-is-7 c = by_first c.staged.result c.args.words.now c.in-Some.name.now c.in-Some.words.now c.in-Some.ensures.cases.0 (by_later c.in-Some.name.now.now (lent c.in-Some.words.now) forms 7 (c.if-is.ensures, (c.if-is-2.ensures, (c.if-is-3.ensures, (c.if-is-4.ensures, (c.if-is-5.ensures, (c.if-is-6.ensures, (c.if-is-7.ensures, tt))))))) c.staged.result c.staged.ensures)
