use Rattle.qm_machine.specs.Grammar.{reading_forms}
use Rattle.qm_lines.specs.Parsed.{lent}
use Rattle.qm_lines.proofs.Forms.{by_form, by_later}
use Rattle.qm_lines.proofs.parse.commands.reading.Goals as goal

pub returns-then-is : goal.returns-then-is
returns-then-is c = by_form c.args.name.now (lent c.args.words.now) reading_forms 0 tt c.read.result c.if-is.ensures c.read.ensures

pub returns-then-is-2 : goal.returns-then-is-2
returns-then-is-2 c = by_form c.args.name.now (lent c.args.words.now) reading_forms 1 (c.if-is.ensures, tt) c.many.result c.if-is-2.ensures c.many.ensures

pub returns-then-is-3 : goal.returns-then-is-3
returns-then-is-3 c = by_form c.args.name.now (lent c.args.words.now) reading_forms 2 (c.if-is.ensures, (c.if-is-2.ensures, tt)) c.read-then-is-3.result c.if-is-3.ensures c.read-then-is-3.ensures

pub returns-then-is-4 : goal.returns-then-is-4
returns-then-is-4 c = by_form c.args.name.now (lent c.args.words.now) reading_forms 3 (c.if-is.ensures, (c.if-is-2.ensures, (c.if-is-3.ensures, tt))) c.read-then-is-4.result c.if-is-4.ensures c.read-then-is-4.ensures

pub returns-then-is-5 : goal.returns-then-is-5
returns-then-is-5 c = by_form c.args.name.now (lent c.args.words.now) reading_forms 4 (c.if-is.ensures, (c.if-is-2.ensures, (c.if-is-3.ensures, (c.if-is-4.ensures, tt)))) c.only_key.result c.if-is-5.ensures c.only_key.ensures

pub returns-then-is-6 : goal.returns-then-is-6
returns-then-is-6 c = by_form c.args.name.now (lent c.args.words.now) reading_forms 5 (c.if-is.ensures, (c.if-is-2.ensures, (c.if-is-3.ensures, (c.if-is-4.ensures, (c.if-is-5.ensures, tt))))) c.only_key-then-is-6.result c.if-is-6.ensures c.only_key-then-is-6.ensures

pub returns-then-is-7 : goal.returns-then-is-7
returns-then-is-7 c = by_form c.args.name.now (lent c.args.words.now) reading_forms 6 (c.if-is.ensures, (c.if-is-2.ensures, (c.if-is-3.ensures, (c.if-is-4.ensures, (c.if-is-5.ensures, (c.if-is-6.ensures, tt)))))) c.range.result c.if-is-7.ensures c.range.ensures

pub returns-then-is-8 : goal.returns-then-is-8
returns-then-is-8 c = by_form c.args.name.now (lent c.args.words.now) reading_forms 7 (c.if-is.ensures, (c.if-is-2.ensures, (c.if-is-3.ensures, (c.if-is-4.ensures, (c.if-is-5.ensures, (c.if-is-6.ensures, (c.if-is-7.ensures, tt))))))) c.range-then-is-8.result c.if-is-8.ensures c.range-then-is-8.ensures

pub returns-else-is-8 : goal.returns-else-is-8
returns-else-is-8 c = by_later c.args.name.now (lent c.args.words.now) reading_forms 8 (c.if-is.ensures, (c.if-is-2.ensures, (c.if-is-3.ensures, (c.if-is-4.ensures, (c.if-is-5.ensures, (c.if-is-6.ensures, (c.if-is-7.ensures, (c.if-is-8.ensures, tt)))))))) c.telling.result c.telling.ensures
