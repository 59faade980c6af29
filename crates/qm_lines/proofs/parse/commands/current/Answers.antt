use Rattle.std.proofs.Common.{refl, Err}
use Rattle.qm_machine.specs.Grammar.{current_forms}
use Rattle.qm_lines.specs.Parsed.{lent}
use Rattle.qm_lines.specs.declared.parse.unread.Unread.TheVariants.{Malformed}
use Rattle.qm_lines.proofs.Forms.{by_form, by_later}
use Rattle.qm_lines.proofs.parse.commands.current.Goals as goal

pub returns-then-is : goal.returns-then-is
returns-then-is c = by_form c.args.name.now (lent c.args.words.now) current_forms 0 tt c.only_key.result c.if-is.ensures c.only_key.ensures

pub returns-then-is-2 : goal.returns-then-is-2
returns-then-is-2 c = by_form c.args.name.now (lent c.args.words.now) current_forms 1 (c.if-is.ensures, tt) c.only_key-then-is-2.result c.if-is-2.ensures c.only_key-then-is-2.ensures

pub returns-then-is-3 : goal.returns-then-is-3
returns-then-is-3 c = by_form c.args.name.now (lent c.args.words.now) current_forms 2 (c.if-is.ensures, (c.if-is-2.ensures, tt)) c.chunks.result c.if-is-3.ensures c.chunks.ensures

pub returns-then-is-4 : goal.returns-then-is-4
returns-then-is-4 c = by_form c.args.name.now (lent c.args.words.now) current_forms 3 (c.if-is.ensures, (c.if-is-2.ensures, (c.if-is-3.ensures, tt))) c.alone.result c.if-is-4.ensures c.alone.ensures

pub returns-else-is-4 : goal.returns-else-is-4
returns-else-is-4 c = by_later c.args.name.now (lent c.args.words.now) current_forms 4 (c.if-is.ensures, (c.if-is-2.ensures, (c.if-is-3.ensures, (c.if-is-4.ensures, tt)))) (Err Malformed) refl
