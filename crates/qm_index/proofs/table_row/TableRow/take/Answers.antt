use Rattle.std.proofs.Common.{◌-◌, ◌<◌, ◌≤◌, length, arith, rules, ap, sym, ◌∙◌}
use Rattle.qm_index.proofs.Partitions.{part-low, part-in, behind-last}
use Rattle.qm_index.proofs.Rows.{row-length, row-here, row-others}
use Rattle.qm_index.proofs.table_row.TableRow.take.Goals as goal

pub returns-then-partition-first-clause-taken : goal.returns-then-partition-first-clause-taken
returns-then-partition-first-clause-taken g c = c.new.ensures ∙ sym (part-low c.args.first c.args.self.now c.args.partition c.if-partition-first.true)

pub returns-then-place-len-clause-taken : goal.returns-then-place-len-clause-taken
returns-then-place-len-clause-taken g c =
    let up : c.args.first ≤ c.args.partition = c.if-partition-first.false in
    let there : c.args.partition - c.args.first < length c.self.inside.tables.items = search rules in
    ap g.B.Table.entries c.replace.ensures.value
    ∙ sym (row-here g.B.Table.entries c.self.inside.tables.items c.args.self.now (c.args.partition - c.args.first) c.index_mut.result.now c.self.view_is c.index_mut.ensures.value there)
    ∙ sym (part-in c.args.first c.args.self.now c.args.partition up)

pub returns-then-place-len-clause-others : goal.returns-then-place-len-clause-others
returns-then-place-len-clause-others g c = row-others g.B.Table.entries c.self.inside.tables.items c.args.self.now c.args.first c.args.partition c.replace.new.dest c.self.view_is c.if-partition-first.false

pub returns-else-place-len-clause-taken : goal.returns-else-place-len-clause-taken
returns-else-place-len-clause-taken g c =
    let up : c.args.first ≤ c.args.partition = c.if-partition-first.false in
    let past : length c.self.inside.tables.items ≤ c.args.partition - c.args.first = search rules in
    let long = row-length g.B.Table.entries c.self.inside.tables.items c.args.self.now c.self.view_is in
    c.new-else-place-len.ensures ∙ sym (part-in c.args.first c.args.self.now c.args.partition up ∙ behind-last c.args.self.now (c.args.partition - c.args.first) (omega (arith, past, long)))
