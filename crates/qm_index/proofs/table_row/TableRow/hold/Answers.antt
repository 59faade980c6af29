use Rattle.std.proofs.Common.{◌≡◌, ◌<◌, ◌++◌, ◌∷◌, [], length, rules}
use Rattle.qm_index.proofs.Rows.{row-init, row-more}
use Rattle.qm_index.proofs.table_row.TableRow.hold.Goals as goal

pub loop-alloc-init : goal.loop-alloc-init
loop-alloc-init g c = row-init g.B.Table.entries c.self.inside.tables.items c.args.self.now c.args.count c.self.view_is

pub loop-alloc-preserved : goal.loop-alloc-preserved
loop-alloc-preserved g c =
    let i = c.loop-alloc.invariant in
    let more : c.push.new.self.items ≡ c.loop-alloc.self-inside.tables.items ++ c.new.result ∷ [] = search rules in
    let less : length c.loop-alloc.self-inside.tables.items < c.args.count = search rules in
    row-more g.B.Table.entries c.loop-alloc.self-inside.tables.items c.push.new.self.items c.args.self.now c.new.result c.args.count more c.new.ensures less i.0 i.1
