use Rattle.qm_index.proofs.Rows.{row-put}
use Rattle.qm_index.proofs.table_row.TableRow.put.Goals as goal

pub returns : goal.returns
returns g c = row-put g.B.Table.entries c.self.inside.tables.items c.args.self.now c.args.place c.args.table c.self.view_is
