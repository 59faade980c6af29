use Rattle.std.proofs.Common.{◌<◌, ◌++◌, ◌∷◌, [], length, arith}
use Rattle.std.proofs.lemmas.Result.{on_ok_weaker, on_err_weaker}
use Rattle.qm_index.proofs.Rows.{row-length, row-changes, row-back}
use Rattle.qm_index.proofs.table_row.TableRow.insert.Goals as goal

pub returns-clause-ok : goal.returns-clause-ok
returns-clause-ok g c =
    let long = row-length g.B.Table.entries c.self.inside.tables.items c.args.self.now c.self.view_is in
    let place = c.requires in
    let there : c.args.place < length c.self.inside.tables.items = omega (arith, long, place) in
    on_ok_weaker c.insert.result
    (λ puts. row-changes g.B.Table.entries c.self.inside.tables.items c.args.self.now c.args.place c.index_mut.result.now c.insert.new.self c.self.view_is c.index_mut.ensures.value there c.args.index_key (λ values. values ++ c.args.value ∷ []) c.insert.ensures.index puts)
    c.insert.ensures.ok

pub returns-clause-err : goal.returns-clause-err
returns-clause-err g c =
    on_err_weaker c.insert.result
    (λ same. row-back g.B.Table.entries c.self.inside.tables.items c.args.self.now c.args.place c.index_mut.result.now c.insert.new.self c.self.view_is c.index_mut.ensures.value same)
    c.insert.ensures.err
