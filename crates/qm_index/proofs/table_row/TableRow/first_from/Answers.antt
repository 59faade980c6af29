use Rattle.std.proofs.Common.{◌≡◌, length, map, Some, None, rules, sym, subst}
use Rattle.std.specs.Prelude.{⊤}
use Rattle.qm_index.specs.Ways.{Up, FirstOf}
use Rattle.qm_index.proofs.Rows.{row-from}
use Rattle.qm_index.proofs.Ways.{first-init, first-on, first-here, first-end}
use Rattle.qm_index.proofs.table_row.TableRow.first_from.Goals as goal

pub loop-table-init : goal.loop-table-init
loop-table-init g c =
    let same : c.deref.result.now ≡ c.self.inside.tables.items = search rules in
    let from = row-from g.B.Table.entries c.self.inside.tables.items c.deref.result.now c.args.self.now c.args.place c.self.view_is same in
    λ found later. first-init c.args.place c.args.self.now found (subst (λ ps. FirstOf Up (λ j. ⊤) ps found) from later)

pub returns-in-Some-first : goal.returns-in-Some-first
returns-in-Some-first g c =
    c.loop-table.invariant (Some c.in-Some-first.bucket.now)
    (subst (λ ts. FirstOf Up (λ j. ⊤) (map g.B.Table.entries ts) (Some c.in-Some-first.bucket.now)) (sym c.in-Some.ensures.cases.0)
    (first-here (g.B.Table.entries c.in-Some.table.now) (map g.B.Table.entries c.in-Some.behind.now) c.in-Some-first.bucket.now c.in-Some-first.ensures))

pub loop-table-preserved : goal.loop-table-preserved
loop-table-preserved g c = λ found later. c.loop-table.invariant found
    (subst (λ ts. FirstOf Up (λ j. ⊤) (map g.B.Table.entries ts) found) (sym c.in-Some.ensures.cases.0)
    (first-on (g.B.Table.entries c.in-Some.table.now) (map g.B.Table.entries c.in-Some.behind.now) found c.in-None.ensures later))

pub returns : goal.returns
returns g c =
    let none : length c.loop-table.rest.now ≡ 0 = search rules in
    c.loop-table.invariant None (first-end g.B.Table.entries c.loop-table.rest.now none)
