use Rattle.std.proofs.Common.{◌≡◌, ◌<◌, ◌∷◌, [], length, map, Some, None, rules, ap, sym, ◌∙◌, subst}
use Rattle.std.proofs.lemmas.List.{map-append}
use Rattle.qm_index.specs.Ways.{Down, FirstOf}
use Rattle.qm_index.proofs.Rows.{row-before}
use Rattle.qm_index.proofs.Ways.{last-init, last-on, last-here, last-end}
use Rattle.qm_index.proofs.table_row.TableRow.last_before.Goals as goal

pub loop-table-init : goal.loop-table-init
loop-table-init g c =
    let same : c.deref.result.now ≡ c.self.inside.tables.items = search rules in
    let before = row-before g.B.Table.entries c.self.inside.tables.items c.deref.result.now c.args.self.now c.args.place c.self.view_is same in
    λ found later. last-init c.args.place c.args.self.now found c.requires (subst (λ ps. FirstOf Down (λ j. j < length ps) ps found) before later)

pub returns-in-Some-last : goal.returns-in-Some-last
returns-in-Some-last g c =
    c.loop-table.invariant (Some c.in-Some-last.bucket.now)
    (subst (λ ps. FirstOf Down (λ j. j < length ps) ps (Some c.in-Some-last.bucket.now)) (sym (ap (map g.B.Table.entries) c.in-Some.ensures.cases.0 ∙ map-append g.B.Table.entries c.in-Some.before.now (c.in-Some.table.now ∷ [])))
    (last-here (g.B.Table.entries c.in-Some.table.now) (map g.B.Table.entries c.in-Some.before.now) c.in-Some-last.bucket.now c.in-Some-last.ensures))

pub loop-table-preserved : goal.loop-table-preserved
loop-table-preserved g c = λ found later. c.loop-table.invariant found
    (subst (λ ps. FirstOf Down (λ j. j < length ps) ps found) (sym (ap (map g.B.Table.entries) c.in-Some.ensures.cases.0 ∙ map-append g.B.Table.entries c.in-Some.before.now (c.in-Some.table.now ∷ [])))
    (last-on (g.B.Table.entries c.in-Some.table.now) (map g.B.Table.entries c.in-Some.before.now) found c.in-None.ensures later))

pub returns : goal.returns
returns g c =
    let none : length c.loop-table.rest.now ≡ 0 = search rules in
    c.loop-table.invariant None (last-end g.B.Table.entries c.loop-table.rest.now none)
