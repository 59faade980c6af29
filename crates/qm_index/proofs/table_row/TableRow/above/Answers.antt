use Rattle.std.proofs.Common.{◌≡◌, ◌≤◌, ◌+◌, inr, length, nat_eq, Some, None, arith, rules, refl, ap, sym, subst}
use Rattle.std.specs.Prelude.{option_map}
use Rattle.std.specs.Map.{lookup}
use Rattle.qm_index.specs.Ways.{Up, NextIs}
use Rattle.qm_index.proofs.Partitions.{behind-last}
use Rattle.qm_index.proofs.Rows.{row-length, row-found}
use Rattle.qm_index.proofs.Ways.{way_up, next-own, next-behind}
use Rattle.qm_index.proofs.table_row.TableRow.above.Goals as goal

pub returns-in-Some-above : goal.returns-in-Some-above
returns-in-Some-above g c = λ first are.
    let same : c.deref.result.now ≡ c.self.inside.tables.items = search rules in
    let here = row-found g.B.Table.entries c.self.inside.tables.items c.deref.result.now c.args.self.now c.args.place c.in-Some.table.now c.self.view_is same c.in-Some.ensures.lookup.1 c.in-Some.ensures.lookup.3.0 in
    next-own way_up first c.args.self.now are c.args.place c.args.index_key c.in-Some-above.bucket.now (omega arith) (subst (λ es. NextIs Up es c.args.index_key (Some c.in-Some-above.bucket.now)) (sym here) c.in-Some-above.ensures)

pub returns-in-None-above : goal.returns-in-None-above
returns-in-None-above g c = λ first are.
    let same : c.deref.result.now ≡ c.self.inside.tables.items = search rules in
    let here = row-found g.B.Table.entries c.self.inside.tables.items c.deref.result.now c.args.self.now c.args.place c.in-Some.table.now c.self.view_is same c.in-Some.ensures.lookup.1 c.in-Some.ensures.lookup.3.0 in
    next-behind way_up first c.args.self.now are (λ j. c.args.place + 1 ≤ j) c.args.place c.args.index_key (option_map (λ b. b.now) c.first_from.result) (omega arith) (λ j on. inr (omega (arith, on))) (λ j on. inr (omega (arith, on)))
    (subst (λ es. NextIs Up es c.args.index_key None) (sym here) c.in-None-above.ensures)
    c.first_from.ensures

pub returns-in-None : goal.returns-in-None
returns-in-None g c = λ first are.
    let same : c.deref.result.now ≡ c.self.inside.tables.items = search rules in
    let past : length c.deref.result.now ≤ c.args.place = c.in-None.ensures.lookup.3 in
    let high : length c.args.self.now ≤ c.args.place = (let long = row-length g.B.Table.entries c.self.inside.tables.items c.args.self.now c.self.view_is in let all = ap length same in omega (arith, long, all, past)) in
    let none = behind-last c.args.self.now c.args.place high in
    next-behind way_up first c.args.self.now are (λ j. c.args.place + 1 ≤ j) c.args.place c.args.index_key None (omega arith) (λ j up. inr (omega (arith, up))) (λ j up. inr (omega (arith, up)))
    (subst (λ es. NextIs Up es c.args.index_key None) (sym none) (λ x up. refl))
    (λ j from x. ap (lookup (nat_eq x)) (behind-last c.args.self.now j (omega (arith, from, high))))
