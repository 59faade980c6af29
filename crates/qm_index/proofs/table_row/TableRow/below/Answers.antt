use Rattle.std.proofs.Common.{◌≡◌, ◌<◌, ◌≤◌, inl, inr, length, Some, None, arith, rules, refl, ap, sym, subst}
use Rattle.std.specs.Prelude.{option_map}
use mathlib.Core.Logic.{dite}
use native.Mathlib.Decide.{dec_lt}
use Rattle.qm_index.specs.Ways.{Down, NextIs}
use Rattle.qm_index.proofs.Partitions.{behind-last}
use Rattle.qm_index.proofs.Rows.{row-length, row-found}
use Rattle.qm_index.proofs.Ways.{way_down, next-own, next-behind}
use Rattle.qm_index.proofs.table_row.TableRow.below.Goals as goal

pub returns-in-Some-below : goal.returns-in-Some-below
returns-in-Some-below g c = λ first are.
    let same : c.deref.result.now ≡ c.self.inside.tables.items = search rules in
    let here = row-found g.B.Table.entries c.self.inside.tables.items c.deref.result.now c.args.self.now c.args.place c.in-Some.table.now c.self.view_is same c.in-Some.ensures.lookup.1 c.in-Some.ensures.lookup.3.0 in
    next-own way_down first c.args.self.now are c.args.place c.args.index_key c.in-Some-below.bucket.now (omega arith) (subst (λ es. NextIs Down es c.args.index_key (Some c.in-Some-below.bucket.now)) (sym here) c.in-Some-below.ensures)

pub returns-in-None-below : goal.returns-in-None-below
returns-in-None-below g c = λ first are.
    let same : c.deref.result.now ≡ c.self.inside.tables.items = search rules in
    let here = row-found g.B.Table.entries c.self.inside.tables.items c.deref.result.now c.args.self.now c.args.place c.in-Some.table.now c.self.view_is same c.in-Some.ensures.lookup.1 c.in-Some.ensures.lookup.3.0 in
    next-behind way_down first c.args.self.now are (λ j. j < c.args.place) c.args.place c.args.index_key (option_map (λ b. b.now) c.last_before.result) (omega arith) (λ j on. inr (omega (arith, on))) (λ j on. inr (omega (arith, on)))
    (subst (λ es. NextIs Down es c.args.index_key None) (sym here) c.in-None-below.ensures)
    c.last_before.ensures

pub returns-in-None : goal.returns-in-None
returns-in-None g c = λ first are.
    let same : c.deref.result.now ≡ c.self.inside.tables.items = search rules in
    let past : length c.deref.result.now ≤ c.args.place = c.in-None.ensures.lookup.3 in
    let high : length c.args.self.now ≤ c.args.place = (let long = row-length g.B.Table.entries c.self.inside.tables.items c.args.self.now c.self.view_is in let all = ap length same in omega (arith, long, all, past)) in
    let none = behind-last c.args.self.now c.args.place high in
    next-behind way_down first c.args.self.now are (λ j. j < length c.args.self.now) c.args.place c.args.index_key (option_map (λ b. b.now) c.last.result) (omega arith) (λ j down. inr (omega (arith, down, high)))
    (λ j down. dite (dec_lt j (length c.args.self.now)) (λ low. inr low) (λ past. inl (behind-last c.args.self.now j (omega (arith, past)))))
    (subst (λ es. NextIs Down es c.args.index_key None) (sym none) (λ x down. refl))
    c.last.ensures
