use Rattle.std.proofs.Common.{◌≡◌, map, rules, ap, sym, ◌∙◌, subst}
use Rattle.std.specs.List.{FoldsTo, flat_map}
use Rattle.std.specs.Fn.{CalledAt}
use Rattle.qm_index.specs.Buckets.{all_values}
use Rattle.qm_index.proofs.Visits.{FoldsTo-append}
use Rattle.qm_index.proofs.table_row.TableRow.show_all.Goals as goal

pub loop-table-init : goal.loop-table-init
loop-table-init g c =
    let items : c.as_slice-rest.result.now ≡ c.self.inside.tables.items = search rules in (
      c.requires,
      λ last all. subst (λ values. FoldsTo (λ p x q. CalledAt g.F.FnMut p x tt q) c.args.visit values last) (ap (λ xs. flat_map all_values (map g.B.Table.entries xs)) items ∙ ap (flat_map all_values) c.self.view_is) all,
    )

pub loop-table-preserved : goal.loop-table-preserved
loop-table-preserved g c = (
  c.show_all-visit.ensures.again,
  λ last later. c.loop-table.invariant.1 last (subst (λ tables. FoldsTo (λ p x q. CalledAt g.F.FnMut p x tt q) c.loop-table.visit (flat_map all_values (map g.B.Table.entries tables)) last) (sym c.in-Some.ensures.cases.0)
      (FoldsTo-append (λ p x q. CalledAt g.F.FnMut p x tt q) c.loop-table.visit c.show_all-visit.result last (all_values (g.B.Table.entries c.in-Some.table.now)) (flat_map all_values (map g.B.Table.entries c.in-Some.behind.now)) c.show_all-visit.ensures.shown later)),
)
