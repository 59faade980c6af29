use Rattle.std.proofs.Common.{[], ◌∷◌, ◌++◌, ◌∙◌, ap, refl}
use Rattle.qm_engine.specs.declared.table.Slot.TheVariants.{Gone}
use Rattle.qm_engine.proofs.Commands.{begun}
use Rattle.qm_engine.proofs.runs.begin.Goals as goal

pub returns-in-Err : goal.returns-in-Err
returns-in-Err g c = record { session = tt; store = tt; opened = tt; back = refl }

pub returns-in-Ok : goal.returns-in-Ok
returns-in-Ok g c = record {
  session = λ log choices has low within. begun g.C.Store g.X.Meaning c.args.store c.push_slot.new.table.items log choices (c.in-Ok.ensures.ok ∙ ap (λ xs. xs ++ Gone ∷ []) c.new-table.ensures.items) (g.met.C.Store.told_start c.args.store) has low within;
  store = refl;
  opened = refl;
  back = tt;
}
