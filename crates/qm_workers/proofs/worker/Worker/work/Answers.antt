use Rattle.std.proofs.Common.{ap, sym, ◌∙◌, refl, inr}
use Rattle.std.proofs.lemmas.Option.{none-some}
use Rattle.qm_workers.specs.Working.{asked_for}
use Rattle.qm_workers.proofs.worker.Worker.work.Goals as goal

pub returns-in-Unknown-clause-not : goal.returns-in-Unknown-clause-not
returns-in-Unknown-clause-not g c = λ is. inr (record {
  same = refl;
  asks = λ none. none-some c.in-Unknown.field-0 (sym none ∙ ap asked_for (sym c.front_sought.ensures.value ∙ c.in-Unknown.is));
  few = c.front_sought.ensures.few;
})
