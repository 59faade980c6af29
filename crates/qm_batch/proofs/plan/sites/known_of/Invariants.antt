use Rattle.std.proofs.Common.{List}
use Rattle.qm_model.specs.Operations.{Operation}
use Rattle.qm_step.specs.PlanViews.{AreKnown}
use Rattle.qm_step.specs.Views.{AreReads}
use Rattle.qm_batch.proofs.plan.sites.known_of.Given as goal

abbrev pub invariant-loop-read : goal.invariant-loop-read
invariant-loop-read g l = (base : List Operation) → AreReads g.U.Update.view g.U.Key.ByteString.bytes l.reads base → AreKnown g.U.Update.view base l.known.entries
