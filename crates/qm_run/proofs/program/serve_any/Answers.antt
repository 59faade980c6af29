use Rattle.qm_machine.specs.Lines.{Destroy}
use Rattle.qm_machine.specs.Grammar.{commands_in}
use Rattle.std.specs.Prelude.{Contains}
use Rattle.std.proofs.Common.{ℕ, List, IfSome, subst}
use Rattle.qm_model.specs.Causes.{Rose}
use Rattle.qm_model.specs.Schemes.{chunks_of}
use Rattle.qm_model.specs.StoreModel.{Turns}
use Rattle.qm_engine.specs.Stores.{HasEnds}
use Rattle.qm_run.proofs.Machines.{machines-same}
use Rattle.qm_run.proofs.Sayings.{Told}
use Rattle.qm_run.proofs.program.serve_any.Goals as goal

pub returns-clause-headline : goal.returns-clause-headline
returns-clause-headline g c =
    let rose : Type 0 = Rose (g.C.Store.faults c.args.store) (g.C.Store.faults c.serve.result.1) in
    subst (λ m. IfSome (g.C.Store.told c.args.store) (λ stored. Told m stored c.args.input.now c.serve.result.0 rose (g.C.Store.told c.serve.result.1) (g.K.Sink.text c.args.sink.now) (g.K.Sink.text c.serve.new.sink)))
    (machines-same g.F.Family.shape g.U.Update.form g.met.U.Kind.lengths) c.serve.ensures.headline

pub returns-clause-ends : goal.returns-clause-ends
returns-clause-ends g c =
    subst (λ m. (choices : List ℕ) × Turns (g.C.Store.told c.args.store) (g.C.Store.told c.serve.result.1) (HasEnds (chunks_of m) (Contains (commands_in c.args.input.now) Destroy) choices))
    (machines-same g.F.Family.shape g.U.Update.form g.met.U.Kind.lengths) c.serve.ensures.ends
