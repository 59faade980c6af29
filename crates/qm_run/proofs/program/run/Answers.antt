use Rattle.qm_machine.specs.Lines.{Destroy}
use Rattle.qm_machine.specs.Grammar.{commands_in}
use Rattle.std.specs.Prelude.{Contains}
use Rattle.std.proofs.Common.{ℕ, List, IfSome, subst}
use Rattle.qm_model.specs.Causes.{Rose}
use Rattle.qm_model.specs.Schemes.{chunks_of}
use Rattle.qm_model.specs.StoreModel.{Turns}
use Rattle.qm_engine.specs.Stores.{HasEnds}
use Rattle.qm_run.proofs.Machines.{machine-named}
use Rattle.qm_run.proofs.Sayings.{Told}
use Rattle.qm_run.proofs.program.run.Goals as goal

pub returns-in-false-clause-headline : goal.returns-in-false-clause-headline
returns-in-false-clause-headline g c =
    let rose : Type 0 = Rose (g.C.Store.faults c.args.store) (g.C.Store.faults c.serve_mmr.result.1) in
    subst (λ m. IfSome (g.C.Store.told c.args.store) (λ stored. Told m stored c.args.input.now c.serve_mmr.result.0 rose (g.C.Store.told c.serve_mmr.result.1) (g.K.Sink.text c.args.sink.now) (g.K.Sink.text c.serve_mmr.new.sink)))
    (machine-named c.args.named c.in-false.is) c.serve_mmr.ensures.headline

pub returns-in-false-clause-ends : goal.returns-in-false-clause-ends
returns-in-false-clause-ends g c =
    subst (λ m. (choices : List ℕ) × Turns (g.C.Store.told c.args.store) (g.C.Store.told c.serve_mmr.result.1) (HasEnds (chunks_of m) (Contains (commands_in c.args.input.now) Destroy) choices))
    (machine-named c.args.named c.in-false.is) c.serve_mmr.ensures.ends

pub returns-in-true-clause-headline : goal.returns-in-true-clause-headline
returns-in-true-clause-headline g c =
    let rose : Type 0 = Rose (g.C.Store.faults c.args.store) (g.C.Store.faults c.serve_mmb.result.1) in
    subst (λ m. IfSome (g.C.Store.told c.args.store) (λ stored. Told m stored c.args.input.now c.serve_mmb.result.0 rose (g.C.Store.told c.serve_mmb.result.1) (g.K.Sink.text c.args.sink.now) (g.K.Sink.text c.serve_mmb.new.sink)))
    (machine-named c.args.named c.in-true.is) c.serve_mmb.ensures.headline

pub returns-in-true-clause-ends : goal.returns-in-true-clause-ends
returns-in-true-clause-ends g c =
    subst (λ m. (choices : List ℕ) × Turns (g.C.Store.told c.args.store) (g.C.Store.told c.serve_mmb.result.1) (HasEnds (chunks_of m) (Contains (commands_in c.args.input.now) Destroy) choices))
    (machine-named c.args.named c.in-true.is) c.serve_mmb.ensures.ends
