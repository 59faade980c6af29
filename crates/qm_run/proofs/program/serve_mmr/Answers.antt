use Rattle.qm_machine.specs.Lines.{Destroy}
use Rattle.qm_machine.specs.Grammar.{commands_in}
use Rattle.std.specs.Prelude.{Contains}
use Rattle.std.proofs.Common.{ℕ, List, IfSome, subst}
use Rattle.qm_model.specs.Causes.{Rose}
use Rattle.qm_model.specs.Schemes.{chunks_of}
use Rattle.qm_model.specs.StoreModel.{Turns}
use Rattle.qm_model.specs.Mmr.{mmr}
use Rattle.qm_engine.specs.Stores.{HasEnds}
use Rattle.qm_run.proofs.Machines.{machine-asked}
use Rattle.qm_run.proofs.Sayings.{Told}
use Rattle.qm_run.proofs.program.serve_mmr.Goals as goal

pub returns-in-false-false-clause-headline : goal.returns-in-false-false-clause-headline
returns-in-false-false-clause-headline g c =
    let rose : Type 0 = Rose (g.C.Store.faults c.args.store) (g.C.Store.faults c.serve_any-in-false-false.result.1) in
    subst (λ m. IfSome (g.C.Store.told c.args.store) (λ stored. Told m stored c.args.input.now c.serve_any-in-false-false.result.0 rose (g.C.Store.told c.serve_any-in-false-false.result.1) (g.K.Sink.text c.args.sink.now) (g.K.Sink.text c.serve_any-in-false-false.new.sink)))
    (machine-asked mmr c.in-false-false.is-0 c.in-false-false.is-1) c.serve_any-in-false-false.ensures.headline

pub returns-in-false-false-clause-ends : goal.returns-in-false-false-clause-ends
returns-in-false-false-clause-ends g c =
    subst (λ m. (choices : List ℕ) × Turns (g.C.Store.told c.args.store) (g.C.Store.told c.serve_any-in-false-false.result.1) (HasEnds (chunks_of m) (Contains (commands_in c.args.input.now) Destroy) choices))
    (machine-asked mmr c.in-false-false.is-0 c.in-false-false.is-1) c.serve_any-in-false-false.ensures.ends

pub returns-in-false-true-clause-headline : goal.returns-in-false-true-clause-headline
returns-in-false-true-clause-headline g c =
    let rose : Type 0 = Rose (g.C.Store.faults c.args.store) (g.C.Store.faults c.serve_any.result.1) in
    subst (λ m. IfSome (g.C.Store.told c.args.store) (λ stored. Told m stored c.args.input.now c.serve_any.result.0 rose (g.C.Store.told c.serve_any.result.1) (g.K.Sink.text c.args.sink.now) (g.K.Sink.text c.serve_any.new.sink)))
    (machine-asked mmr c.in-false-true.is-0 c.in-false-true.is-1) c.serve_any.ensures.headline

pub returns-in-false-true-clause-ends : goal.returns-in-false-true-clause-ends
returns-in-false-true-clause-ends g c =
    subst (λ m. (choices : List ℕ) × Turns (g.C.Store.told c.args.store) (g.C.Store.told c.serve_any.result.1) (HasEnds (chunks_of m) (Contains (commands_in c.args.input.now) Destroy) choices))
    (machine-asked mmr c.in-false-true.is-0 c.in-false-true.is-1) c.serve_any.ensures.ends

pub returns-in-true-false-clause-headline : goal.returns-in-true-false-clause-headline
returns-in-true-false-clause-headline g c =
    let rose : Type 0 = Rose (g.C.Store.faults c.args.store) (g.C.Store.faults c.serve_current_mmr-in-true-false.result.1) in
    subst (λ m. IfSome (g.C.Store.told c.args.store) (λ stored. Told m stored c.args.input.now c.serve_current_mmr-in-true-false.result.0 rose (g.C.Store.told c.serve_current_mmr-in-true-false.result.1) (g.K.Sink.text c.args.sink.now) (g.K.Sink.text c.serve_current_mmr-in-true-false.new.sink)))
    (machine-asked mmr c.in-true-false.is-0 c.in-true-false.is-1) c.serve_current_mmr-in-true-false.ensures.headline

pub returns-in-true-false-clause-ends : goal.returns-in-true-false-clause-ends
returns-in-true-false-clause-ends g c =
    subst (λ m. (choices : List ℕ) × Turns (g.C.Store.told c.args.store) (g.C.Store.told c.serve_current_mmr-in-true-false.result.1) (HasEnds (chunks_of m) (Contains (commands_in c.args.input.now) Destroy) choices))
    (machine-asked mmr c.in-true-false.is-0 c.in-true-false.is-1) c.serve_current_mmr-in-true-false.ensures.ends

pub returns-in-true-true-clause-headline : goal.returns-in-true-true-clause-headline
returns-in-true-true-clause-headline g c =
    let rose : Type 0 = Rose (g.C.Store.faults c.args.store) (g.C.Store.faults c.serve_current_mmr.result.1) in
    subst (λ m. IfSome (g.C.Store.told c.args.store) (λ stored. Told m stored c.args.input.now c.serve_current_mmr.result.0 rose (g.C.Store.told c.serve_current_mmr.result.1) (g.K.Sink.text c.args.sink.now) (g.K.Sink.text c.serve_current_mmr.new.sink)))
    (machine-asked mmr c.in-true-true.is-0 c.in-true-true.is-1) c.serve_current_mmr.ensures.headline

pub returns-in-true-true-clause-ends : goal.returns-in-true-true-clause-ends
returns-in-true-true-clause-ends g c =
    subst (λ m. (choices : List ℕ) × Turns (g.C.Store.told c.args.store) (g.C.Store.told c.serve_current_mmr.result.1) (HasEnds (chunks_of m) (Contains (commands_in c.args.input.now) Destroy) choices))
    (machine-asked mmr c.in-true-true.is-0 c.in-true-true.is-1) c.serve_current_mmr.ensures.ends
