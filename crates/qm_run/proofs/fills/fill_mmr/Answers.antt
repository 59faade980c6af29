use Rattle.std.proofs.Common.{subst}
use Rattle.qm_model.specs.Mmr.{mmr}
use Rattle.qm_filling.specs.Says.{IsServed}
use Rattle.qm_run.proofs.Machines.{machine-asked}
use Rattle.qm_run.proofs.fills.fill_mmr.Goals as goal

pub returns-in-false-false : goal.returns-in-false-false
returns-in-false-false g c =
    subst (λ m. IsServed m c.args.fill c.fill_any-in-false-false.result.0 (g.C.Store.told c.args.store) (g.C.Store.told c.fill_any-in-false-false.result.1) (g.C.Store.faults c.args.store) (g.C.Store.faults c.fill_any-in-false-false.result.1) (g.K.Sink.text c.args.sink.now) (g.K.Sink.text c.fill_any-in-false-false.new.sink) (g.K.Sink.faults c.args.sink.now) (g.K.Sink.faults c.fill_any-in-false-false.new.sink))
    (machine-asked mmr c.in-false-false.is-0 c.in-false-false.is-1) c.fill_any-in-false-false.ensures

pub returns-in-false-true : goal.returns-in-false-true
returns-in-false-true g c =
    subst (λ m. IsServed m c.args.fill c.fill_any.result.0 (g.C.Store.told c.args.store) (g.C.Store.told c.fill_any.result.1) (g.C.Store.faults c.args.store) (g.C.Store.faults c.fill_any.result.1) (g.K.Sink.text c.args.sink.now) (g.K.Sink.text c.fill_any.new.sink) (g.K.Sink.faults c.args.sink.now) (g.K.Sink.faults c.fill_any.new.sink))
    (machine-asked mmr c.in-false-true.is-0 c.in-false-true.is-1) c.fill_any.ensures

pub returns-in-true-false : goal.returns-in-true-false
returns-in-true-false g c =
    subst (λ m. IsServed m c.args.fill c.fill_current_mmr-in-true-false.result.0 (g.C.Store.told c.args.store) (g.C.Store.told c.fill_current_mmr-in-true-false.result.1) (g.C.Store.faults c.args.store) (g.C.Store.faults c.fill_current_mmr-in-true-false.result.1) (g.K.Sink.text c.args.sink.now) (g.K.Sink.text c.fill_current_mmr-in-true-false.new.sink) (g.K.Sink.faults c.args.sink.now) (g.K.Sink.faults c.fill_current_mmr-in-true-false.new.sink))
    (machine-asked mmr c.in-true-false.is-0 c.in-true-false.is-1) c.fill_current_mmr-in-true-false.ensures

pub returns-in-true-true : goal.returns-in-true-true
returns-in-true-true g c =
    subst (λ m. IsServed m c.args.fill c.fill_current_mmr.result.0 (g.C.Store.told c.args.store) (g.C.Store.told c.fill_current_mmr.result.1) (g.C.Store.faults c.args.store) (g.C.Store.faults c.fill_current_mmr.result.1) (g.K.Sink.text c.args.sink.now) (g.K.Sink.text c.fill_current_mmr.new.sink) (g.K.Sink.faults c.args.sink.now) (g.K.Sink.faults c.fill_current_mmr.new.sink))
    (machine-asked mmr c.in-true-true.is-0 c.in-true-true.is-1) c.fill_current_mmr.ensures
