use Rattle.std.proofs.Common.{subst}
use Rattle.qm_filling.specs.Says.{IsServed}
use Rattle.qm_run.proofs.Machines.{machine-named}
use Rattle.qm_run.proofs.fills.fill_by.Goals as goal

pub returns-in-false : goal.returns-in-false
returns-in-false g c =
    subst (λ m. IsServed m c.args.fill c.fill_mmr.result.0 (g.C.Store.told c.args.store) (g.C.Store.told c.fill_mmr.result.1) (g.C.Store.faults c.args.store) (g.C.Store.faults c.fill_mmr.result.1) (g.K.Sink.text c.args.sink.now) (g.K.Sink.text c.fill_mmr.new.sink) (g.K.Sink.faults c.args.sink.now) (g.K.Sink.faults c.fill_mmr.new.sink))
    (machine-named c.args.named c.in-false.is) c.fill_mmr.ensures

pub returns-in-true : goal.returns-in-true
returns-in-true g c =
    subst (λ m. IsServed m c.args.fill c.fill_mmb.result.0 (g.C.Store.told c.args.store) (g.C.Store.told c.fill_mmb.result.1) (g.C.Store.faults c.args.store) (g.C.Store.faults c.fill_mmb.result.1) (g.K.Sink.text c.args.sink.now) (g.K.Sink.text c.fill_mmb.new.sink) (g.K.Sink.faults c.args.sink.now) (g.K.Sink.faults c.fill_mmb.new.sink))
    (machine-named c.args.named c.in-true.is) c.fill_mmb.ensures
