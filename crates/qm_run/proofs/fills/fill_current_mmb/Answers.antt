use Rattle.std.proofs.Common.{subst}
use Rattle.qm_model.specs.Mmb.{mmb}
use Rattle.qm_filling.specs.Says.{IsServed}
use Rattle.qm_run.proofs.Machines.{current-same}
use Rattle.qm_run.proofs.fills.fill_current_mmb.Goals as goal

pub returns : goal.returns
returns g c =
    subst (λ m. IsServed m c.args.fill c.serve_fill.result.0 (g.C.Store.told c.args.store) (g.C.Store.told c.serve_fill.result.1) (g.C.Store.faults c.args.store) (g.C.Store.faults c.serve_fill.result.1) (g.K.Sink.text c.args.sink.now) (g.K.Sink.text c.serve_fill.new.sink) (g.K.Sink.faults c.args.sink.now) (g.K.Sink.faults c.serve_fill.new.sink))
    (current-same mmb g.U.Update.form g.I.Unordered.index_key) c.serve_fill.ensures
