use Rattle.std.proofs.Common.{◌∙◌, ap, subst, refl, sym, inl, inr, arith, Err}
use Rattle.qm_model.specs.Causes.{Grows, GrowsPart}
use Rattle.qm_filling.specs.Says.{IsServed}
use Rattle.qm_filling.proofs.Sayings.{served_whole, served_part, served_nothing}
use Rattle.qm_filling.proofs.served.serve_fill.Goals as goal

pub returns-in-Err : goal.returns-in-Err
returns-in-Err g c =
    let run = c.run_fill-counted in
    served_nothing g.X.Meaning.scheme c.args.fill run.result.counted (g.C.Store.told c.args.store) (g.C.Store.told run.result.store) (g.C.Store.faults c.args.store) (g.C.Store.faults run.result.store) run.ensures.machine run.ensures.fault run.ensures.ends (g.K.Sink.faults c.args.sink.now) (g.K.Sink.text c.args.sink.now)

pub returns-in-Ok-write_all : goal.returns-in-Ok-write_all
returns-in-Ok-write_all g c =
    let run = c.run_fill-counted in
    let old = g.K.Sink.text c.args.sink.now in
    let new = g.K.Sink.text c.write_all.new.sink in
    subst (λ s. IsServed g.X.Meaning.scheme c.args.fill s (g.C.Store.told c.args.store) (g.C.Store.told run.result.store) (g.C.Store.faults c.args.store) (g.C.Store.faults run.result.store) old new (g.K.Sink.faults c.args.sink.now) (g.K.Sink.faults c.write_all.new.sink)) (sym c.in-Ok.ensures.status)
    (served_whole g.X.Meaning.scheme c.args.fill run.result.counted (g.C.Store.told c.args.store) (g.C.Store.told run.result.store) (g.C.Store.faults c.args.store) (g.C.Store.faults run.result.store) run.ensures.machine run.ensures.fault run.ensures.ends (g.K.Sink.faults c.args.sink.now) old new (g.K.Sink.faults c.write_all.new.sink)
    (subst (Grows old new) (c.deref.ensures.value ∙ c.in-Ok.ensures.text) c.in-Ok-write_all.ensures.ok))

pub returns-in-Err-Failed : goal.returns-in-Err-Failed
returns-in-Err-Failed g c =
    let run = c.run_fill-counted in
    let old = g.K.Sink.text c.args.sink.now in
    let new = g.K.Sink.text c.write_all.new.sink in
    served_part g.X.Meaning.scheme c.args.fill run.result.counted (g.C.Store.told c.args.store) (g.C.Store.told run.result.store) (g.C.Store.faults c.args.store) (g.C.Store.faults run.result.store) run.ensures.machine run.ensures.fault run.ensures.ends (g.K.Sink.faults c.args.sink.now) old new (g.K.Sink.faults c.write_all.new.sink) 4 (inl refl)
    (λ e. c.in-Err-Failed.ensures.cause.failed (ap Err c.in-Err-Failed.field-0-is))
    (subst (GrowsPart old new) (c.deref.ensures.value ∙ c.in-Ok.ensures.text) c.in-Err-Failed.ensures.err)

pub returns : goal.returns
returns g c =
    let run = c.run_fill-counted in
    let old = g.K.Sink.text c.args.sink.now in
    let new = g.K.Sink.text c.write_all.new.sink in
    served_part g.X.Meaning.scheme c.args.fill run.result.counted (g.C.Store.told c.args.store) (g.C.Store.told run.result.store) (g.C.Store.faults c.args.store) (g.C.Store.faults run.result.store) run.ensures.machine run.ensures.fault run.ensures.ends (g.K.Sink.faults c.args.sink.now) old new (g.K.Sink.faults c.write_all.new.sink) 5 (inr refl)
    (λ e. absurd (omega (arith, e)))
    (subst (GrowsPart old new) (c.deref.ensures.value ∙ c.in-Ok.ensures.text) c.in-Err-Memory.ensures.err)
