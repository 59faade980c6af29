use Rattle.qm_model.proofs.Results.{err-then}
use Rattle.qm_run.proofs.current_mmr.staged.DatabaseStaging.stage.Goals as goal

pub returns-clause-failure : goal.returns-clause-failure
returns-clause-failure g c = err-then c.stage.result c.stage.ensures.failure (λ e failed list chain above ws is begun.
    let why = failed list chain above ws is begun in
    record { stale = why.stale; refused = why.refused; order = why.order })
