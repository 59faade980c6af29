use Rattle.qm_model.proofs.Results.{err-then}
use Rattle.qm_run.proofs.current_mmb.staged.DatabaseStaging.expand.Goals as goal

pub returns-clause-failure : goal.returns-clause-failure
returns-clause-failure g c = err-then c.expand.result c.expand.ensures.failure (λ e failed list chain above ws keys is staged.
    let why = failed list chain above ws keys is staged in
    record { stale = why.stale; refused = why.refused; order = why.order })
