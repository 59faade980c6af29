use Rattle.qm_model.proofs.Results.{err-then}
use Rattle.qm_run.proofs.current_mmb.ordered.DatabaseNeighbours.next_from.Goals as goal

pub returns-clause-failure : goal.returns-clause-failure
returns-clause-failure g c = err-then c.next_from.result c.next_from.ensures.failure (λ e failed list chain tip is made.
    let why = failed list chain tip is made in
    record { stale = why.stale; refused = why.refused; order = why.order })
