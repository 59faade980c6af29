use Rattle.qm_run.proofs.current_mmr.staged.DatabaseStaging.resolve.Goals as goal

pub returns-in-Ok-clause-makes : goal.returns-in-Ok-clause-makes
returns-in-Ok-clause-makes g c = λ list chain above ws keys is staged.
    let made = c.in-Ok.ensures.makes list chain above ws keys is staged in
    record { instance = made.instance; fit = made.fit; made = made.made; stale = tt; refused = tt }

pub returns-in-Err-clause-makes : goal.returns-in-Err-clause-makes
returns-in-Err-clause-makes g c = λ list chain above ws keys is staged.
    let made = c.in-Err.ensures.makes list chain above ws keys is staged in
    record { instance = tt; fit = tt; made = tt; stale = made.stale; refused = made.refused }
