use Rattle.std.proofs.Common.{◌+◌, ◌-◌, ◌^◌, min}
use Rattle.qm_model.specs.Walk.{stop}
use Rattle.qm_chain.proofs.Maps.{keeping-keeps, holding-keeps}
use Rattle.qm_chain.proofs.laws.moves_keep_the_map.Goals as goal

pub returns-clause-proportional : goal.returns-clause-proportional
returns-clause-proportional g c = keeping-keeps (λ p n. record { entries = min (n + 1) (2 ^ 64 - 1); skips = 2 ^ 64 - 1 })

pub returns-clause-hold : goal.returns-clause-hold
returns-clause-hold g c = holding-keeps (λ p location remaining key value. (stop, p))

pub returns-clause-bounded : goal.returns-clause-bounded
returns-clause-bounded g c = keeping-keeps (λ p n. record { entries = p.entries; skips = p.skips })
