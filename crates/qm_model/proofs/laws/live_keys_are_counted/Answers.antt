use Rattle.qm_model.proofs.LiveCounts.{live-distinct, ordered-count, ordered-inactive}
use Rattle.qm_model.proofs.laws.live_keys_are_counted.Goals as goal

pub returns-clause-once : goal.returns-clause-once
returns-clause-once c ops = live-distinct ops

pub returns-clause-ordered : goal.returns-clause-ordered
returns-clause-ordered c ops ws = ordered-count ops ws

pub returns-clause-inactive : goal.returns-clause-inactive
returns-clause-inactive c ops ws = ordered-inactive ops ws
