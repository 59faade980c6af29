use Rattle.qm_routed.proofs.Projection.{live-located, live-routed, places-routed}
use Rattle.qm_routed.proofs.laws.a_part_is_rebuilt_alone.Goals as goal

pub returns-clause-whole : goal.returns-clause-whole
returns-clause-whole c i ops = live-located i ops

pub returns-clause-part : goal.returns-clause-part
returns-clause-part c own rs = live-routed own rs

pub returns-clause-places : goal.returns-clause-places
returns-clause-places c own rs = places-routed own rs
