use Rattle.std.proofs.Common.{sym}
use Rattle.qm_engine.proofs.turns.staged.resolve_batch.Goals as goal

pub returns-clause-made : goal.returns-clause-made
returns-clause-made g c = rw (sym c.in_ok-policy.ensures) c.resolve.ensures.makes
