use Rattle.qm_model.proofs.GraftedLemmas.{mmr_never_pending}
use Rattle.qm_chunks.proofs.Waiting.{mountain_all}
use Rattle.qm_chunks.proofs.laws.no_chunk_is_pending_in_mountain_ranges.Goals as goal

pub returns-clause-pending : goal.returns-clause-pending
returns-clause-pending c = mmr_never_pending

pub returns-clause-grafted : goal.returns-clause-grafted
returns-clause-grafted c = mountain_all
