use Rattle.qm_any.proofs.Reading.{fails-alone, fails-through}
use Rattle.qm_any.proofs.laws.a_read_of_a_list_fails_for_memory_or_its_store.Goals as goal

pub returns-clause-alone : goal.returns-clause-alone
returns-clause-alone g c layout old new list result is reads = fails-alone g.C.Store layout old new list result is reads

pub returns-clause-through : goal.returns-clause-through
returns-clause-through g c layout old new list bounds result is reads = fails-through g.C.Store layout old new list bounds result is reads
