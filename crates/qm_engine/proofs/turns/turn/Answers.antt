use Rattle.qm_engine.proofs.turns.turn.Goals as goal

pub returns-in-Batch : goal.returns-in-Batch
returns-in-Batch g c = rw c.in-Batch.is c.batch_turn-turn.ensures

pub returns-in-Making : goal.returns-in-Making
returns-in-Making g c = rw c.in-Making.is c.making_turn.ensures

pub returns-in-Staged : goal.returns-in-Staged
returns-in-Staged g c = rw c.in-Staged.is c.staged_turn-turn.ensures

pub returns-in-Read : goal.returns-in-Read
returns-in-Read g c = rw c.in-Read.is c.read_turn-turn.ensures

pub returns-in-Info : goal.returns-in-Info
returns-in-Info g c = rw c.in-Info.is c.info_turn-turn.ensures

pub returns-in-Store : goal.returns-in-Store
returns-in-Store g c = rw c.in-Store.is c.store_turn.ensures
