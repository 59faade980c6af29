use Rattle.qm_engine.proofs.turns.store_turn.Goals as goal

pub returns : goal.returns
returns g c = let done = c.held_turn-held.ensures in record { machine = done.machine; left = done.left; handles = done.handles; opened = done.opened }
