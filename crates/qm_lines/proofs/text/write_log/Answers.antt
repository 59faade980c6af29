use Rattle.qm_lines.proofs.text.write_log.Goals as goal

pub returns-in-ItemPruned : goal.returns-in-ItemPruned
returns-in-ItemPruned c = rw c.in-ItemPruned.is c.write_number.ensures

pub returns-in-ItemTooLarge : goal.returns-in-ItemTooLarge
returns-in-ItemTooLarge c = rw c.in-ItemTooLarge.is c.write_number-in-ItemTooLarge.ensures
