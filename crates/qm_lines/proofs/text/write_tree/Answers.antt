use Rattle.qm_lines.proofs.text.write_tree.Goals as goal

pub returns-in-RangeOutOfBounds : goal.returns-in-RangeOutOfBounds
returns-in-RangeOutOfBounds c = rw c.in-RangeOutOfBounds.is c.write_number.ensures

pub returns-in-ElementPruned : goal.returns-in-ElementPruned
returns-in-ElementPruned c = rw c.in-ElementPruned.is c.write_number-in-ElementPruned.ensures

pub returns-in-MissingNode : goal.returns-in-MissingNode
returns-in-MissingNode c = rw c.in-MissingNode.is c.write_number-in-MissingNode.ensures

pub returns-in-LocationOverflow : goal.returns-in-LocationOverflow
returns-in-LocationOverflow c = rw c.in-LocationOverflow.is c.write_number-in-LocationOverflow.ensures
