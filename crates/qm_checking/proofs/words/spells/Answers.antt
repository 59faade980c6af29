-- Too few digits, or too many, are no such word.
use Rattle.std.proofs.Common.{inl, inr}
use Rattle.qm_checking.proofs.Spelled.{not_so_many}
use Rattle.qm_checking.proofs.words.spells.Goals.{then-count-low-via-then-count-low, then-count-low-via-else-count-low+then-high-count}
use Rattle.qm_checking.proofs.words.spells.Goals as goal

pub returns-then-count-low : goal.returns-then-count-low
returns-then-count-low c = not_so_many c.args.low c.args.high c.args.word.now (elim c.then-count-low.branch [
  | then-count-low-via-then-count-low w ↦ inl w.if-count-low.true
  | then-count-low-via-else-count-low+then-high-count w ↦ inr w.if-high-count.true
])
