use Rattle.qm_bits.proofs.Packing.{AreBytes}
use Rattle.qm_bits.proofs.words.bytes.Given as goal

abbrev pub invariant-loop-k : goal.invariant-loop-k
invariant-loop-k l = AreBytes l.words l.first l.k l.bytes.items
