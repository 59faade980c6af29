use Rattle.std.proofs.Common.{sym, subst, arith}
use Rattle.std.proofs.lemmas.List.{nil_from_length}
use Rattle.qm_bits.specs.Words.{bits_of, AreHeld}
use Rattle.qm_bits.proofs.Places.{no_words, length-bits_of}
use Rattle.qm_bits.proofs.bitmap.BitMap.new.Goals as goal

pub invariant_of-result : goal.invariant_of-result
invariant_of-result c = subst (λ ws. AreHeld 0 ws) (sym c.new.ensures.items) (record { within = omega arith; clear = λ i _. no_words i; bounded = omega arith })

pub returns : goal.returns
returns c = nil_from_length (bits_of 0 c.new.result.items) (length-bits_of 0 c.new.result.items)
