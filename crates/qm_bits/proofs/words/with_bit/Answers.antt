use Rattle.std.proofs.Common.{◌∙◌, ap, sym, w64}
use Rattle.std.specs.Prelude.{if◌then◌else◌}
use Rattle.std.proofs.lemmas.Nat.Bits.{bit_at_set_same, bit_at_set_other, bit_at_clear_same, bit_at_clear_other}
use Rattle.qm_bits.proofs.words.with_bit.Goals as goal

pub returns-then-value-clause-here : goal.returns-then-value-clause-here
returns-then-value-clause-here c = bit_at_set_same w64 c.args.word c.args.at c.requires ∙ ap (λ t. if t then 1 else 0) (sym c.if-value.true)

pub returns-then-value-clause-others : goal.returns-then-value-clause-others
returns-then-value-clause-others c = λ i low apart. bit_at_set_other w64 c.args.word c.args.at c.requires i apart

pub returns-else-value-clause-here : goal.returns-else-value-clause-here
returns-else-value-clause-here c = bit_at_clear_same w64 c.args.word c.args.at c.requires ∙ ap (λ t. if t then 1 else 0) (sym c.if-value.false)

pub returns-else-value-clause-others : goal.returns-else-value-clause-others
returns-else-value-clause-others c = λ i low apart. bit_at_clear_other w64 c.args.word c.args.at c.requires i low apart
