use Rattle.std.proofs.Common.{◌∙◌, ap, sym, w8}
use Rattle.std.specs.Prelude.{if◌then◌else◌}
use Rattle.std.proofs.lemmas.Nat.Bits.{bit_at_set_same, bit_at_set_other, bit_at_clear_same, bit_at_clear_other}
use Rattle.qm_overlay.proofs.chunk.with_bit.Goals as goal

pub returns-then-value : goal.returns-then-value
returns-then-value c = record {
  here = bit_at_set_same w8 c.args.byte c.args.at c.requires ∙ ap (λ t. if t then 1 else 0) (sym c.if-value.true);
  others = λ i low apart. bit_at_set_other w8 c.args.byte c.args.at c.requires i apart;
}

pub returns-else-value : goal.returns-else-value
returns-else-value c = record {
  here = bit_at_clear_same w8 c.args.byte c.args.at c.requires ∙ ap (λ t. if t then 1 else 0) (sym c.if-value.false);
  others = λ i low apart. bit_at_clear_other w8 c.args.byte c.args.at c.requires i low apart;
}
