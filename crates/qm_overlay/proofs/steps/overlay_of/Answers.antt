use Rattle.std.proofs.Common.{ap, arith, ◌∙◌, ◌≤◌, ap₂, sym, subst}
use Rattle.qm_overlay.proofs.Laying.{count-laid}
use Rattle.std.proofs.lemmas.Result.{IfOk-from_err}
use Rattle.qm_bits.specs.Bitmaps.{all_bits, bit_count}
use Rattle.qm_overlay.specs.Layers.{laid, IsFrom}
use Rattle.qm_overlay.proofs.steps.overlay_of.Goals as goal

pub returns : goal.returns
returns g c = record {
  count =
      let size = g.N.Chunks.LEN in
      let now = c.apply_bits.new.activity in
      let total = c.in_ok-apply_bits.ensures.count in
      let same = ap (λ o. o.count) c.into_overlay.ensures.value in
      let least = c.into_overlay.ensures.not_below in
      let count = count-laid size now.overlay now.base (omega (arith, same, least)) in
      omega (arith, total, same, count);
  from = subst (λ m. IsFrom m.pruned c.into_overlay.result) (c.in_ok-apply_bits.ensures.below ∙ c.new-laying.ensures.base) c.into_overlay.ensures.from;
  active = λ from tip lead ended long is.
      let size = g.N.Chunks.LEN in
      ap₂ (λ o b. all_bits size (laid size o b)) c.into_overlay.ensures.value (sym (c.in_ok-apply_bits.ensures.below ∙ c.new-laying.ensures.base))
      ∙ c.in_ok-apply_bits.ensures.active from tip lead ended long (ap (all_bits size) c.new-laying.ensures.bits ∙ is);
}

pub returns-in_err-apply_bits : goal.returns-in_err-apply_bits
returns-in_err-apply_bits g c = record {
  count = IfOk-from_err c.from_residual.result _ c.from_residual.ensures.0;
  from = IfOk-from_err c.from_residual.result _ c.from_residual.ensures.0;
  active = λ from tip lead ended long is. IfOk-from_err c.from_residual.result _ c.from_residual.ensures.0;
}

pub apply_bits-requires-clause-not_below : goal.apply_bits-requires-clause-not_below
apply_bits-requires-clause-not_below g c = subst (λ m. bit_count g.N.Chunks.LEN m ≤ c.args.size) (sym c.new-laying.ensures.bits) c.requires.not_below
