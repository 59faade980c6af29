use Rattle.std.proofs.Common.{◌*◌, ◌^◌, ◌<◌, ◌∙◌, ◌∷◌, ◌++◌, [], ap, arith, subst, sym}
use Rattle.std.proofs.lemmas.Result.{on_ok_weaker, on_err_weaker}
use Rattle.qm_bits.specs.Bitmaps.{Bitmap, bit_count}
use Rattle.qm_bits.proofs.Kept.{grown_fits}
use Rattle.qm_bits.proofs.prunable.Prunable.push.Goals as goal

pub invariant_of-self : goal.invariant_of-self
invariant_of-self g c =
    let room = subst (λ m. bit_count g.N.Chunks.LEN m < 2 ^ 62) (sym c.self.view_is) c.requires in
    grown_fits (c.self.inside.pruned * (8 * g.N.Chunks.LEN)) c.self.inside.bits (c.args.value ∷ []) c.push.new.self c.push.result c.push.ensures.ok c.push.ensures.err (omega (arith, room))

pub returns : goal.returns
returns g c = record {
  ok = on_ok_weaker c.push.result
      (λ more. ap {B = Bitmap} (λ bits. record { pruned = c.self.inside.pruned; kept = bits }) more ∙ ap {B = Bitmap} (λ m. record { pruned = m.pruned; kept = m.kept ++ c.args.value ∷ [] }) c.self.view_is)
      c.push.ensures.ok;
  err = on_err_weaker c.push.result (λ same. ap {B = Bitmap} (λ bits. record { pruned = c.self.inside.pruned; kept = bits }) same ∙ c.self.view_is) c.push.ensures.err;
}
