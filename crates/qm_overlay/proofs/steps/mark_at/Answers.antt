use Rattle.std.proofs.Common.{◌≤◌, ◌∙◌, ap, refl, set, subst, sym, true}
use Rattle.std.specs.Prelude.{IfSome}
use Rattle.std.proofs.lemmas.Result.{on_ok_weaker}
use Rattle.qm_bits.specs.Bitmaps.{start, all_bits}
use Rattle.qm_overlay.specs.Marks.{marked}
use Rattle.qm_overlay.proofs.Laying.{on_ok}
use Rattle.qm_overlay.proofs.steps.mark_at.Goals as goal

pub returns-in-Some : goal.returns-in-Some
returns-in-Some g c =
    let map = g.M.Marks.bitmap c.args.activity.now in
    let bits = all_bits g.N.Chunks.LEN map in
    record {
      alike = record { pruned = c.mark.ensures.pruned; count = c.mark.ensures.count };
      bits = λ from.
          let kept = subst (λ o. IfSome o (λ at. start g.N.Chunks.LEN map ≤ at)) c.in-Some.is from in
          on_ok_weaker c.mark.result (λ set_there. set_there ∙ ap (λ n. set bits n true) c.get.ensures ∙ ap (marked bits) (sym c.in-Some.is)) (c.mark.ensures.bits (subst (λ n. start g.N.Chunks.LEN map ≤ n) (sym c.get.ensures) kept));
      below = on_ok c.mark.result c.mark.ensures.below;
      err = c.mark.ensures.err;
    }

pub returns-in-None : goal.returns-in-None
returns-in-None g c = record {
  alike = record { pruned = refl; count = refl };
  bits = λ from. ap (marked (all_bits g.N.Chunks.LEN (g.M.Marks.bitmap c.args.activity.now))) (sym c.in-None.is);
  below = refl;
  err = tt;
}
