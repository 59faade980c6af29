use Rattle.std.proofs.Common.{◌∙◌, ap, false, refl, set, sym}
use Rattle.std.proofs.lemmas.Result.{on_ok_weaker}
use Rattle.qm_bits.specs.Bitmaps.{all_bits}
use Rattle.qm_overlay.specs.Marks.{cleared}
use Rattle.qm_overlay.proofs.Laying.{on_ok}
use Rattle.qm_overlay.proofs.steps.clear_at.Goals as goal

pub returns-in-Some : goal.returns-in-Some
returns-in-Some g c =
    let bits = all_bits g.N.Chunks.LEN (g.M.Marks.bitmap c.args.activity.now) in
    record {
      alike = record { pruned = c.unmark.ensures.pruned; count = c.unmark.ensures.count };
      bits = on_ok_weaker c.unmark.result (λ clear. clear ∙ ap (λ n. set bits n false) c.get.ensures ∙ ap (cleared bits) (sym c.in-Some.is)) c.unmark.ensures.bits;
      below = on_ok c.unmark.result c.unmark.ensures.below;
      err = c.unmark.ensures.err;
    }

pub returns-in-None : goal.returns-in-None
returns-in-None g c = record {
  alike = record { pruned = refl; count = refl };
  bits = ap (cleared (all_bits g.N.Chunks.LEN (g.M.Marks.bitmap c.args.activity.now))) (sym c.in-None.is);
  below = refl;
  err = tt;
}
