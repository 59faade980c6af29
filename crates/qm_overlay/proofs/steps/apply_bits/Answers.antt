use Rattle.std.proofs.Common.{◌∙◌, ap, inl, inr, arith}
use Rattle.std.proofs.lemmas.Result.{on_ok_weaker, on_err_weaker}
use Rattle.qm_bits.specs.Bitmaps.{Bitmap}
use Rattle.qm_overlay.proofs.Laying.{on_ok, on_err, ok_of_err}
use Rattle.qm_overlay.proofs.Shifting.{extended-count, bits-begun, bits-done}
use Rattle.qm_overlay.proofs.steps.apply_bits.Goals as goal

pub extend_to-requires-clause-not_below : goal.extend_to-requires-clause-not_below
extend_to-requires-clause-not_below g c = c.requires.not_below

pub extend_to-requires-clause-bounded : goal.extend_to-requires-clause-bounded
extend_to-requires-clause-bounded g c = c.requires.few

pub returns-in_err-extend_to : goal.returns-in_err-extend_to
returns-in_err-extend_to g c = record {
  count = ok_of_err _ c.from_residual.result c.from_residual.ensures.0;
  pruned = ok_of_err _ c.from_residual.result c.from_residual.ensures.0;
  active = λ from tip lead ended long is. ok_of_err _ c.from_residual.result c.from_residual.ensures.0;
  below = ok_of_err _ c.from_residual.result c.from_residual.ensures.0;
  err = on_err c.from_residual.result (inl c.in_err-extend_to.ensures.err);
}

pub returns-in_err-unmark : goal.returns-in_err-unmark
returns-in_err-unmark g c = record {
  count = ok_of_err _ c.from_residual-in_err-unmark.result c.from_residual-in_err-unmark.ensures.0;
  pruned = ok_of_err _ c.from_residual-in_err-unmark.result c.from_residual-in_err-unmark.ensures.0;
  active = λ from tip lead ended long is. ok_of_err _ c.from_residual-in_err-unmark.result c.from_residual-in_err-unmark.ensures.0;
  below = ok_of_err _ c.from_residual-in_err-unmark.result c.from_residual-in_err-unmark.ensures.0;
  err = on_err c.from_residual-in_err-unmark.result (inr c.in_err-unmark.ensures.err);
}

pub returns-in_err-move_bits : goal.returns-in_err-move_bits
returns-in_err-move_bits g c = record {
  count = ok_of_err _ c.from_residual-in_err-move_bits.result c.from_residual-in_err-move_bits.ensures.0;
  pruned = ok_of_err _ c.from_residual-in_err-move_bits.result c.from_residual-in_err-move_bits.ensures.0;
  active = λ from tip lead ended long is. ok_of_err _ c.from_residual-in_err-move_bits.result c.from_residual-in_err-move_bits.ensures.0;
  below = ok_of_err _ c.from_residual-in_err-move_bits.result c.from_residual-in_err-move_bits.ensures.0;
  err = on_err c.from_residual-in_err-move_bits.result (inr c.in_err-move_bits.ensures.err);
}

pub returns : goal.returns
returns g c = record {
  count = on_ok c.mark.result (c.mark.ensures.count ∙ c.in_ok-move_bits.ensures.alike.count ∙ c.unmark.ensures.count ∙ extended-count g.N.Chunks.LEN (g.M.Marks.bitmap c.args.activity.now) (g.M.Marks.bitmap c.extend_to.new.self) c.args.size c.requires.not_below c.in_ok-extend_to.ensures.ok);
  pruned = on_ok c.mark.result (c.mark.ensures.pruned ∙ c.in_ok-move_bits.ensures.alike.pruned ∙ c.unmark.ensures.pruned ∙ ap (λ (m : Bitmap). m.pruned) c.in_ok-extend_to.ensures.ok);
  active = λ from tip lead ended long is.
      let size = g.N.Chunks.LEN in
      let old = g.M.Marks.bitmap c.args.activity.now in
      let more = g.M.Marks.bitmap c.extend_to.new.self in
      let begun = g.M.Marks.bitmap c.unmark.new.self in
      let moved = g.M.Marks.bitmap c.move_bits.new.activity in
      let count = extended-count size old more c.args.size c.requires.not_below c.in_ok-extend_to.ensures.ok in
      let begun_count = c.unmark.ensures.count in
      let moved_count = c.in_ok-move_bits.ensures.alike.count in
      let has =
      bits-begun size old more begun c.args.size c.len-before.result c.saturating_sub.result from is ended c.in_ok-extend_to.ensures.ok c.len-before.ensures c.saturating_sub.ensures c.unmark.ensures.pruned c.in_ok-unmark.ensures.bits in
      let live = c.in_ok-move_bits.ensures.live from tip lead (omega (arith, count, begun_count, long)) has in
      let low = live.kept in
      let last = c.saturating_sub-2.ensures in
      on_ok_weaker c.mark.result
      (λ marks. bits-done size moved (g.M.Marks.bitmap c.mark.new.self) c.args.size c.saturating_sub-2.result tip live (omega (arith, count, begun_count, moved_count, long)) long last (λ kept. marks))
      (c.mark.ensures.bits (omega (arith, low, last, long)));
  below = on_ok c.mark.result (c.mark.ensures.below ∙ c.in_ok-move_bits.ensures.below ∙ c.unmark.ensures.below ∙ c.extend_to.ensures.below);
  err = on_err_weaker c.mark.result (λ wants. inr wants) c.mark.ensures.err;
}
