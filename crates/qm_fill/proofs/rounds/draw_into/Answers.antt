use Rattle.std.proofs.Common.{◌≡◌, ◌<◌, ◌≢◌, ◌+◌, ◌∙◌, ap, sym, length, arith, get_or-set_other, get_or-set_same, below_more}
use Rattle.qm_fill.specs.Draws.{draw, next_draw}
use Rattle.qm_fill.proofs.Drawn.{draw_more, no_draw, drawn_by_all}
use Rattle.qm_fill.proofs.rounds.draw_into.Goals as goal

pub loop-place-init : goal.loop-place-init
loop-place-init c = (sym (no_draw c.args.before), λ k below. absurd (omega arith))

pub loop-place-preserved : goal.loop-place-preserved
loop-place-preserved c =
    let drawn : c.next_draw-last.result ≡ draw c.args.before (c.loop-place.place-index + 1) = c.next_draw-last.ensures ∙ ap next_draw c.loop-place.invariant.0 ∙ sym (draw_more c.args.before c.loop-place.place-index) in (
      drawn,
      below_more _ _
          (λ k h. let ne : k ≢ c.loop-place.place-index = omega arith in rw get_or-set_other (c.loop-place.invariant.1 k h))
          (let lt : c.loop-place.place-index < length c.loop-place.places = omega arith in rw get_or-set_same drawn),
    )

pub returns : goal.returns
returns c = drawn_by_all c.args.before _ c.loop-place.places (omega arith) (λ k below. c.loop-place.invariant.1 k (omega arith))
