use Rattle.std.proofs.Common.{arith, ap, sym, ◌∙◌, ◌+◌, ◌*◌, ◌^◌, ◌-◌, suc}
use Rattle.qm_index.specs.Translated.{capped}
use Rattle.qm_index.proofs.Caps.{fits_after, longer, moved_up, gap}
use Rattle.qm_index.proofs.translator.capped.Goals as goal

pub overflow_mul-number : goal.overflow_mul-number
overflow_mul-number c = omega (arith, fits_after c.loop.counter c.loop.number 0 (omega (arith, c.requires, c.loop-test.true)) c.loop.invariant.1 (omega arith))

pub overflow_add-number : goal.overflow_add-number
overflow_add-number c = omega (arith, fits_after c.loop.counter c.loop.number c.first-byte.result.0 (omega (arith, c.requires, c.loop-test.true)) c.loop.invariant.1 c.first-byte.ensures.byte)

pub loop-preserved : goal.loop-preserved
loop-preserved c =
    let n = c.args.width - (c.loop.counter + 1) in (
      omega (arith, c.loop-test.true),
      longer c.loop.counter c.loop.number c.first-byte.result.0 c.loop.invariant.1 c.first-byte.ensures.byte,
      moved_up c.loop.number c.first-byte.result.0 n (capped n c.first-byte.result.1.now)
          ∙ ap (λ rest. c.loop.number * 256 ^ suc n + rest) (sym (c.first-byte.ensures.split n))
          ∙ ap (λ places. c.loop.number * 256 ^ places + capped places c.loop.rest.now) (gap c.args.width c.loop.counter c.loop-test.true)
          ∙ c.loop.invariant.2,
    )
