use Rattle.std.proofs.Common.{[], ◌∷◌, arith, length-append, refl}
use Rattle.std.proofs.lemmas.List.{map-append}
use Rattle.qm_lines.specs.Parsed.{byte_slot}
use Rattle.qm_lines.proofs.Resolutions.{slots-at_end, slots-at_other, slots-at_slot}
use Rattle.qm_lines.proofs.parse.staged.slots.Goals.{else-loop-word-test, then-loop-word-test+in-Err-Malformed}
use Rattle.qm_lines.proofs.parse.staged.slots.Goals as goal

pub loop-word-preserved : goal.loop-word-preserved
loop-word-preserved c = record {
  one_each = rw c.in_ok-push-in-Ok.ensures.items (omega (arith, length-append c.loop-word.slots.items (c.in-Ok.slot ∷ []), c.loop-word.invariant.one_each));
  so_far = rw c.in_ok-push-in-Ok.ensures.items (rw (map-append byte_slot c.loop-word.slots.items (c.in-Ok.slot ∷ []))
      (slots-at_slot _ _ _ c.loop-word.invariant.so_far _ c.loop-word-test.true _ c.in-Ok.ensures (byte_slot c.in-Ok.slot) refl));
}

pub returns-clause-slots : goal.returns-clause-slots
returns-clause-slots c = rw c.loop-word.invariant.one_each (elim c.loop-word-test.branch [
  | else-loop-word-test w ↦ slots-at_end _ _ _ c.loop-word.invariant.so_far w.loop-word-test.false
  | then-loop-word-test+in-Err-Malformed w ↦ slots-at_other _ _ _ c.loop-word.invariant.so_far _ w.loop-word-test.true _ (rw w.in-Err-Malformed.field-0-is at w.in-Err-Malformed.ensures) refl
])
