use Rattle.std.proofs.Common.{◌≡◌, ◌+◌, ◌/◌, ◌%◌, ◌^◌, ◌<◌, ◌≤◌, ◌∙◌, ap, get_or, ⊎_elim, arith, rules, w64, refl}
use Rattle.std.proofs.lemmas.Bool.{cases_lt}
use Rattle.std.specs.Int.{trailing_zeros}
use Rattle.qm_bits.specs.Words.{is_set}
use Rattle.qm_bits.proofs.Places.{none_left, found_set, found_first}
use Rattle.qm_bits.proofs.words.next_set.Goals as goal

pub returns-then-rest-ne0-clause-clear : goal.returns-then-rest-ne0-clause-clear
returns-then-rest-ne0-clause-clear c = λ i from before. ⊎_elim
    (λ (old : i < c.loop-at.at). c.loop-at.invariant.1 i from old)
    (λ (new : c.loop-at.at ≤ i).
    found_first c.args.words.now c.loop-at.at (search rules) (omega arith)
    (get_or c.args.words.now (c.loop-at.at / 64) 0 / 2 ^ (c.loop-at.at % 64)) (trailing_zeros w64 (get_or c.args.words.now (c.loop-at.at / 64) 0 / 2 ^ (c.loop-at.at % 64))) refl refl i new (omega arith))
    (cases_lt i c.loop-at.at)

pub returns-then-rest-ne0-clause-set : goal.returns-then-rest-ne0-clause-set
returns-then-rest-ne0-clause-set c = λ before.
    let here : c.min.result ≡ c.loop-at.at + trailing_zeros w64 (get_or c.args.words.now (c.loop-at.at / 64) 0 / 2 ^ (c.loop-at.at % 64)) = omega arith in
    ap (is_set c.args.words.now) here
    ∙ found_set c.args.words.now c.loop-at.at (search rules) (omega arith)
    (get_or c.args.words.now (c.loop-at.at / 64) 0 / 2 ^ (c.loop-at.at % 64)) (trailing_zeros w64 (get_or c.args.words.now (c.loop-at.at / 64) 0 / 2 ^ (c.loop-at.at % 64))) refl refl

pub loop-at-preserved : goal.loop-at-preserved
loop-at-preserved c = (
  omega arith,
  λ i from before. ⊎_elim
      (λ (old : i < c.loop-at.at). c.loop-at.invariant.1 i from old)
      (λ (new : c.loop-at.at ≤ i). none_left c.args.words.now c.loop-at.at (omega arith) i new before)
      (cases_lt i c.loop-at.at),
)
