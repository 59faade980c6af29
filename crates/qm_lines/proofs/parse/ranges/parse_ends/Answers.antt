use Rattle.std.proofs.Common.{arith, refl}
use Rattle.std.proofs.lemmas.Result.{err_from_is_err_and}
use Rattle.qm_machine.specs.Grammar.{low_of, high_of, range_of}
use Rattle.qm_lines.proofs.Steps.{few_words, over_two, two-first_err, two-second_err, two-read}
use Rattle.qm_lines.proofs.parse.ranges.parse_ends.Goals.{in_default-via-then-words-lt2, in_default-via-else-words-lt2+else-words-lt3}
use Rattle.qm_lines.proofs.parse.ranges.parse_ends.Goals as goal

pub returns-in_err-low : goal.returns-in_err-low
returns-in_err-low c = λ line.
    let exit = err_from_is_err_and c.from_residual.result c.from_residual.ensures.1 in
    rw (exit.1, exit.2) (two-first_err low_of high_of line (range_of line) (λ a b. refl) c.args.words.now _ c.in-len2.len_at_least c.in-len2.len_below _ c.in_err-low.ensures)

pub returns-in_err-high : goal.returns-in_err-high
returns-in_err-high c = λ line.
    let exit = err_from_is_err_and c.from_residual-in_err-high.result c.from_residual-in_err-high.ensures.1 in
    rw (exit.1, exit.2) (two-second_err low_of high_of line (range_of line) (λ a b. refl) c.args.words.now _ c.in-len2.len_at_least c.in-len2.len_below _ c.in_ok-low.ensures _ c.in_err-high.ensures)

pub returns : goal.returns
returns c = λ line.
    two-read low_of high_of line (range_of line) (λ a b. refl) c.args.words.now _ c.in-len2.len_at_least c.in-len2.len_below _ c.in_ok-low.ensures _ c.in_ok-high.ensures

pub returns-in_default : goal.returns-in_default
returns-in_default c = λ line. elim c.in_default.branch [
  | in_default-via-then-words-lt2 w ↦ few_words (range_of line) refl (λ a. refl) c.args.words.now (grind arith)
  | in_default-via-else-words-lt2+else-words-lt3 w ↦ over_two (range_of line) (λ a b c words. refl) c.args.words.now (grind arith)
]
