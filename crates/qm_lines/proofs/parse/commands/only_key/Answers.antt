use Rattle.std.proofs.Common.{arith, refl}
use Rattle.std.proofs.lemmas.Result.{err_from_is_err_and}
use Rattle.qm_machine.specs.Lines.{Absent, All, Current, Held, Span}
use Rattle.qm_machine.specs.Grammar.{key_of, only_key}
use Rattle.qm_lines.specs.Parsed.{key_line}
use Rattle.qm_lines.proofs.Steps.{no_word, one-err, one-read, over_one}
use Rattle.qm_lines.proofs.parse.commands.only_key.Goals.{in_default-via-then-words-lt1, in_default-via-else-words-lt1+else-words-lt2}
use Rattle.qm_lines.proofs.parse.commands.only_key.Goals as goal

pub returns-in_default : goal.returns-in_default
returns-in_default c = elim c.in_default.branch [
  | in_default-via-then-words-lt1 w ↦ no_word (only_key (key_line c.args.form)) refl c.args.words.now (grind arith)
  | in_default-via-else-words-lt1+else-words-lt2 w ↦ over_one (only_key (key_line c.args.form)) (λ a b words. refl) c.args.words.now (grind arith)
]

pub returns-in_err-key : goal.returns-in_err-key
returns-in_err-key c =
    let exit = err_from_is_err_and c.from_residual.result c.from_residual.ensures.1 in
    rw (exit.1, exit.2) (one-err key_of (key_line c.args.form) (only_key (key_line c.args.form)) (λ a. refl) c.args.words.now _ c.in-len1.len_at_least c.in-len1.len_below _ c.in_err-key.ensures)

pub returns-in-Span : goal.returns-in-Span
returns-in-Span c = rw c.in-Span.is (one-read key_of Span (only_key Span) (λ a. refl) c.args.words.now _ c.in-len1.len_at_least c.in-len1.len_below _ c.in_ok-key.ensures)

pub returns-in-All : goal.returns-in-All
returns-in-All c = rw c.in-All.is (one-read key_of All (only_key All) (λ a. refl) c.args.words.now _ c.in-len1.len_at_least c.in-len1.len_below _ c.in_ok-key.ensures)

pub returns-in-Held : goal.returns-in-Held
returns-in-Held c = rw c.in-Held.is (one-read key_of (λ key. Current (Held key)) (only_key (λ key. Current (Held key))) (λ a. refl) c.args.words.now _ c.in-len1.len_at_least c.in-len1.len_below _ c.in_ok-key.ensures)

pub returns-in-Absent : goal.returns-in-Absent
returns-in-Absent c = rw c.in-Absent.is (one-read key_of (λ key. Current (Absent key)) (only_key (λ key. Current (Absent key))) (λ a. refl) c.args.words.now _ c.in-len1.len_at_least c.in-len1.len_below _ c.in_ok-key.ensures)
