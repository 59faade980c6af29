use Rattle.std.proofs.Common.{[], ◌∷◌, refl}
use Rattle.std.proofs.lemmas.List.{map-append}
use Rattle.std.proofs.lemmas.Result.{err_from_is_err_and}
use Rattle.qm_machine.specs.Grammar.{write_of, each_write}
use Rattle.qm_lines.specs.Parsed.{byte_write}
use Rattle.qm_lines.proofs.Readings.{each-at_err, each-at_one}
use Rattle.qm_lines.proofs.parse.staged.writes.Goals as goal

pub returns-in_err-write : goal.returns-in_err-write
returns-in_err-write c =
    let exit = err_from_is_err_and c.from_residual.result c.from_residual.ensures.1 in
    rw (exit.1, exit.2) (each-at_err write_of each_write (λ w ws. refl) _ _ _ c.loop-word-test.true _ c.loop-word.invariant _ c.in_err-write.ensures)

pub loop-word-preserved : goal.loop-word-preserved
loop-word-preserved c =
    rw c.in_ok-push.ensures.items (rw (map-append byte_write c.loop-word.writes.items (c.in_ok-write.field-0 ∷ []))
    (each-at_one write_of each_write (λ w ws. refl) _ _ _ c.loop-word-test.true _ c.loop-word.invariant (byte_write c.in_ok-write.field-0) c.in_ok-write.ensures))
