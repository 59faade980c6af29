use Rattle.std.proofs.Common.{refl}
use Rattle.std.proofs.lemmas.Result.{err_from_is_err_and}
use Rattle.qm_machine.specs.Grammar.{key_of, each_key}
use Rattle.qm_lines.proofs.Readings.{each-at_err, each-at_one}
use Rattle.qm_lines.proofs.parse.keys.each_key.Goals as goal

pub returns-in_err-key : goal.returns-in_err-key
returns-in_err-key c =
    let exit = err_from_is_err_and c.from_residual.result c.from_residual.ensures.1 in
    rw (exit.1, exit.2) (each-at_err key_of each_key (λ w ws. refl) _ _ _ c.loop-word-test.true _ c.loop-word.invariant _ c.in_err-key.ensures)

pub loop-word-preserved : goal.loop-word-preserved
loop-word-preserved c = rw c.in_ok-push.ensures.items (each-at_one key_of each_key (λ w ws. refl) _ _ _ c.loop-word-test.true _ c.loop-word.invariant _ c.in_ok-key.ensures)
