use Rattle.qm_fill.proofs.Parts.{state_after-append, answers-append, exchanges-append}
use Rattle.qm_fill.proofs.laws.a_run_is_the_runs_of_its_parts.Goals as goal

pub returns : goal.returns
returns g c = record {
  state = λ m rules s a b. state_after-append m rules s a b;
  replies = λ m rules s a b. answers-append m rules s a b;
  beside = λ m rules s a b. exchanges-append m rules s a b;
}
