use Rattle.std.proofs.Common.{◌∷◌, [], ◌++◌, ap, ◌∙◌, refl}
use Rattle.qm_machine.specs.Text.{reply_line}
use Rattle.qm_engine.proofs.Loops.{reply-at}
use Rattle.qm_engine.proofs.Answerings.{memory_cause, fault_cause, memory-no_fault, none-not_some}
use Rattle.qm_engine.proofs.answers.answer.Goals as goal

pub returns-in-Ok : goal.returns-in-Ok
returns-in-Ok g c =
    let handles = c.turn-session.ensures.handles in
    record {
      machine = λ s k sound more rest told choices apart.
          let answered = reply-at _ c.in-Reply.is (c.turn-session.ensures.machine s k sound more rest told choices) apart in
          ((rw c.in-Ok.is at c.push_line-pushed.ensures.ok) ∙ ap (λ a. c.args.text.now.items ++ (reply_line a ++ 10 ∷ [])) answered.0, answered.1);
      left = c.turn-session.ensures.left;
      kept = tt;
      cause = tt;
      ends = (handles.more, handles.beside, reply-at _ c.in-Reply.is handles.chosen);
      later = handles.later;
      fault = λ e. absurd (none-not_some _ e);
      opened = c.turn-session.ensures.opened;
    }

pub returns-in-Err : goal.returns-in-Err
returns-in-Err g c =
    let handles = c.turn-session.ensures.handles in
    record {
      machine = λ s k sound more rest told choices. tt;
      left = c.turn-session.ensures.left;
      kept = rw c.in-Err.is at c.push_line-pushed.ensures.err;
      cause = memory_cause;
      ends = (handles.more, handles.beside, tt);
      later = handles.later;
      fault = λ e. absurd (memory-no_fault e);
      opened = c.turn-session.ensures.opened;
    }

pub returns-in-Memory : goal.returns-in-Memory
returns-in-Memory g c =
    let handles = c.turn-session.ensures.handles in
    record {
      machine = λ s k sound more rest told choices. tt;
      left = c.turn-session.ensures.left;
      kept = refl;
      cause = memory_cause;
      ends = (handles.more, handles.beside, tt);
      later = handles.later;
      fault = λ e. absurd (memory-no_fault e);
      opened = c.turn-session.ensures.opened;
    }

pub returns-in-StoreFault : goal.returns-in-StoreFault
returns-in-StoreFault g c =
    let handles = c.turn-session.ensures.handles in
    record {
      machine = λ s k sound more rest told choices. tt;
      left = c.turn-session.ensures.left;
      kept = refl;
      cause = fault_cause;
      ends = (handles.more, handles.beside, tt);
      later = handles.later;
      fault = λ e. handles.fault c.in-StoreFault.is;
      opened = c.turn-session.ensures.opened;
    }
