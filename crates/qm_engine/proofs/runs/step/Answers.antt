use Rattle.std.proofs.Common.{◌∷◌, [], ◌++◌, map, ap, ◌∙◌, refl}
use Rattle.std.proofs.lemmas.List.{map-append}
use Rattle.qm_lines.specs.Views.{answer_view}
use Rattle.qm_engine.proofs.Loops.{reply-at}
use Rattle.qm_engine.proofs.Answerings.{end-memory_not_done, end-fault_not_done, end-memory_no_fault, none-not_some, one_longer}
use Rattle.qm_engine.proofs.runs.step.Goals as goal

pub returns-in-Ok : goal.returns-in-Ok
returns-in-Ok g c =
    let view = answer_view g.X.Key.ByteString.bytes g.X.Value.ByteString.bytes g.X.Digest.Digest.bytes in
    let handles = c.turn-session.ensures.handles in
    record {
      machine = λ s k sound more rest told choices apart.
          let answered = reply-at _ c.in-Reply.is (c.turn-session.ensures.machine s k sound more rest told choices) apart in (
            rw c.in-Ok.ensures.ok (map-append view c.args.replies.now.items (c.in-Reply.reply ∷ []) ∙ ap (λ a. map view c.args.replies.now.items ++ a ∷ []) answered.0),
            answered.1,
          );
      left = c.turn-session.ensures.left;
      grown = one_longer c.args.replies.now.items c.in-Reply.reply c.in-Ok.ensures.ok;
      kept = tt;
      not_done = tt;
      ends = (handles.more, handles.beside, reply-at _ c.in-Reply.is handles.chosen);
      later = handles.later;
      fault = λ e. absurd (none-not_some _ e);
      opened = c.turn-session.ensures.opened;
    }

pub returns-in-Err : goal.returns-in-Err
returns-in-Err g c =
    let handles = c.turn-session.ensures.handles in
    record {
      machine = λ s k sound more rest told choices. tt;
      left = c.turn-session.ensures.left;
      grown = tt;
      kept = c.in-Err.ensures.err;
      not_done = end-memory_not_done;
      ends = (handles.more, handles.beside, tt);
      later = handles.later;
      fault = λ e. absurd (end-memory_no_fault e);
      opened = c.turn-session.ensures.opened;
    }

pub returns-in-Memory : goal.returns-in-Memory
returns-in-Memory g c =
    let handles = c.turn-session.ensures.handles in
    record {
      machine = λ s k sound more rest told choices. tt;
      left = c.turn-session.ensures.left;
      grown = tt;
      kept = refl;
      not_done = end-memory_not_done;
      ends = (handles.more, handles.beside, tt);
      later = handles.later;
      fault = λ e. absurd (end-memory_no_fault e);
      opened = c.turn-session.ensures.opened;
    }

pub returns-in-StoreFault : goal.returns-in-StoreFault
returns-in-StoreFault g c =
    let handles = c.turn-session.ensures.handles in
    record {
      machine = λ s k sound more rest told choices. tt;
      left = c.turn-session.ensures.left;
      grown = tt;
      kept = refl;
      not_done = end-fault_not_done;
      ends = (handles.more, handles.beside, tt);
      later = handles.later;
      fault = λ e. handles.fault c.in-StoreFault.is;
      opened = c.turn-session.ensures.opened;
    }
