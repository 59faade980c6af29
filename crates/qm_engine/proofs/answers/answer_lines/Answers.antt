use Rattle.std.proofs.Common.{◌≡◌, ◌+◌, ◌++◌, [], arith, refl, sym, ◌∙◌, ap, subst, Some, take, append_assoc, append-nil}
use Rattle.qm_model.specs.Batches.{Apart}
use Rattle.qm_model.specs.Own.{IsKept}
use Rattle.qm_model.specs.Policies.{policies}
use Rattle.qm_machine.specs.Grammar.{line_of, commands_in}
use Rattle.qm_machine.specs.Machine.{initial, answers}
use Rattle.qm_model.specs.Schemes.{chunks_of, engine_of}
use Rattle.qm_machine.specs.Text.{text_of}
use Rattle.qm_machine.proofs.Sounds.{kept-low, sound-steady}
use Rattle.qm_lines.proofs.Inputs.{at_start, at_end, at_bad}
use Rattle.qm_store.specs.Given.{store_given}
use Rattle.qm_engine.specs.Stores.{HasLog}
use Rattle.qm_engine.specs.Runs.{after}
use Rattle.qm_engine.specs.Answered.{IsAnswered}
use Rattle.qm_engine.proofs.LastingStores.{turns-looser, turns-same, turns-through}
use Rattle.qm_engine.specs.Parts.{Between}
use Rattle.qm_engine.proofs.Loops.{ended-at, none-at, each, log-of, begins-between, none-more, more-parts, Rose-wider}
use Rattle.qm_engine.proofs.Owned.{own-of}
use Rattle.qm_engine.proofs.Answerings.{at_next, at_short, at_destroy, line_step, line_goes, line-own, answered_in, answered_at, memory_cause, memory-not_fault, done-not_bad, done-not_fault}
use Rattle.qm_engine.proofs.answers.answer_lines.Goals as goal

pub loop-line-init : goal.loop-line-init
loop-line-init g c =
    let m = g.X.Meaning.scheme in
    let lines = commands_in c.args.input.now in
    let same = ap g.C.Store.told c.in-Ok.ensures.store in
    record {
      at = at_start c.args.input.now;
      room = omega arith;
      opened = omega (arith, c.in-Ok.ensures.opened);
      ends = ([], turns-same _ (chunks_of g.X.Meaning.scheme) (g.C.Store.told c.args.store) _ same);
      later = omega (arith, ap g.C.Store.faults c.in-Ok.ensures.store);
      machine = λ stored log is own more rest told.
          subst (λ xs. Apart m.root (after m policies log (xs ++ rest) lines 0).had → (c.new-text.result.items ≡ text_of (answers m policies (initial log (xs ++ rest)) (take 0 lines))) × Between g.C.Store g.X.Meaning policies c.in-Ok.session rest (after m policies log (xs ++ rest) lines 0))
          (sym (none-more (chunks_of g.X.Meaning.scheme) (g.C.Store.told c.args.store) _ stored more is same told))
          (λ apart. (c.new-text.ensures.items, begins-between g.C.Store g.X.Meaning policies c.in-Ok.session log rest (c.in-Ok.ensures.session log rest (log-of m policies (g.C.Store.told c.args.store) stored log is own) (kept-low m policies log own.kept) own.kept.stable) own.kept));
    }

pub returns-in-Err : goal.returns-in-Err
returns-in-Err g c = record {
  machine = each (g.C.Store.told c.args.store) (λ stored is log own choices told.
      answered_at g.X.Meaning.scheme log choices c.args.input.now 0 c.new-text.result.items _ (omega arith)
      (λ apart. (c.new-text.ensures.items, log-of g.X.Meaning.scheme policies _ stored log (ap g.C.Store.told c.in-Err.ensures.back ∙ is) own, own.kept)));
  done = λ e. absurd (memory_cause.0 e);
  bad = λ e. absurd (memory_cause.1 e);
  short = λ e. absurd (memory-not_fault e);
  ends = ([], turns-same _ (chunks_of g.X.Meaning.scheme) (g.C.Store.told c.args.store) _ (ap g.C.Store.told c.in-Err.ensures.back));
  bound = omega arith;
  later = omega (arith, ap g.C.Store.faults c.in-Err.ensures.back);
  fault = λ e. absurd (memory-not_fault e);
}

pub returns-in-Some-ended : goal.returns-in-Some-ended
returns-in-Some-ended g c =
    let m = g.X.Meaning.scheme in
    let kept : c.answer_line-next.new.text.items ≡ c.loop-line.text.items = ended-at _ c.in-Some-ended.is c.answer_line-next.ensures.kept in
    let before = c.loop-line.invariant.ends in
    let behind = c.answer_line-next.ensures.ends in
    record {
      machine = each (g.C.Store.told c.args.store) (λ stored is log own choices told.
          rw (kept, c.returned.ensures.store) (subst (λ xs. IsAnswered m policies log xs (commands_in c.args.input.now) c.loop-line.answered c.loop-line.text.items (g.C.Store.told (store_given g.X.Meaning.inside c.answer_line-next.result.0.held)))
          (sym (more-parts _ _ (chunks_of g.X.Meaning.scheme) (g.C.Store.told c.args.store) _ _ stored before.0 behind.0 choices is before.1 behind.1 (rw c.returned.ensures.store at told)))
          (answered_in c.args.input.now c.loop-line.rest.now c.in-Some.line.now c.in-Some.behind.now c.loop-line.answered c.loop-line.invariant.at c.in-Some.ensures.some
          m log (before.0 ++ behind.0) c.loop-line.text.items _
          (λ s. Between g.C.Store g.X.Meaning policies c.loop-line.session behind.0 s)
          (c.loop-line.invariant.machine stored log is own before.0 behind.0 (turns-looser (chunks_of g.X.Meaning.scheme) before.0 (g.C.Store.told c.args.store) _ (λ destroyed. tt) before.1))
          (λ s between none. own-of m policies _ s.log (rw (sym (c.answer_line-next.ensures.unused none)) at between.stands.store.told) between.sound.kept)
          (λ s between apart. line-own g.C.Store g.X.Meaning g.met.X.Common.bounds c.loop-line.session behind.0 (line_of c.in-Some.line.now) _ s (rw c.returned.ensures.store at c.returned.ensures.stable) between apart
          (c.answer_line-next.ensures.left s between.stands (sound-steady m policies g.met.X.Common.bounds s between.sound) apart)))));
      done = λ e. absurd (ended-at _ c.in-Some-ended.is c.answer_line-next.ensures.not_done e);
      bad = λ e.
          at_bad c.args.input.now c.loop-line.rest.now c.in-Some.line.now c.in-Some.behind.now c.loop-line.answered c.loop-line.invariant.at c.in-Some.ensures.some
          (c.answer_line-next.ensures.bad (c.in-Some-ended.is ∙ ap Some e));
      short = λ e.
          at_short c.args.input.now c.loop-line.rest.now c.in-Some.line.now c.in-Some.behind.now c.loop-line.answered c.loop-line.invariant.at c.in-Some.ensures.some
          (line_of c.in-Some.line.now) refl (c.answer_line-next.ensures.fault_command (c.in-Some-ended.is ∙ ap Some e));
      ends = rw c.returned.ensures.store (
        before.0 ++ behind.0,
        turns-through (chunks_of g.X.Meaning.scheme) before.0 behind.0 (g.C.Store.told c.args.store) _ _ (λ among. among)
            (at_destroy c.args.input.now c.loop-line.rest.now c.in-Some.line.now c.in-Some.behind.now c.loop-line.answered c.loop-line.invariant.at c.in-Some.ensures.some) before.1 behind.1,
      );
      bound = omega (arith, c.loop-line.invariant.room);
      later = rw c.returned.ensures.store (omega (arith, c.loop-line.invariant.later, c.answer_line-next.ensures.later));
      fault = λ e.
          let rose = c.answer_line-next.ensures.fault (c.in-Some-ended.is ∙ ap Some e) in
          rw c.returned.ensures.store (Rose-wider _ _ _ _ c.loop-line.invariant.later rose (omega arith));
    }

pub loop-line-preserved : goal.loop-line-preserved
loop-line-preserved g c =
    let m = g.X.Meaning.scheme in
    let lines = commands_in c.args.input.now in
    let k = c.loop-line.answered in
    let some = none-at _ c.in_default-ended.is c.answer_line-next.ensures.command in
    let before = c.loop-line.invariant.ends in
    let behind = c.answer_line-next.ensures.ends in
    record {
      at = at_next c.args.input.now c.loop-line.rest.now c.in-Some.line.now c.in-Some.behind.now k c.loop-line.invariant.at c.in-Some.ensures.some (line_of c.in-Some.line.now) refl some;
      room = omega (arith, c.in-Some.ensures.shorter);
      opened = omega arith;
      later = omega arith;
      ends = (
        before.0 ++ behind.0,
        turns-through (chunks_of g.X.Meaning.scheme) before.0 behind.0 (g.C.Store.told c.args.store) _ _ (λ among. among)
            (at_destroy c.args.input.now c.loop-line.rest.now c.in-Some.line.now c.in-Some.behind.now c.loop-line.answered c.loop-line.invariant.at c.in-Some.ensures.some) before.1 behind.1,
      );
      machine = λ stored log is own more rest told.
          subst (λ xs. Apart m.root (after m policies log xs lines (k + 1)).had → (c.answer_line-next.new.text.items ≡ text_of (answers m policies (initial log xs) (take (k + 1) lines))) × Between g.C.Store g.X.Meaning policies c.answer_line-next.result.0 rest (after m policies log xs lines (k + 1)))
          (sym (ap (λ xs. xs ++ rest) (more-parts _ _ (chunks_of g.X.Meaning.scheme) (g.C.Store.told c.args.store) _ _ stored before.0 behind.0 more is before.1 behind.1 told) ∙ append_assoc before.0 behind.0 rest))
          (line_step c.args.input.now c.loop-line.rest.now c.in-Some.line.now c.in-Some.behind.now k c.loop-line.invariant.at c.in-Some.ensures.some
          m log (before.0 ++ (behind.0 ++ rest)) (line_of c.in-Some.line.now) refl some c.loop-line.text.items c.answer_line-next.new.text.items
          (λ s. Between g.C.Store g.X.Meaning policies c.loop-line.session (behind.0 ++ rest) s)
          (λ s. Between g.C.Store g.X.Meaning policies c.answer_line-next.result.0 rest s)
          (c.loop-line.invariant.machine stored log is own before.0 (behind.0 ++ rest) (turns-looser (chunks_of g.X.Meaning.scheme) before.0 (g.C.Store.told c.args.store) _ (λ destroyed. tt) before.1))
          (line_goes g.C.Store g.X.Meaning g.met.X.Common.bounds c.loop-line.session c.answer_line-next.result.0 behind.0 rest c.loop-line.text.items c.answer_line-next.new.text.items (line_of c.in-Some.line.now) (none-at _ c.in_default-ended.is behind.2)
          (λ s stands steady choices. none-at _ c.in_default-ended.is (c.answer_line-next.ensures.machine s stands steady behind.0 rest (turns-looser (chunks_of g.X.Meaning.scheme) behind.0 _ _ (λ destroyed. tt) behind.1) choices))));
    }

pub returns : goal.returns
returns g c =
    let m = g.X.Meaning.scheme in
    let lines = commands_in c.args.input.now in
    let k = c.loop-line.answered in
    record {
      machine = each (g.C.Store.told c.args.store) (λ stored is log own choices told.
          rw c.returned-2.ensures.store (answered_at m log choices c.args.input.now k c.loop-line.text.items _ c.loop-line.invariant.at.few
          (subst (λ xs. Apart m.root (after m policies log xs lines k).had → (c.loop-line.text.items ≡ text_of (answers m policies (initial log xs) (take k lines))) × HasLog m (g.C.Store.told (store_given g.X.Meaning.inside c.loop-line.session.held)) (after m policies log xs lines k).log × IsKept (engine_of m policies) (after m policies log xs lines k).log) (append-nil choices)
          (λ apart. let at_end = c.loop-line.invariant.machine stored log is own choices [] (rw c.returned-2.ensures.store at told) apart in (at_end.0, (at_end.1).stands.store.told, (at_end.1).sound.kept)))));
      done = λ e. at_end c.args.input.now c.loop-line.rest.now c.loop-line.answered c.loop-line.invariant.at c.in_default.ensures.none;
      bad = λ e. absurd (done-not_bad e);
      short = λ e. absurd (done-not_fault e);
      ends = rw c.returned-2.ensures.store c.loop-line.invariant.ends;
      bound = omega (arith, c.loop-line.invariant.room);
      later = rw c.returned-2.ensures.store c.loop-line.invariant.later;
      fault = λ e. absurd (done-not_fault e);
    }
