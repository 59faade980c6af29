use Rattle.std.proofs.Common.{◌∙◌, ◌++◌, Decides, List, ℕ, Some, true, false, ap, refl, subst, sym, arith, append-nil, length}
use Rattle.std.specs.Prelude.{Contains}
use Rattle.std.proofs.lemmas.Bool.{false≢true}
use Rattle.std.proofs.lemmas.List.{take_all}
use Rattle.qm_lines.specs.Ports.{SinkState, one_more}
use Rattle.qm_lines.proofs.Causes.{calm, counted, extended, itself, took, unextended, wanting}
use Rattle.qm_lines.proofs.Failing.{Decides-failing}
use Rattle.qm_lines.proofs.memory.MemSinkSink.write.Goals as goal

pub returns-then-is_failing : goal.returns-then-is_failing
returns-then-is_failing c =
    let view = c.self.view_is in
    let decides = subst (λ (s : SinkState). Decides true (Contains s.fail s.calls)) view (Decides-failing _ _ _ (rw c.deref.ensures.value at c.if-is_failing.ensures.cases)) in
    let same = ap (λ (s : SinkState). s.text) view in
    record {
      bound = tt;
      progress = tt;
      bytes = (0, ap Some (same ∙ sym (append-nil _)));
      cause = counted _ _ _ _ (ap (λ (s : SinkState). s.faults) view) (omega arith) c.saturating_add-self-inside-then-is_failing.ensures;
      steady = λ h. absurd (h refl);
      fails = (λ e. decides.0 refl, λ w. refl);
      all = tt;
      grown = tt;
      nothing = same;
      kept = ap (λ (s : SinkState). s.fail) view;
      counted = c.saturating_add-self-inside.ensures ∙ ap (λ (s : SinkState). one_more s.calls) view;
      faulty = λ e. c.saturating_add-self-inside-then-is_failing.ensures ∙ ap (λ (s : SinkState). one_more s.faults) view;
    }

pub returns-then-is_err : goal.returns-then-is_err
returns-then-is_err c =
    let view = c.self.view_is in
    let decides = subst (λ (s : SinkState). Decides false (Contains s.fail s.calls)) view (Decides-failing _ _ _ (rw c.deref.ensures.value at c.if-is_failing.ensures.cases)) in
    let same = unextended c.extend_from_slice.result c.is_err.result c.extend_from_slice.new.self.items c.self.inside.bytes.items c.args.piece.now c.extend_from_slice.ensures.items c.is_err.ensures.value c.if-is_err.true ∙ ap (λ (s : SinkState). s.text) view in
    record {
      bound = tt;
      progress = tt;
      bytes = ap Some (same ∙ sym (append-nil _));
      cause = calm _ _ _ _ (ap (λ (s : SinkState). s.faults) view) refl wanting;
      steady = λ h. ap (λ (s : SinkState). s.faults) view;
      fails = (λ e. absurd (wanting e), λ w. absurd (false≢true (decides.1 w)));
      all = tt;
      grown = tt;
      nothing = same;
      kept = ap (λ (s : SinkState). s.fail) view;
      counted = c.saturating_add-self-inside.ensures ∙ ap (λ (s : SinkState). one_more s.calls) view;
      faulty = λ e. absurd (wanting e);
    }

pub returns : goal.returns
returns c =
    let view = c.self.view_is in
    let decides = subst (λ (s : SinkState). Decides false (Contains s.fail s.calls)) view (Decides-failing _ _ _ (rw c.deref.ensures.value at c.if-is_failing.ensures.cases)) in
    let more = extended c.extend_from_slice.result c.is_err.result c.extend_from_slice.new.self.items c.self.inside.bytes.items c.args.piece.now c.extend_from_slice.ensures.items c.is_err.ensures.value c.if-is_err.false ∙ ap (λ (s : SinkState). s.text ++ c.args.piece.now) view in
    record {
      bound = itself _;
      progress = λ h. h;
      bytes = ap Some (more ∙ ap (λ (p : List ℕ). c.args.self.now.text ++ p) (sym (take_all (length c.args.piece.now) c.args.piece.now (itself _))));
      cause = calm _ _ _ _ (ap (λ (s : SinkState). s.faults) view) refl (took _);
      steady = λ h. ap (λ (s : SinkState). s.faults) view;
      fails = (λ e. absurd (took _ e), λ w. absurd (false≢true (decides.1 w)));
      all = refl;
      grown = more;
      nothing = tt;
      kept = ap (λ (s : SinkState). s.fail) view;
      counted = c.saturating_add-self-inside.ensures ∙ ap (λ (s : SinkState). one_more s.calls) view;
      faulty = λ e. absurd (took _ e);
    }
