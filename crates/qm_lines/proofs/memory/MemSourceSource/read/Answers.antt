use Rattle.std.proofs.Common.{◌∙◌, Decides, length, min, ap, refl, subst, sym, arith}
use Rattle.std.specs.Prelude.{Contains}
use Rattle.std.proofs.lemmas.Bool.{false≢true}
use Rattle.qm_lines.specs.Ports.{SourceState, one_more}
use Rattle.qm_lines.proofs.Causes.{calm, counted}
use Rattle.qm_lines.proofs.Failing.{Decides-failing}
use Rattle.qm_lines.proofs.Fronts.{front_end, front_full, front_taken, front_within}
use Rattle.qm_lines.proofs.memory.MemSourceSource.read.Goals as goal

pub returns-then-is_failing : goal.returns-then-is_failing
returns-then-is_failing c =
    let view = c.self.view_is in
    record {
      bound = tt;
      bytes = ap (λ (s : SourceState). s.left) view;
      cause = counted _ _ _ _ (ap (λ (s : SourceState). s.faults) view) (omega arith) c.saturating_add-self-inside-then-is_failing.ensures;
      steady = tt;
      fails = subst (λ (s : SourceState). Decides _ (Contains s.fail s.calls)) view (Decides-failing _ _ _ (rw c.deref.ensures.value at c.if-is_failing.ensures.cases));
      full = tt;
      kept = ap (λ (s : SourceState). s.fail) view;
      counted = c.saturating_add-self-inside.ensures ∙ ap (λ (s : SourceState). one_more s.calls) view;
      faulty = c.saturating_add-self-inside-then-is_failing.ensures ∙ ap (λ (s : SourceState). one_more s.faults) view;
    }

pub returns : goal.returns
returns c =
    let view = c.self.view_is in
    let bytes = c.self.inside.bytes.items in
    let lent = c.deref-2.result.now in
    let at = c.self.inside.at in
    let count = c.copy_front-count.result in
    let out = c.copy_front-count.new.out in
    let same = c.deref-2.ensures.value in
    let most = c.copy_front-count.ensures.count in
    record {
      bound = front_within bytes lent at count out same most;
      bytes = (sym (ap (λ (s : SourceState). s.left) view) ∙ front_taken bytes lent at count out same most c.copy_front-count.ensures.copied, front_end bytes lent at count out same most);
      cause = calm _ _ _ _ (ap (λ (s : SourceState). s.faults) view) refl false≢true;
      steady = ap (λ (s : SourceState). s.faults) view;
      fails = subst (λ (s : SourceState). Decides _ (Contains s.fail s.calls)) view (Decides-failing _ _ _ (rw c.deref.ensures.value at c.if-is_failing.ensures.cases));
      full = front_full bytes lent at count out same most ∙ ap (λ (s : SourceState). min (length s.left) (length out)) view;
      kept = ap (λ (s : SourceState). s.fail) view;
      counted = c.saturating_add-self-inside.ensures ∙ ap (λ (s : SourceState). one_more s.calls) view;
      faulty = tt;
    }
