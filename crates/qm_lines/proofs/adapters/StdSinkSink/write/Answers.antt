use Rattle.std.proofs.Common.{◌∙◌, ap, refl, subst, [], take, arith}
use Rattle.qm_model.specs.Causes.{Grows}
use Rattle.qm_lines.specs.Ports.{Counted}
use Rattle.qm_lines.proofs.Causes.{appended, calm, counted, kept, some_empty, took}
use Rattle.qm_lines.proofs.adapters.StdSinkSink.write.Goals.{then-count-gt0, else-count-gt0, in_default-via-in-Ok+else-is_empty, in_default-via-in_default}
use Rattle.qm_lines.proofs.adapters.StdSinkSink.write.Goals as goal

pub returns-in-Ok : goal.returns-in-Ok
returns-in-Ok g c = record {
  bound = c.in-Ok.ensures.bound;
  progress = λ more. elim c.if-count-gt0.branch [
    | then-count-gt0 w ↦ w.if-count-gt0.true
    | else-count-gt0 w ↦ absurd (some_empty _ c.if-count-gt0.value more (w.value-is ∙ w.is_empty.ensures) c.if-is_empty.true)
  ];
  bytes = subst (λ (s : Counted _). Grows (g.W.Write.contents s.inner) (g.W.Write.contents c.write_on.new.inner) (take c.in-Ok.count c.args.piece.now)) c.self.view_is (appended _ _ _ c.in-Ok.ensures.bytes);
  cause = calm _ _ _ _ (ap (λ (s : Counted _). s.faults) c.self.view_is) refl (took _);
  steady = λ h. ap (λ (s : Counted _). s.faults) c.self.view_is;
}

pub returns-in_default : goal.returns-in_default
returns-in_default g c = record {
  bound = tt;
  progress = tt;
  bytes = elim c.in_default.branch [
    | in_default-via-in-Ok+else-is_empty w ↦ (w.in-Ok.count, subst (λ (s : Counted _). Grows (g.W.Write.contents s.inner) (g.W.Write.contents c.write_on.new.inner) (take w.in-Ok.count c.args.piece.now)) c.self.view_is (appended _ _ _ w.in-Ok.ensures.bytes))
    | in_default-via-in_default w ↦ (0, subst (λ (s : Counted _). Grows (g.W.Write.contents s.inner) (g.W.Write.contents c.write_on.new.inner) []) c.self.view_is (kept _ _ w.in_default.ensures.bytes))
  ];
  cause = counted _ _ _ _ (ap (λ (s : Counted _). s.faults) c.self.view_is) (omega arith) c.saturating_add-self-inside.ensures;
  steady = λ h. absurd (h refl);
}
