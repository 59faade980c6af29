use Rattle.std.proofs.Common.{of_calls, sym, subst}
use Rattle.std.specs.List.{FoldsTo}
use Rattle.std.specs.Fn.{CalledAt}
use Rattle.qm_index.proofs.unordered.show.Goals as goal

pub loop-value-preserved : goal.loop-value-preserved
loop-value-preserved g c = (
  (search of_calls parts 8),
  λ last later. c.loop-value.invariant.1 last (subst (λ xs. FoldsTo (λ p x q. CalledAt g.F.FnMut p x tt q) c.loop-value.visit xs last) (sym c.in-Some.ensures.cases.0)
      (c.visit.new.self, (search of_calls parts 8), later)),
)
