use Rattle.std.proofs.Common.{◌∙◌, map, ◌++◌, ap, sym, append_assoc, [], ◌∷◌, subst}
use Rattle.std.proofs.lemmas.List.{append-nil}
use Rattle.qm_overlay.proofs.overlay.ChunkOverlay.chunks.Goals as goal

pub loop-at-preserved : goal.loop-at-preserved
loop-at-preserved g c =
    ap (λ f. f ++ map (λ e. e.0) c.next.new.self) c.in_ok-push.ensures.items ∙ append_assoc c.loop-at.found.items (c.in-Some.at.now ∷ []) (map (λ e. e.0) c.next.new.self)
    ∙ ap (λ es. c.loop-at.found.items ++ map (λ e. e.0) es) (sym c.in-Some.ensures.steps) ∙ c.loop-at.invariant

pub returns-clause-items : goal.returns-clause-items
returns-clause-items g c = sym (append-nil c.loop-at.found.items) ∙ ap (λ es. c.loop-at.found.items ++ map (λ e. e.0) es) (sym c.in-None.ensures.steps.0) ∙ c.loop-at.invariant
