use Rattle.std.proofs.Common.{◌∙◌, ◌∷◌, [], ap, length, None, length-append, get_or, arith}
use Rattle.qm_build.proofs.Caching.{none-push}
use Rattle.qm_build.proofs.cache.empty.Goals as goal

pub loop-preserved : goal.loop-preserved
loop-preserved g c = (
  omega (arith, ap length c.in_ok-push.ensures.items, length-append c.loop.slots.items (None ∷ []), c.loop.invariant.0),
  λ i. ap (λ slots. get_or slots i None) c.in_ok-push.ensures.items ∙ none-push c.loop.slots.items c.loop.invariant.1 i,
)
