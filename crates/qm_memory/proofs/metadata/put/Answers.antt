use Rattle.std.proofs.Common.{◌∷◌, ◌∙◌, ap, rules}
use Rattle.std.proofs.lemmas.Fn.{filter_same}
use Rattle.qm_memory.proofs.metadata.put.Goals as goal

pub returns : goal.returns
returns c = c.in_ok-insert.ensures.items ∙ ap (λ ms. c.args.named ∷ ms) (filter_same _ _ _ (λ m b f' k. search rules) _ _ c.retain.ensures.filtered)
