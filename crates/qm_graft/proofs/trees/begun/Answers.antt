use Rattle.std.proofs.Common.{◌∙◌, ◌≤◌, ◌^◌, arith, ap, length, subst, sym}
use Rattle.qm_graft.proofs.trees.begun.Goals as goal

pub from_pruned_with_retained-requires-clause-size : goal.from_pruned_with_retained-requires-clause-size
from_pruned_with_retained-requires-clause-size g c = (c.new-chunks.result, subst (λ n. n ≤ 2 ^ 62) (sym (c.new-chunks.ensures ∙ c.pruned_chunks.ensures)) c.requires.few, omega (arith, ap length c.new.ensures.items))
