use Rattle.std.proofs.Common.{◌∷◌}
use Rattle.qm_model.proofs.KeyOrder.{lt-irrefl, lt-trans, lt-total, lt-prefix}
use Rattle.qm_model.proofs.laws.keys_are_in_a_total_order.Goals as goal

pub returns-clause-irreflexive : goal.returns-clause-irreflexive
returns-clause-irreflexive c a = lt-irrefl a

pub returns-clause-transitive : goal.returns-clause-transitive
returns-clause-transitive c a b d p q = lt-trans a b d p q

pub returns-clause-total : goal.returns-clause-total
returns-clause-total c a b p q = lt-total a b p q

pub returns-clause-prefix : goal.returns-clause-prefix
returns-clause-prefix c a x xs = lt-prefix a (x ∷ xs) (λ h. absurd (cc))
