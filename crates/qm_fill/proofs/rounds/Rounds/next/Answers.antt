use Rattle.std.proofs.Common.{◌∙◌, ap}
use Rattle.qm_fill.specs.Draws.{draw}
use Rattle.qm_fill.proofs.Drawn.{draw-round, last-draws}
use Rattle.qm_fill.proofs.rounds.Rounds.next.Goals as goal

pub invariant_of-self : goal.invariant_of-self
invariant_of-self c =
    rw c.eight_draws-draws.ensures (last-draws c.self.inside.last ∙ ap (λ x. draw x 8) c.self.invariant ∙ draw-round c.self.inside.seed c.self.inside.given)
