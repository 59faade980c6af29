use Rattle.std.proofs.Common.{arith, refl}
use Rattle.qm_engine.proofs.Handling.{uses_line}
use Rattle.qm_engine.proofs.turns.apply_turn.Goals as goal

pub returns : goal.returns
returns g c =
    let count = c.args.session.opened in
    record {
      machine = c.apply-held.ensures.machine count;
      left = c.apply-held.ensures.left count;
      handles = uses_line _ _ _ _ _ _ (λ rest. refl) c.apply-held.ensures.uses;
      opened = omega arith;
    }
