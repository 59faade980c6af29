use Rattle.std.proofs.Common.{◌<◌, length, inl, inr, arith, subst}
use Rattle.std.specs.Prelude.{option_map}
use mathlib.Core.Logic.{dite}
use native.Mathlib.Decide.{dec_lt}
use Rattle.qm_index.specs.Partitioned.{joined_parts}
use Rattle.qm_index.specs.Ways.{Down, FirstIs}
use Rattle.qm_index.proofs.Partitions.{behind-last}
use Rattle.qm_index.proofs.Ways.{way_down, first-joined}
use Rattle.qm_index.proofs.partitioned.Index.last.Goals as goal

pub returns : goal.returns
returns g c =
    subst (λ parts. FirstIs Down (joined_parts parts) (option_map (λ b. b.now) c.last.result)) c.self.view_is
    (first-joined way_down c.self.inside.first c.self.inside.parts c.self.invariant.0.indices (λ j. j < length c.self.inside.parts) (option_map (λ b. b.now) c.last.result)
    (λ j. dite (dec_lt j (length c.self.inside.parts)) (λ low. inr low) (λ past. inl (behind-last c.self.inside.parts j (omega (arith, past)))))
    c.last.ensures)
