use Rattle.std.proofs.Common.{◌≡◌, map}
use Rattle.qm_base.specs.Views.{pair_view}
use Rattle.qm_any.proofs.offer.ranges.firsts.Given as goal

abbrev pub invariant-loop-key : goal.invariant-loop-key
invariant-loop-key g l = map g.K.ByteString.bytes l.keys.items ≡ map (λ p. p.0) (map (pair_view g.K.ByteString.bytes g.V.ByteString.bytes) l.yielded)
