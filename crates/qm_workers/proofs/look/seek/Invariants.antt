use Rattle.std.proofs.Common.{◌≡◌, drop}
use Rattle.qm_workers.specs.Known.{knowledge}
use Rattle.qm_workers.specs.Working.{sought}
use Rattle.qm_workers.proofs.look.seek.Given as goal

abbrev pub invariant-loop-place : goal.invariant-loop-place
invariant-loop-place g l =
    sought (knowledge g.K.ByteString.bytes l.keys) l.key 0 l.bucket ≡ sought (knowledge g.K.ByteString.bytes l.keys) l.key l.place (drop l.place l.bucket)
