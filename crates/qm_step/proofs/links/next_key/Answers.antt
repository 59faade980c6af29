use Rattle.std.proofs.Common.{◌≡◌, true}
use Rattle.qm_step.proofs.LinksSets.{successor-all}
use Rattle.qm_step.proofs.links.next_key.Goals as goal

pub from_bytes-requires : goal.from_bytes-requires
from_bytes-requires g c = successor-all (λ b. g.K.ByteString.has b ≡ true) c.args.afters.now.entries c.as_bytes.result.now c.in-Some.next.now c.requires c.in-Some.ensures
