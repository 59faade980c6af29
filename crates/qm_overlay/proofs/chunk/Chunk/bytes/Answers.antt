use Rattle.std.proofs.Common.{◌∙◌, ap}
use Rattle.qm_model.specs.Bits.{packed}
use Rattle.qm_overlay.proofs.Bytes.{whole_packed}
use Rattle.qm_overlay.proofs.chunk.Chunk.bytes.Goals as goal

pub returns : goal.returns
returns g c = c.deref.ensures.value ∙ whole_packed g.N.Chunks.LEN c.self.inside.bytes.items c.self.invariant ∙ ap (packed g.N.Chunks.LEN) c.self.view_is
