use Rattle.std.proofs.Common.{ℕ, Vec, Global, ap, map}
use Rattle.qm_step.specs.Views.{write_view}
use Rattle.qm_step.proofs.WritesByKey.{places-none}
use Rattle.qm_batch.proofs.writes.Writes.new.Goals as goal

pub invariant_of-result : goal.invariant_of-result
invariant_of-result g c =
    let view = write_view g.K.ByteString.bytes g.V.ByteString.bytes in
    places-none (λ (v : Vec ℕ Global). v.items) c.new-2.result.entries (map view c.new.result.items) c.new-2.ensures.empty (ap (map view) c.new.ensures.items)
