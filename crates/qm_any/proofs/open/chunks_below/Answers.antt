use Rattle.std.proofs.Common.{◌≤◌, subst}
use Rattle.std.specs.Prelude.{option_map}
use Rattle.qm_open.specs.Selecting.{bits_of}
use Rattle.qm_any.specs.Opening.{pruned_view}
use Rattle.qm_any.proofs.Restoring.{bits-seen}
use Rattle.qm_any.proofs.open.chunks_below.Goals as goal

pub returns-in-Some-clause-below : goal.returns-in-Some-clause-below
returns-in-Some-clause-below g c =
    bits-seen g.N.Chunks.LEN g.met.N.Chunks.power (c.in-Some.chunks, c.in-Some.field-0-1) c.args.floor (subst (λ p. bits_of (option_map (pruned_view g.N.Chunks.LEN) p) ≤ c.args.floor) c.in-Some.is c.requires)
