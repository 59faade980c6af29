use Rattle.std.proofs.Common.{◌∙◌, arith, ap, map}
use Rattle.qm_model.proofs.Results.{ok-then}
use Rattle.qm_model.specs.Grafted.{pins_from}
use Rattle.qm_model.specs.Opening.{count_in, entries_of}
use Rattle.qm_current.proofs.Lasting.{count-written}
use Rattle.qm_current.proofs.durable.counting.Goals as goal

pub returns-clause-count : goal.returns-clause-count
returns-clause-count g c =
    let pins = map g.D.Digest.bytes c.deref.result.now in
    ok-then c.entries.result c.entries.ensures.written (λ v is. ap count_in is ∙ count-written c.args.chunks (entries_of (pins_from 0 pins)) (omega (arith, c.ranges.chunks.fits)))
