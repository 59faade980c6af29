use Rattle.std.proofs.Common.{◌∙◌, ap₂}
use Rattle.qm_model.proofs.Results.{ok-then}
use Rattle.qm_model.specs.RangeProofs.{chunks_of}
use Rattle.qm_graft.specs.Grafting.{grafting}
use Rattle.qm_graft.proofs.Fitting.{grafting-span}
use Rattle.qm_makers.proofs.Chunking.{chunks_are}
use Rattle.qm_makers.proofs.parts.Parts.chunks.Goals as goal

pub returns : goal.returns
returns g c = λ list same.
    let size = g.N.Chunks.LEN in
    let power = g.met.N.Chunks.power in
    ok-then c.chunks_between.result c.chunks_between.ensures
    (λ v is. is ∙ chunks_are (grafting size) size c.args.self.now.bits.now list (grafting-span size power.0 power.1) same c.get.result c.get-2.result
    ∙ ap₂ (chunks_of (grafting size) list) c.get.ensures c.get-2.ensures)
