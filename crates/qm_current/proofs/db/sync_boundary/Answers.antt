use Rattle.std.proofs.Common.{◌∙◌, ◌*◌, ap, sym}
use Rattle.qm_graft.specs.Grafting.{grafting}
use Rattle.qm_current.proofs.Pruning.{from-chunks}
use Rattle.qm_current.proofs.db.sync_boundary.Goals as goal

pub returns : goal.returns
returns g c =
    let chunks = c.args.floor_chunks in
    record {
      exact = λ floor is.
          c.new.ensures
          ∙ c.sync_boundary.ensures.exact
          ∙ from-chunks g.F.Family.shape c.height.result (grafting g.N.Chunks.LEN) chunks (chunks * c.span.result) floor c.args.size c.height.ensures.exact (ap (λ w. chunks * w) (c.span.ensures ∙ sym c.height.ensures.span)) is;
    }
