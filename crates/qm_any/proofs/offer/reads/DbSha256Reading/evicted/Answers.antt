use Rattle.std.proofs.Common.{◌∙◌, ap, map}
use Rattle.qm_base.specs.Views.{pair_view}
use Rattle.qm_model.proofs.Results.{ok-then}
use Rattle.qm_any.proofs.offer.reads.DbSha256Reading.evicted.Goals as goal

pub returns : goal.returns
returns g c =
    ok-then c.twin_pairs.result c.twin_pairs.ensures (λ pairs same.
    ap (map (pair_view g.U.Key.ByteString.bytes g.U.Value.ByteString.bytes)) same ∙ c.evicted.ensures ∙ ap (λ x. x.evicted) c.deref.ensures)
