-- A tree of no leaves has no nodes.
use Rattle.std.specs.Prelude.{◌≡◌, refl}
use Rattle.std.specs.Int.Count.{ones, count_leading_zeros}
use Rattle.qm_model.specs.Trees.{Shape}
use Rattle.qm_model.specs.Mmr.{mmr}
use Rattle.qm_model.specs.Mmb.{mmb}

pub mmr_bare : Shape.size mmr 0 ≡ 0
unfolding ones
mmr_bare = refl

pub mmb_bare : Shape.size mmb 0 ≡ 0
unfolding count_leading_zeros
mmb_bare = refl
