use Rattle.std.proofs.Common.{◌∙◌, ◌<◌, false, ap, subst}
use Rattle.std.specs.Prelude.{slice_index_or}
use Rattle.qm_model.proofs.BitLemmas.{below_clear}
use Rattle.qm_any.proofs.laws.bits_below_the_floor_are_clear.Goals as goal

pub returns : goal.returns
returns g c layout db list i is low =
    ap (λ bs. slice_index_or bs i false) is.active ∙ below_clear list is.good i (subst (λ f. i < f) is.floor low)
