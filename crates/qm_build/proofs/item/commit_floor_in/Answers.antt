use Rattle.std.proofs.Common.{◌∙◌, ap, sym, Some}
use Rattle.std.specs.Prelude.{option_and_then}
use Rattle.qm_model.specs.Refusals.{commit_floor}
use Rattle.qm_build.proofs.Floors.{floor-same}
use Rattle.qm_build.proofs.item.commit_floor_in.Goals as goal

pub returns-in-Some-has_floor : goal.returns-in-Some-has_floor
returns-in-Some-has_floor g c =
    ap Some c.get.ensures ∙ sym c.in-Some-has_floor.is ∙ c.has_floor.ensures ∙ floor-same _ ∙ ap (option_and_then commit_floor) (rw c.in-Some.is at c.in_ok-operation.ensures.decoded)
