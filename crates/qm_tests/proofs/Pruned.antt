-- A tree of three leaves that was pruned to two: one pin, and one node past it.
use Rattle.std.proofs.Common.{◌≡◌, ◌+◌, length, refl}
use Rattle.std.specs.Int.Count.{ones, ones_in}
use Rattle.qm_model.specs.Trees.{peaks}
use Rattle.qm_model.specs.Mmr.{mmr, size, digits_below}

pub one_pin : length (peaks mmr 2) ≡ 1
unfolding digits_below
one_pin = refl

pub one_node : size 3 ≡ size 2 + 1
unfolding ones ones_in
one_node = refl
