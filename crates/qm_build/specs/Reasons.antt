-- Why there is no proof, whatever a store tells.
use Rattle.std.specs.Prelude.{ℕ, ◌-◌, List, [], ◌∷◌}
use Rattle.qm_model.specs.Refused.{Refused, HistoricalFloorPruned, DataCorrupted, Merkle, Journal, FloorExceedsCommit, ItemDoesNotDecode, RangeOutOfBounds, ItemPruned}

-- why there may be no proof of operations from `start` on in the first `size`
abbrev pub proof_reasons : ℕ → ℕ → List Refused
proof_reasons size start =
    Merkle (RangeOutOfBounds size) ∷ Journal (ItemPruned (size - 1)) ∷ HistoricalFloorPruned size ∷ DataCorrupted FloorExceedsCommit
    ∷ Merkle (RangeOutOfBounds start) ∷ Journal (ItemPruned start) ∷ DataCorrupted ItemDoesNotDecode ∷ []
