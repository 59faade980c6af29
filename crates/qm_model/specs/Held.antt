-- Which nodes of its tree a database holds, and what is refused if one is not held.
use Rattle.std.specs.Prelude.{ℕ, ◌==◌, ◌&&◌, ◌||◌, nat_le, nat_lt, Bool, not, List, ◌++◌, length, map, find, Option, option_map}
use Rattle.std.specs.List.{list_any}
use Rattle.std.specs.Option.{option_or}
use Rattle.qm_model.specs.Operations.{Operation}
use Rattle.qm_model.specs.Trees.{Shape, peak_positions}
use Rattle.qm_model.specs.Proofs.{needed_of}
use Rattle.qm_model.specs.Batches.{Chain, boundary_list}
use Rattle.qm_model.specs.Refused.{Refused, Merkle, ElementPruned}
use Rattle.qm_model.specs.Refusals.{pins_refusal}

-- a tree whose nodes come with its leaves from one size to another has the one at a position
abbrev pub is_between : Shape → ℕ → ℕ → ℕ → Bool
is_between shape start size position = nat_le (shape.size start) position && nat_lt position (shape.size size)

-- a tree of so many leaves that forgot those before its start holds it: it came after these, or is a peak over them
abbrev pub is_held : Shape → ℕ → ℕ → ℕ → Bool
is_held shape start size position = is_between shape start size position || list_any (λ p. p == position) (peak_positions shape start)

-- the first of the positions that is not held
abbrev pub first_pruned : (ℕ → Bool) → List ℕ → Option Refused
first_pruned is_held positions = option_map (λ p. Merkle (ElementPruned p)) (find (λ p. not (is_held p)) positions)

-- why a database whose store starts there gives no pins at n: they are past its list, or not held
abbrev pub pins_lacked : Shape → ℕ → List Operation → ℕ → Option Refused
pins_lacked shape start list n = option_or (pins_refusal list n) (first_pruned (is_held shape start (length list)) (peak_positions shape n))

-- where the nodes stand that the proof of a batch's own operations lists, and after these the pins at its base
abbrev pub proof_positions : Shape → Chain → List Operation → List ℕ
proof_positions shape chain tip = map shape.position (needed_of shape (length tip) (length chain.base) (length tip)) ++ peak_positions shape (length chain.base)

-- why such a database does not give both: one is neither held nor comes with the operations that the batch has, those from its
-- boundary up to its tip
abbrev pub proof_lacked : Shape → ℕ → List Operation → Chain → List Operation → Option Refused
proof_lacked shape start list chain tip =
    first_pruned (λ p. is_held shape start (length list) p || is_between shape (length (boundary_list chain)) (length tip) p) (proof_positions shape chain tip)
