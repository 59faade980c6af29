-- A tree of operations and the grafted tree over it, as one.
use Rattle.std.specs.Prelude.{◌≡◌, ◌-◌, ◌≤◌, ℕ, zero, suc, nat_lt, nat_le, if◌then◌else◌, List, length, All, Option, None, IsSome, IfSome}
use Rattle.qm_model.specs.Operations.{Bytes}
use Rattle.qm_model.specs.Trees.{Node, Shape, peaks, peak_positions}
use Rattle.qm_model.specs.Families.{Births}
use Rattle.qm_model.specs.Grafted.{lowered, grafted_value}

-- both trees, and how many leaves the one of operations has
pub record Both (O G : Type 0) : Type 0 where
  pub operations : O
  pub grafted : G
  pub leaves : ℕ

-- a node that a tree of so many leaves has stands there
abbrev pub Stands : Shape → ℕ → ℕ → Node → Type 0
Stands shape leaves at x = (shape.position x ≡ at) × (shape.birth x ≤ leaves)

-- the last of so many leaves that stands at a position or before it
abbrev pub leaf_before : Shape → ℕ → ℕ → ℕ
leaf_before shape zero at = 0
leaf_before shape (suc n) at = if nat_le (shape.size n) at then n else leaf_before shape n at

-- the node that stands at a position: one of those that are born with that leaf
abbrev pub node_there : Shape → Births → ℕ → ℕ → Node
node_there shape births leaves at = births.born (leaf_before shape leaves at) (at - shape.size (leaf_before shape leaves at))

-- what is held of a node: by the tree of operations below a height, and by the grafted tree from there on
abbrev pub held_of : {D : Type 0} → Shape → (ℕ → Option D) → (ℕ → Option D) → ℕ → Node → Option D
held_of shape operations grafted g x = if nat_lt x.height g then operations (shape.position x) else grafted (shape.position (lowered g x))

-- what is held at a position of a tree of so many leaves
abbrev pub held_at : {D : Type 0} → Shape → Births → (ℕ → Option D) → (ℕ → Option D) → ℕ → ℕ → ℕ → Option D
held_at shape births operations grafted leaves g at = if nat_lt at (shape.size leaves) then held_of shape operations grafted g (node_there shape births leaves at) else None

-- a view of both trees holds the peaks over so many leaves
abbrev pub HoldsPeaks : {D : Type 0} → (ℕ → Option D) → Shape → ℕ → Type 0
HoldsPeaks held shape leaves = All (λ p. IsSome (held p)) (peak_positions shape leaves)

-- and what it holds of them are their grafted values over these leaves' digests and chunks
abbrev pub TellsPeaks : {D : Type 0} → (D → Bytes) → (Bytes → Bytes) → (ℕ → Option D) → Shape → ℕ → List Bytes → (ℕ → Bytes) → Type 0
TellsPeaks bytes hash held shape g leaves chunks = All (λ x. IfSome (held (shape.position x)) (λ d. bytes d ≡ grafted_value hash shape g leaves chunks x)) (peaks shape (length leaves))
