-- What a tree in memory holds, and the leaves that it stands for.
use Rattle.std.specs.Prelude.{◌≡◌, ◌⊎◌, ◌≤◌, ◌<◌, ℕ, suc, ◌+◌, ◌-◌, ◌*◌, ◌^◌, ◌==◌, List, [], ◌∷◌, ◌++◌, length, map, Option, Some, None, option_map, slice_get, Contains, min, nat_le, if◌then◌else◌}
use Rattle.qm_model.specs.Operations.{Bytes}
use Rattle.qm_model.specs.Trees.{Shape, Node, peaks, peak_positions, digest_of}
use Rattle.qm_model.specs.Families.{Births}

-- a tree that forgot its first leaves: how many, how many it has with them, the digests of the peaks over the forgotten ones, and the nodes after these
pub record Kept (D : Type 0) : Type 0 where
  pub start : ℕ
  pub leaves : ℕ
  pub pins : List D
  pub nodes : List D

-- the digest that goes with a position, if it is one of these
abbrev pub pin_at : {D : Type 0} → List ℕ → List D → ℕ → Option D
pin_at [] pins p = None
pin_at (q ∷ qs) [] p = None
pin_at (q ∷ qs) (d ∷ ds) p = if q == p then Some d else pin_at qs ds p

-- the digest that the tree holds of the node at a position
abbrev pub node_at : {D : Type 0} → Shape → Kept D → ℕ → Option D
node_at shape kept p = if nat_le (shape.size kept.start) p then slice_get kept.nodes (p - shape.size kept.start) else pin_at (peak_positions shape kept.start) kept.pins p

-- as many pins and nodes as the tree has to hold
pub record IsWhole {D : Type 0} (shape : Shape) (kept : Kept D) : Type 0 where
  pub order : kept.start ≤ kept.leaves
  pub few : kept.leaves ≤ 2 ^ 62
  pub pinned : length kept.pins ≡ length (peaks shape kept.start)
  pub full : shape.size kept.start + length kept.nodes ≡ shape.size kept.leaves

-- the tree holds the node at a position: a pin's, or one past the size at the kept start
abbrev pub Holds : {D : Type 0} → Shape → Kept D → ℕ → Type 0
Holds shape kept p = Contains (peak_positions shape kept.start) p ⊎ ((shape.size kept.start ≤ p) × (p < shape.size kept.leaves))

-- there is this digest
abbrev pub Gives : {D : Type 0} → (D → Bytes) → Option D → Bytes → Type 0
Gives bytes found digest = option_map bytes found ≡ Some digest

-- the tree stands for these leaves' digests: it has as many, the pins are the digests of the peaks over the forgotten ones, and each node born since then has its digest
pub record Stands {D : Type 0} (shape : Shape) (bytes : D → Bytes) (hash : Bytes → Bytes) (kept : Kept D) (leaves : List Bytes) : Type 0 where
  pub count : kept.leaves ≡ length leaves
  pub pins : map bytes kept.pins ≡ map (digest_of hash shape leaves) (peaks shape kept.start)
  pub nodes : (x : Node) → kept.start < shape.birth x → shape.birth x ≤ kept.leaves → Gives bytes (node_at shape kept (shape.position x)) (digest_of hash shape leaves x)

-- the tree with the nodes that one more leaf brings
abbrev pub grown : {D : Type 0} → Kept D → List D → Kept D
grown kept made = record kept { leaves = suc kept.leaves; nodes = kept.nodes ++ made }

-- these are the digests of nodes that one more leaf brings to n leaves
abbrev pub AreBorn : {D : Type 0} → Shape → Births → (D → Bytes) → (Bytes → Bytes) → ℕ → List Bytes → List D → Type 0
AreBorn shape births bytes hash n leaves made = (k : ℕ) → k < length made → Gives bytes (slice_get made k) (digest_of hash shape leaves (births.born n k))

-- the two nodes under a node
abbrev pub left_of : Node → Node
left_of node = record { height = node.height - 1; index = 2 * node.index }

abbrev pub right_of : Node → Node
right_of node = record { height = node.height - 1; index = 2 * node.index + 1 }

-- a count that rose by n, or as far as its last value
abbrev pub more : ℕ → ℕ → ℕ
more count n = count + min n (2 ^ 64 - 1 - count)
