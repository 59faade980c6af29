-- The trees that batches keep, and the lists of items that these lead through.
use Rattle.std.specs.Prelude.{◌≡◌, ◌≤◌, ◌<◌, ℕ, List, [], ◌∷◌, length, All, Contains, Option, Some, None, IsSome}
use Rattle.std.specs.Option.{option_or}
use Rattle.qm_model.specs.Operations.{Bytes}
use Rattle.qm_model.specs.Trees.{Shape, Node}
use Rattle.qm_merkle.specs.Batches.{Layer, Batch, all_layers, layer_at, layers_at, IsHistory}
use Rattle.qm_merkle.specs.Mems.{Kept, node_at}
use Rattle.qm_store.specs.Log.{digests_from}

-- a kept tree: how many leaves it has, and its layers, newest first, over a log's tree
pub record KeptTree (D : Type 0) : Type 0 where
  pub leaves : ℕ
  pub layers : List (Layer D)

-- the layers of a tree batch, if there is one
abbrev pub layers_of : {D : Type 0} → Option (Batch D) → List (Layer D)
layers_of None = []
layers_of (Some batch) = all_layers batch

-- what a kept tree over a log's tree holds at a position
abbrev pub held_at : {D : Type 0} → Shape → KeptTree D → Kept D → ℕ → Option D
held_at shape tree mem p = option_or (layers_at shape tree.layers p) (node_at shape mem p)

-- the leaves of a list of items
abbrev pub leaves_of : (Bytes → Bytes) → Shape → List Bytes → List Bytes
leaves_of hash shape items = digests_from hash shape 0 items

-- of the nodes of its list the layer has none that was there before it
abbrev pub IsAdding : {D : Type 0} → Shape → Layer D → Type 0
IsAdding shape layer = (x : Node) → shape.birth x ≤ layer.tree.leaves → IsSome (layer_at shape layer (shape.position x)) → layer.tree.start < shape.birth x

-- the tree is that of the list of items, and its layers add nodes alone and lead to it through each of the older lists
pub record IsKeptTree {D : Type 0} (bytes : D → Bytes) (hash : Bytes → Bytes) (shape : Shape) (tree : KeptTree D) (items : List Bytes) (older : List (List Bytes)) : Type 0 where
  pub leaves : tree.leaves ≡ length items
  pub lists : List (List Bytes)
  pub history : IsHistory shape bytes hash tree.layers (leaves_of hash shape items ∷ lists)
  pub adding : All (IsAdding shape) tree.layers
  pub through : All (λ l. Contains (leaves_of hash shape items ∷ lists) (leaves_of hash shape l)) older
