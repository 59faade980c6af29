-- The grafted tree as it is kept, and what a step does to it.
use Rattle.std.specs.Prelude.{◌≡◌, ◌*◌, ◌<◌, ◌≤◌, ◌^◌, ◌++◌, ℕ, zero, suc, Bool, nat_le, if◌then◌else◌, List, [], ◌∷◌, length, Option, IsSome, IfSome, Contains, slice_index_or}
use Rattle.std.specs.Option.{option_map_or}
use Rattle.qm_model.specs.Operations.{Bytes}
use Rattle.qm_model.specs.Trees.{Node, Shape, end_of, digest}
use Rattle.qm_model.specs.Mmb.{log}
use Rattle.qm_model.specs.Bits.{chunk}
use Rattle.qm_model.specs.Grafted.{raised, chunk_node, grafted_chunks, needed_size}
use Rattle.qm_bits.specs.Bitmaps.{Bitmap, bit_count}
use Rattle.qm_merkle.specs.Mems.{Kept}
use Rattle.qm_merkle.specs.Batches.{Draft}

-- the height of nodes over chunks of so many bytes, a power of two
abbrev pub grafting : ℕ → ℕ
grafting size = log (8 * size)

-- the node that a node of the grafted tree stands for ends within 2 ^ 62 operations, as it does in every list
abbrev pub fits : ℕ → Node → Bool
fits g node = nat_le (end_of (raised g node)) (2 ^ 62)

-- the numbering of the grafted tree, with the numbers of the operations tree in the digests of nodes that fit
abbrev pub kept_shape : Shape → ℕ → Shape
kept_shape shape g = record shape { number = λ node. if fits g node then shape.number (raised g node) else 0 }

-- what the tree of operations holds of the node over chunk c
abbrev pub node_over : {D : Type 0} → (ℕ → Option D) → Shape → ℕ → ℕ → Option D
node_over held shape g c = held (shape.position (chunk_node g c))

-- chunk c can be grafted: it has all its bits, none is pruned, and the node over it is held
pub record CanGraft {D : Type 0} (held : ℕ → Option D) (shape : Shape) (size : ℕ) (map : Bitmap) (c : ℕ) : Type 0 where
  pub kept : map.pruned ≤ c
  pub complete : suc c * (8 * size) ≤ bit_count size map
  pub within : suc c * (8 * size) ≤ 2 ^ 62
  pub node : IsSome (node_over held shape (grafting size) c)

-- the value that is made of chunk c of bits and of what is held of its node
abbrev pub made_value : {D : Type 0} → (D → Bytes) → (Bytes → Bytes) → (ℕ → Option D) → Shape → ℕ → List Bool → ℕ → Bytes
made_value bytes hash held shape size bits c = hash (chunk size bits c ++ option_map_or bytes (node_over held shape (grafting size) c) [])

-- the values of so many chunks from chunk c on
abbrev pub made_values : {D : Type 0} → (D → Bytes) → (Bytes → Bytes) → (ℕ → Option D) → Shape → ℕ → List Bool → ℕ → ℕ → List Bytes
made_values bytes hash held shape size bits c zero = []
made_values bytes hash held shape size bits c (suc n) = made_value bytes hash held shape size bits c ∷ made_values bytes hash held shape size bits (suc c) n

-- what is held of the nodes over so many chunks are their digests over these leaves
abbrev pub TellsNodes : {D : Type 0} → (D → Bytes) → (Bytes → Bytes) → (ℕ → Option D) → Shape → ℕ → List Bytes → ℕ → Type 0
TellsNodes bytes hash held shape g leaves count = (c : ℕ) → c < count → IfSome (node_over held shape g c) (λ d. bytes d ≡ digest hash shape leaves g c)

-- a step over lists of leaves' digests and their chunks: the leaves that were there stay, and of so many chunks, which are all among the first ones, only these change
pub record IsStep (g count : ℕ) (changed : List ℕ) (old new : List Bytes) (before behind : ℕ → Bytes) : Type 0 where
  pub added : List Bytes
  pub onward : new ≡ old ++ added
  pub complete : count * 2 ^ g ≤ length old
  pub same : (c : ℕ) → c < count → (Contains changed c → ⊥) → before c ≡ behind c

-- a draft got other digests for leaves that are there, and nothing else of it changed
pub record IsRedrafted {D : Type 0} (old new : Draft D) : Type 0 where
  pub start : new.start ≡ old.start
  pub base : new.base ≡ old.base
  pub layers : new.layers ≡ old.layers
  pub added : new.added ≡ old.added

-- of a list, the values of these chunks are made anew, and those of the others stay
pub record AreMade (made : ℕ → Bytes) (changed : List ℕ) (old new : List Bytes) : Type 0 where
  pub long : length new ≡ length old
  pub put : (c : ℕ) → Contains changed c → c < length old → slice_index_or new c [] ≡ made c
  pub others : (c : ℕ) → (Contains changed c → ⊥) → slice_index_or new c [] ≡ slice_index_or old c []

-- a grafted tree is the one over a tree of operations and its bits: it has a leaf for each grafted chunk, what it forgot may go, and no chunk that has no leaf yet is pruned
pub record AreGrafted {D : Type 0} (shape : Shape) (size : ℕ) (operations grafted : Kept D) (map : Bitmap) : Type 0 where
  pub bits : bit_count size map ≡ operations.leaves
  pub leaves : grafted.leaves ≡ grafted_chunks shape (grafting size) operations.leaves
  pub may_go : 0 < grafted.start → needed_size shape (grafting size) grafted.start ≤ operations.leaves
  pub pruned : map.pruned ≤ grafted.leaves
