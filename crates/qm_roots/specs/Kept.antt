-- What a batch of a current database keeps beside the any one.
use Rattle.std.specs.Prelude.{◌≡◌, ◌≤◌, ◌<◌, ◌^◌, ◌*◌, ℕ, false, List, [], ◌∷◌, ◌++◌, length, map, get_or, All, Contains, Option, Some, None, IsSome, slice_index_or}
use Rattle.qm_model.specs.Operations.{Bytes, Operation}
use Rattle.qm_model.specs.Forms.{Form}
use Rattle.qm_model.specs.Live.{floor}
use Rattle.qm_model.specs.Trees.{Node, Shape, leaves_from, ops_root}
use Rattle.qm_model.specs.Families.{over}
use Rattle.qm_model.specs.Bits.{bits}
use Rattle.qm_model.specs.Grafted.{grafted_chunks, canonical}
use Rattle.qm_bits.specs.Bitmaps.{Bitmap, bit_count, all_bits}
use Rattle.qm_overlay.specs.Layers.{Overlay}
use Rattle.qm_merkle.specs.Batches.{Layer, Batch, all_layers, stops, lists_since, IsHistory}
use Rattle.qm_proofs.specs.Proofs.{Tells}
use Rattle.qm_graft.specs.Grafting.{grafting, kept_shape, node_over}
use Rattle.qm_roots.specs.Steps.{AreOverlays, AreRising}
use Rattle.qm_roots.specs.Canonical.{Canonical, IsCanonical, values_of}

-- what its own step and those of the ancestors that it keeps do to bits, newest first, and the size of the list from which the
-- oldest starts; of its grafted tree the chunk from which on it is kept, the number of leaves and the layers; and its root
pub record Kept (D : Type 0) : Type 0 where
  pub overlays : List Overlay
  pub base : ℕ
  pub start : ℕ
  pub leaves : ℕ
  pub layers : List (Layer D)
  pub root : Bytes

-- the layers of a tree's batch, if there is one
abbrev pub layers_of : {D : Type 0} → Option (Batch D) → List (Layer D)
layers_of None = []
layers_of (Some batch) = all_layers batch

-- the sizes of the lists that the steps lead through, newest first, and of the one from which the oldest starts
abbrev pub sizes_of : {D : Type 0} → Kept D → List ℕ
sizes_of kept = map (λ o. o.count) kept.overlays ++ kept.base ∷ []

-- no size is greater than one before it
abbrev pub AreFalling : List ℕ → Type 0
AreFalling sizes = (i j : ℕ) → i ≤ j → j < length sizes → get_or sizes j 0 ≤ get_or sizes i 0

-- no list is smaller than one from which it comes, and the grafted tree leads from each to the newest
pub record AreAgreed {D : Type 0} (shape : Shape) (g : ℕ) (kept : Kept D) : Type 0 where
  pub few : get_or (sizes_of kept) 0 0 ≤ 2 ^ 62
  pub falling : AreFalling (sizes_of kept)
  pub leaves : kept.leaves ≡ grafted_chunks shape g (get_or (sizes_of kept) 0 0)
  pub reached : All (λ n. Contains (stops kept.leaves kept.layers) (grafted_chunks shape g n)) (sizes_of kept)
  pub start : kept.start ≤ kept.leaves

-- the first chunks of the list have no active location
abbrev pub AreInactive : ℕ → ℕ → List Operation → Type 0
AreInactive size chunks list = (i : ℕ) → i < chunks * (8 * size) → slice_index_or (bits list) i false ≡ false

-- it leads to this list through the older ones, and has its root; the chunks that its grafted tree forgot are inactive
pub record IsKept {D : Type 0} (bytes : D → Bytes) (hash : Bytes → Bytes) (shape : Shape) (size : ℕ) (form : Form) (kept : Kept D) (tip : List Operation) (bases : List (List Operation)) : Type 0 where
  pub rising : AreRising tip bases
  pub sizes : sizes_of kept ≡ map length (tip ∷ bases)
  pub overlays : AreOverlays size kept.overlays tip bases
  pub clear : AreInactive size kept.start tip
  pub lists : List (List Bytes)
  pub history : IsHistory (kept_shape shape (grafting size)) bytes hash kept.layers (values_of hash shape (grafting size) form tip ∷ lists)
  pub through : All (λ b. Contains (values_of hash shape (grafting size) form tip ∷ lists) (values_of hash shape (grafting size) form b)) bases
  pub root : kept.root ≡ canonical hash shape (grafting size) form tip

-- how many chunks are grafted in the list from which the oldest of the newest steps starts that a child keeps
abbrev pub boundary_of : {D : Type 0} → Shape → ℕ → Kept D → ℕ → ℕ
boundary_of shape g kept keep = grafted_chunks shape g (get_or (sizes_of kept) keep 0)

-- A child with n operations can be made of this, which keeps the newest `keep` of its steps, over the bitmap and the grafted tree of a
-- database that lacks the newest `lacking` of them: the database is at one of the child's lists, no chunk is forgotten or pruned that
-- it may not be, and what is held of the child's tree are its peaks and the nodes over the chunks that are not pruned.
pub record CanFollow {D E : Type 0} (shape : Shape) (size : ℕ) (kept : Kept D) (own : Canonical D) (map : Bitmap) (held : ℕ → Option E) (lacking keep n : ℕ) : Type 0 where
  pub few : n ≤ 2 ^ 62
  pub grows : get_or (sizes_of kept) 0 0 ≤ n
  pub keeps : keep ≤ length kept.overlays
  pub between : lacking ≤ keep
  pub at : own.size ≡ get_or (sizes_of kept) lacking 0
  pub bits : bit_count size map ≡ own.size
  pub forgotten : own.tree.start ≤ map.pruned
  pub pruned : map.pruned ≤ own.tree.leaves
  pub chunks : (c : ℕ) → map.pruned ≤ c → c < grafted_chunks shape (grafting size) n → IsSome (node_over held shape (grafting size) c)
  pub peaks : (x : Node) → shape.birth x ≤ n → n < shape.birth (over x) → IsSome (held (shape.position x))

-- a database's bitmap and grafted tree are those of this list
pub record IsPlace {D : Type 0} (bytes : D → Bytes) (hash : Bytes → Bytes) (shape : Shape) (size : ℕ) (form : Form) (own : Canonical D) (map : Bitmap) (list : List Operation) : Type 0 where
  pub active : all_bits size map ≡ bits list
  pub canonical : IsCanonical bytes hash shape size form own list

-- size, floor, root and nodes are those of this list's operations
pub record IsTip {D : Type 0} (bytes : D → Bytes) (hash : Bytes → Bytes) (shape : Shape) (form : Form) (size lowest : ℕ) (root : Bytes) (held : ℕ → Option D) (list : List Operation) : Type 0 where
  pub count : size ≡ length list
  pub floor_is : lowest ≡ floor list
  pub root_is : root ≡ ops_root hash shape form list
  pub tells : Tells shape bytes hash held (leaves_from hash shape form 0 list)

-- these layers lead to the grafted tree of the tip from that of the base list, and through those of the others that have as many leaves as
-- the boundary or more; this is the tip's canonical root; and the chunks before the start are inactive in it
pub record IsGrown {D : Type 0} (bytes : D → Bytes) (hash : Bytes → Bytes) (shape : Shape) (size : ℕ) (form : Form) (boundary : ℕ) (layers : List (Layer D)) (start : ℕ) (root : Bytes) (tip base : List Operation) (lists : List (List Bytes)) : Type 0 where
  pub history : IsHistory (kept_shape shape (grafting size)) bytes hash layers
      (values_of hash shape (grafting size) form tip ∷ lists_since boundary (values_of hash shape (grafting size) form base ∷ lists))
  pub root_is : root ≡ canonical hash shape (grafting size) form tip
  pub clear : AreInactive size start tip
