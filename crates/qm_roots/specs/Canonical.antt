-- The grafted tree of a list, and its canonical root.
use Rattle.std.specs.Prelude.{◌≡◌, ◌≤◌, ◌<◌, ◌^◌, ◌*◌, ℕ, suc, List, length}
use Rattle.qm_model.specs.Operations.{Bytes, Operation}
use Rattle.qm_model.specs.Forms.{Form}
use Rattle.qm_model.specs.Trees.{Shape, leaves_from, peaks}
use Rattle.qm_model.specs.Grafted.{chunk_of, chunk_values, grafted_chunks, needed_size, canonical}
use Rattle.qm_bits.specs.Bitmaps.{Bitmap, bit_count}
use Rattle.qm_merkle.specs.Mems.{Kept, Stands}
use Rattle.qm_graft.specs.Grafting.{grafting, kept_shape}

-- a grafted tree, the size of the list that it is over, and a root
pub record Canonical (D : Type 0) : Type 0 where
  pub tree : Kept D
  pub size : ℕ
  pub root : Bytes

-- c chunks may go from a list of n operations
abbrev pub MayGo : Shape → ℕ → ℕ → ℕ → Type 0
MayGo shape g c n = 0 < c → needed_size shape g c ≤ n

-- its tree has a leaf for each grafted chunk, and forgot none that may not go yet
pub record IsSized {D : Type 0} (shape : Shape) (g : ℕ) (own : Canonical D) : Type 0 where
  pub few : own.size ≤ 2 ^ 62
  pub leaves : own.tree.leaves ≡ grafted_chunks shape g own.size
  pub may_go : MayGo shape g own.tree.start own.size

-- the leaves of the grafted tree of a list
abbrev pub values_of : (Bytes → Bytes) → Shape → ℕ → Form → List Operation → List Bytes
values_of hash shape g form ops = chunk_values hash shape g (leaves_from hash shape form 0 ops) (chunk_of g ops) 0 (grafted_chunks shape g (length ops))

-- they are those of this list
pub record IsCanonical {D : Type 0} (bytes : D → Bytes) (hash : Bytes → Bytes) (shape : Shape) (size : ℕ) (form : Form) (own : Canonical D) (list : List Operation) : Type 0 where
  pub size_is : own.size ≡ length list
  pub tree : Stands (kept_shape shape (grafting size)) bytes hash own.tree (values_of hash shape (grafting size) form list)
  pub root : own.root ≡ canonical hash shape (grafting size) form list

-- they can be made of a tree of operations, a bitmap and the digests over the pruned chunks: there is a bit for each operation, a
-- digest for each peak over those chunks, which may go, and the tree holds the nodes over the others
pub record CanOpen {D E : Type 0} (shape : Shape) (size : ℕ) (operations : Kept D) (map : Bitmap) (pins : List E) : Type 0 where
  pub bits : bit_count size map ≡ operations.leaves
  pub start : operations.start < suc map.pruned * (8 * size)
  pub may_go : MayGo shape (grafting size) map.pruned operations.leaves
  pub pinned : length pins ≡ length (peaks shape map.pruned)
