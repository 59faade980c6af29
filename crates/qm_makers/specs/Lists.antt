-- Lists whose proofs are made.
use Rattle.std.specs.Prelude.{◌≡◌, ℕ, List, length}
use Rattle.qm_model.specs.Operations.{Bytes, Operation}
use Rattle.qm_model.specs.Forms.{Form}
use Rattle.qm_model.specs.Live as live
use Rattle.qm_model.specs.Bits as activity
use Rattle.qm_model.specs.Trees.{Shape, leaves_from, ops_root}
use Rattle.qm_model.specs.Grafted.{chunk_of, chunk_values, grafted_chunks}
use Rattle.qm_bits.specs.Bitmaps.{Bitmap, all_bits}
use Rattle.qm_merkle.specs.Mems.{Kept, Stands}
use Rattle.qm_graft.specs.Grafting.{grafting, kept_shape}

-- the root of operations, their tree and the grafted tree over it, the bits and the floor are those of this list, over chunks of
-- so many bytes
pub record AreOf {D : Type 0} (bytes : D → Bytes) (hash : Bytes → Bytes) (shape : Shape) (size : ℕ) (form : Form)
    (root : D) (operations grafted : Kept D) (map : Bitmap) (floor : ℕ) (list : List Operation) : Type 0 where
  pub root_is : bytes root ≡ ops_root hash shape form list
  pub operations_are : Stands shape bytes hash operations (leaves_from hash shape form 0 list)
  pub values_are : Stands (kept_shape shape (grafting size)) bytes hash grafted
      (chunk_values hash shape (grafting size) (leaves_from hash shape form 0 list) (chunk_of (grafting size) list) 0 (grafted_chunks shape (grafting size) (length list)))
  pub bits_are : all_bits size map ≡ activity.bits list
  pub floor_is : floor ≡ live.floor list
