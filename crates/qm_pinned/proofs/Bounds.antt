-- The bounds of current databases, over any family of trees.
use Rattle.std.proofs.Common.{◌≡◌, ◌≤◌, ◌<◌, ◌*◌, ◌^◌, ℕ, suc, None, length, arith, le_refl}
use Rattle.qm_model.specs.Families.{Births, HasPeaks, IsFamily}
use Rattle.qm_model.specs.Forms.{Form}
use Rattle.qm_model.specs.Grafted.{chunk_node, pair_absorption_threshold}
use Rattle.qm_model.specs.Live.{floor}
use Rattle.qm_model.specs.Mmb.{log}
use Rattle.qm_model.specs.Operations.{Bytes}
use Rattle.qm_model.specs.Schemes.{HasBounds, current_scheme}
use Rattle.qm_model.specs.Trees.{Shape}
use Rattle.qm_model.proofs.GraftedLemmas.{boundary_most}
use Rattle.qm_model.proofs.MmbFamily.{log_least}
use Rattle.qm_merkle.proofs.Standing.{peaks-none}

-- the node over the last of chunks that have no threshold does not wait for more than its own leaves
abbrev pub IsReady : Shape → Type 0
IsReady shape = (height chunk : ℕ) → 0 < height → pair_absorption_threshold shape height (suc chunk) ≡ None → shape.birth (chunk_node height chunk) ≤ suc chunk * 2 ^ height

module _ (shape : Shape) (births : Births) (family : IsFamily shape births) (peaked : HasPeaks shape) (ready : IsReady shape) where
  -- their boundary is at or below the floor, and chunks are of 256 locations at least
  pub chunk-bounds : (hash : Bytes → Bytes) (digest_size : ℕ) → ((m : Bytes) → length (hash m) ≡ digest_size) → (size : ℕ) (form : Form) (name : Bytes) → 32 ≤ size
      → HasBounds (current_scheme hash shape digest_size form (record { height = log (8 * size); name = name }))
  chunk-bounds hash digest_size sized size form name least =
      let enough : 3 ≤ log (8 * size) = log_least (8 * size) 3 (omega (arith, least)) (omega (arith, least)) in
      record {
        low = λ list. boundary_most shape (log (8 * size)) (floor list) (length list);
        chunks = λ list. le_refl _;
        prompt = λ k none. ready (log (8 * size)) k (omega (arith, enough)) none;
        over = record {
          enough = enough;
          births = births;
          trees = record { family = family; peaked = peaked; bare = peaks-none shape births family peaked };
          sized = sized;
        };
      }
