-- A view of a tree of operations and of the grafted tree over it.
use Rattle.std.proofs.Common.{◌≡◌, ◌∙◌, ◌<◌, ◌≤◌, ◌*◌, ◌^◌, ℕ, List, length, map, Option, IsSome, Some, None, arith, ap}
use Rattle.qm_model.specs.Operations.{Bytes}
use Rattle.qm_model.specs.Trees.{Node, Shape}
use Rattle.qm_model.specs.Families.{Births, IsFamily, HasPeaks, over}
use Rattle.qm_model.specs.Proofs.{needed_of}
use Rattle.qm_model.specs.Grafted.{raised, chunk_values, grafted_chunks, grafted_value, needed_size}
use Rattle.qm_merkle.specs.Mems.{Kept, IsWhole, Stands, node_at}
use Rattle.qm_proofs.specs.Proofs.{needed_positions, first_lacked}
use Rattle.qm_proofs.proofs.Telling.{tree_tells}
use Rattle.qm_graft.specs.Grafting.{kept_shape}
use Rattle.qm_graft.specs.Numbers.{kept_family, kept_peaks}
use Rattle.qm_graft.specs.Trees.{Both, HoldsPeaks, TellsPeaks, held_at}
use Rattle.qm_graft.proofs.Peaks.{holds-peaks, tells-peaks, kept_held}
use Rattle.qm_makers.proofs.Holding.{told, needed_held}

-- what is held of both trees
abbrev pub seen : {D : Type 0} → Shape → Births → ℕ → Both (Kept D) (Kept D) → ℕ → Option D
seen shape births g v = held_at shape births (node_at shape v.operations) (node_at (kept_shape shape g) v.grafted) v.leaves g

abbrev pub both : {D : Type 0} → Kept D → Kept D → Both (Kept D) (Kept D)
both operations grafted = record { operations = operations; grafted = grafted; leaves = operations.leaves }

pub same-view : {D : Type 0} (v : Both (Kept D) (Kept D)) (operations grafted : Kept D) (n : ℕ) → v ≡ record { operations = operations; grafted = grafted; leaves = n } → n ≡ operations.leaves → v ≡ both operations grafted
same-view v operations grafted n is long = is ∙ ap (λ m. record { operations = operations; grafted = grafted; leaves = m }) long

module _ (shape : Shape) (births : Births) (family : IsFamily shape births) (peaked : HasPeaks shape) (g : ℕ) (some : 0 < g)
    (lowered_born : (g n : ℕ) (x : Node) → 0 < g → shape.birth (raised g x) ≤ n → shape.birth x ≤ grafted_chunks shape g n)
    (absorbed_born : (g n c : ℕ) (x : Node) → 0 < g → 0 < c → needed_size shape g c ≤ n → shape.birth x ≤ c → shape.birth (raised g x) ≤ n) where
  grown : (n : ℕ) (x : Node) → shape.birth (raised g x) ≤ n → shape.birth x ≤ grafted_chunks shape g n
  grown n x born = lowered_born g n x some born

  absorbed : (n c : ℕ) (x : Node) → 0 < c → needed_size shape g c ≤ n → shape.birth x ≤ c → shape.birth (raised g x) ≤ n
  absorbed n c x more needed born = absorbed_born g n c x some more needed born

  module _ {D : Type 0} (operations grafted : Kept D) (whole : IsWhole shape operations) (high : IsWhole (kept_shape shape g) grafted) (count : grafted.leaves ≡ grafted_chunks shape g operations.leaves)
      (may_go : 0 < grafted.start → needed_size shape g grafted.start ≤ operations.leaves) where
    bare_held : (x : Node) → shape.birth x ≤ operations.leaves → operations.start < shape.birth (over x) → IsSome (node_at shape operations (shape.position x))
    bare_held x born bare = kept_held shape births family peaked operations whole x born bare

    low_held : (x : Node) → shape.birth x ≤ operations.leaves → operations.leaves < shape.birth (over x) → IsSome (node_at shape operations (shape.position x))
    low_held x born bare = bare_held x born (omega (arith, whole.order, bare))

    high_held : (y : Node) → shape.birth y ≤ grafted_chunks shape g operations.leaves → grafted.start < shape.birth (over y) → IsSome (node_at (kept_shape shape g) grafted (shape.position y))
    high_held y born bare = kept_held (kept_shape shape g) births (kept_family shape g births family) (kept_peaks shape g peaked) grafted high y (omega (arith, born, count)) bare

    -- it holds all peaks
    pub holds : HoldsPeaks (seen shape births g (both operations grafted)) shape operations.leaves
    holds = holds-peaks shape births family peaked g some grown absorbed (node_at shape operations) (node_at (kept_shape shape g) grafted) operations.leaves grafted.start whole.few low_held high_held may_go

    -- and all nodes that a proof needs of leaves behind those that the trees forgot
    pub none-lacked : (a b : ℕ) → operations.start ≤ a → grafted.start * 2 ^ g ≤ a → a ≤ operations.leaves → first_lacked (seen shape births g (both operations grafted)) (needed_positions shape operations.leaves a b) ≡ None
    none-lacked a b low chunks within =
        needed_held shape births family peaked g grown absorbed (node_at shape operations) (node_at (kept_shape shape g) grafted) operations.leaves whole.few operations.start grafted.start bare_held high_held may_go a b low chunks within

    module _ (bytes : D → Bytes) (hash : Bytes → Bytes) (leaves : List Bytes) (chunks : ℕ → Bytes) (digests : Stands shape bytes hash operations leaves)
        (values : Stands (kept_shape shape g) bytes hash grafted (chunk_values hash shape g leaves chunks 0 (grafted_chunks shape g (length leaves)))) where
      -- what it holds of the peaks are their grafted values
      pub tells : TellsPeaks bytes hash (seen shape births g (both operations grafted)) shape g leaves chunks
      tells = tells-peaks shape births family peaked g some grown absorbed (node_at shape operations) (node_at (kept_shape shape g) grafted) operations.leaves grafted.start whole.few low_held high_held may_go
          bytes hash leaves chunks digests.count (tree_tells shape births family peaked bytes hash operations leaves digests)
          (tree_tells (kept_shape shape g) births (kept_family shape g births family) (kept_peaks shape g peaked) bytes hash grafted _ values)

      -- and of the nodes that a proof needs
      pub needed-told : (a b : ℕ) (ds : List D) → map Some ds ≡ map (seen shape births g (both operations grafted)) (needed_positions shape operations.leaves a b) → map bytes ds ≡ map (grafted_value hash shape g leaves chunks) (needed_of shape operations.leaves a b)
      needed-told = told shape births family peaked g grown absorbed (node_at shape operations) (node_at (kept_shape shape g) grafted) operations.leaves whole.few
          bytes hash leaves chunks digests.count (tree_tells shape births family peaked bytes hash operations leaves digests)
          (tree_tells (kept_shape shape g) births (kept_family shape g births family) (kept_peaks shape g peaked) bytes hash grafted _ values)
