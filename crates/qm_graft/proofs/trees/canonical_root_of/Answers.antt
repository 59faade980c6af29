use Rattle.std.proofs.Common.{◌≡◌, ◌∙◌, ◌<◌, ◌≤◌, ℕ, length, Option, IsSome, arith, ap, sym, subst}
use Rattle.qm_model.specs.Trees.{Node, Shape, leaves_from}
use Rattle.qm_model.specs.Grafted.{raised, chunk_of, chunk_values, grafted_chunks, needed_size}
use Rattle.qm_bits.specs.Bitmaps.{bit_count}
use Rattle.qm_model.specs.Families.{over}
use Rattle.qm_merkle.specs.Mems.{Kept, IsWhole, Stands, node_at}
use Rattle.qm_proofs.proofs.Telling.{tree_tells}
use Rattle.qm_graft.specs.Grafting.{grafting, kept_shape}
use Rattle.qm_graft.specs.Numbers.{kept_family, kept_peaks}
use Rattle.qm_graft.specs.Trees.{Both, HoldsPeaks, TellsPeaks, held_at}
use Rattle.qm_graft.proofs.Fitting.{grafting-some}
use Rattle.qm_graft.proofs.Rooting.{bits-count, length-leaves}
use Rattle.qm_graft.proofs.Peaks.{holds-peaks, tells-peaks, kept_held}
use Rattle.qm_graft.proofs.trees.canonical_root_of.Given
use Rattle.qm_graft.proofs.trees.canonical_root_of.Goals as goal

module _ (g : Given.Over) where
  abbrev Tree : Type 0
  Tree = Kept g.row.H-Digest.Denot

  abbrev shape : Shape
  shape = g.F.Family.shape

  abbrev height : ℕ
  height = grafting g.N.Chunks.LEN

  abbrev at : Both Tree Tree → ℕ → Option g.row.H-Digest.Denot
  at v = held_at shape g.F.Family.births (node_at shape v.operations) (node_at (kept_shape shape height) v.grafted) v.leaves height

  abbrev both : Tree → Tree → Both Tree Tree
  both operations grafted = record { operations = operations; grafted = grafted; leaves = operations.leaves }

  some : 0 < height
  some = grafting-some g.N.Chunks.LEN g.met.N.Chunks.least

  grown : (n : ℕ) (x : Node) → shape.birth (raised height x) ≤ n → shape.birth x ≤ grafted_chunks shape height n
  grown n x born = g.met.F.Graftable.lowered height n x some born

  absorbed : (n k : ℕ) (x : Node) → 0 < k → needed_size shape height k ≤ n → shape.birth x ≤ k → shape.birth (raised height x) ≤ n
  absorbed n k x more needed born = g.met.F.Graftable.absorbed height n k x some more needed born

  -- what the trees hold
  low_held : (operations : Tree) → IsWhole shape operations → (x : Node) → shape.birth x ≤ operations.leaves → operations.leaves < shape.birth (over x) → IsSome (node_at shape operations (shape.position x))
  low_held operations whole x born bare = kept_held shape g.F.Family.births g.met.F.Family.numbered g.met.F.Family.peaked operations whole x born (omega (arith, whole.order, bare))

  high_held : (operations grafted : Tree) → IsWhole (kept_shape shape height) grafted → grafted.leaves ≡ grafted_chunks shape height operations.leaves → (y : Node) → shape.birth y ≤ grafted_chunks shape height operations.leaves
      → grafted.start < shape.birth (over y) → IsSome (node_at (kept_shape shape height) grafted (shape.position y))
  high_held operations grafted whole count y born bare =
      kept_held (kept_shape shape height) g.F.Family.births (kept_family shape height g.F.Family.births g.met.F.Family.numbered) (kept_peaks shape height g.met.F.Family.peaked) grafted whole y (omega (arith, born, count)) bare

  same-view : (v : Both Tree Tree) (operations grafted : Tree) (n : ℕ) → v ≡ record { operations = operations; grafted = grafted; leaves = n } → n ≡ operations.leaves → v ≡ both operations grafted
  same-view v operations grafted n is long = is ∙ ap (λ m. record { operations = operations; grafted = grafted; leaves = m }) long

pub compute_db_root-requires-clause-held : goal.compute_db_root-requires-clause-held
compute_db_root-requires-clause-held g c =
    subst (λ v. HoldsPeaks (at g v) (shape g) (bit_count g.N.Chunks.LEN (g.B.Readable.bitmap c.args.bits.now))) (sym (same-view g c.new-view.result c.args.operations.now c.args.grafted.now _ c.new-view.ensures c.bounds-leaves.ensures.leaves))
    (subst (λ n. HoldsPeaks (at g (both g c.args.operations.now c.args.grafted.now)) (shape g) n) (sym c.requires.bits)
    (holds-peaks (shape g) g.F.Family.births g.met.F.Family.numbered g.met.F.Family.peaked (height g) (some g) (grown g) (absorbed g) (node_at (shape g) c.args.operations.now) (node_at (kept_shape (shape g) (height g)) c.args.grafted.now) c.args.operations.now.leaves c.args.grafted.now.start c.bounds-leaves.ensures.whole.few
    (low_held g c.args.operations.now c.bounds-leaves.ensures.whole) (high_held g c.args.operations.now c.args.grafted.now c.bounds.ensures.whole c.requires.leaves) c.requires.may_go))

pub returns-clause-canonical : goal.returns-clause-canonical
returns-clause-canonical g c = λ form ops same floor root digests values.
    let hash = g.H.Hasher.hash in
    let bytes = g.H.Digest.Digest.bytes in
    let operations = c.args.operations.now in
    let grafted = c.args.grafted.now in
    let chunks = chunk_of (height g) ops in
    let list = leaves_from hash (shape g) form 0 ops in
    let count = length-leaves hash (shape g) form 0 ops in
    let long : operations.leaves ≡ length list = sym c.requires.bits ∙ bits-count g.N.Chunks.LEN (g.B.Readable.bitmap c.args.bits.now) ops same ∙ sym count in
    let stands = subst (λ n. Stands (kept_shape (shape g) (height g)) bytes hash grafted (chunk_values hash (shape g) (height g) list chunks 0 (grafted_chunks (shape g) (height g) n))) (sym count) values in
    c.compute_db_root.ensures.canonical form ops same floor root
    (subst (λ v. TellsPeaks bytes hash (at g v) (shape g) (height g) list chunks) (sym (same-view g c.new-view.result operations grafted _ c.new-view.ensures c.bounds-leaves.ensures.leaves))
    (tells-peaks (shape g) g.F.Family.births g.met.F.Family.numbered g.met.F.Family.peaked (height g) (some g) (grown g) (absorbed g) (node_at (shape g) operations) (node_at (kept_shape (shape g) (height g)) grafted) operations.leaves grafted.start c.bounds-leaves.ensures.whole.few
    (low_held g operations c.bounds-leaves.ensures.whole) (high_held g operations grafted c.bounds.ensures.whole c.requires.leaves) c.requires.may_go
    bytes hash list chunks long (tree_tells (shape g) g.F.Family.births g.met.F.Family.numbered g.met.F.Family.peaked bytes hash operations list digests)
    (tree_tells (kept_shape (shape g) (height g)) g.F.Family.births (kept_family (shape g) (height g) g.F.Family.births g.met.F.Family.numbered) (kept_peaks (shape g) (height g) g.met.F.Family.peaked) bytes hash grafted _ stands)))
