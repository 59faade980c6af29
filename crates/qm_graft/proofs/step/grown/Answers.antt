use Rattle.std.proofs.Common.{◌≡◌, ◌∙◌, ◌*◌, ◌/◌, ◌^◌, ◌<◌, ◌≤◌, ◌∷◌, ℕ, suc, List, length, IsSome, Option, arith, ap, ap₂, sym, subst, subst₂}
use Rattle.std.specs.Prelude.{Contains}
use Rattle.qm_model.specs.Operations.{Bytes, Operation}
use Rattle.qm_model.specs.Trees.{Node, Shape, leaves_from}
use Rattle.qm_model.specs.Families.{over}
use Rattle.qm_model.specs.Bits.{bits, chunk}
use Rattle.qm_model.specs.Grafted.{raised, chunk_size, chunk_node, chunk_of, chunk_values, grafted_chunks, needed_size}
use Rattle.qm_model.proofs.GraftedLemmas.{grafted_born}
use Rattle.qm_bits.specs.Bitmaps.{Bitmap, all_bits, bit_count}
use Rattle.qm_merkle.specs.Mems.{Kept, IsWhole, Stands}
use Rattle.qm_merkle.specs.Batches.{Batch, all_layers, stops, AreLinked, IsHistory}
use Rattle.qm_merkle.proofs.Histories.{there}
use Rattle.qm_proofs.specs.Proofs.{Tells, over_at}
use Rattle.qm_proofs.proofs.Telling.{layers_tell}
use Rattle.qm_graft.specs.Grafting.{grafting, kept_shape, IsStep, TellsNodes}
use Rattle.qm_graft.specs.Numbers.{kept_family, kept_peaks}
use Rattle.qm_graft.specs.Trees.{HoldsPeaks, TellsPeaks, held_at}
use Rattle.qm_graft.proofs.Fitting.{grafting-some, grafting-span}
use Rattle.qm_graft.proofs.Rooting.{bits-count, length-leaves}
use Rattle.qm_graft.proofs.Peaks.{holds-peaks, tells-peaks}
use Rattle.qm_graft.proofs.step.grown.Given
use Rattle.qm_graft.proofs.step.grown.Goals as goal

later : {A : Type 0} (x y : A) (xs : List A) → Contains xs y → Contains (x ∷ xs) y
later x y xs (k, lt, at) = (suc k, omega (arith, lt), at)

module _ (g : Given.Over) where
  abbrev D : Type 0
  D = g.row.H-Digest.Denot

  abbrev shape : Shape
  shape = g.F.Family.shape

  abbrev height : ℕ
  height = grafting g.N.Chunks.LEN

  abbrev kshape : Shape
  kshape = kept_shape shape height

  some : 0 < height
  some = grafting-some g.N.Chunks.LEN g.met.N.Chunks.least

  span : 2 ^ height ≡ 8 * g.N.Chunks.LEN
  span = let power = g.met.N.Chunks.power in grafting-span g.N.Chunks.LEN power.0 power.1

  sized : chunk_size height ≡ g.N.Chunks.LEN
  sized = omega (arith, span)

  same-chunks : (map : Bitmap) (ops : List Operation) → all_bits g.N.Chunks.LEN map ≡ bits ops → chunk g.N.Chunks.LEN (all_bits g.N.Chunks.LEN map) ≡ chunk_of height ops
  same-chunks map ops same = ap₂ (λ k bs. chunk k bs) (sym sized) same

  lowers : (n : ℕ) (x : Node) → shape.birth (raised height x) ≤ n → shape.birth x ≤ grafted_chunks shape height n
  lowers n x born = g.met.F.Graftable.lowered height n x some born

  absorbed : (n k : ℕ) (x : Node) → 0 < k → needed_size shape height k ≤ n → shape.birth x ≤ k → shape.birth (raised height x) ≤ n
  absorbed n k x more needed born = g.met.F.Graftable.absorbed height n k x some more needed born

  -- what the batch over the tree holds
  high : (batch : Batch D) (mem : Kept D) → IsWhole kshape mem → AreLinked kshape batch.newest.tree.leaves (all_layers batch) → Contains (stops batch.newest.tree.start batch.older) mem.leaves
      → (n : ℕ) → batch.newest.tree.leaves ≡ grafted_chunks shape height n → (y : Node) → shape.birth y ≤ grafted_chunks shape height n → mem.start < shape.birth (over y) → IsSome (over_at kshape batch mem (shape.position y))
  high batch mem whole linked reach n count y born bare =
      there kshape g.F.Family.births (kept_family shape height g.F.Family.births g.met.F.Family.numbered) (kept_peaks shape height g.met.F.Family.peaked) mem whole (all_layers batch) batch.newest.tree.leaves linked
      (later batch.newest.tree.leaves mem.leaves (stops batch.newest.tree.start batch.older) reach) y (subst (λ k. shape.birth y ≤ k) (sym count) born) bare

pub follow-requires-clause-added : goal.follow-requires-clause-added
follow-requires-clause-added g c = λ at from to.
    let count = c.grafted_chunks-count.ensures ∙ ap₂ (grafted_chunks (shape g)) c.height.ensures.exact c.len-leaves.ensures in
    c.requires.added at from (subst (λ k. at < k) count to)

pub compute_db_root-requires-clause-held : goal.compute_db_root-requires-clause-held
compute_db_root-requires-clause-held g c =
    let n = bit_count g.N.Chunks.LEN (g.B.Readable.bitmap c.args.behind.now.bits.now) in
    let batch = c.in_ok-batch.batch in
    let mem = c.args.mem.now in
    let held = g.O.Nodes.node_at c.args.behind.now.operations.now in
    let count = c.in_ok-batch.ensures.leaves ∙ c.grafted_chunks-count.ensures ∙ ap₂ (grafted_chunks (shape g)) c.height.ensures.exact c.len-leaves.ensures in
    let reach = subst₂ (λ k ls. Contains (stops k ls) mem.leaves) (sym c.in_ok-batch.ensures.base) (sym c.in_ok-batch.ensures.older) c.requires.reach in
    subst (λ v. HoldsPeaks (held_at (shape g) g.F.Family.births (g.O.Nodes.node_at v.operations) (λ p. over_at (kshape g) v.grafted.batch.now v.grafted.mem.now p) v.leaves (height g)) (shape g) n) (sym c.new-view.ensures)
    (subst (λ m. HoldsPeaks (held_at (shape g) g.F.Family.births held (λ p. over_at (kshape g) batch mem p) m (height g)) (shape g) n) (sym (c.new-2.ensures ∙ c.len-leaves.ensures))
    (holds-peaks (shape g) g.F.Family.births g.met.F.Family.numbered g.met.F.Family.peaked (height g) (some g) (lowers g) (absorbed g) held (λ p. over_at (kshape g) batch mem p) n mem.start c.requires.few
    c.requires.peaks (high g batch mem c.bounds.ensures.whole c.find_node.ensures.linked reach n count) c.requires.may_go))

pub returns-clause-history : goal.returns-clause-history
returns-clause-history g c = λ old list before lists form ops same step tells history found stands.
    let hash = g.H.Hasher.hash in
    let bytes = g.H.Digest.Digest.bytes in
    let map = g.B.Readable.bitmap c.args.behind.now.bits.now in
    let leaves = leaves_from hash (shape g) form 0 ops in
    let base = chunk_values hash (shape g) (height g) old before 0 c.args.draft.base in
    let long = bits-count g.N.Chunks.LEN map ops same in
    let count = c.grafted_chunks-count.ensures ∙ ap₂ (grafted_chunks (shape g)) c.height.ensures.exact (c.len-leaves.ensures ∙ long) in
    let behind = same-chunks g map ops same in
    let told : TellsNodes bytes hash (g.O.Nodes.node_at c.args.behind.now.operations.now) (shape g) (height g) leaves c.grafted_chunks-count.result =
    λ k less. tells (chunk_node (height g) k)
    (omega (arith, grafted_born (shape g) (height g) (length ops) k (g.met.F.Graftable.prompt (height g)) (subst (λ m. suc k ≤ m) count less), length-leaves hash (shape g) form 0 ops)) in
    subst₂ (λ f k. IsHistory (kshape g) bytes hash (all_layers c.in_ok-batch.batch) (chunk_values hash (shape g) (height g) leaves f 0 k ∷ base ∷ lists)) behind count
    (c.in_ok-batch.ensures.history old leaves list before lists (subst (λ f. IsStep (height g) c.args.draft.base c.args.changed.now old leaves before f) (sym behind) step) told history found stands)

pub returns-clause-canonical : goal.returns-clause-canonical
returns-clause-canonical g c = λ old list before lists form ops same floor root step tells history found stands.
    let hash = g.H.Hasher.hash in
    let bytes = g.H.Digest.Digest.bytes in
    let map = g.B.Readable.bitmap c.args.behind.now.bits.now in
    let n = bit_count g.N.Chunks.LEN map in
    let batch = c.in_ok-batch.batch in
    let mem = c.args.mem.now in
    let held = g.O.Nodes.node_at c.args.behind.now.operations.now in
    let leaves = leaves_from hash (shape g) form 0 ops in
    let chunks = chunk_of (height g) ops in
    let base = chunk_values hash (shape g) (height g) old before 0 c.args.draft.base in
    let values : ℕ → List Bytes = λ k. chunk_values hash (shape g) (height g) leaves chunks 0 (grafted_chunks (shape g) (height g) k) in
    let size = length-leaves hash (shape g) form 0 ops in
    let long : n ≡ length leaves = bits-count g.N.Chunks.LEN map ops same ∙ sym size in
    let count = c.in_ok-batch.ensures.leaves ∙ c.grafted_chunks-count.ensures ∙ ap₂ (grafted_chunks (shape g)) c.height.ensures.exact c.len-leaves.ensures in
    let reach = subst₂ (λ k ls. Contains (stops k ls) mem.leaves) (sym c.in_ok-batch.ensures.base) (sym c.in_ok-batch.ensures.older) c.requires.reach in
    let made = returns-clause-history g c old list before lists form ops same step tells history found stands in
    let over_is : Tells (kshape g) bytes hash (λ p. over_at (kshape g) batch mem p) (values (length ops)) =
    layers_tell (kshape g) g.F.Family.births (kept_family (shape g) (height g) g.F.Family.births g.met.F.Family.numbered) (kept_peaks (shape g) (height g) g.met.F.Family.peaked) bytes hash mem (all_layers batch) list
    (values (length ops)) (base ∷ lists) made (later (values (length ops)) list (base ∷ lists) found) stands in
    c.in_ok-root.ensures.canonical form ops same floor root
    (subst (λ v. TellsPeaks bytes hash (held_at (shape g) g.F.Family.births (g.O.Nodes.node_at v.operations) (λ p. over_at (kshape g) v.grafted.batch.now v.grafted.mem.now p) v.leaves (height g)) (shape g) (height g) leaves chunks) (sym c.new-view.ensures)
    (subst (λ m. TellsPeaks bytes hash (held_at (shape g) g.F.Family.births held (λ p. over_at (kshape g) batch mem p) m (height g)) (shape g) (height g) leaves chunks) (sym (c.new-2.ensures ∙ c.len-leaves.ensures))
    (tells-peaks (shape g) g.F.Family.births g.met.F.Family.numbered g.met.F.Family.peaked (height g) (some g) (lowers g) (absorbed g) held (λ p. over_at (kshape g) batch mem p) n mem.start c.requires.few
    c.requires.peaks (high g batch mem c.bounds.ensures.whole c.find_node.ensures.linked reach n count) c.requires.may_go
    bytes hash leaves chunks long tells (subst (λ k. Tells (kshape g) bytes hash (λ p. over_at (kshape g) batch mem p) (values k)) (sym size) over_is))))
