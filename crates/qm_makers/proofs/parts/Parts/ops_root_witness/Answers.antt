use Rattle.std.proofs.Common.{◌≡◌, ◌∙◌, ◌<◌, ℕ, ap, ap₂, sym, subst}
use Rattle.std.specs.Prelude.{Option}
use Rattle.qm_model.specs.Operations.{Bytes}
use Rattle.qm_model.specs.Trees.{Shape, leaves_from}
use Rattle.qm_model.specs.Grafted.{chunk_of, chunk_values, grafted_chunks}
use Rattle.qm_model.specs.RangeProofs.{Witness}
use Rattle.qm_merkle.specs.Mems.{Stands}
use Rattle.qm_bits.specs.Bitmaps.{bit_count, all_bits}
use Rattle.qm_graft.specs.Grafting.{grafting, kept_shape}
use Rattle.qm_graft.specs.Trees.{HoldsPeaks, TellsPeaks}
use Rattle.qm_graft.proofs.Fitting.{grafting-some, grafting-span}
use Rattle.qm_graft.proofs.Rooting.{bits-count, length-leaves, pending-is, partial-is}
use Rattle.qm_makers.proofs.Viewed.{seen, both, same-view, holds, tells}
use Rattle.qm_makers.proofs.parts.Parts.ops_root_witness.Given
use Rattle.qm_makers.proofs.parts.Parts.ops_root_witness.Goals as goal

same_witness : {a b : Bytes} {p q : Option Bytes} {r s : Option (ℕ × Bytes)} → a ≡ b → p ≡ q → r ≡ s → ◌≡◌ {A = Witness} (record { grafted_root = a; pending = p; partial = r }) (record { grafted_root = b; pending = q; partial = s })
same_witness {b = b} {p = p} {r = r} {s = s} root pending partial =
    ap (λ a. record { grafted_root = a; pending = p; partial = r }) root ∙ ap₂ (λ p r. record { grafted_root = b; pending = p; partial = r }) pending partial

module _ (g : Given.Over) where
  abbrev shape : Shape
  shape = g.F.Family.shape

  abbrev height : ℕ
  height = grafting g.N.Chunks.LEN

  some : 0 < height
  some = grafting-some g.N.Chunks.LEN g.met.N.Chunks.least

pub root_of-requires-clause-held : goal.root_of-requires-clause-held
root_of-requires-clause-held g c =
    let lowered = g.met.F.Graftable.lowered in
    let absorbed = g.met.F.Graftable.absorbed in
    let births = g.F.Family.births in
    let numbered = g.met.F.Family.numbered in
    let peaked = g.met.F.Family.peaked in
    let operations = c.args.self.now.operations.now in
    let grafted = c.args.self.now.grafted.now in
    let leaves = c.bounds-leaves.ensures.leaves in
    let at = seen {D = g.row.D.Denot} (shape g) births (height g) in
    let own = both operations grafted in
    let view = same-view c.new-view.result operations grafted _ c.new-view.ensures leaves in
    subst (λ v. HoldsPeaks (at v) (shape g) c.bounds-leaves.result.1) (sym view)
    (subst (HoldsPeaks (at own) (shape g)) (sym leaves)
    (holds (shape g) births numbered peaked (height g) (some g) lowered absorbed operations grafted c.bounds-leaves.ensures.whole c.bounds.ensures.whole c.requires.leaves c.requires.may_go))

pub returns : goal.returns
returns g c = λ form ops are.
    let lowered = g.met.F.Graftable.lowered in
    let absorbed = g.met.F.Graftable.absorbed in
    let births = g.F.Family.births in
    let numbered = g.met.F.Family.numbered in
    let peaked = g.met.F.Family.peaked in
    let bytes = g.D.Digest.bytes in
    let hash = g.H.Hasher.hash in
    let size = g.N.Chunks.LEN in
    let power = g.met.N.Chunks.power in
    let span = grafting-span size power.0 power.1 in
    let map = c.args.self.now.bits.now in
    let operations = c.args.self.now.operations.now in
    let grafted = c.args.self.now.grafted.now in
    let leaves = c.bounds-leaves.ensures.leaves in
    let list = leaves_from hash (shape g) form 0 ops in
    let chunks = chunk_of (height g) ops in
    let count = length-leaves hash (shape g) form 0 ops in
    let long = bits-count size map ops are.bits_are in
    let at = seen {D = g.row.D.Denot} (shape g) births (height g) in
    let view = same-view c.new-view.result operations grafted _ c.new-view.ensures leaves in
    let values = subst (λ n. Stands (kept_shape (shape g) (height g)) bytes hash grafted (chunk_values hash (shape g) (height g) list chunks 0 (grafted_chunks (shape g) (height g) n))) (sym count) are.values_are in
    let told = subst (λ v. TellsPeaks bytes hash (at v) (shape g) (height g) list chunks) (sym view)
    (tells (shape g) births numbered peaked (height g) (some g) lowered absorbed operations grafted c.bounds-leaves.ensures.whole c.bounds.ensures.whole c.requires.leaves c.requires.may_go bytes hash list chunks are.operations_are values) in
    same_witness (c.in_ok-grafted_root.ensures.root form ops (leaves ∙ are.operations_are.count ∙ count) are.floor_is told)
    (c.in_ok-pending.ensures.digest ∙ pending-is hash (shape g) (height g) size (bit_count size map) (all_bits size map) ops span are.bits_are long)
    (c.in_ok-partial.ensures.digest ∙ partial-is hash (shape g) (height g) size (bit_count size map) (all_bits size map) ops span are.bits_are long)
