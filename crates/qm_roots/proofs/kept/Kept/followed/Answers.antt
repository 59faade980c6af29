use Rattle.std.proofs.Common.{◌≡◌, ◌∙◌, ◌*◌, ◌^◌, ◌<◌, ◌≤◌, ◌∷◌, ◌++◌, ℕ, suc, List, [], length, map, take, get_or, arith, ap, ap₂, sym, subst}
use Rattle.qm_model.specs.Trees.{Shape}
use Rattle.qm_model.specs.Grafted.{chunk_node}
use Rattle.qm_merkle.specs.Batches.{all_layers, stops, stops_since}
use Rattle.qm_overlay.specs.Layers.{Overlay}
use Rattle.qm_graft.specs.Grafting.{grafting}
use Rattle.qm_graft.proofs.Fitting.{grafting-span}
use Rattle.qm_roots.specs.Steps.{IsOverlay}
use Rattle.qm_roots.specs.Kept.{Kept, boundary_of, sizes_of}
use Rattle.qm_roots.proofs.Following.{follows, lead-begins}
use Rattle.qm_roots.proofs.Reaching.{child-agreed}
use Rattle.qm_roots.proofs.Sizes.{child-sizes}
use Rattle.qm_roots.proofs.kept.Kept.followed.Given
use Rattle.qm_roots.proofs.kept.Kept.followed.Goals as goal

module _ (g : Given.Over) where
  abbrev D : Type 0
  D = g.row.D.Denot

  abbrev shape : Shape
  shape = g.F.Family.shape

  abbrev size : ℕ
  size = g.N.Chunks.LEN

  abbrev height : ℕ
  height = grafting size

  span : 2 ^ height ≡ 8 * size
  span = let power = g.met.N.Chunks.power in grafting-span size power.0 power.1

  some : 0 < 8 * size
  some = let least = g.met.N.Chunks.least in omega (arith, least)

  prompt : (c : ℕ) → shape.birth (chunk_node height c) ≤ suc (suc c) * 2 ^ height
  prompt = g.met.F.Graftable.prompt height

child : {D : Type 0} (kept : Kept D) (overlays : List Overlay) (own : Overlay) (base keep n : ℕ) → keep ≤ length kept.overlays → overlays ≡ own ∷ take keep kept.overlays → own.count ≡ n → base ≡ get_or (sizes_of kept) keep 0
    → map (λ o. o.count) overlays ++ base ∷ [] ≡ n ∷ take (suc keep) (sizes_of kept)
child kept overlays own base keep n within is count from =
    ap₂ (λ os b. map (λ (o : Overlay). o.count) os ++ b ∷ []) is from ∙ ap₂ (λ k ns. k ∷ ns) count (child-sizes kept.overlays kept.base keep within)

pub invariant_of-result : goal.invariant_of-result
invariant_of-result g c =
    let kept = c.args.self.now in
    let place = c.args.place.now in
    let made = c.in_ok-made.made in
    let sizes = child kept (map (λ r. r.value) c.in_ok-overlays.overlays.items) c.in_ok-bits.overlay.value c.size_before-base.result place.keep c.args.tip.now.size c.requires.keeps c.in_ok-overlays.ensures c.in_ok-bits.ensures.count c.size_before-base.ensures.size in
    let leaves = c.get-leaves.ensures ∙ c.leaves.ensures.count in (
      child-agreed (shape g) g.F.Family.births g.met.F.Family.numbered (size g) (some g) (span g) (prompt g) kept c.size_before-base.ensures.agreed place.canonical.now c.tree.ensures.sized place.bits.now
          (g.O.Nodes.node_at c.args.tip.now.operations.now) place.lacking place.keep c.args.tip.now.size c.requires
          (record { overlays = map (λ r. r.value) c.in_ok-overlays.overlays.items; base = c.size_before-base.result; start = made.start; leaves = c.get-leaves.result; layers = all_layers made.batch; root = g.D.Digest.bytes made.root })
          sizes (leaves ∙ c.in_ok-made.ensures.leaves) (ap (λ n. stops n (all_layers made.batch)) leaves ∙ c.in_ok-made.ensures.stops ∙ ap (λ n. n ∷ stops_since (boundary_of (shape g) (height g) kept place.keep) (stops kept.leaves kept.layers)) (sym leaves)) c.in_ok-made.ensures.start.1,
      (sym leaves, c.in_ok-made.ensures.start.0),
    )

pub returns : goal.returns
returns g c =
    let kept = c.args.self.now in
    let place = c.args.place.now in
    let made = c.in_ok-made.made in
    let bytes = g.D.Digest.bytes in
    let hash = g.H.Hasher.hash in
    let sizes = child kept (map (λ r. r.value) c.in_ok-overlays.overlays.items) c.in_ok-bits.overlay.value c.size_before-base.result place.keep c.args.tip.now.size c.requires.keeps c.in_ok-overlays.ensures c.in_ok-bits.ensures.count c.size_before-base.ensures.size in record {
      sizes = sizes;
      made = λ form ops base bases is at lead ended tip.
          let begins = lead-begins _ base ops lead in
          let step = c.in_ok-bits.ensures.made base ops bases is.overlays is.rising at.active lead ended tip.count in
          let own = subst (λ o. IsOverlay (size g) o base ops) (sym c.deref.ensures) step.1 in
          let grown = c.in_ok-made.ensures.made form ops base bases is begins own step.0 at tip in
          follows bytes hash (shape g) g.F.Family.births g.met.F.Family.numbered (size g) (some g) (span g) (prompt g) form kept
          (record { overlays = map (λ r. r.value) c.in_ok-overlays.overlays.items; base = c.size_before-base.result; start = made.start; leaves = c.get-leaves.result; layers = all_layers made.batch; root = bytes made.root })
          c.in_ok-bits.overlay.value place.keep base ops bases is c.size_before-base.ensures.agreed.falling c.requires.keeps c.in_ok-overlays.ensures (sizes ∙ ap (λ n. n ∷ take (suc place.keep) (sizes_of kept)) tip.count) begins step.1 grown;
      cause = tt;
    }
