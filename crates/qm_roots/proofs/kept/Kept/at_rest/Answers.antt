use Rattle.std.proofs.Common.{◌≡◌, ◌∙◌, ◌++◌, ◌∷◌, List, [], ap, map}
use Rattle.qm_model.specs.Grafted.{grafted_chunks}
use Rattle.qm_overlay.specs.Layers.{Overlay}
use Rattle.qm_graft.specs.Grafting.{grafting}
use Rattle.qm_roots.proofs.Resting.{rest-agreed, still}
use Rattle.qm_roots.proofs.kept.Kept.at_rest.Goals as goal

-- one value, which is put into an empty list
one : {R : Type 0} (value : R → Overlay) (xs ys : List R) (r : R) (o : Overlay) → ys ≡ xs ++ r ∷ [] → xs ≡ [] → value r ≡ o → map value ys ≡ o ∷ []
one value xs ys r o more none is = ap (map value) (more ∙ ap (λ l. l ++ r ∷ []) none) ∙ ap (λ v. v ∷ []) is

pub invariant_of-result : goal.invariant_of-result
invariant_of-result g c =
    let size = c.len-size.ensures in
    let own = one (λ r. r.value) c.new-overlays.result.items c.push.new.self.items c.in_ok-overlay.overlay (still c.len-size.result) c.in_ok-push.ensures.items c.new-overlays.ensures.items (c.in_ok-overlay.ensures.ok ∙ c.new.ensures.value) in (
      rest-agreed g.F.Family.shape (grafting g.N.Chunks.LEN) c.len-size.result c.grafted_chunks.result (map (λ r. r.value) c.push.new.self.items) (g.D.Digest.bytes c.args.root) own size.bounded
          (c.grafted_chunks.ensures ∙ ap (λ h. grafted_chunks g.F.Family.shape h c.len-size.result) c.height.ensures.exact),
      tt,
    )
