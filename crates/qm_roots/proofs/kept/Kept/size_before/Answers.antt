use Rattle.std.proofs.Common.{◌≡◌, ◌∙◌, ◌++◌, ◌∷◌, ◌<◌, ℕ, List, [], length, map, get_or, arith, ap, sym}
use Rattle.std.proofs.lemmas.List.{get_or-map, get_or_append_left, length-map}
use Rattle.qm_overlay.specs.Layers.{Overlay}
use Rattle.qm_roots.specs.Kept.{Kept, sizes_of}
use Rattle.qm_roots.proofs.kept.Kept.size_before.Goals as goal

-- the size after one of the steps
size-at : {R : Type 0} (value : R → Overlay) (xs : List R) (base k : ℕ) (r : R) → k < length xs → r ≡ get_or xs k r → (value r).count ≡ get_or (map (λ o. o.count) (map value xs) ++ base ∷ []) k 0
size-at value xs base k r lt at =
    let one = length-map xs value in
    let two = length-map (map value xs) (λ (o : Overlay). o.count) in
    sym (get_or_append_left (map (λ o. o.count) (map value xs)) (base ∷ []) 0 k (omega (arith, lt, one, two)) ∙ get_or-map (λ (o : Overlay). o.count) (map value xs) k (value r) 0 (omega (arith, lt, one))
    ∙ ap (λ (o : Overlay). o.count) (get_or-map value xs k r (value r) lt ∙ ap value (sym at)))

pub returns-then-steps-len-clause-size : goal.returns-then-steps-len-clause-size
returns-then-steps-len-clause-size g c =
    let lt : c.args.steps < length c.self.inside.overlays.items = omega (arith, c.if-steps-len.true, c.len.ensures) in
    c.len-then-steps-len.ensures.value ∙ ap (λ (o : Overlay). o.count) c.deref.ensures
    ∙ size-at (λ r. r.value) c.self.inside.overlays.items c.self.inside.base c.args.steps c.index.result.now lt c.index.ensures
    ∙ ap (λ (k : Kept g.row.D.Denot). get_or (sizes_of k) c.args.steps 0) c.self.view_is
