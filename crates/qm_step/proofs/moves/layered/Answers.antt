use Rattle.std.proofs.Common.{◌≡◌, ◌∙◌, List, [], ◌∷◌, ap, ap₂, map, refl}
use Rattle.std.specs.List.{AllZip}
use Rattle.qm_step.proofs.moves.layered.Goals as goal

-- lists whose elements have the same values, one by one
values-same : {R X : Type 0} (value : R → X) (xs ys : List R) → AllZip (λ x y. value y ≡ value x) xs ys → map value ys ≡ map value xs
values-same value [] [] same = refl
values-same value [] (y ∷ ys) same = absurd same
values-same value (x ∷ xs) [] same = absurd same
values-same value (x ∷ xs) (y ∷ ys) same = ap₂ (λ a b. a ∷ b) same.0 (values-same value xs ys same.1)

pub returns : goal.returns
returns g c =
    ap (map (λ l. l.value)) c.in_ok-insert.ensures.items
    ∙ ap₂ (λ a b. a ∷ b) c.in_ok-new.ensures.ok (values-same (λ l. l.value) c.args.layers.now c.in_ok-all.all.items c.in_ok-all.ensures.ok)
