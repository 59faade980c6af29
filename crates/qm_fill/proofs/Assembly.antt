-- A list that was pushed part by part.
use Rattle.std.proofs.Common.{◌≡◌, List, [], ◌∷◌, ◌++◌, ap, ◌∙◌, append_assoc}

pub assembled : {A : Type 0} (first third fourth : A) (second last l0 l1 l2 l3 l4 l5 : List A)
    → l0 ≡ [] → l1 ≡ l0 ++ first ∷ [] → l2 ≡ l1 ++ second → l3 ≡ l2 ++ third ∷ [] → l4 ≡ l3 ++ fourth ∷ [] → l5 ≡ l4 ++ last → l5 ≡ first ∷ (second ++ (third ∷ fourth ∷ last))
assembled first third fourth second last l0 l1 l2 l3 l4 l5 e0 e1 e2 e3 e4 e5 =
    e5 ∙ ap (λ l. l ++ last) (e4 ∙ ap (λ l. l ++ fourth ∷ []) (e3 ∙ ap (λ l. l ++ third ∷ []) (e2 ∙ ap (λ l. l ++ second) (e1 ∙ ap (λ l. l ++ first ∷ []) e0)))) ∙ simp append_assoc
