-- How many digests are made as leaves are added.
use Rattle.std.proofs.Common.{◌≡◌, ℕ, zero, suc, ◌+◌, ◌-◌, ◌<◌, ◌≤◌, ◌∙◌, List, [], ◌∷◌, ◌++◌, length, map, take, get_or, ap, sym, append_assoc, arith}
use Rattle.std.proofs.lemmas.List.{take_more, map-append}
use Rattle.qm_model.specs.Operations.{Bytes}
use Rattle.qm_model.specs.Trees.{Shape}
use Rattle.qm_model.specs.Families.{Births, IsFamily}
use Rattle.qm_merkle.specs.Mems.{more}
use Rattle.qm_merkle.proofs.Numbering.{sizes-lt}

-- a list with the first leaves of a row, and the next
pub next-leaves : {X : Type 0} (f : X → Bytes) (list : List Bytes) (xs : List X) (i : ℕ) (d : X) → i < length xs → d ≡ get_or xs i d → (list ++ map f (take i xs)) ++ f d ∷ [] ≡ list ++ map f (take (i + 1) xs)
next-leaves f list xs i d lt is =
    append_assoc list (map f (take i xs)) (f d ∷ [])
    ∙ ap (λ e. list ++ (map f (take i xs) ++ f e ∷ [])) is
    ∙ ap (λ ys. list ++ ys) (sym (map-append f (take i xs) (get_or xs i d ∷ [])) ∙ ap (map f) (sym (take_more xs i d lt)))

module _ (shape : Shape) (births : Births) (family : IsFamily shape births) where
  -- each leaf is a node
  leaves_fit : (n d : ℕ) → shape.size n + d ≤ shape.size (n + d)
  leaves_fit n zero = let same : n + 0 ≡ n = omega arith in omega (arith, ap shape.size same)
  leaves_fit n (suc d) =
      let next : n + suc d ≡ suc (n + d) = omega arith in
      let lt : n + d < suc (n + d) = omega arith in
      omega (arith, leaves_fit n d, sizes-lt shape births family (n + d) (suc (n + d)) lt, ap shape.size next)

  -- one more leaf after i
  pub made-next : (n i at a b c : ℕ) → at ≡ n + i → b ≡ more a (shape.size (n + i) - shape.size n - i) → c ≡ more b (shape.size (at + 1) - shape.size at - 1) → c ≡ more a (shape.size (n + (i + 1)) - shape.size n - (i + 1))
  made-next n i at a b c is first second =
      let next : at + 1 ≡ n + (i + 1) = omega arith in
      let lt : n + i < n + (i + 1) = omega arith in
      let rise : shape.size (n + i) < shape.size (n + (i + 1)) = sizes-lt shape births family (n + i) (n + (i + 1)) lt in
      omega (arith, first, second, leaves_fit n i, rise, ap shape.size next, ap shape.size is)
