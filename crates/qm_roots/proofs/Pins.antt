-- The digests of the grafted tree's peaks over the first chunks.
use Rattle.std.proofs.Common.{◌≡◌, ◌∙◌, ◌+◌, ◌*◌, ◌^◌, ◌≤◌, ℕ, suc, List, [], ◌∷◌, map, get_or, Some, arith, ap, ap₂, sym, refl, le_refl}
use Rattle.std.specs.Prelude.{All}
use Rattle.std.proofs.Math.Nat.{mul_assoc}
use Rattle.std.proofs.lemmas.Nat.{mul-le, pow-add}
use Rattle.qm_model.specs.Operations.{Bytes}
use Rattle.qm_model.specs.Trees.{Node, Shape, digest_of, peaks, peak_positions}
use Rattle.qm_model.specs.Families.{Births, IsFamily, HasPeaks}
use Rattle.qm_model.specs.Grafted.{chunk_values, value_over}
use Rattle.qm_model.proofs.GraftedLemmas.{value_is_digest}
use Rattle.qm_merkle.specs.Mems.{Kept, IsWhole, Stands, node_at}
use Rattle.qm_merkle.proofs.Standing.{read}
use Rattle.qm_graft.specs.Grafting.{kept_shape}
use Rattle.qm_graft.specs.Numbers.{kept_family, kept_peaks}
use Rattle.qm_graft.proofs.Viewing.{kept-digest}

map-alike : {X Y : Type 0} (f h : X → Y) (xs : List X) → All (λ x. f x ≡ h x) xs → map f xs ≡ map h xs
map-alike f h [] each = refl
map-alike f h (x ∷ xs) each = ap₂ (λ y ys. y ∷ ys) (each 0 x (omega arith)) (map-alike f h xs (λ i d lt. each (suc i) d (omega (arith, lt))))

module _ (hash : Bytes → Bytes) (shape : Shape) (births : Births) (family : IsFamily shape births) (peaked : HasPeaks shape) (g : ℕ) (leaves : List Bytes) (chunks : ℕ → Bytes) where
  -- they are the definitions' values
  pub pins-are : (count c : ℕ) → c ≤ count → c ≤ 2 ^ 62 → c * 2 ^ g ≤ 2 ^ 62
      → map (digest_of hash (kept_shape shape g) (chunk_values hash shape g leaves chunks 0 count)) (peaks shape c) ≡ map (λ p. value_over hash shape g leaves chunks p.height p.index) (peaks shape c)
  pins-are count c low few within = map-alike _ _ (peaks shape c) (λ i d lt. one (get_or (peaks shape c) i d) (peaked.born c few i d lt))
    where
      one : (x : Node) → shape.birth x ≤ c → digest_of hash (kept_shape shape g) (chunk_values hash shape g leaves chunks 0 count) x ≡ value_over hash shape g leaves chunks x.height x.index
      one x born =
          let inside : suc x.index * 2 ^ x.height ≤ c = omega (arith, family.inside x, born) in
          let wide : suc x.index * 2 ^ (x.height + g) ≡ suc x.index * 2 ^ x.height * 2 ^ g = ap (λ n. suc x.index * n) (pow-add 2 x.height g) ∙ sym (mul_assoc (suc x.index) (2 ^ x.height) (2 ^ g)) in
          let all = mul-le (suc x.index * 2 ^ x.height) (2 ^ g) c (2 ^ g) inside (le_refl (2 ^ g)) in
          kept-digest hash shape g (chunk_values hash shape g leaves chunks 0 count) x.height x.index (omega (arith, wide, all, within))
          ∙ value_is_digest hash shape g leaves chunks count x.height x.index (omega (arith, inside, low))

  -- what a tree that stands for the values holds of the peaks over its first chunks
  pub pins-read : {D : Type 0} (bytes : D → Bytes) (tree : Kept D) (count c : ℕ) (ds : List D) → IsWhole (kept_shape shape g) tree → Stands (kept_shape shape g) bytes hash tree (chunk_values hash shape g leaves chunks 0 count)
      → tree.start ≤ c → c ≤ tree.leaves → tree.leaves ≤ count → c * 2 ^ g ≤ 2 ^ 62 → map Some ds ≡ map (node_at (kept_shape shape g) tree) (peak_positions shape c)
      → map bytes ds ≡ map (λ p. value_over hash shape g leaves chunks p.height p.index) (peaks shape c)
  pins-read bytes tree count c ds whole stands from to low within same =
      let few : c ≤ 2 ^ 62 = omega (arith, to, whole.few) in
      read (kept_shape shape g) births (kept_family shape g births family) (kept_peaks shape g peaked) bytes hash tree (chunk_values hash shape g leaves chunks 0 count) stands (peaks shape c) ds same (omega (arith, from, few))
      (λ i d lt. omega (arith, peaked.born c few i d lt, to)) (λ i d lt. omega (arith, peaked.bare c few i d lt, from))
      ∙ pins-are count c (omega (arith, to, low)) few within
