-- Chunks that may go from a list.
use Rattle.std.proofs.Common.{◌≡◌, ◌∙◌, ◌+◌, ◌-◌, ◌*◌, ◌/◌, ◌^◌, ◌<◌, ◌≤◌, ⊎_elim, ℕ, zero, suc, Option, None, Some, arith, ap, sym, subst, refl, le_refl}
use Rattle.std.specs.Option.{option_map_or}
use Rattle.std.proofs.Math.Nat.{le_trans}
use Rattle.std.proofs.lemmas.Bool.{cases_lt}
use Rattle.std.proofs.lemmas.Nat.{mul-le, pow_pos}
use Rattle.qm_model.specs.Trees.{Node, Shape, leaf}
use Rattle.qm_model.specs.Families.{Births, IsFamily}
use Rattle.qm_model.specs.Grafted.{chunk_node, raised, grafted_chunks, needed_size, pair_absorption_threshold, prunable_chunks, sync_boundary}
use Rattle.qm_model.proofs.GraftedLemmas.{born_grafted, prunable_needed}
use Rattle.qm_merkle.proofs.Numbering.{birth-born}
use Rattle.qm_roots.specs.Canonical.{MayGo}

module _ (shape : Shape) (births : Births) (family : IsFamily shape births) (g : ℕ) where
  -- a leaf is born as the next one
  leaf-born : (n : ℕ) → shape.birth (leaf n) ≡ suc n
  leaf-born n = ap shape.birth (sym (family.first n)) ∙ birth-born shape births family n 0 (family.some n)

  -- they are grafted
  pub gone-grafted : ((n c : ℕ) (x : Node) → 0 < c → needed_size shape g c ≤ n → shape.birth x ≤ c → shape.birth (raised g x) ≤ n) → (n c : ℕ) → MayGo shape g c n → c ≤ grafted_chunks shape g n
  gone-grafted absorbed n zero goes = omega arith
  gone-grafted absorbed n (suc c) goes =
      let none : 0 + g ≡ g = omega arith in
      let back = absorbed n (suc c) (leaf c) (omega arith) (goes (omega arith)) (omega (arith, leaf-born c)) in
      born_grafted shape g n c (family.inside (chunk_node g c)) (subst (λ h. shape.birth (record { height = h; index = c }) ≤ n) none back)

module _ (shape : Shape) (g : ℕ) where
  -- those below the boundary may go
  pub boundary-goes : ((few more : ℕ) → few ≤ more → needed_size shape g (suc few) ≤ needed_size shape g (suc more)) → (floor n c : ℕ) → c * 2 ^ g ≤ sync_boundary shape g floor n → MayGo shape g c n
  boundary-goes rising floor n c low more = by (prunable_chunks shape g n (floor / 2 ^ g)) refl (c - 1) (omega (arith, more))
    where
      by : (most : ℕ) → prunable_chunks shape g n (floor / 2 ^ g) ≡ most → (fewer : ℕ) → suc fewer ≡ c → needed_size shape g c ≤ n
      by most is fewer next = ⊎_elim
          (λ (beyond : most < c).
          let wide = mul-le (suc most) (2 ^ g) c (2 ^ g) (omega (arith, beyond)) (le_refl (2 ^ g)) in
          let same = ap (λ k. k * 2 ^ g) is in
          let some = pow_pos g in
          absurd (omega (arith, wide, low, same, some)))
          (λ (within : c ≤ most).
          let some : 0 < prunable_chunks shape g n (floor / 2 ^ g) = omega (arith, is, within, more) in
          let there = subst (λ k. needed_size shape g k ≤ n) is (prunable_needed shape g n (floor / 2 ^ g) some) in
          let last : suc (most - 1) ≡ most = omega (arith, within, more) in
          subst (λ k. needed_size shape g k ≤ n) next
          (le_trans (rising fewer (most - 1) (omega (arith, next, within))) (subst (λ k. needed_size shape g k ≤ n) (sym last) there)))
          (cases_lt most c)

  -- those that an opening finds pruned may go, if the list ends after them and has the size that they wait for
  pub opened-goes : ((c : ℕ) → pair_absorption_threshold shape g (suc c) ≡ None → shape.birth (chunk_node g c) ≤ suc c * 2 ^ g) → (n c : ℕ) → c * 2 ^ g ≤ n
      → ((least : ℕ) → pair_absorption_threshold shape g c ≡ Some least → least ≤ n) → MayGo shape g c n
  opened-goes ready n zero inside waits more = absurd (omega (arith, more))
  opened-goes ready n (suc c) inside waits more = at (pair_absorption_threshold shape g (suc c)) refl
    where
      at : (o : Option ℕ) → pair_absorption_threshold shape g (suc c) ≡ o → option_map_or (λ m. m) o (shape.birth (chunk_node g (suc c - 1))) ≤ n
      at None is = let last : suc c - 1 ≡ c = omega arith in subst (λ j. shape.birth (chunk_node g j) ≤ n) (sym last) (le_trans (ready c is) inside)
      at (Some least) is = waits least is
