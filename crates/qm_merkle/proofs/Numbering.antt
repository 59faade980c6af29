-- What follows from the laws of a family: places and births tell the nodes apart.
use Rattle.std.proofs.Common.{◌≡◌, ℕ, zero, suc, ◌+◌, ◌/◌, ◌%◌, ◌-◌, ◌<◌, ◌≤◌, arith, ap, sym, ◌∙◌, ⊎_elim, subst, le_refl}
use Rattle.std.proofs.lemmas.Bool.{cases_lt}
use Rattle.std.proofs.lemmas.Nat.{pow_pos}
use Rattle.qm_model.specs.Trees.{Shape, Node}
use Rattle.qm_model.specs.Families.{Births, IsFamily, IsHeld, over}

module _ (shape : Shape) (births : Births) (family : IsFamily shape births) where
  -- a tree of more leaves has no fewer nodes
  sizes-add : (n d : ℕ) → shape.size n ≤ shape.size (n + d)
  sizes-add n zero = subst (λ m. shape.size n ≤ shape.size m) (omega arith) (le_refl (shape.size n))
  sizes-add n (suc d) = let next : n + suc d ≡ suc (n + d) = omega arith in omega (arith, sizes-add n d, family.sized (n + d), ap shape.size next)

  pub sizes : (n m : ℕ) → n ≤ m → shape.size n ≤ shape.size m
  sizes n m le = let split : n + (m - n) ≡ m = omega arith in subst (λ k. shape.size n ≤ shape.size k) split (sizes-add n (m - n))

  pub sizes-lt : (n m : ℕ) → n < m → shape.size n < shape.size m
  sizes-lt n m lt = let le : suc n ≤ m = omega arith in omega (arith, sizes (suc n) m le, family.sized n, family.some n)

  pub sizes_tell : (n m : ℕ) → shape.size n ≤ shape.size m → n ≤ m
  sizes_tell n m le = ⊎_elim (λ (lt : m < n). absurd (omega (arith, sizes-lt m n lt))) (λ (at_most : n ≤ m). at_most) (cases_lt m n)

  pub same_size : (n m : ℕ) → shape.size n ≡ shape.size m → n ≡ m
  same_size n m e = omega (arith, sizes_tell n m (omega arith), sizes_tell m n (omega arith))

  pub born_once : (x : Node) → 0 < shape.birth x
  born_once x =
      let pos = pow_pos x.height in
      omega (arith, family.inside x)

  -- a node's number among those that are born with it
  pub record Place (x : Node) : Type 0 where
    pub before : ℕ
    pub number : ℕ
    pub birth : shape.birth x ≡ suc before
    pub low : number < births.count before
    pub is : x ≡ births.born before number
    pub at : shape.position x ≡ shape.size before + number

  pub place : (x : Node) → Place x
  place x =
      let n = shape.birth x - 1 in
      let e : shape.birth x ≡ suc n = omega (arith, born_once x) in
      let r = family.all n x e in
      record { before = n; number = r.0; birth = e; low = r.1; is = r.2; at = ap shape.position r.2 ∙ family.placed n r.0 r.1 }

  -- the nodes that are there by n leaves stand below the size, and the others do not
  pub stands_below : (x : Node) (n : ℕ) → shape.birth x ≤ n → shape.position x < shape.size n
  stands_below x n le =
      let p = place x in
      let up : suc p.before ≤ n = omega (arith, p.birth) in
      omega (arith, p.at, p.low, family.sized p.before, sizes (suc p.before) n up)

  pub stands_past : (x : Node) (n : ℕ) → n < shape.birth x → shape.size n ≤ shape.position x
  stands_past x n lt =
      let p = place x in
      let up : n ≤ p.before = omega (arith, p.birth) in
      omega (arith, p.at, sizes n p.before up)

  pub birth_below : (x : Node) (n : ℕ) → shape.position x < shape.size n → shape.birth x ≤ n
  birth_below x n low = ⊎_elim (λ (late : n < shape.birth x). absurd (omega (arith, stands_past x n late))) (λ (le : shape.birth x ≤ n). le) (cases_lt n (shape.birth x))

  pub birth_past : (x : Node) (n : ℕ) → shape.size n ≤ shape.position x → n < shape.birth x
  birth_past x n high = ⊎_elim (λ (late : n < shape.birth x). late) (λ (le : shape.birth x ≤ n). absurd (omega (arith, stands_below x n le))) (cases_lt n (shape.birth x))

  -- a node that an append brings is born with it
  pub birth-born : (n k : ℕ) → k < births.count n → shape.birth (births.born n k) ≡ suc n
  birth-born n k lt =
      let x = births.born n k in
      let at : shape.position x ≡ shape.size n + k = family.placed n k lt in
      let low : shape.birth x ≤ suc n = birth_below x (suc n) (omega (arith, at, family.sized n)) in
      let high : n < shape.birth x = birth_past x n (omega (arith, at)) in
      omega arith

  -- no two nodes stand at one place
  pub same_place : (x y : Node) → shape.position x ≡ shape.position y → x ≡ y
  same_place x y e =
      let p = place x in
      let q = place y in
      let up : shape.birth x ≤ suc q.before = birth_below x (suc q.before) (omega (arith, q.at, q.low, e, family.sized q.before)) in
      let down : q.before < shape.birth x = birth_past x q.before (omega (arith, q.at, e)) in
      let same : p.before ≡ q.before = omega (arith, p.birth) in
      let number : p.number ≡ q.number = omega (arith, p.at, q.at, e, ap shape.size same) in
      p.is ∙ ap (λ n. births.born n p.number) same ∙ ap (births.born q.before) number ∙ sym q.is

  -- a node is there before the node over it
  pub over_later : (x : Node) → shape.birth x ≤ shape.birth (over x)
  over_later x =
      let p = place (over x) in
      let pos : 0 < p.number = ⊎_elim (λ (some : 0 < p.number). some)
      (λ (none : p.number ≤ 0).
      let zero_is : p.number ≡ 0 = omega arith in
      let flat : suc x.height ≡ 0 = ap (λ (y : Node). y.height) (p.is ∙ ap (births.born p.before) zero_is ∙ family.first p.before) in
      absurd (omega arith))
      (cases_lt 0 p.number) in
      let halves = family.halves p.before p.number pos p.low in
      let is : over x ≡ record { height = suc halves.height; index = halves.index } = p.is ∙ halves.is in
      let height : suc x.height ≡ suc halves.height = ap (λ (y : Node). y.height) is in
      let index : x.index / 2 ≡ halves.index = ap (λ (y : Node). y.index) is in
      let level : halves.height ≡ x.height = omega arith in
      let here : (y : Node) → IsHeld shape births p.before p.number y → y ≡ x → shape.birth x ≤ shape.birth (over x) = λ y held same.
      let birth : shape.birth y ≡ shape.birth x = ap shape.birth same in
      ⊎_elim (λ (old : shape.birth y ≤ p.before). omega (arith, p.birth))
      (λ (new : (j : ℕ) × (j < p.number) × (y ≡ births.born p.before j)).
      let within : new.0 < births.count p.before = omega (arith, new.1, p.low) in
      omega (arith, p.birth, ap shape.birth new.2, birth-born p.before new.0 within)) held in
      ⊎_elim
      (λ (even : x.index % 2 < 1). here _ halves.left (node_path level (omega arith)))
      (λ (odd : 1 ≤ x.index % 2). here _ halves.right (node_path level (omega arith)))
      (cases_lt (x.index % 2) 1)
    where
      node_path : {h a : ℕ} → h ≡ x.height → a ≡ x.index → record { height = h; index = a } ≡ x
      node_path eh ea = λ i. record { height = eh i; index = ea i }

  -- a node stands at each place below the size
  pub standing : (n p : ℕ) → p < shape.size n → (x : Node) × (shape.position x ≡ p) × (shape.birth x ≤ n)
  standing zero p low = absurd (omega (arith, low, family.none))
  standing (suc n) p low = ⊎_elim
      (λ (old : p < shape.size n). let r = standing n p old in (r.0, r.1, omega (arith, r.2)))
      (λ (new : shape.size n ≤ p).
      let k = p - shape.size n in
      let lt : k < births.count n = omega (arith, low, new, family.sized n) in
      (births.born n k, family.placed n k lt ∙ omega arith, omega (arith, birth-born n k lt)))
      (cases_lt p (shape.size n))
