-- The trees whose merges are delayed are a family.
use Rattle.std.proofs.Common.{◌≡◌, ℕ, zero, suc, ◌+◌, ◌-◌, ◌*◌, ◌/◌, ◌^◌, ◌<◌, ◌≤◌, true, false, arith, ap, sym, add-zero, ◌∙◌, refl, inl, inr, ⊎_elim, subst, pow_mono}
use Rattle.std.specs.Prelude.{if◌then◌else◌, ◌==◌, ◌⊎◌}
use Rattle.std.proofs.Math.Nat.{pow-suc}
use Rattle.std.proofs.lemmas.Nat.{pow_pos, leading_top, div-mul-add}
use Rattle.std.proofs.lemmas.Bool.{cases_lt}
use Rattle.std.proofs.lemmas.Bool.Decides.{nat_tests}
use Rattle.qm_model.specs.Trees.{end_of, leaf}
use Rattle.qm_model.specs.Families.{IsFamily, HasHalves, IsHeld}
use Rattle.qm_model.specs.Mmr.{v2}
use Rattle.qm_model.specs.Mmb.{mmb, mmb_births, log, size, birth, position}
use Rattle.qm_model.proofs.MmrPositions.{height-of-left}
use Rattle.qm_model.proofs.MmrFamily.{below_power, odd_of, node_path}

not_zero : (h : ℕ) → (suc h == 0) ≡ false
not_zero h = grind (arith, nat_tests)

-- The highest digit.

-- a number is between the power of two at its highest digit and the next
pub log_bounds : (m : ℕ) → 0 < m → (2 ^ log m ≤ m) × (m < 2 ^ suc (log m))
log_bounds m pos =
    let top = leading_top m m pos (below_power m) in
    let same : log m ≡ top.0 = omega (arith, top.1) in
    (subst (λ j. 2 ^ j ≤ m) (sym same) top.2, subst (λ j. m < 2 ^ suc j) (sym same) top.3)

-- no higher digit
pub log_least : (m k : ℕ) → 0 < m → 2 ^ k ≤ m → k ≤ log m
log_least m k pos le = ⊎_elim
    (λ (above : log m < k).
    let more : 2 ^ suc (log m) ≤ 2 ^ k = pow_mono {i = suc (log m)} {j = k} (omega arith) in
    absurd (omega (arith, (log_bounds m pos).1)))
    (λ (within : k ≤ log m). within)
    (cases_lt (log m) k)

pub log_is : (m k : ℕ) → 2 ^ k ≤ m → m < 2 ^ suc k → log m ≡ k
log_is m k low high =
    let pos = pow_pos k in
    let some : 0 < m = omega arith in
    let up : k ≤ log m = log_least m k some low in
    let down : log m ≤ k = ⊎_elim
    (λ (above : k < log m).
    let more : 2 ^ suc k ≤ 2 ^ log m = pow_mono {i = suc k} {j = log m} (omega arith) in
    absurd (omega (arith, (log_bounds m some).0)))
    (λ (within : log m ≤ k). within)
    (cases_lt k (log m)) in
    omega arith

pub log_below : (m : ℕ) → 0 < m → log m < m
log_below m pos = omega (arith, below_power (log m), (log_bounds m pos).0)

-- How many nodes an append brings.

pub count_one : (n : ℕ) → n + 2 ≡ 2 ^ log (n + 2) → mmb_births.count n ≡ 1
count_one n is = ap (λ t. if t then 1 else 2) (same (n + 2) (2 ^ log (n + 2)) is)
  where
    same : (a b : ℕ) → a ≡ b → (a == b) ≡ true
    same a b e = grind (arith, nat_tests)

pub count_two : (n : ℕ) → 2 ^ log (n + 2) < n + 2 → mmb_births.count n ≡ 2
count_two n less = ap (λ t. if t then 1 else 2) (differ (n + 2) (2 ^ log (n + 2)) less)
  where
    differ : (a b : ℕ) → b < a → (a == b) ≡ false
    differ a b lt = grind (arith, nat_tests)

-- which of the two it is
pub counts : (n : ℕ) → ((n + 2 ≡ 2 ^ log (n + 2)) × (mmb_births.count n ≡ 1)) ⊎ ((2 ^ log (n + 2) < n + 2) × (mmb_births.count n ≡ 2))
counts n = ⊎_elim
    (λ (less : 2 ^ log (n + 2) < n + 2). inr (less, count_two n less))
    (λ (le : n + 2 ≤ 2 ^ log (n + 2)). let is : n + 2 ≡ 2 ^ log (n + 2) = omega (arith, (log_bounds (n + 2) (omega arith)).0) in inl (is, count_one n is))
    (cases_lt (2 ^ log (n + 2)) (n + 2))

-- the inner node that is born with leaf n has this index
pub record Merges (n c : ℕ) : Type 0 where
  pub splits : n + 2 ≡ suc c * (2 ^ v2 (n + 2) * 2) + 2 ^ v2 (n + 2)
  pub whole : (n + 2) / 2 ^ suc (v2 (n + 2)) ≡ suc c

split_index : (m t c : ℕ) → m ≡ suc c * (2 ^ t * 2) + 2 ^ t → m / 2 ^ suc t ≡ suc c
split_index m t c e =
    let pos = pow_pos t in
    let wide = pow-suc 2 t in
    let whole : m ≡ suc c * 2 ^ suc t + 2 ^ t = e ∙ ap (λ z. suc c * z + 2 ^ t) (sym wide) in
    ap (λ z. z / 2 ^ suc t) whole ∙ div-mul-add (suc c) (2 ^ suc t) (2 ^ t) (omega arith)

pub merges : (n : ℕ) → 1 < mmb_births.count n → (c : ℕ) × Merges n c
merges n more =
    let r = odd_of (n + 2) (omega arith) in
    let t = v2 (n + 2) in
    ⊎_elim
    (λ (some : 0 < r.0).
    let c = r.0 - 1 in
    let next : suc (2 * r.0) ≡ suc (suc c * 2) = omega arith in
    let splits : n + 2 ≡ suc c * (2 ^ t * 2) + 2 ^ t = r.1 ∙ ap (λ z. z * 2 ^ t) next ∙ omega arith in
    (c, record { splits = splits; whole = split_index (n + 2) t c splits }))
    (λ (none : r.0 ≤ 0).
    let zero_is : r.0 ≡ 0 = omega arith in
    let power : n + 2 ≡ 2 ^ t = r.1 ∙ ap (λ a. suc (2 * a) * 2 ^ t) zero_is ∙ omega arith in
    let pos = pow_pos t in
    let wide = pow-suc 2 t in
    let top : log (n + 2) ≡ t = log_is (n + 2) t (omega arith) (omega arith) in
    absurd (omega (arith, count_one n (power ∙ ap (λ k. 2 ^ k) (sym top)))))
    (cases_lt 0 r.0)

-- if n + 2 is so made up, the node of that height and index is born with leaf n
pub merged : (n h i : ℕ) → n + 2 ≡ suc i * (2 ^ h * 2) + 2 ^ h → (v2 (n + 2) ≡ h) × (mmb_births.count n ≡ 2) × (mmb_births.born n 1 ≡ record { height = suc h; index = i })
merged n h i e =
    let r = odd_of (n + 2) (omega arith) in
    let t = v2 (n + 2) in
    let odd : n + 2 ≡ suc (2 * suc i) * 2 ^ h = omega (arith, e) in
    let low : h ≤ t = height-of-left t r.0 h (2 * suc i) (sym odd ∙ r.1) in
    let high : t ≤ h = height-of-left h (suc i) t (2 * r.0) (sym r.1 ∙ odd) in
    let same : t ≡ h = omega arith in
    let pos = pow_pos h in
    let index : (n + 2) / 2 ^ suc t - 1 ≡ i = omega (arith, ap (λ k. (n + 2) / 2 ^ suc k) same ∙ split_index (n + 2) h i e) in (
      same,
      ⊎_elim (λ (one : (n + 2 ≡ 2 ^ log (n + 2)) × (mmb_births.count n ≡ 1)).
          let single : suc 0 * 2 ^ log (n + 2) ≡ n + 2 = omega (arith, one.0) in
          let under : log (n + 2) ≤ h = height-of-left h (suc i) (log (n + 2)) 0 (single ∙ odd) in
          let small : 2 ^ log (n + 2) ≤ 2 ^ h = pow_mono {i = log (n + 2)} {j = h} under in
          absurd (omega (arith, one.0)))
          (λ (two : (2 ^ log (n + 2) < n + 2) × (mmb_births.count n ≡ 2)). two.1)
          (counts n),
      node_path (record { height = suc t; index = (n + 2) / 2 ^ suc t - 1 }) (suc h) i (ap suc same) index,
    )

pub sized_mmb : (n : ℕ) → size (suc n) ≡ size n + mmb_births.count n
sized_mmb n =
    let next : log (suc n + 1) ≡ log (n + 2) = ap log (omega arith) in
    let small = log_below (n + 1) (omega arith) in
    let bounds = log_bounds (n + 2) (omega arith) in
    let j = log (n + 2) in
    ⊎_elim (λ (one : (n + 2 ≡ 2 ^ j) × (mmb_births.count n ≡ 1)).
    let some : 0 < j = ⊎_elim (λ (high : 0 < j). high)
    (λ (none : j ≤ 0). let zero_is : j ≡ 0 = omega arith in absurd (omega (arith, one.0 ∙ ap (λ k. 2 ^ k) zero_is)))
    (cases_lt 0 j) in
    let split : 2 ^ j ≡ 2 ^ (j - 1) * 2 = let up : j ≡ suc (j - 1) = omega arith in ap (λ k. 2 ^ k) up ∙ pow-suc 2 (j - 1) in
    let wide = pow-suc 2 (j - 1) in
    let pos = pow_pos (j - 1) in
    let before : log (n + 1) ≡ j - 1 = log_is (n + 1) (j - 1) (omega (arith, one.0)) (omega (arith, one.0)) in
    omega (arith, one.1))
    (λ (two : (2 ^ j < n + 2) × (mmb_births.count n ≡ 2)).
    let before : log (n + 1) ≡ j = log_is (n + 1) j (omega (arith, two.0)) (omega (arith, bounds.1)) in
    omega (arith, two.1))
    (counts n)

-- Births and places.

pub leaf_birth : (i : ℕ) → birth (leaf i) ≡ suc i
leaf_birth i = omega arith

pub inner_birth : (h i : ℕ) → suc (birth (record { height = suc h; index = i })) ≡ suc i * (2 ^ h * 2) + 2 ^ h
inner_birth h i =
    let half : suc h - 1 ≡ h = omega arith in
    let is : birth (record { height = suc h; index = i }) ≡ suc i * (2 ^ h * 2) + 2 ^ h - 1 =
    ap (λ t. if t then suc i * 2 ^ suc h else suc i * 2 ^ suc h + 2 ^ (suc h - 1) - 1) (not_zero h)
    ∙ ap (λ k. suc i * 2 ^ suc h + 2 ^ k - 1) half ∙ ap (λ z. suc i * z + 2 ^ h - 1) (pow-suc 2 h) in
    let pos = pow_pos h in
    omega arith

pub leaf_position : (i : ℕ) → position (leaf i) ≡ size i
leaf_position i = let last : birth (leaf i) - 1 ≡ i = omega (arith, leaf_birth i) in ap (λ e. size e + 0) last ∙ add-zero (size i)

pub inner_position : (h i n : ℕ) → n + 2 ≡ suc i * (2 ^ h * 2) + 2 ^ h → position (record { height = suc h; index = i }) ≡ size n + 1
inner_position h i n e =
    let before : birth (record { height = suc h; index = i }) - 1 ≡ n = omega (arith, inner_birth h i) in
    ap (λ t. size (birth (record { height = suc h; index = i }) - 1) + (if t then 0 else 1)) (not_zero h) ∙ ap (λ k. size k + 1) before

pub some_mmb : (n : ℕ) → 0 < mmb_births.count n
some_mmb n = ⊎_elim (λ (one : (n + 2 ≡ 2 ^ log (n + 2)) × (mmb_births.count n ≡ 1)). omega (arith, one.1))
    (λ (two : (2 ^ log (n + 2) < n + 2) × (mmb_births.count n ≡ 2)). omega (arith, two.1)) (counts n)

pub most_mmb : (n : ℕ) → mmb_births.count n ≤ 2
most_mmb n = ⊎_elim (λ (one : (n + 2 ≡ 2 ^ log (n + 2)) × (mmb_births.count n ≡ 1)). omega (arith, one.1))
    (λ (two : (2 ^ log (n + 2) < n + 2) × (mmb_births.count n ≡ 2)). omega (arith, two.1)) (counts n)

-- a tree of more leaves has more nodes
pub size_below : (m n : ℕ) → m < n → size m < size n
size_below m zero lt = absurd (omega arith)
size_below m (suc n) lt = ⊎_elim
    (λ (below : m < n). omega (arith, size_below m n below, sized_mmb n))
    (λ (last : n ≤ m).
    let same : size m ≡ size n = ap size (omega arith) in
    omega (arith, same, sized_mmb n, some_mmb n))
    (cases_lt m n)

-- the node that is born after the leaf
pub after_leaf : (n : ℕ) (more : 1 < mmb_births.count n) → mmb_births.born n 1 ≡ record { height = suc (v2 (n + 2)); index = (merges n more).0 }
after_leaf n more = (merged n (v2 (n + 2)) (merges n more).0 (merges n more).1.splits).2

placed_mmb : (n k : ℕ) → k < mmb_births.count n → position (mmb_births.born n k) ≡ size n + k
placed_mmb n zero lt = leaf_position n ∙ sym (add-zero (size n))
placed_mmb n (suc zero) lt =
    let r = merges n lt in
    ap position (after_leaf n lt) ∙ inner_position (v2 (n + 2)) r.0 n r.1.splits
placed_mmb n (suc (suc k)) lt = absurd (omega (arith, most_mmb n))

all_mmb : (n h i : ℕ) → birth (record { height = h; index = i }) ≡ suc n → (k : ℕ) × (k < mmb_births.count n) × (record { height = h; index = i } ≡ mmb_births.born n k)
all_mmb n zero i e = let same : i ≡ n = omega (arith, leaf_birth i, e) in (0, some_mmb n, ap leaf same)
all_mmb n (suc h) i e =
    let found = merged n h i (omega (arith, inner_birth h i, e)) in
    (1, omega (arith, found.1), sym found.2)

inside_mmb : (h i : ℕ) → end_of (record { height = h; index = i }) ≤ birth (record { height = h; index = i })
inside_mmb zero i = omega arith
inside_mmb (suc h) i =
    let pos = pow_pos h in
    let wide : suc i * 2 ^ suc h ≡ suc i * (2 ^ h * 2) = ap (λ z. suc i * z) (pow-suc 2 h) in
    omega (arith, inner_birth h i)

-- the left half was born before, and so was the right one, if it is no leaf
left_there : (n h c : ℕ) → n + 2 ≡ suc c * (2 ^ h * 2) + 2 ^ h → birth (record { height = h; index = 2 * c }) ≤ n
left_there n zero c e = omega (arith, leaf_birth (2 * c))
left_there n (suc h) c e =
    let pos = pow_pos h in
    let wide = pow-suc 2 h in
    let whole : n + 2 ≡ suc c * (2 ^ h * 2 * 2) + 2 ^ h * 2 = e ∙ ap (λ z. suc c * (z * 2) + z) wide in
    omega (arith, inner_birth h (2 * c))

right_there : (n h c : ℕ) → n + 2 ≡ suc c * (2 ^ h * 2) + 2 ^ h → IsHeld mmb mmb_births n 1 (record { height = h; index = 2 * c + 1 })
right_there n zero c e = let same : 2 * c + 1 ≡ n = omega arith in inr (0, omega arith, ap leaf same)
right_there n (suc h) c e =
    let pos = pow_pos h in
    let wide = pow-suc 2 h in
    let whole : n + 2 ≡ suc c * (2 ^ h * 2 * 2) + 2 ^ h * 2 = e ∙ ap (λ z. suc c * (z * 2) + z) wide in
    inl (omega (arith, inner_birth h (2 * c + 1)))

halved_mmb : (n k : ℕ) → 0 < k → k < mmb_births.count n → HasHalves mmb mmb_births n k
halved_mmb n zero pos lt = absurd (omega arith)
halved_mmb n (suc zero) pos lt =
    let r = merges n lt in
    record {
      height = v2 (n + 2);
      index = r.0;
      is = after_leaf n lt;
      left = inl (left_there n (v2 (n + 2)) r.0 r.1.splits);
      right = right_there n (v2 (n + 2)) r.0 r.1.splits;
    }
halved_mmb n (suc (suc k)) pos lt = absurd (omega (arith, most_mmb n))

pub mmb_is_family : IsFamily mmb mmb_births
mmb_is_family = record {
  none = omega arith;
  some = some_mmb;
  first = λ n. refl;
  placed = placed_mmb;
  sized = sized_mmb;
  all = λ n x e. all_mmb n x.height x.index e;
  inside = λ x. inside_mmb x.height x.index;
  halves = halved_mmb;
}
