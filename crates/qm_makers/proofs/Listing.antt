-- What a range proof lists are the values of the nodes that it needs.
use Rattle.std.proofs.Common.{◌≡◌, ℕ, zero, suc, ◌+◌, ◌-◌, ◌*◌, ◌<◌, ◌≤◌, Bool, true, false, List, [], ◌∷◌, ◌++◌, map, arith, ap, ap₂, sym, ◌∙◌, refl, ⊎_elim}
use Rattle.std.specs.Prelude.{flat_map, if◌then◌else◌}
use Rattle.std.proofs.lemmas.Bool.{cases_lt, lt-ltb, le-ltb}
use Rattle.std.proofs.lemmas.List.{map-append}
use Rattle.qm_model.specs.Operations.{Bytes}
use Rattle.qm_model.specs.Trees.{Shape, Node, leaf, peaks, digest}
use Rattle.qm_model.specs.Proofs.{meets, needed, needed_of, listed}
use Rattle.qm_model.specs.Grafted.{value_over, grafted_value}
use Rattle.qm_model.specs.RangeProofs.{listed_over, listed_of}

-- a row of rows, through a map
rows_mapped : {X A B : Type 0} (f : A → B) (g : X → List A) (h : X → List B) → ((x : X) → h x ≡ map f (g x)) → (xs : List X) → flat_map h xs ≡ map f (flat_map g xs)
rows_mapped f g h same [] = refl
rows_mapped f g h same (x ∷ xs) = ap₂ (λ a b. a ++ b) (same x) (rows_mapped f g h same xs) ∙ sym (map-append f (g x) (flat_map g xs))

module _ (hash : Bytes → Bytes) (shape : Shape) (g : ℕ) (some : 0 < g) (leaves : List Bytes) (chunks : ℕ → Bytes) (a b : ℕ) where
  abbrev value : Node → Bytes
  value = grafted_value hash shape g leaves chunks

  -- what is listed of a node that has leaves of the range, or has none
  one_or : (node : Node) (below : List Node) (rows : List Bytes) (own : Bytes) (t : Bool) → rows ≡ map value below → own ≡ value node → (if t then rows else own ∷ []) ≡ map value (if t then below else node ∷ [])
  one_or node below rows own true same is = same
  one_or node below rows own false same is = ap (λ v. v ∷ []) is

  low_value : (h i : ℕ) → h < g → digest hash shape leaves h i ≡ value (record { height = h; index = i })
  low_value h i low = sym (ap (λ b. if b then digest hash shape leaves h i else value_over hash shape g leaves chunks (h - g) i) (lt-ltb h g low))

  high_value : (k h i : ℕ) → h ≡ k + g → value_over hash shape g leaves chunks k i ≡ value (record { height = h; index = i })
  high_value k h i is =
      let up : k ≡ h - g = omega (arith, is) in
      ap (λ n. value_over hash shape g leaves chunks n i) up
      ∙ sym (ap (λ b. if b then digest hash shape leaves h i else value_over hash shape g leaves chunks (h - g) i) (le-ltb h g (omega (arith, is))))

  -- below the height of chunks
  listed_low : (h i : ℕ) → h < g → listed hash shape leaves a b h i ≡ map value (needed a b h i)
  listed_low zero i low = one_or (leaf i) [] [] (digest hash shape leaves zero i) (meets a b (leaf i)) refl (low_value zero i low)
  listed_low (suc h) i low =
      one_or (record { height = suc h; index = i }) (needed a b h (2 * i) ++ needed a b h (2 * i + 1)) (listed hash shape leaves a b h (2 * i) ++ listed hash shape leaves a b h (2 * i + 1))
      (digest hash shape leaves (suc h) i) (meets a b (record { height = suc h; index = i }))
      (ap₂ (λ x y. x ++ y) (listed_low h (2 * i) (omega (arith, low))) (listed_low h (2 * i + 1) (omega (arith, low))) ∙ sym (map-append value (needed a b h (2 * i)) (needed a b h (2 * i + 1))))
      (low_value (suc h) i low)

  -- of the node over a chunk
  listed_chunk : (h i : ℕ) → h ≡ g → listed_over hash shape g leaves chunks a b zero i ≡ map value (needed a b h i)
  listed_chunk zero i is = absurd (omega (arith, is, some))
  listed_chunk (suc h) i is = at (meets a b (record { height = suc h; index = i })) refl
    where
      node : Node
      node = record { height = suc h; index = i }

      halves : List Node
      halves = needed a b h (2 * i) ++ needed a b h (2 * i + 1)

      below : listed hash shape leaves a b h (2 * i) ++ listed hash shape leaves a b h (2 * i + 1) ≡ map value halves
      below = ap₂ (λ x y. x ++ y) (listed_low h (2 * i) (omega (arith, is))) (listed_low h (2 * i + 1) (omega (arith, is))) ∙ sym (map-append value (needed a b h (2 * i)) (needed a b h (2 * i + 1)))

      over : ℕ → List Bytes
      over n = if meets a b (record { height = n; index = i }) then listed hash shape leaves a b n i else value_over hash shape g leaves chunks zero i ∷ []

      at : (t : Bool) → meets a b node ≡ t → over g ≡ map value (if meets a b node then halves else node ∷ [])
      at true does =
          ap over (sym is) ∙ ap (λ t. if t then (if t then listed hash shape leaves a b h (2 * i) ++ listed hash shape leaves a b h (2 * i + 1) else digest hash shape leaves (suc h) i ∷ []) else value_over hash shape g leaves chunks zero i ∷ []) does
          ∙ below ∙ sym (ap (λ t. map value (if t then halves else node ∷ [])) does)
      at false not =
          ap over (sym is) ∙ ap (λ t. if t then listed hash shape leaves a b (suc h) i else value_over hash shape g leaves chunks zero i ∷ []) not
          ∙ ap (λ v. v ∷ []) (high_value zero (suc h) i (omega (arith, is))) ∙ sym (ap (λ t. map value (if t then halves else node ∷ [])) not)

  -- and above it
  listed_high : (k h i : ℕ) → h ≡ k + g → listed_over hash shape g leaves chunks a b k i ≡ map value (needed a b h i)
  listed_high zero h i is = listed_chunk h i (omega (arith, is))
  listed_high (suc k) zero i is = absurd (omega (arith, is))
  listed_high (suc k) (suc h) i is =
      let left = listed_over hash shape g leaves chunks a b k (2 * i) in
      let right = listed_over hash shape g leaves chunks a b k (2 * i + 1) in
      let lower : h ≡ k + g = omega (arith, is) in
      ap (λ n. if meets a b (record { height = n; index = i }) then left ++ right else value_over hash shape g leaves chunks (suc k) i ∷ []) (sym is)
      ∙ one_or (record { height = suc h; index = i }) (needed a b h (2 * i) ++ needed a b h (2 * i + 1)) (left ++ right) (value_over hash shape g leaves chunks (suc k) i) (meets a b (record { height = suc h; index = i }))
      (ap₂ (λ x y. x ++ y) (listed_high k h (2 * i) lower) (listed_high k h (2 * i + 1) lower) ∙ sym (map-append value (needed a b h (2 * i)) (needed a b h (2 * i + 1))))
      (high_value (suc k) (suc h) i is)

  listed_peak : (p : Node) → listed_of hash shape g leaves chunks a b p ≡ map value (needed a b p.height p.index)
  listed_peak p = ⊎_elim
      (λ (low : p.height < g). ap (λ t. if t then listed hash shape leaves a b p.height p.index else listed_over hash shape g leaves chunks a b (p.height - g) p.index) (lt-ltb p.height g low) ∙ listed_low p.height p.index low)
      (λ (high : g ≤ p.height). ap (λ t. if t then listed hash shape leaves a b p.height p.index else listed_over hash shape g leaves chunks a b (p.height - g) p.index) (le-ltb p.height g high)
      ∙ listed_high (p.height - g) p.height p.index (omega (arith, high)))
      (cases_lt p.height g)

  -- of all peaks
  pub listed_peaks : (n : ℕ) → flat_map (listed_of hash shape g leaves chunks a b) (peaks shape n) ≡ map value (needed_of shape n a b)
  listed_peaks n = rows_mapped value (λ p. needed a b p.height p.index) (listed_of hash shape g leaves chunks a b) listed_peak (peaks shape n)
