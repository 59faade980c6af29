-- What proofs list and rebuild of a node, by its halves.
use Rattle.std.proofs.Common.{◌≡◌, ℕ, zero, suc, ◌+◌, ◌-◌, ◌*◌, ◌^◌, ◌<◌, ◌≤◌, Bool, true, false, List, [], ◌∷◌, ◌++◌, length, arith, ap, ap₂, sym, ◌∙◌, Some, None, drop, get_or, map, ⊎_elim}
use Rattle.std.specs.Prelude.{slice_get, slice_index_or, max, min, option_map, option_and_then, if◌then◌else◌}
use Rattle.std.proofs.Math.Nat.{pow-suc}
use Rattle.std.proofs.lemmas.Bool.{cases_lt, ltb-true}
use Rattle.std.proofs.lemmas.List.{length-map, get_or-map}
use Rattle.std.proofs.lemmas.Option.{slice_get_within, get_or_from_slice_get}
use Rattle.qm_model.specs.Operations.{Bytes}
use Rattle.qm_model.specs.Trees.{Shape, Node, end_of, leaf, peaks, leaf_digest, node_digest}
use Rattle.qm_model.specs.Families.{Births, IsFamily, HasPeaks}
use Rattle.qm_model.specs.Proofs.{meets, needed, Taken, taken, rebuilt}
use Rattle.qm_merkle.specs.Mems.{left_of, right_of}
use Rattle.qm_merkle.proofs.Numbering.{birth-born}

-- a peak ends within the leaves
pub peak_within : (shape : Shape) (births : Births) → IsFamily shape births → HasPeaks shape → (n k : ℕ) (x : Node) → n ≤ 2 ^ 62 → slice_get (peaks shape n) k ≡ Some x → end_of x ≤ n
peak_within shape births family peaked n k x few is =
    let xs = peaks shape n in
    let at : get_or xs k x ≡ x = get_or_from_slice_get xs k x x is in
    omega (arith, ap end_of at, family.inside (get_or xs k x), peaked.born n few k x (slice_get_within xs k x is))

-- a tree of some leaves has a peak
pub some_peak : (shape : Shape) (births : Births) → IsFamily shape births → HasPeaks shape → (n : ℕ) → n ≤ 2 ^ 62 → 0 < n → 0 < length (peaks shape n)
some_peak shape births family peaked n few some = down n (omega (arith, family.inside (first n), power n))
  where
    first : ℕ → Node
    first k = record { height = k; index = 0 }

    power : (k : ℕ) → k < 2 ^ k
    power zero = omega arith
    power (suc k) = omega (arith, power k, pow-suc 2 k)

    down : (k : ℕ) → n < shape.birth (first k) → 0 < length (peaks shape n)
    down zero late = absurd (omega (arith, ap shape.birth (family.first 0), birth-born shape births family 0 0 (family.some 0)))
    down (suc k) late = ⊎_elim
        (λ (again : n < shape.birth (first k)). down k again)
        (λ (there : shape.birth (first k) ≤ n). let found = peaked.all n (first k) few there late in omega (arith, found.1))
        (cases_lt n (shape.birth (first k)))

-- the rest of a list begins with the element there
pub drop_next : {X : Type 0} (xs : List X) (k : ℕ) (x : X) → slice_get xs k ≡ Some x → drop k xs ≡ x ∷ drop (k + 1) xs
drop_next [] k x is = cc
drop_next (y ∷ xs) zero x is = let same : y ≡ x = cc in ap (λ z. z ∷ xs) same
drop_next (y ∷ xs) (suc k) x is =
    let next : suc (k + 1) ≡ suc k + 1 = omega arith in
    drop_next xs k x is ∙ ap (λ j. x ∷ drop j (y ∷ xs)) next

-- what a proof lists of a node that has none of the leaves
pub needed_apart : (a b : ℕ) (x : Node) → meets a b x ≡ false → needed a b x.height x.index ≡ x ∷ []
needed_apart a b x apart = at x.height x.index apart
  where
    at : (h i : ℕ) → meets a b (record { height = h; index = i }) ≡ false → needed a b h i ≡ record { height = h; index = i } ∷ []
    at zero i e = ap (λ t. if t then [] else leaf i ∷ []) e
    at (suc h) i e = ap (λ t. if t then needed a b h (2 * i) ++ needed a b h (2 * i + 1) else record { height = suc h; index = i } ∷ []) e

-- nothing of a leaf that is one of them
pub needed_none : (a b : ℕ) (x : Node) → x.height ≡ 0 → meets a b x ≡ true → needed a b x.height x.index ≡ []
needed_none a b x low met = at x.height x.index low met
  where
    at : (h i : ℕ) → h ≡ 0 → meets a b (record { height = h; index = i }) ≡ true → needed a b h i ≡ []
    at zero i low e = ap (λ t. if t then [] else leaf i ∷ []) e
    at (suc h) i low e = absurd (omega arith)

-- and of a higher one that has some of them
pub needed_halves : (a b : ℕ) (x l r : Node) → 0 < x.height → meets a b x ≡ true → l ≡ left_of x → r ≡ right_of x → needed a b x.height x.index ≡ needed a b l.height l.index ++ needed a b r.height r.index
needed_halves a b x l r high met left right =
    at x.height x.index high met
    ∙ ap₂ (λ (m n : Node). needed a b m.height m.index ++ needed a b n.height n.index) (sym left) (sym right)
  where
    at : (h i : ℕ) → 0 < h → meets a b (record { height = h; index = i }) ≡ true → needed a b h i ≡ needed a b (h - 1) (2 * i) ++ needed a b (h - 1) (2 * i + 1)
    at zero i high e = absurd (omega arith)
    at (suc h) i high e =
        let same : h ≡ suc h - 1 = omega arith in
        ap (λ t. if t then needed a b h (2 * i) ++ needed a b h (2 * i + 1) else record { height = suc h; index = i } ∷ []) e
        ∙ ap (λ k. needed a b k (2 * i) ++ needed a b k (2 * i + 1)) same

module _ (hash : Bytes → Bytes) (shape : Shape) (items : List Bytes) (a : ℕ) where
  -- a node over halves, from a left half and what follows it
  abbrev over_left : ℕ → ℕ → ℕ → Bytes × List Bytes → Taken
  over_left number h i l = option_map (λ r. (node_digest hash number l.0 r.0, r.1)) (rebuilt hash shape items a h i l.1)

  -- the digest of a node that has some of the leaves
  rebuilt_halves : (x l r : Node) (ds : List Bytes) → 0 < x.height → meets a (a + length items) x ≡ true → l ≡ left_of x → r ≡ right_of x →
      rebuilt hash shape items a x.height x.index ds ≡ option_and_then (over_left (shape.number x) r.height r.index) (rebuilt hash shape items a l.height l.index ds)
  rebuilt_halves x l r ds high met left right =
      at x.height x.index high met
      ∙ ap₂ (λ (m n : Node). option_and_then (over_left (shape.number x) n.height n.index) (rebuilt hash shape items a m.height m.index ds)) (sym left) (sym right)
    where
      at : (h i : ℕ) → 0 < h → meets a (a + length items) (record { height = h; index = i }) ≡ true →
          rebuilt hash shape items a h i ds ≡ option_and_then (over_left (shape.number (record { height = h; index = i })) (h - 1) (2 * i + 1)) (rebuilt hash shape items a (h - 1) (2 * i) ds)
      at zero i high e = absurd (omega arith)
      at (suc h) i high e =
          let same : h ≡ suc h - 1 = omega arith in
          let p = shape.number (record { height = suc h; index = i }) in
          ap (λ t. if t then option_and_then (over_left p h (2 * i + 1)) (rebuilt hash shape items a h (2 * i) ds) else taken ds) e
          ∙ ap (λ k. option_and_then (over_left p k (2 * i + 1)) (rebuilt hash shape items a k (2 * i) ds)) same

  -- of a node that has none of the leaves, the first digest that is left
  pub rebuilt_apart : (x : Node) (ds : List Bytes) → meets a (a + length items) x ≡ false → taken ds ≡ rebuilt hash shape items a x.height x.index ds
  rebuilt_apart x ds apart = sym (at x.height x.index apart)
    where
      at : (h i : ℕ) → meets a (a + length items) (record { height = h; index = i }) ≡ false → rebuilt hash shape items a h i ds ≡ taken ds
      at zero i e = ap (λ t. if t then Some (leaf_digest hash (shape.position (leaf i)) (slice_index_or items (i - a) []), ds) else taken ds) e
      at (suc h) i e = ap (λ t. if t then option_and_then (over_left (shape.number (record { height = suc h; index = i })) h (2 * i + 1)) (rebuilt hash shape items a h (2 * i) ds) else taken ds) e

  -- and of a leaf that is one of them, its own
  pub rebuilt_leaf : (x : Node) (ds : List Bytes) (d : Bytes) → x.height ≡ 0 → meets a (a + length items) x ≡ true → d ≡ leaf_digest hash (shape.position x) (slice_index_or items (x.index - a) []) →
      ◌≡◌ {A = Taken} (Some (d, ds)) (rebuilt hash shape items a x.height x.index ds)
  rebuilt_leaf x ds d low met is = sym (at x.height x.index low met is)
    where
      at : (h i : ℕ) → h ≡ 0 → meets a (a + length items) (record { height = h; index = i }) ≡ true → d ≡ leaf_digest hash (shape.position (record { height = h; index = i })) (slice_index_or items (i - a) []) → rebuilt hash shape items a h i ds ≡ Some (d, ds)
      at zero i low met is =
          ap (λ t. if t then Some (leaf_digest hash (shape.position (leaf i)) (slice_index_or items (i - a) []), ds) else taken ds) met
          ∙ ap (λ e. Some (e, ds)) (sym is)
      at (suc h) i low met is = absurd (omega arith)

  module _ (x l r : Node) (ds : List Bytes) (high : 0 < x.height) (met : meets a (a + length items) x ≡ true) (left : l ≡ left_of x) (right : r ≡ right_of x) where
    pub no_left : None ≡ rebuilt hash shape items a l.height l.index ds → None ≡ rebuilt hash shape items a x.height x.index ds
    no_left none = sym (rebuilt_halves x l r ds high met left right ∙ ap (option_and_then (over_left (shape.number x) r.height r.index)) (sym none))

    pub no_right : (p : Bytes × List Bytes) → Some p ≡ rebuilt hash shape items a l.height l.index ds → None ≡ rebuilt hash shape items a r.height r.index p.1 → None ≡ rebuilt hash shape items a x.height x.index ds
    no_right p some none =
        sym (rebuilt_halves x l r ds high met left right ∙ ap (option_and_then (over_left (shape.number x) r.height r.index)) (sym some)
        ∙ ap (option_map (λ q. (node_digest hash (shape.number x) p.0 q.0, q.1))) (sym none))

    pub both : (p q : Bytes × List Bytes) (d : Bytes) (number : ℕ) → Some p ≡ rebuilt hash shape items a l.height l.index ds → Some q ≡ rebuilt hash shape items a r.height r.index p.1 →
        d ≡ node_digest hash number p.0 q.0 → number ≡ shape.number x → ◌≡◌ {A = Taken} (Some (d, q.1)) (rebuilt hash shape items a x.height x.index ds)
    both p q d number some other made at =
        let hashed : d ≡ node_digest hash (shape.number x) p.0 q.0 = made ∙ ap (λ n. node_digest hash n p.0 q.0) at in
        ap (λ e. Some (e, q.1)) hashed
        ∙ sym (rebuilt_halves x l r ds high met left right ∙ ap (option_and_then (over_left (shape.number x) r.height r.index)) (sym some)
        ∙ ap (option_map (λ t. (node_digest hash (shape.number x) p.0 t.0, t.1))) (sym other))

-- whether a node meets the claimed leaves is what the code found
pub met : {E : Type 0} (f : E → Bytes) (elements : List E) (s a e : ℕ) (x : Node) (found : Bool) {told : Bool} → found ≡ meets s e x → found ≡ told → s ≡ a → e ≡ a + length elements → meets a (a + length (map f elements)) x ≡ told
met f elements s a e x found is told_is start end =
    let long : a + length (map f elements) ≡ e = omega (arith, length-map elements f, end) in
    ap₂ (λ i j. meets i j x) (sym start) long ∙ sym is ∙ told_is

-- a leaf that meets leaves is one of them
pub leaf_within : (a b : ℕ) (x : Node) → x.height ≡ 0 → meets a b x ≡ true → (a ≤ x.index) × (x.index < b)
leaf_within a b x low met = at x.height x.index low met
  where
    at : (h i : ℕ) → h ≡ 0 → meets a b (record { height = h; index = i }) ≡ true → (a ≤ i) × (i < b)
    at zero i low met = let lt = ltb-true (max a (i * 1)) (min b (suc i * 1)) met in (omega (arith, lt), omega (arith, lt))
    at (suc h) i low met = absurd (omega arith)

-- an element, mapped
pub element_at : {E : Type 0} (f : E → Bytes) (elements : List E) (k : ℕ) (e : E) → k < length elements → e ≡ get_or elements k e → f e ≡ slice_index_or (map f elements) k []
element_at f elements k e lt is = ap f is ∙ sym (get_or-map f elements k e [] lt)
