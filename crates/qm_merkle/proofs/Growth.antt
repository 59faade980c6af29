-- A leaf comes to a tree in memory, with the nodes that are born with it.
use Rattle.std.proofs.Common.{◌≡◌, ℕ, zero, suc, ◌+◌, ◌-◌, ◌*◌, ◌/◌, ◌^◌, ◌<◌, ◌≤◌, List, [], ◌∷◌, ◌++◌, length, map, get_or, arith, ap, ap₂, sym, ◌∙◌, refl, Option, Some, ⊎_elim, subst, pow_mono, All}
use Rattle.std.specs.Prelude.{slice_get, option_map}
use Rattle.std.proofs.Math.Seq.{get_or-append_seam}
use Rattle.std.proofs.Math.Nat.{pow-suc, mul-le-mul_left}
use Rattle.std.proofs.lemmas.Bool.{cases_lt}
use Rattle.std.proofs.lemmas.Nat.{pow_pos}
use Rattle.std.proofs.lemmas.List.{length-append, get_or_append_left}
use Rattle.qm_model.specs.Operations.{Bytes}
use Rattle.qm_model.specs.Trees.{Shape, Node, peaks, digest, node_digest, digest_of, end_of}
use Rattle.qm_model.specs.Families.{Births, IsFamily, HasPeaks, IsHeld, over}
use Rattle.qm_merkle.specs.Mems.{Kept, IsWhole, Gives, Stands, AreBorn, node_at, grown, left_of, right_of}
use Rattle.qm_merkle.proofs.Numbering.{stands_below, stands_past, birth-born}
use Rattle.qm_merkle.proofs.Lookups.{node_at-past}
use Rattle.qm_merkle.proofs.Standing.{gives}

-- a node within 2 ^ 62 leaves is low
pub height_within : (x : Node) → end_of x ≤ 2 ^ 62 → x.height < 63
height_within x within = ⊎_elim (λ (low : x.height < 63). low)
    (λ (high : 63 ≤ x.height). let above : 2 ^ 63 ≤ 2 ^ x.height = pow_mono high in absurd (omega arith))
    (cases_lt x.height 63)

pub index_within : (x : Node) → end_of x ≤ 2 ^ 62 → x.index < 2 ^ 62
index_within x within = omega (arith, mul-le-mul_left (suc x.index) (pow_pos x.height))

-- the left half ends no later than the node, nor does the right one
pub left_within : (x l : Node) → l ≡ left_of x → 0 < x.height → end_of l ≤ end_of x
left_within x l is high =
    let h = x.height - 1 in
    let wide : 2 ^ x.height ≡ 2 ^ h * 2 = ap (λ k. 2 ^ k) (omega arith) ∙ pow-suc 2 h in
    let whole : suc x.index * 2 ^ x.height ≡ suc x.index * (2 ^ h * 2) = ap (λ k. suc x.index * k) wide in
    let half : end_of l ≡ suc (2 * x.index) * 2 ^ h = ap end_of is in
    omega arith

pub right_within : (x r : Node) → r ≡ right_of x → 0 < x.height → end_of r ≤ end_of x
right_within x r is high =
    let h = x.height - 1 in
    let wide : 2 ^ x.height ≡ 2 ^ h * 2 = ap (λ k. 2 ^ k) (omega arith) ∙ pow-suc 2 h in
    let whole : suc x.index * 2 ^ x.height ≡ suc x.index * (2 ^ h * 2) = ap (λ k. suc x.index * k) wide in
    let half : end_of r ≡ suc (2 * x.index + 1) * 2 ^ h = ap end_of is in
    omega arith

pub slice_get-left : {X : Type 0} (xs ys : List X) (i : ℕ) → i < length xs → slice_get (xs ++ ys) i ≡ slice_get xs i
slice_get-left [] ys i lt = absurd (omega arith)
slice_get-left (z ∷ xs) ys zero lt = refl
slice_get-left (z ∷ xs) ys (suc i) lt = slice_get-left xs ys i (omega arith)

pub slice_get-right : {X : Type 0} (xs ys : List X) (i : ℕ) → slice_get (xs ++ ys) (length xs + i) ≡ slice_get ys i
slice_get-right [] ys i = ap (slice_get ys) (omega arith)
slice_get-right (x ∷ xs) ys i = ap (slice_get (x ∷ (xs ++ ys))) next ∙ slice_get-right xs ys i
  where
    next : suc (length xs) + i ≡ suc (length xs + i)
    next = omega arith

pub map_same : {X Y : Type 0} (f g : X → Y) (xs : List X) → All (λ x. f x ≡ g x) xs → map f xs ≡ map g xs
map_same f g [] same = refl
map_same f g (x ∷ xs) same = ap₂ (λ a b. a ∷ b) (same 0 x (omega arith)) (map_same f g xs (λ k d lt. same (suc k) d (omega arith)))

-- leaves added at the end change no digest of the nodes that were there
pub digest-append : (hash : Bytes → Bytes) (shape : Shape) (leaves more : List Bytes) (h a : ℕ) → suc a * 2 ^ h ≤ length leaves →
    digest hash shape (leaves ++ more) h a ≡ digest hash shape leaves h a
digest-append hash shape leaves more zero a within = get_or_append_left leaves more [] a (omega arith)
digest-append hash shape leaves more (suc h) a within =
    let halves : suc a * 2 ^ suc h ≡ suc a * (2 ^ h * 2) = ap (λ z. suc a * z) (pow-suc 2 h) in
    ap₂ (node_digest hash (shape.number (record { height = suc h; index = a })))
    (digest-append hash shape leaves more h (2 * a) (omega arith))
    (digest-append hash shape leaves more h (2 * a + 1) (omega arith))

-- a tree with a leaf's nodes, field by field
pub grown-fields : {D : Type 0} (kept : Kept D) (made : List D) (next : Kept D) → kept.start ≡ next.start → suc kept.leaves ≡ next.leaves → kept.pins ≡ next.pins → kept.nodes ++ made ≡ next.nodes → grown kept made ≡ next
grown-fields kept made next start leaves pins nodes = λ i. record { start = start i; leaves = leaves i; pins = pins i; nodes = nodes i }

module _ (shape : Shape) (births : Births) (family : IsFamily shape births) where
  -- of the nodes that are there, those with a place past the size are the ones made so far
  pub made_place : (n k : ℕ) (x : Node) → k ≤ births.count n → IsHeld shape births n k x → shape.size n ≤ shape.position x → (j : ℕ) × (j < k) × (x ≡ births.born n j) × (shape.position x ≡ shape.size n + j)
  made_place n k x room held high = ⊎_elim
      (λ (old : shape.birth x ≤ n). absurd (omega (arith, stands_below shape births family x n old)))
      (λ (new : (j : ℕ) × (j < k) × (x ≡ births.born n j)).
      let within : new.0 < births.count n = omega (arith, new.1) in
      (new.0, new.1, new.2, ap shape.position new.2 ∙ family.placed n new.0 within))
      held

  pub made_index : (n k : ℕ) (x : Node) (i : ℕ) → k ≤ births.count n → IsHeld shape births n k x → shape.size n ≤ shape.position x → i ≡ shape.position x - shape.size n → i < k
  made_index n k x i room held high is = let at = made_place n k x room held high in omega (arith, at.1, at.3)

  -- a node that is there is born with the leaf at the latest
  pub held_birth : (n k : ℕ) (x : Node) → k ≤ births.count n → IsHeld shape births n k x → shape.birth x ≤ suc n
  held_birth n k x room held = ⊎_elim
      (λ (old : shape.birth x ≤ n). omega arith)
      (λ (new : (j : ℕ) × (j < k) × (x ≡ births.born n j)).
      let within : new.0 < births.count n = omega (arith, new.1) in
      omega (arith, ap shape.birth new.2, birth-born shape births family n new.0 within))
      held

  -- the halves of a node that an append brings
  pub record Halved (n k : ℕ) (left right : Node) : Type 0 where
    pub left_held : IsHeld shape births n k left
    pub right_held : IsHeld shape births n k right
    pub left_bare : n < shape.birth (over left)
    pub right_bare : n < shape.birth (over right)
    pub left_within : end_of left ≤ suc n
    pub right_within : end_of right ≤ suc n
    pub parent : (hash : Bytes → Bytes) (leaves : List Bytes) → digest_of hash shape leaves (births.born n k) ≡
        node_digest hash (shape.number (births.born n k)) (digest_of hash shape leaves left) (digest_of hash shape leaves right)

  pub born_high : (n k : ℕ) → 0 < k → k < births.count n → 0 < (births.born n k).height
  born_high n k some lt = let halves = family.halves n k some lt in omega (arith, ap (λ (x : Node). x.height) halves.is)

  pub born_within : (n k : ℕ) → k < births.count n → end_of (births.born n k) ≤ suc n
  born_within n k lt = omega (arith, family.inside (births.born n k), birth-born shape births family n k lt)

  pub halved : (n k : ℕ) (node left right : Node) → 0 < k → k < births.count n → node ≡ births.born n k → left ≡ left_of node → right ≡ right_of node → Halved n k left right
  halved n k node left right some lt is is_left is_right =
      let halves = family.halves n k some lt in
      let h = halves.height in
      let i = halves.index in
      let whole : node ≡ record { height = suc h; index = i } = is ∙ halves.is in
      let l : ◌≡◌ {A = Node} (record { height = h; index = 2 * i }) left = node_path h (2 * i) (suc h - 1) (2 * i) (omega arith) refl ∙ sym (is_left ∙ ap left_of whole) in
      let r : ◌≡◌ {A = Node} (record { height = h; index = 2 * i + 1 }) right = node_path h (2 * i + 1) (suc h - 1) (2 * i + 1) (omega arith) refl ∙ sym (is_right ∙ ap right_of whole) in
      let left_over : over left ≡ births.born n k = ap over (sym l) ∙ node_path (suc h) (2 * i / 2) (suc h) i refl (omega arith) ∙ sym halves.is in
      let right_over : over right ≡ births.born n k = ap over (sym r) ∙ node_path (suc h) ((2 * i + 1) / 2) (suc h) i refl (omega arith) ∙ sym halves.is in
      let born = birth-born shape births family n k lt in
      let left_held = subst (IsHeld shape births n k) l halves.left in
      let right_held = subst (IsHeld shape births n k) r halves.right in
      record {
        left_held = left_held;
        right_held = right_held;
        left_bare = omega (arith, ap shape.birth left_over, born);
        right_bare = omega (arith, ap shape.birth right_over, born);
        left_within = omega (arith, family.inside left, held_birth n k left (omega arith) left_held);
        right_within = omega (arith, family.inside right, held_birth n k right (omega arith) right_held);
        parent = λ hash leaves.
            ap (digest_of hash shape leaves) halves.is
            ∙ ap (λ x. node_digest hash (shape.number x) (digest hash shape leaves h (2 * i)) (digest hash shape leaves h (2 * i + 1))) (sym halves.is)
            ∙ ap₂ (λ x y. node_digest hash (shape.number (births.born n k)) (digest_of hash shape leaves x) (digest_of hash shape leaves y)) l r;
      }
    where
      node_path : (h a k b : ℕ) → h ≡ k → a ≡ b → ◌≡◌ {A = Node} (record { height = h; index = a }) (record { height = k; index = b })
      node_path h a k b eh ea = λ t. record { height = eh t; index = ea t }

  module _ (peaked : HasPeaks shape) {D : Type 0} (bytes : D → Bytes) (hash : Bytes → Bytes) (kept : Kept D) (whole : IsWhole shape kept) (leaves : List Bytes) (stands : Stands shape bytes hash kept leaves) (leaf : D) where
    n : ℕ
    n = kept.leaves

    abbrev now : List Bytes
    now = leaves ++ bytes leaf ∷ []

    -- the leaf is the first
    pub born-leaf : (made : List D) → made ≡ leaf ∷ [] → AreBorn shape births bytes hash kept.leaves now made
    born-leaf made one k lt =
        let low : k < 1 = omega (arith, ap length one) in
        let none : 0 ≡ k = omega arith in
        let first : births.born kept.leaves 0 ≡ record { height = 0; index = length leaves } = family.first kept.leaves ∙ ap (λ (i : ℕ). record { height = 0; index = i }) stands.count in
        let is : digest_of hash shape now (births.born kept.leaves 0) ≡ bytes leaf = ap (digest_of hash shape now) first ∙ get_or-append_seam leaves (bytes leaf) [] [] in
        subst (λ j. Gives bytes (slice_get made j) (digest_of hash shape now (births.born kept.leaves j))) none
        (ap (λ xs. option_map bytes (slice_get xs 0)) one ∙ ap Some (sym is))

    -- the digest of a half
    pub half_is : (made : List D) (x : Node) (d : D) → length made ≤ births.count kept.leaves → IsHeld shape births kept.leaves (length made) x → kept.start < shape.birth (over x) →
        AreBorn shape births bytes hash kept.leaves now made →
        (shape.birth x ≤ kept.leaves → node_at shape kept (shape.position x) ≡ Some d) → (kept.leaves < shape.birth x → slice_get made (shape.position x - shape.size kept.leaves) ≡ Some d) →
        bytes d ≡ digest_of hash shape now x
    half_is made x d room held bare born old new = ⊎_elim
        (λ (late : kept.leaves < shape.birth x).
        let at = made_place kept.leaves (length made) x room held (stands_past shape births family x kept.leaves late) in
        let place : shape.position x - shape.size kept.leaves ≡ at.0 = omega (arith, at.3) in
        let is : ◌≡◌ {A = Option Bytes} (Some (bytes d)) (Some (digest_of hash shape now x)) =
        ap (option_map bytes) (sym (new late) ∙ ap (slice_get made) place) ∙ born at.0 at.1 ∙ ap (λ y. Some (digest_of hash shape now y)) (sym at.2) in
        same is)
        (λ (early : shape.birth x ≤ kept.leaves).
        let within : end_of x ≤ length leaves = omega (arith, family.inside x, stands.count) in
        let few : kept.start ≤ 2 ^ 62 = omega (arith, whole.order, whole.few) in
        let is : ◌≡◌ {A = Option Bytes} (Some (bytes d)) (Some (digest_of hash shape now x)) =
        ap (option_map bytes) (sym (old early)) ∙ gives shape births family peaked bytes hash kept leaves stands x few early bare
        ∙ ap Some (sym (digest-append hash shape leaves (bytes leaf ∷ []) x.height x.index within)) in
        same is)
        (cases_lt kept.leaves (shape.birth x))
      where
        same : {a b : Bytes} → ◌≡◌ {A = Option Bytes} (Some a) (Some b) → a ≡ b
        same e = cc

    -- the next node comes
    pub born-node : (made more : List D) (d : D) → AreBorn shape births bytes hash kept.leaves now made → more ≡ made ++ d ∷ [] →
        bytes d ≡ digest_of hash shape now (births.born kept.leaves (length made)) → AreBorn shape births bytes hash kept.leaves now more
    born-node made more d born longer is k low =
        let long : k < suc (length made) = omega (arith, ap length longer, length-append made (d ∷ [])) in
        ap (λ xs. option_map bytes (slice_get xs k)) longer
        ∙ ⊎_elim
        (λ (below : k < length made). ap (option_map bytes) (slice_get-left made (d ∷ []) k below) ∙ born k below)
        (λ (top : length made ≤ k).
        let here : length made + 0 ≡ k = omega arith in
        subst (λ j. option_map bytes (slice_get (made ++ d ∷ []) j) ≡ Some (digest_of hash shape now (births.born kept.leaves j))) here
        (ap (option_map bytes) (slice_get-right made (d ∷ []) 0) ∙ ap Some (is ∙ ap (λ j. digest_of hash shape now (births.born kept.leaves j)) (omega arith))))
        (cases_lt k (length made))

    -- all nodes are there
    pub stands-grown : (made : List D) → length made ≡ births.count kept.leaves → AreBorn shape births bytes hash kept.leaves now made → Stands shape bytes hash (grown kept made) now
    stands-grown made all born = record {
      count = omega (arith, stands.count, length-append leaves (bytes leaf ∷ []));
      pins = stands.pins ∙ map_same (digest_of hash shape leaves) (digest_of hash shape now) (peaks shape kept.start) (λ k d lt.
          let x = get_or (peaks shape kept.start) k d in
          let early : shape.birth x ≤ kept.start = peaked.born kept.start (omega (arith, whole.order, whole.few)) k d lt in
          sym (digest-append hash shape leaves (bytes leaf ∷ []) x.height x.index (omega (arith, family.inside x, early, whole.order, stands.count))));
      nodes = λ x new there.
          let past : shape.size kept.start ≤ shape.position x = stands_past shape births family x kept.start new in
          let p = shape.position x - shape.size kept.start in
          ap (option_map bytes) (node_at-past shape (grown kept made) (shape.position x) past)
          ∙ ⊎_elim
          (λ (last : kept.leaves < shape.birth x).
          let at = family.all kept.leaves x (omega arith) in
          let place : shape.position x ≡ shape.size kept.leaves + at.0 = ap shape.position at.2 ∙ family.placed kept.leaves at.0 at.1 in
          let p_is : p ≡ length kept.nodes + at.0 = omega (arith, whole.full) in
          ap (option_map bytes) (ap (slice_get (kept.nodes ++ made)) p_is ∙ slice_get-right kept.nodes made at.0)
          ∙ born at.0 (omega (arith, at.1)) ∙ ap (λ y. Some (digest_of hash shape now y)) (sym at.2))
          (λ (old : shape.birth x ≤ kept.leaves).
          let low : p < length kept.nodes = omega (arith, whole.full, stands_below shape births family x kept.leaves old, past) in
          let within : end_of x ≤ length leaves = omega (arith, family.inside x, stands.count) in
          ap (option_map bytes) (slice_get-left kept.nodes made p low ∙ sym (node_at-past shape kept (shape.position x) past)) ∙ stands.nodes x new old
          ∙ ap Some (sym (digest-append hash shape leaves (bytes leaf ∷ []) x.height x.index within)))
          (cases_lt kept.leaves (shape.birth x));
    }
