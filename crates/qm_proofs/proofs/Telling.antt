-- Digests that are told of nodes, and the proofs that they make.
use Rattle.std.proofs.Common.{◌≡◌, ℕ, zero, suc, ◌+◌, ◌*◌, ◌/◌, ◌^◌, ◌<◌, ◌≤◌, Bool, true, false, List, [], ◌∷◌, ◌++◌, length, map, take, get_or, arith, ap, ap₂, sym, ◌∙◌, refl, Option, Some, None, All, Contains, ⊎_elim, subst}
use Rattle.std.specs.Prelude.{flat_map, IfSome, MatchOption, is_some, option_map, if◌then◌else◌}
use Rattle.std.specs.Option.{option_or}
use Rattle.std.specs.List.{AllByRecursion as Each}
use Rattle.std.proofs.Math.Nat.{pow-suc}
use Rattle.std.proofs.lemmas.Bool.{cases_lt}
use Rattle.std.proofs.lemmas.List.{length-map, length-take, map-append, get_or-map}
use Rattle.qm_model.specs.Operations.{Bytes}
use Rattle.qm_model.specs.Trees.{Shape, Node, leaf, peaks, peak_positions, node_digest, digest, digest_of}
use Rattle.qm_model.specs.Families.{Births, IsFamily, HasPeaks, over}
use Rattle.qm_model.specs.Proofs.{Proof, meets, needed, needed_of, listed, proof_of}
use Rattle.qm_merkle.specs.Mems.{Kept, Gives, Stands, node_at, pin_at}
use Rattle.qm_merkle.specs.Batches.{Layer, layers_at, IsHistory}
use Rattle.qm_proofs.specs.Proofs.{Tells}
use Rattle.qm_merkle.proofs.Numbering.{over_later, stands_below, same_place}
use Rattle.qm_merkle.proofs.Lookups.{contains-pin_at, node_at-pin}
use Rattle.qm_merkle.proofs.Standing.{pinned}
use Rattle.qm_merkle.proofs.Histories.{layers_lead}

-- what a proof lists of a node are the digests of the nodes that it needs
listed_is : (hash : Bytes → Bytes) (shape : Shape) (leaves : List Bytes) (a b h i : ℕ) → listed hash shape leaves a b h i ≡ map (digest_of hash shape leaves) (needed a b h i)
listed_is hash shape leaves a b zero i = at (meets a b (leaf i))
  where
    at : (t : Bool) → (if t then [] else digest hash shape leaves zero i ∷ []) ≡ map (digest_of hash shape leaves) (if t then [] else leaf i ∷ [])
    at true = refl
    at false = refl
listed_is hash shape leaves a b (suc h) i =
    let halves : listed hash shape leaves a b h (2 * i) ++ listed hash shape leaves a b h (2 * i + 1) ≡ map (digest_of hash shape leaves) (needed a b h (2 * i) ++ needed a b h (2 * i + 1)) =
    ap₂ (λ x y. x ++ y) (listed_is hash shape leaves a b h (2 * i)) (listed_is hash shape leaves a b h (2 * i + 1)) ∙ sym (map-append (digest_of hash shape leaves) (needed a b h (2 * i)) (needed a b h (2 * i + 1))) in
    ap (λ ds. if meets a b node then ds else digest hash shape leaves (suc h) i ∷ []) halves ∙ at (needed a b h (2 * i) ++ needed a b h (2 * i + 1)) (meets a b node)
  where
    node : Node
    node = record { height = suc h; index = i }

    at : (row : List Node) (t : Bool) → (if t then map (digest_of hash shape leaves) row else digest hash shape leaves (suc h) i ∷ []) ≡ map (digest_of hash shape leaves) (if t then row else node ∷ [])
    at row true = refl
    at row false = refl

-- a row of rows, through a map
rows_mapped : {X A B : Type 0} (f : A → B) (g : X → List A) (h : X → List B) → ((x : X) → h x ≡ map f (g x)) → (xs : List X) → map f (flat_map g xs) ≡ flat_map h xs
rows_mapped f g h same [] = refl
rows_mapped f g h same (x ∷ xs) = map-append f (g x) (flat_map g xs) ∙ ap₂ (λ a b. a ++ b) (sym (same x)) (rows_mapped f g h same xs)

pub each_append : {X : Type 0} (P : X → Type 0) (xs ys : List X) → Each P xs → Each P ys → Each P (xs ++ ys)
each_append P [] ys left right = right
each_append P (x ∷ xs) ys left right = (left.0, each_append P xs ys left.1 right)

pub each_row : {X A : Type 0} (P : A → Type 0) (g : X → List A) (Q : X → Type 0) → ((x : X) → Q x → Each P (g x)) → (xs : List X) → Each Q xs → Each P (flat_map g xs)
each_row P g Q make [] all = tt
each_row P g Q make (x ∷ xs) all = each_append P (g x) (flat_map g xs) (make x all.0) (each_row P g Q make xs all.1)

pub each_of : {X : Type 0} (P : X → Type 0) (xs : List X) → All P xs → Each P xs
each_of P [] all = tt
each_of P (x ∷ xs) all = (all 0 x (omega arith), each_of P xs (λ k d lt. all (suc k) d (omega arith)))

-- the first leaves alone give the digests of nodes over them
digest_take : (hash : Bytes → Bytes) (shape : Shape) (list : List Bytes) (n h a : ℕ) → suc a * 2 ^ h ≤ n → digest hash shape (take n list) h a ≡ digest hash shape list h a
digest_take hash shape list n zero a within = at list n a (omega arith)
  where
    at : (xs : List Bytes) (n a : ℕ) → a < n → get_or (take n xs) a [] ≡ get_or xs a []
    at xs zero a lt = absurd (omega arith)
    at [] (suc n) a lt = refl
    at (x ∷ xs) (suc n) zero lt = refl
    at (x ∷ xs) (suc n) (suc a) lt = at xs n a (omega arith)
digest_take hash shape list n (suc h) a within =
    let halves : suc a * 2 ^ suc h ≡ suc a * (2 ^ h * 2) = ap (λ z. suc a * z) (pow-suc 2 h) in
    ap₂ (node_digest hash (shape.number (record { height = suc h; index = a })))
    (digest_take hash shape list n h (2 * a) (omega arith))
    (digest_take hash shape list n h (2 * a + 1) (omega arith))

given : {D : Type 0} (bytes : D → Bytes) (found : Option D) (digest : Bytes) → Gives bytes found digest → IfSome found (λ d. bytes d ≡ digest)
given bytes None digest is = tt
given bytes (Some d) digest is = cc

module _ (shape : Shape) (births : Births) (family : IsFamily shape births) where
  -- the nodes that a proof needs of a node are there when it is
  pub needed_born : (n a b h i : ℕ) → shape.birth (record { height = h; index = i }) ≤ n → Each (λ x. shape.birth x ≤ n) (needed a b h i)
  needed_born n a b zero i born = at (meets a b (leaf i))
    where
      at : (t : Bool) → Each (λ x. shape.birth x ≤ n) (if t then [] else leaf i ∷ [])
      at true = tt
      at false = (born, tt)
  needed_born n a b (suc h) i born =
      at (meets a b (record { height = suc h; index = i }))
      (each_append (λ x. shape.birth x ≤ n) (needed a b h (2 * i)) (needed a b h (2 * i + 1))
      (needed_born n a b h (2 * i) (half (2 * i) (omega arith))) (needed_born n a b h (2 * i + 1) (half (2 * i + 1) (omega arith))))
    where
      half : (j : ℕ) → j / 2 ≡ i → shape.birth (record { height = h; index = j }) ≤ n
      half j is =
          let up : shape.birth (over (record { height = h; index = j })) ≡ shape.birth (record { height = suc h; index = i }) = ap (λ k. shape.birth (record { height = suc h; index = k })) is in
          omega (arith, over_later shape births family (record { height = h; index = j }))

      at : (t : Bool) → Each (λ x. shape.birth x ≤ n) (needed a b h (2 * i) ++ needed a b h (2 * i + 1)) → Each (λ x. shape.birth x ≤ n) (if t then needed a b h (2 * i) ++ needed a b h (2 * i + 1) else record { height = suc h; index = i } ∷ [])
      at true all = all
      at false all = (born, tt)

  module _ (peaked : HasPeaks shape) {D : Type 0} (bytes : D → Bytes) (hash : Bytes → Bytes) where
    -- digests that are told of nodes make the proof
    pub told : (at : ℕ → Option D) (list : List Bytes) (n inactive a b : ℕ) → n ≤ 2 ^ 62 → n ≤ length list → Tells shape bytes hash at list → (ds : List D) (count : ℕ) →
        map Some ds ≡ map at (map shape.position (needed_of shape n a b)) → count ≡ n →
        ◌≡◌ {A = Proof} (record { leaves = count; inactive = inactive; digests = map bytes ds }) (proof_of hash shape (take n list) inactive a b)
    told at list n inactive a b few long tells ds count same is =
        let first = take n list in
        let size : length first ≡ n = omega (arith, length-take n list) in
        let born = each_row (λ x. shape.birth x ≤ n) (λ p. needed a b p.height p.index) (λ p. shape.birth p ≤ n) (λ p. needed_born n a b p.height p.index) (peaks shape n) (each_of (λ p. shape.birth p ≤ n) (peaks shape n) (peaked.born n few)) in
        let digests : map bytes ds ≡ flat_map (λ p. listed hash shape first a b p.height p.index) (peaks shape n) =
        row (needed_of shape n a b) ds same born ∙ rows_mapped (digest_of hash shape first) (λ p. needed a b p.height p.index) (λ p. listed hash shape first a b p.height p.index) (λ p. listed_is hash shape first a b p.height p.index) (peaks shape n) in
        ap₂ (λ (c : ℕ) row. record { leaves = c; inactive = inactive; digests = row }) (is ∙ sym size)
        (digests ∙ ap (λ m. flat_map (λ p. listed hash shape first a b p.height p.index) (peaks shape m)) (sym size))
      where
        row : (xs : List Node) (ds : List D) → map Some ds ≡ map at (map shape.position xs) → Each (λ x. shape.birth x ≤ n) xs → map bytes ds ≡ map (digest_of hash shape (take n list)) xs
        row [] [] same born = refl
        row [] (d ∷ ds) same born = cc
        row (x ∷ xs) [] same born = cc
        row (x ∷ xs) (d ∷ ds) same born =
            let head : Some d ≡ at (shape.position x) = cc in
            let tail : map Some ds ≡ map at (map shape.position xs) = cc in
            let early : shape.birth x ≤ n = born.0 in
            let is : bytes d ≡ digest_of hash shape list x = subst (λ o. IfSome o (λ d. bytes d ≡ digest_of hash shape list x)) (sym head) (tells x (omega arith)) in
            ap₂ (λ y ys. y ∷ ys) (is ∙ sym (digest_take hash shape list n x.height x.index (omega (arith, family.inside x)))) (row xs ds tail born.1)

    -- what a tree holds is told of the leaves that it stands for
    pub tree_tells : (kept : Kept D) (list : List Bytes) → Stands shape bytes hash kept list → Tells shape bytes hash (node_at shape kept) list
    tree_tells kept list stands x born = ⊎_elim
        (λ (late : kept.start < shape.birth x). given bytes (node_at shape kept (shape.position x)) (digest_of hash shape list x) (stands.nodes x late (omega (arith, stands.count))))
        (λ (early : shape.birth x ≤ kept.start).
        let at = node_at-pin shape kept (shape.position x) (stands_below shape births family x kept.start early) in
        subst (λ o. IfSome o (λ d. bytes d ≡ digest_of hash shape list x)) (sym at) (pin (pin_at (peak_positions shape kept.start) kept.pins (shape.position x)) refl))
        (cases_lt kept.start (shape.birth x))
      where
        here : Contains (peak_positions shape kept.start) (shape.position x) → Contains (peaks shape kept.start) x
        here found =
            let xs = peaks shape kept.start in
            let lt : found.0 < length xs = omega (arith, found.1, length-map xs shape.position) in
            let at : shape.position (get_or xs found.0 x) ≡ shape.position x = sym (get_or-map shape.position xs found.0 x (shape.position x) lt) ∙ found.2 in
            (found.0, lt, same_place shape births family (get_or xs found.0 x) x at)

        pin : (found : Option D) → pin_at (peak_positions shape kept.start) kept.pins (shape.position x) ≡ found → IfSome found (λ d. bytes d ≡ digest_of hash shape list x)
        pin None is = tt
        pin (Some d) is =
            let among = here (contains-pin_at (peak_positions shape kept.start) kept.pins (shape.position x) (ap is_some is)) in
            given bytes (Some d) (digest_of hash shape list x)
            (ap (option_map bytes) (sym is) ∙ pinned shape births family peaked bytes hash kept list stands x (peaks shape kept.start) kept.pins stands.pins among)

    -- and what layers and the tree below them have is told of the newest list
    pub layers_tell : (mem : Kept D) (layers : List (Layer D)) (list new : List Bytes) (lists : List (List Bytes)) → IsHistory shape bytes hash layers (new ∷ lists) → Contains (new ∷ lists) list → Stands shape bytes hash mem list →
        Tells shape bytes hash (λ p. option_or (layers_at shape layers p) (node_at shape mem p)) new
    layers_tell mem layers list new lists history found stands x born =
        let p = shape.position x in
        either (layers_at shape layers p) (node_at shape mem p) (digest_of hash shape list x) (digest_of hash shape new x) (shape.birth x ≤ length list) (layers_lead shape births family bytes hash layers list new lists history found x born) (tree_tells mem list stands x)
      where
        below : (had : Option D) (old digest : Bytes) → old ≡ digest → IfSome had (λ d. bytes d ≡ old) → IfSome had (λ d. bytes d ≡ digest)
        below None old digest same is = tt
        below (Some d) old digest same is = is ∙ same

        either : (found had : Option D) (old digest : Bytes) (low : Type 0) → MatchOption found (low × (old ≡ digest)) (λ d. bytes d ≡ digest) → (low → IfSome had (λ d. bytes d ≡ old)) → IfSome (option_or found had) (λ d. bytes d ≡ digest)
        either None had old digest low match tells = below had old digest match.1 (tells match.0)
        either (Some d) had old digest low match tells = match
