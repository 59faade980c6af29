-- The nodes that a tree in memory holds are those of its leaves.
use Rattle.std.proofs.Common.{◌≡◌, ◌≢◌, ℕ, zero, suc, ◌^◌, ◌<◌, ◌≤◌, true, false, List, [], ◌∷◌, length, map, get_or, arith, ap, ap₂, sym, ◌∙◌, refl, Option, Some, Contains, All, ⊎_elim, inl, inr, subst}
use Rattle.std.specs.Prelude.{option_map, ◌==◌}
use Rattle.std.proofs.lemmas.Bool.{cases_lt}
use Rattle.std.proofs.lemmas.Bool.Decides.{eqb_tells}
use Rattle.std.proofs.lemmas.List.{length-map, get_or-map}
use Rattle.qm_model.specs.Operations.{Bytes}
use Rattle.qm_model.specs.Trees.{Shape, Node, peaks, peak_positions, digest_of, root_of, root}
use Rattle.qm_model.specs.Families.{Births, IsFamily, HasPeaks, over}
use Rattle.qm_merkle.specs.Mems.{Kept, IsWhole, Holds, Gives, Stands, node_at, pin_at}
use Rattle.qm_merkle.proofs.Numbering.{stands_below, stands_past, born_once, same_place}
use Rattle.qm_merkle.proofs.Lookups.{pin_at-first, pin_at-other, node_at-pin}

-- an element of a list, seen through a map
Contains-mapped : {X Y : Type 0} (f : X → Y) (xs : List X) (x : X) → Contains xs x → Contains (map f xs) (f x)
Contains-mapped f xs x found = (found.0, omega (arith, found.1, length-map xs f), get_or-map f xs found.0 x (f x) found.1 ∙ ap f found.2)

module _ (shape : Shape) (births : Births) (family : IsFamily shape births) (peaked : HasPeaks shape) where
  -- no leaves, no peaks
  pub peaks-none : peaks shape 0 ≡ []
  peaks-none = none (peaks shape 0) (peaked.born 0 (omega arith))
    where
      none : (xs : List Node) → All (λ p. shape.birth p ≤ 0) xs → xs ≡ []
      none [] all = refl
      none (x ∷ xs) all = absurd (omega (arith, all 0 x (omega arith), born_once shape births family x))

  -- a tree of no leaves
  pub whole-new : {D : Type 0} (kept : Kept D) (positions : List ℕ) → kept.start ≡ 0 → kept.leaves ≡ 0 → kept.pins ≡ [] → kept.nodes ≡ [] → positions ≡ [] →
      (positions ≡ peak_positions shape kept.start) × IsWhole shape kept
  whole-new kept positions start leaves pins nodes none =
      let no_peaks : peaks shape kept.start ≡ [] = ap (peaks shape) start ∙ peaks-none in (
        none ∙ sym (ap (map shape.position) no_peaks),
        record {
          order = omega arith;
          few = omega arith;
          pinned = ap length pins ∙ sym (ap length no_peaks);
          full = omega (arith, ap length nodes, ap shape.size (start ∙ sym leaves));
        },
      )

  pub stands-new : {D : Type 0} (bytes : D → Bytes) (hash : Bytes → Bytes) (kept : Kept D) → kept.start ≡ 0 → kept.leaves ≡ 0 → kept.pins ≡ [] → Stands shape bytes hash kept []
  stands-new bytes hash kept start leaves pins = record {
    count = leaves;
    pins = ap (map bytes) pins ∙ sym (ap (λ n. map (digest_of hash shape []) (peaks shape n)) start ∙ ap (map (digest_of hash shape [])) peaks-none);
    nodes = λ x new born. absurd (omega arith);
  }

  module _ {D : Type 0} (kept : Kept D) (whole : IsWhole shape kept) where
    -- a node that is there is held, if the node over it was not there at the kept start
    pub node_held : (x : Node) → shape.birth x ≤ kept.leaves → kept.start < shape.birth (over x) → Holds shape kept (shape.position x)
    node_held x born bare = ⊎_elim
        (λ (new : kept.start < shape.birth x). inr (stands_past shape births family x kept.start new, stands_below shape births family x kept.leaves born))
        (λ (old : shape.birth x ≤ kept.start). inl (Contains-mapped shape.position (peaks shape kept.start) x (peaked.all kept.start x (omega (arith, whole.order, whole.few)) old bare)))
        (cases_lt kept.start (shape.birth x))

    -- the peaks of every tree between the kept start and the leaves are held
    pub peaks_held : (n : ℕ) → kept.start ≤ n → n ≤ kept.leaves → All (Holds shape kept) (peak_positions shape n)
    peaks_held n from to k d lt =
        let xs = peaks shape n in
        let few : n ≤ 2 ^ 62 = omega (arith, whole.few) in
        let low : k < length xs = omega (arith, length-map xs shape.position) in
        let e : Node = record { height = 0; index = 0 } in
        let born : shape.birth (get_or xs k e) ≤ n = peaked.born n few k e low in
        let bare : n < shape.birth (over (get_or xs k e)) = peaked.bare n few k e low in
        subst (Holds shape kept) (sym (get_or-map shape.position xs k e d low)) (node_held (get_or xs k e) (omega arith) (omega arith))

  module _ {D : Type 0} (bytes : D → Bytes) (hash : Bytes → Bytes) (kept : Kept D) (leaves : List Bytes) (stands : Stands shape bytes hash kept leaves) where
    -- a pin is the digest of its peak
    pub pinned : (x : Node) (xs : List Node) (ds : List D) → map bytes ds ≡ map (digest_of hash shape leaves) xs → Contains xs x → Gives bytes (pin_at (map shape.position xs) ds (shape.position x)) (digest_of hash shape leaves x)
    pinned x xs ds same found = go xs ds same found.0 found.1 found.2
      where
        go : (xs : List Node) (ds : List D) → map bytes ds ≡ map (digest_of hash shape leaves) xs → (k : ℕ) → k < length xs → get_or xs k x ≡ x →
            Gives bytes (pin_at (map shape.position xs) ds (shape.position x)) (digest_of hash shape leaves x)
        go [] ds same k lt is = absurd (omega arith)
        go (y ∷ ys) [] same k lt is = cc
        go (y ∷ ys) (d ∷ ds) same zero lt is =
            let head : bytes d ≡ digest_of hash shape leaves y = cc in
            ap (option_map bytes) (pin_at-first (shape.position y) (map shape.position ys) d ds (shape.position x) (ap shape.position is)) ∙ ap Some (head ∙ ap (digest_of hash shape leaves) is)
        go (y ∷ ys) (d ∷ ds) same (suc k) lt is =
            let head : bytes d ≡ digest_of hash shape leaves y = cc in
            let tail : map bytes ds ≡ map (digest_of hash shape leaves) ys = cc in
            ⊎_elim
            (λ (here : (shape.position y == shape.position x ≡ true) × (shape.position y ≡ shape.position x)).
            ap (option_map bytes) (pin_at-first (shape.position y) (map shape.position ys) d ds (shape.position x) here.1) ∙ ap Some (head ∙ ap (digest_of hash shape leaves) (same_place shape births family y x here.1)))
            (λ (other : (shape.position y == shape.position x ≡ false) × (shape.position y ≢ shape.position x)).
            ap (option_map bytes) (pin_at-other (shape.position y) (map shape.position ys) d ds (shape.position x) other.1) ∙ go ys ds tail k (omega arith) is)
            (eqb_tells (shape.position y) (shape.position x))

    -- each node that is there, if the node over it was not at the kept start, is held
    pub gives : (x : Node) → kept.start ≤ 2 ^ 62 → shape.birth x ≤ kept.leaves → kept.start < shape.birth (over x) → Gives bytes (node_at shape kept (shape.position x)) (digest_of hash shape leaves x)
    gives x few born bare = ⊎_elim
        (λ (new : kept.start < shape.birth x). stands.nodes x new born)
        (λ (old : shape.birth x ≤ kept.start).
        ap (option_map bytes) (node_at-pin shape kept (shape.position x) (stands_below shape births family x kept.start old))
        ∙ pinned x (peaks shape kept.start) kept.pins stands.pins (peaked.all kept.start x few old bare))
        (cases_lt kept.start (shape.birth x))

    -- the digests that are read at these nodes' places
    pub read : (xs : List Node) (ds : List D) → map Some ds ≡ map (node_at shape kept) (map shape.position xs) → kept.start ≤ 2 ^ 62 → All (λ x. shape.birth x ≤ kept.leaves) xs → All (λ x. kept.start < shape.birth (over x)) xs →
        map bytes ds ≡ map (digest_of hash shape leaves) xs
    read [] [] same few born bare = refl
    read [] (d ∷ ds) same few born bare = cc
    read (x ∷ xs) [] same few born bare = cc
    read (x ∷ xs) (d ∷ ds) same few born bare =
        let head : Some d ≡ node_at shape kept (shape.position x) = cc in
        let tail : map Some ds ≡ map (node_at shape kept) (map shape.position xs) = cc in
        let is : ◌≡◌ {A = Option Bytes} (Some (bytes d)) (Some (digest_of hash shape leaves x)) = ap (option_map bytes) head ∙ gives x few (born 0 x (omega arith)) (bare 0 x (omega arith)) in
        let digest : bytes d ≡ digest_of hash shape leaves x = cc in
        ap₂ (λ a b. a ∷ b) digest (read xs ds tail few (λ k e lt. born (suc k) e (omega arith)) (λ k e lt. bare (suc k) e (omega arith)))

    -- the root of the peaks that are read
    pub rooted : (whole : IsWhole shape kept) (ds : List D) (n inactive : ℕ) → n ≡ kept.leaves → map Some ds ≡ map (node_at shape kept) (peak_positions shape kept.leaves) →
        root_of hash n inactive (map bytes ds) ≡ root hash shape leaves inactive
    rooted whole ds n inactive is same =
        let few : kept.start ≤ 2 ^ 62 = omega (arith, whole.order, whole.few) in
        let digests : map bytes ds ≡ map (digest_of hash shape leaves) (peaks shape kept.leaves) =
        read (peaks shape kept.leaves) ds same few (peaked.born kept.leaves whole.few) (λ k d lt. omega (arith, peaked.bare kept.leaves whole.few k d lt, whole.order)) in
        ap₂ (λ m xs. root_of hash m inactive xs) (is ∙ stands.count) (digests ∙ ap (λ m. map (digest_of hash shape leaves) (peaks shape m)) stands.count)
