-- What a tree in memory holds at a position.
use Rattle.std.proofs.Common.{◌≡◌, ◌≢◌, ℕ, zero, suc, ◌-◌, ◌^◌, ◌<◌, ◌≤◌, ◌↔◌, true, false, List, [], ◌∷◌, length, map, get_or, drop, arith, ap, ap₂, sym, ◌∙◌, refl, Option, Some, None, IsSome, Contains, ⊎_elim, inl, inr}
use Rattle.std.specs.Prelude.{slice_get, is_some, if◌then◌else◌, ◌==◌, nat_le}
use Rattle.std.proofs.lemmas.Bool.{cases_lt, le-leb, eq-eqb}
use Rattle.std.proofs.lemmas.Bool.Decides.{leb_tells, eqb_tells}
use Rattle.std.proofs.lemmas.Option.{slice_get_read, slice_get_past}
use Rattle.std.proofs.lemmas.List.{length-map, get_or-map}
use Rattle.qm_model.specs.Trees.{Shape, Node, peaks, peak_positions}
use Rattle.qm_model.specs.Families.{Births, IsFamily, HasPeaks}
use Rattle.qm_merkle.specs.Mems.{Kept, IsWhole, Holds, node_at, pin_at}
use Rattle.qm_merkle.proofs.Numbering.{stands_below}

pub is_some_at : {X : Type 0} (o : Option X) (x : X) → o ≡ Some x → IsSome o
is_some_at o x e = ap is_some e

pub is_some-slice_get : {X : Type 0} (xs : List X) (i : ℕ) → i < length xs → IsSome (slice_get xs i)
is_some-slice_get [] i lt = absurd (omega arith)
is_some-slice_get (x ∷ xs) zero lt = refl
is_some-slice_get (x ∷ xs) (suc i) lt = is_some-slice_get xs i (omega arith)

module _ {D : Type 0} where
  -- a position that is not the first
  pub pin_at-other : (q : ℕ) (qs : List ℕ) (d : D) (ds : List D) (p : ℕ) → q ≢ p → pin_at (q ∷ qs) (d ∷ ds) p ≡ pin_at qs ds p
  pin_at-other q qs d ds p ne = ⊎_elim
      (λ (same : (q == p ≡ true) × (q ≡ p)). absurd (ne same.1))
      (λ (other : (q == p ≡ false) × (q ≢ p)). ap (λ b. if b then Some d else pin_at qs ds p) other.0)
      (eqb_tells q p)

  pub pin_at-first : (q : ℕ) (qs : List ℕ) (d : D) (ds : List D) (p : ℕ) → q ≡ p → pin_at (q ∷ qs) (d ∷ ds) p ≡ Some d
  pin_at-first q qs d ds p e = ap (λ b. if b then Some d else pin_at qs ds p) (eq-eqb q p e)

  pub pin_at-next : (qs : List ℕ) (ds : List D) (i p q : ℕ) → i < length qs → length ds ≡ length qs → q ≡ get_or qs i q → q ≢ p →
      pin_at (drop (suc i) qs) (drop (suc i) ds) p ≡ pin_at (drop i qs) (drop i ds) p
  pin_at-next [] ds i p q lt long is ne = absurd (omega arith)
  pin_at-next (r ∷ qs) [] i p q lt long is ne = absurd (omega arith)
  pin_at-next (r ∷ qs) (d ∷ ds) zero p q lt long is ne = sym (pin_at-other r qs d ds p (λ e. ne (is ∙ e)))
  pin_at-next (r ∷ qs) (d ∷ ds) (suc i) p q lt long is ne = pin_at-next qs ds i p q (omega arith) (omega arith) is ne

  pub pin_at-contains : (qs : List ℕ) (ds : List D) (p : ℕ) → length ds ≡ length qs → Contains qs p → IsSome (pin_at qs ds p)
  pin_at-contains qs ds p long found = go qs ds long found.0 found.1 found.2
    where
      go : (qs : List ℕ) (ds : List D) → length ds ≡ length qs → (k : ℕ) → k < length qs → get_or qs k p ≡ p → IsSome (pin_at qs ds p)
      go [] ds long k lt is = absurd (omega arith)
      go (q ∷ qs) [] long k lt is = absurd (omega arith)
      go (q ∷ qs) (d ∷ ds) long zero lt is = is_some_at (pin_at (q ∷ qs) (d ∷ ds) p) d (pin_at-first q qs d ds p is)
      go (q ∷ qs) (d ∷ ds) long (suc k) lt is = ⊎_elim
          (λ (same : (q == p ≡ true) × (q ≡ p)). is_some_at (pin_at (q ∷ qs) (d ∷ ds) p) d (pin_at-first q qs d ds p same.1))
          (λ (other : (q == p ≡ false) × (q ≢ p)). ap is_some (pin_at-other q qs d ds p other.1) ∙ go qs ds (omega arith) k (omega arith) is)
          (eqb_tells q p)

  -- digests that were read at the positions
  pub pin_at-read : (qs : List ℕ) (ds : List D) (at : ℕ → Option D) (p : ℕ) → map Some ds ≡ map at qs → Contains qs p → pin_at qs ds p ≡ at p
  pin_at-read qs ds at p same found = go qs ds same found.0 found.1 found.2
    where
      go : (qs : List ℕ) (ds : List D) → map Some ds ≡ map at qs → (k : ℕ) → k < length qs → get_or qs k p ≡ p → pin_at qs ds p ≡ at p
      go [] ds same k lt is = absurd (omega arith)
      go (q ∷ qs) [] same k lt is = cc
      go (q ∷ qs) (d ∷ ds) same zero lt is = let head : Some d ≡ at q = cc in pin_at-first q qs d ds p is ∙ head ∙ ap at is
      go (q ∷ qs) (d ∷ ds) same (suc k) lt is =
          let head : Some d ≡ at q = cc in
          let tail : map Some ds ≡ map at qs = cc in
          ⊎_elim
          (λ (here : (q == p ≡ true) × (q ≡ p)). pin_at-first q qs d ds p here.1 ∙ head ∙ ap at here.1)
          (λ (other : (q == p ≡ false) × (q ≢ p)). pin_at-other q qs d ds p other.1 ∙ go qs ds tail k (omega arith) is)
          (eqb_tells q p)

  pub contains-pin_at : (qs : List ℕ) (ds : List D) (p : ℕ) → IsSome (pin_at qs ds p) → Contains qs p
  contains-pin_at [] ds p some = cc
  contains-pin_at (q ∷ qs) [] p some = cc
  contains-pin_at (q ∷ qs) (d ∷ ds) p some = ⊎_elim
      (λ (same : (q == p ≡ true) × (q ≡ p)). (0, omega arith, same.1))
      (λ (other : (q == p ≡ false) × (q ≢ p)).
      let rest = contains-pin_at qs ds p (sym (ap is_some (pin_at-other q qs d ds p other.1)) ∙ some) in
      (suc rest.0, omega (arith, rest.1), rest.2))
      (eqb_tells q p)

  pub node_at-past : (shape : Shape) (kept : Kept D) (p : ℕ) → shape.size kept.start ≤ p → node_at shape kept p ≡ slice_get kept.nodes (p - shape.size kept.start)
  node_at-past shape kept p le = ap (λ b. if b then slice_get kept.nodes (p - shape.size kept.start) else pin_at (peak_positions shape kept.start) kept.pins p) (le-leb _ _ le)

  pub node_at-pin : (shape : Shape) (kept : Kept D) (p : ℕ) → p < shape.size kept.start → node_at shape kept p ≡ pin_at (peak_positions shape kept.start) kept.pins p
  node_at-pin shape kept p lt = ⊎_elim
      (λ (high : (nat_le (shape.size kept.start) p ≡ true) × (shape.size kept.start ≤ p)). absurd (omega arith))
      (λ (low : (nat_le (shape.size kept.start) p ≡ false) × (p < shape.size kept.start)). ap (λ b. if b then slice_get kept.nodes (p - shape.size kept.start) else pin_at (peak_positions shape kept.start) kept.pins p) low.0)
      (leb_tells (shape.size kept.start) p)

  -- the tree's digests, as they are read
  pub found_pin : (shape : Shape) (kept : Kept D) (p size : ℕ) (qs : List ℕ) (ds : List D) (found : Option D) → qs ≡ peak_positions shape kept.start → ds ≡ kept.pins →
      size ≡ shape.size kept.start → p < size → found ≡ pin_at qs ds p → found ≡ node_at shape kept p
  found_pin shape kept p size qs ds found positions pins is lt at =
      at ∙ ap₂ (λ xs ys. pin_at xs ys p) positions pins ∙ sym (node_at-pin shape kept p (omega arith))

  pub found_past : (shape : Shape) (kept : Kept D) (p size : ℕ) (nodes : List D) (d : D) → nodes ≡ kept.nodes → size ≡ shape.size kept.start → size ≤ p →
      p - size < length nodes → d ≡ get_or nodes (p - size) d → Some d ≡ node_at shape kept p
  found_past shape kept p size nodes d same is le lt at =
      sym (node_at-past shape kept p (omega arith) ∙ ap (λ xs. slice_get xs (p - shape.size kept.start)) (sym same) ∙ ap (λ k. slice_get nodes (p - k)) (sym is) ∙ slice_get_read nodes (length nodes) (p - size) d refl lt at)

  pub missing_past : (shape : Shape) (kept : Kept D) (p size : ℕ) (nodes : List D) → nodes ≡ kept.nodes → size ≡ shape.size kept.start → size ≤ p →
      length nodes ≤ p - size → None ≡ node_at shape kept p
  missing_past shape kept p size nodes same is le short =
      sym (node_at-past shape kept p (omega arith) ∙ ap (λ xs. slice_get xs (p - shape.size kept.start)) (sym same) ∙ ap (λ k. slice_get nodes (p - k)) (sym is) ∙ slice_get_past nodes (p - size) short)

  module _ (shape : Shape) (births : Births) (family : IsFamily shape births) (peaked : HasPeaks shape) (kept : Kept D) (whole : IsWhole shape kept) where
    -- the pins stand below the size at the kept start
    pub pins_below : (p : ℕ) → Contains (peak_positions shape kept.start) p → p < shape.size kept.start
    pins_below p found =
        let xs = peaks shape kept.start in
        let few : kept.start ≤ 2 ^ 62 = omega (arith, whole.order, whole.few) in
        let lt : found.0 < length xs = omega (arith, found.1, length-map xs shape.position) in
        let d : Node = record { height = 0; index = 0 } in
        let at : shape.position (get_or xs found.0 d) ≡ p = sym (get_or-map shape.position xs found.0 d p lt) ∙ found.2 in
        let below = stands_below shape births family (get_or xs found.0 d) kept.start (peaked.born kept.start few found.0 d lt) in
        omega arith

    -- the tree has a digest exactly at what it holds
    pub held : (p : ℕ) (found : Option D) → found ≡ node_at shape kept p → IsSome found ↔ Holds shape kept p
    held p found is = (to, from)
      where
        long : length kept.pins ≡ length (peak_positions shape kept.start)
        long = whole.pinned ∙ sym (length-map (peaks shape kept.start) shape.position)

        to : IsSome found → Holds shape kept p
        to some = ⊎_elim
            (λ (low : p < shape.size kept.start). inl (contains-pin_at (peak_positions shape kept.start) kept.pins p (ap is_some (sym (node_at-pin shape kept p low) ∙ sym is) ∙ some)))
            (λ (high : shape.size kept.start ≤ p).
            ⊎_elim (λ (lt : p - shape.size kept.start < length kept.nodes). inr (high, omega (arith, whole.full)))
            (λ (past : length kept.nodes ≤ p - shape.size kept.start).
            let none : found ≡ None = is ∙ sym (missing_past shape kept p (shape.size kept.start) kept.nodes refl refl high past) in
            absurd (no (sym some ∙ ap is_some none)))
            (cases_lt (p - shape.size kept.start) (length kept.nodes)))
            (cases_lt p (shape.size kept.start))
          where
            no : true ≡ false → ⊥
            no e = cc

        from : Holds shape kept p → IsSome found
        from = ⊎_elim
            (λ (pin : Contains (peak_positions shape kept.start) p).
            ap is_some (is ∙ node_at-pin shape kept p (pins_below p pin)) ∙ pin_at-contains (peak_positions shape kept.start) kept.pins p long pin)
            (λ (past : (shape.size kept.start ≤ p) × (p < shape.size kept.leaves)).
            let le = past.0 in
            let lt : p - shape.size kept.start < length kept.nodes = omega (arith, past.0, past.1, whole.full) in
            ap is_some (is ∙ node_at-past shape kept p le) ∙ is_some-slice_get kept.nodes (p - shape.size kept.start) lt)
