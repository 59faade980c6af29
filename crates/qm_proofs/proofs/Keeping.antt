-- What a tree that forgot its first leaves still holds, by itself and below layers.
use Rattle.std.proofs.Common.{◌≡◌, ℕ, zero, suc, ◌+◌, ◌*◌, ◌/◌, ◌^◌, ◌<◌, ◌≤◌, Bool, true, false, List, [], ◌∷◌, ◌++◌, length, map, arith, ap, refl, Option, Some, None, IsSome}
use Rattle.std.specs.Prelude.{is_none, cond, max, min, if◌then◌else◌}
use Rattle.std.specs.Option.{option_or}
use Rattle.std.specs.List.{AllByRecursion as Each}
use Rattle.qm_model.specs.Operations.{Bytes}
use Rattle.qm_model.specs.Trees.{Shape, Node, digest_of, end_of, leaf, peaks, peak_positions}
use Rattle.qm_model.specs.Families.{Births, IsFamily, HasPeaks, over}
use Rattle.qm_model.specs.Proofs.{meets, start_of, needed, needed_of}
use Rattle.qm_model.proofs.Proving.{less_tells}
use Rattle.qm_merkle.specs.Mems.{Kept, IsWhole, Gives, node_at}
use Rattle.qm_merkle.specs.Batches.{Layer, layers_at, seen_at, AreThere, AreRead}
use Rattle.qm_proofs.specs.Proofs.{needed_positions, first_lacked}
use Rattle.qm_merkle.proofs.Lookups.{held}
use Rattle.qm_merkle.proofs.Standing.{node_held}
use Rattle.qm_proofs.proofs.Telling.{needed_born, each_row, each_of, each_append}

-- none of the positions lacks a digest
one_without : {D : Type 0} (found : Option D) (p : ℕ) (rest : Option ℕ) → IsSome found → rest ≡ None → cond (is_none found) (Some p) rest ≡ None
one_without None p rest some none = cc
one_without (Some d) p rest some none = none

none_without : {D : Type 0} (at : ℕ → Option D) (ps : List ℕ) → Each (λ p. IsSome (at p)) ps → first_lacked at ps ≡ None
none_without at [] all = refl
none_without at (p ∷ ps) all = one_without (at p) p (first_lacked at ps) all.0 (none_without at ps all.1)

each_mapped : {X : Type 0} (P Q : X → Type 0) (R : ℕ → Type 0) (f : X → ℕ) → ((x : X) → P x → Q x → R (f x)) → (xs : List X) → Each P xs → Each Q xs → Each R (map f xs)
each_mapped P Q R f make [] all more = tt
each_mapped P Q R f make (x ∷ xs) all more = (make x all.0 more.0, each_mapped P Q R f make xs all.1 more.1)

met : (a b s e : ℕ) → max a s < min b e → a < e
met a b s e lt = grind (arith)

module _ (shape : Shape) (births : Births) (family : IsFamily shape births) where
  -- the nodes that a proof of leaves after some needs of a node have nodes over them that were not there then
  needed_bare : (from a b h i : ℕ) → from ≤ a → from < shape.birth (over (record { height = h; index = i })) → Each (λ x. from < shape.birth (over x)) (needed a b h i)
  needed_bare from a b zero i low bare = at (meets a b (leaf i))
    where
      at : (t : Bool) → Each (λ x. from < shape.birth (over x)) (if t then [] else leaf i ∷ [])
      at true = tt
      at false = (bare, tt)
  needed_bare from a b (suc h) i low bare =
      at (meets a b node) refl
      (λ is. each_append (λ x. from < shape.birth (over x)) (needed a b h (2 * i)) (needed a b h (2 * i + 1))
      (needed_bare from a b h (2 * i) low (half (2 * i) (omega arith) is)) (needed_bare from a b h (2 * i + 1) low (half (2 * i + 1) (omega arith) is)))
    where
      node : Node
      node = record { height = suc h; index = i }

      half : (j : ℕ) → j / 2 ≡ i → meets a b node ≡ true → from < shape.birth (over (record { height = h; index = j }))
      half j is meeting =
          let up : shape.birth (over (record { height = h; index = j })) ≡ shape.birth node = ap (λ k. shape.birth (record { height = suc h; index = k })) is in
          let behind : a < end_of node = met a b (start_of node) (end_of node) (less_tells _ _ meeting) in
          omega (arith, family.inside node)

      at : (t : Bool) → meets a b node ≡ t → (meets a b node ≡ true → Each (λ x. from < shape.birth (over x)) (needed a b h (2 * i) ++ needed a b h (2 * i + 1))) →
          Each (λ x. from < shape.birth (over x)) (if t then needed a b h (2 * i) ++ needed a b h (2 * i + 1) else node ∷ [])
      at false is halves = (bare, tt)
      at true is halves = halves is

  module _ (peaked : HasPeaks shape) {D : Type 0} (kept : Kept D) where
    module _ (layers : List (Layer D)) (base : ℕ) (few : base ≤ 2 ^ 62) (there : AreThere shape layers kept base) where
      -- layers over a tree have all nodes of a proof of leaves after those that the tree forgot
      pub needed_seen : (n a b : ℕ) → kept.start ≤ a → a ≤ n → n ≤ base → first_lacked (λ p. option_or (layers_at shape layers p) (node_at shape kept p)) (needed_positions shape n a b) ≡ None
      needed_seen n a b from within all =
          let small : n ≤ 2 ^ 62 = omega (arith, few) in
          let born = each_row (λ x. shape.birth x ≤ n) (λ p. needed a b p.height p.index) (λ p. shape.birth p ≤ n) (λ p. needed_born shape births family n a b p.height p.index) (peaks shape n)
          (each_of (λ p. shape.birth p ≤ n) (peaks shape n) (peaked.born n small)) in
          let bare = each_row (λ x. kept.start < shape.birth (over x)) (λ p. needed a b p.height p.index) (λ p. n < shape.birth (over p)) (λ p late. needed_bare kept.start a b p.height p.index from (omega arith)) (peaks shape n)
          (each_of (λ p. n < shape.birth (over p)) (peaks shape n) (peaked.bare n small)) in
          none_without (λ p. option_or (layers_at shape layers p) (node_at shape kept p)) (needed_positions shape n a b)
          (each_mapped (λ x. shape.birth x ≤ n) (λ x. kept.start < shape.birth (over x)) (λ p. IsSome (option_or (layers_at shape layers p) (node_at shape kept p))) shape.position
          (λ x old late. there x (omega arith) late)
          (needed_of shape n a b) born bare)

      -- and all peaks of each tree from there on
      pub peaks_seen : (n : ℕ) → kept.start ≤ n → n ≤ base → first_lacked (λ p. option_or (layers_at shape layers p) (node_at shape kept p)) (peak_positions shape n) ≡ None
      peaks_seen n from all =
          let small : n ≤ 2 ^ 62 = omega (arith, few) in
          none_without (λ p. option_or (layers_at shape layers p) (node_at shape kept p)) (peak_positions shape n)
          (each_mapped (λ x. shape.birth x ≤ n) (λ x. n < shape.birth (over x)) (λ p. IsSome (option_or (layers_at shape layers p) (node_at shape kept p))) shape.position
          (λ x old late. there x (omega arith) (omega arith))
          (peaks shape n) (each_of (λ x. shape.birth x ≤ n) (peaks shape n) (peaked.born n small)) (each_of (λ x. n < shape.birth (over x)) (peaks shape n) (peaked.bare n small)))

    -- layers over a tree whose nodes are read have them
    pub read_there : (bytes : D → Bytes) (hash : Bytes → Bytes) (layers : List (Layer D)) (list : List Bytes) → AreRead shape bytes hash layers kept list → AreThere shape layers kept (length list)
    read_there bytes hash layers list read x born bare = given (seen_at shape layers kept x) (digest_of hash shape list x) (read x born bare)
      where
        given : (found : Option D) (digest : Bytes) → Gives bytes found digest → IsSome found
        given None digest is = cc
        given (Some d) digest is = refl

    module _ (whole : IsWhole shape kept) where
      -- the tree alone has its nodes
      kept_there : AreThere shape [] kept kept.leaves
      kept_there x born late = (held shape births family peaked kept whole (shape.position x) (node_at shape kept (shape.position x)) refl).1 (node_held shape births family peaked kept whole x born late)

      -- so it holds all nodes of a proof of leaves after those that it forgot
      pub needed_kept : (n a b : ℕ) → kept.start ≤ a → a ≤ n → n ≤ kept.leaves → first_lacked (node_at shape kept) (needed_positions shape n a b) ≡ None
      needed_kept = needed_seen [] kept.leaves whole.few kept_there

      -- and all peaks of each tree from there on
      pub peaks_kept : (n : ℕ) → kept.start ≤ n → n ≤ kept.leaves → first_lacked (node_at shape kept) (peak_positions shape n) ≡ None
      peaks_kept = peaks_seen [] kept.leaves whole.few kept_there
