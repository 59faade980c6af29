-- Where a batch can be made on one that is kept: its tree is reached, its chunks can be grafted.
use Rattle.std.proofs.Common.{◌≡◌, ◌⊎◌, ◌∙◌, ⊎_elim, zero, ◌∷◌, take, ◌*◌, ◌^◌, ◌<◌, ◌≤◌, ℕ, suc, length, get_or, arith, ap, sym, subst}
use Rattle.std.specs.Prelude.{All, Contains, Option}
use Rattle.std.proofs.lemmas.List.{get_or-take, length-take}
use Rattle.qm_model.specs.Trees.{Shape}
use Rattle.qm_model.specs.Families.{Births, IsFamily}
use Rattle.qm_model.specs.Grafted.{chunk_node, grafted_chunks, needed_size}
use Rattle.qm_bits.specs.Bitmaps.{Bitmap, bit_count}
use Rattle.qm_model.proofs.Chains.{Contains-more}
use Rattle.qm_model.proofs.Speaking.{get_or_default}
use Rattle.qm_merkle.specs.Batches.{stops, stops_since}
use Rattle.qm_merkle.proofs.Since.{stop-since}
use Rattle.qm_graft.specs.Grafting.{grafting, CanGraft}
use Rattle.qm_roots.specs.Canonical.{Canonical, IsSized}
use Rattle.qm_roots.specs.Kept.{Kept, AreAgreed, AreFalling, CanFollow, boundary_of, sizes_of}
use Rattle.qm_roots.proofs.Sizes.{child-falling, length-sizes}
use Rattle.qm_roots.proofs.Chunks.{chunks-rise, grafted-within}

-- a tree of one of the sizes is reached
pub reach-at : {D : Type 0} (shape : Shape) (g : ℕ) (kept : Kept D) → AreAgreed shape g kept → (i n : ℕ) → i ≤ length kept.overlays → n ≡ grafted_chunks shape g (get_or (sizes_of kept) i 0) → Contains (stops kept.leaves kept.layers) n
reach-at shape g kept agreed i n within same = subst (Contains (stops kept.leaves kept.layers)) (sym same) (agreed.reached i 0 (omega (arith, within, length-sizes kept.overlays kept.base)))

module _ (shape : Shape) (births : Births) (family : IsFamily shape births) (size : ℕ) (some : 0 < 8 * size) (span : 2 ^ grafting size ≡ 8 * size)
    (prompt : (c : ℕ) → shape.birth (chunk_node (grafting size) c) ≤ suc (suc c) * 2 ^ grafting size) where
  abbrev grafts : ℕ → ℕ
  grafts n = grafted_chunks shape (grafting size) n

  rise : (n m : ℕ) → n ≤ m → grafts n ≤ grafts m
  rise = chunks-rise shape births family size some span prompt

  module _ {D : Type 0} (kept : Kept D) (agreed : AreAgreed shape (grafting size) kept) where
    pub boundary-within : (keep : ℕ) → keep ≤ length kept.overlays → boundary_of shape (grafting size) kept keep ≤ kept.leaves
    boundary-within keep within =
        let down = agreed.falling 0 keep (omega arith) (omega (arith, within, length-sizes kept.overlays kept.base)) in
        omega (arith, rise (get_or (sizes_of kept) keep 0) (get_or (sizes_of kept) 0 0) down, agreed.leaves)

    pub size-few : (keep : ℕ) → keep ≤ length kept.overlays → get_or (sizes_of kept) keep 0 ≤ 2 ^ 62
    size-few keep within = omega (arith, agreed.few, agreed.falling 0 keep (omega arith) (omega (arith, within, length-sizes kept.overlays kept.base)))

    module _ {E : Type 0} (own : Canonical D) (sized : IsSized shape (grafting size) own) (map : Bitmap) (held : ℕ → Option E) (lacking keep n : ℕ) (can : CanFollow shape size kept own map held lacking keep n) where
      lacks : lacking ≤ length kept.overlays
      lacks = omega (arith, can.keeps, can.between)

      tree-is : own.tree.leaves ≡ grafts (get_or (sizes_of kept) lacking 0)
      tree-is = sized.leaves ∙ ap grafts can.at

      pub reach : Contains (stops kept.leaves kept.layers) own.tree.leaves
      reach = reach-at shape (grafting size) kept agreed lacking own.tree.leaves lacks tree-is

      pub boundary-low : boundary_of shape (grafting size) kept keep ≤ own.tree.leaves
      boundary-low =
          let down = agreed.falling lacking keep can.between (omega (arith, can.keeps, length-sizes kept.overlays kept.base)) in
          omega (arith, rise (get_or (sizes_of kept) keep 0) (get_or (sizes_of kept) lacking 0) down, tree-is)

      pub tree-low : own.tree.leaves ≤ kept.leaves
      tree-low =
          let down = agreed.falling 0 lacking (omega arith) (omega (arith, lacks, length-sizes kept.overlays kept.base)) in
          omega (arith, rise (get_or (sizes_of kept) lacking 0) (get_or (sizes_of kept) 0 0) down, tree-is, agreed.leaves)

      pub order : kept.leaves ≤ grafts n
      order = omega (arith, rise (get_or (sizes_of kept) 0 0) n can.grows, agreed.leaves)

      pub goes : 0 < own.tree.start → needed_size shape (grafting size) own.tree.start ≤ n
      goes more =
          let down = agreed.falling 0 lacking (omega arith) (omega (arith, lacks, length-sizes kept.overlays kept.base)) in
          omega (arith, sized.may_go more, can.at, down, can.grows)

      pub can-graft : (seen : Bitmap) → bit_count size seen ≡ n → seen.pruned ≡ map.pruned → (c : ℕ) → map.pruned ≤ c → c < grafts n → CanGraft held shape size seen c
      can-graft seen total pruned c from low =
          let whole = grafted-within shape births family size some span prompt n (suc c) (omega (arith, low)) in record {
            kept = omega (arith, from, pruned);
            complete = omega (arith, whole, total);
            within = omega (arith, whole, can.few);
            node = can.chunks c from low;
          }

      -- the numbers of a child
      pub child-agreed : (next : Kept D) → sizes_of next ≡ n ∷ take (suc keep) (sizes_of kept) → next.leaves ≡ grafts n
          → stops next.leaves next.layers ≡ next.leaves ∷ stops_since (boundary_of shape (grafting size) kept keep) (stops kept.leaves kept.layers)
          → (next.start ≡ kept.start) ⊎ (next.start ≡ own.tree.start) → AreAgreed shape (grafting size) next
      child-agreed next sizes leaves stopped begun = record {
        few = subst (λ ns. get_or ns 0 0 ≤ 2 ^ 62) (sym sizes) can.few;
        falling = subst AreFalling (sym sizes) (child-falling n (suc keep) (sizes_of kept) (omega (arith, can.keeps, length-sizes kept.overlays kept.base)) agreed.falling can.grows);
        leaves = leaves ∙ ap (λ ns. grafts (get_or ns 0 0)) (sym sizes);
        reached = subst (All (λ m. Contains (stops next.leaves next.layers) (grafts m))) (sym sizes) (subst (λ ss. All (λ m. Contains ss (grafts m)) (n ∷ take (suc keep) (sizes_of kept))) (sym stopped) each);
        start = ⊎_elim
            (λ (here : next.start ≡ kept.start). omega (arith, here, agreed.start, order, leaves))
            (λ (there : next.start ≡ own.tree.start). omega (arith, there, can.forgotten, can.pruned, tree-low, order, leaves))
            begun;
      }
        where
          each : All (λ m. Contains (next.leaves ∷ stops_since (boundary_of shape (grafting size) kept keep) (stops kept.leaves kept.layers)) (grafts m)) (n ∷ take (suc keep) (sizes_of kept))
          each zero d lt = (0, omega arith, leaves)
          each (suc i) d lt =
              let long = length-sizes kept.overlays kept.base in
              let low : i < suc keep = omega (arith, lt, length-take (suc keep) (sizes_of kept)) in
              let inside : i < length (sizes_of kept) = omega (arith, low, can.keeps, long) in
              let at = get_or-take (suc keep) (sizes_of kept) i d low in
              let found = agreed.reached i d inside in
              let same = get_or_default (sizes_of kept) i d 0 inside in
              let down = agreed.falling i keep (omega (arith, low)) (omega (arith, can.keeps, long)) in
              let high = rise (get_or (sizes_of kept) keep 0) (get_or (sizes_of kept) i d) (omega (arith, down, same)) in
              subst (λ m. Contains (next.leaves ∷ stops_since (boundary_of shape (grafting size) kept keep) (stops kept.leaves kept.layers)) (grafts m)) (sym at)
              (Contains-more (stops_since (boundary_of shape (grafting size) kept keep) (stops kept.leaves kept.layers)) next.leaves (grafts (get_or (sizes_of kept) i d))
              (stop-since (boundary_of shape (grafting size) kept keep) (stops kept.leaves kept.layers) (grafts (get_or (sizes_of kept) i d)) found high))
