-- A tree in memory forgets leaves.
use Rattle.std.proofs.Common.{◌≡◌, ℕ, zero, suc, ◌+◌, ◌-◌, ◌^◌, ◌<◌, ◌≤◌, List, [], ◌∷◌, length, map, drop, arith, ap, sym, ◌∙◌, refl, Some, Contains, ⊎_elim, inr}
use Rattle.std.specs.Prelude.{slice_get, option_map}
use Rattle.std.proofs.lemmas.List.{length-drop, length-map}
use Rattle.qm_model.specs.Operations.{Bytes}
use Rattle.qm_model.specs.Trees.{Shape, peaks, peak_positions}
use Rattle.qm_model.specs.Families.{Births, IsFamily, HasPeaks}
use Rattle.qm_merkle.specs.Mems.{Kept, IsWhole, Holds, Stands, node_at}
use Rattle.qm_merkle.proofs.Numbering.{sizes, stands_below, stands_past}
use Rattle.qm_merkle.proofs.Lookups.{node_at-past, node_at-pin, pin_at-read, pins_below}
use Rattle.qm_merkle.proofs.Standing.{read}

pub slice_get-drop : {X : Type 0} (n : ℕ) (xs : List X) (i : ℕ) → slice_get (drop n xs) i ≡ slice_get xs (n + i)
slice_get-drop zero xs i = let place : i ≡ 0 + i = omega arith in ap (slice_get xs) place
slice_get-drop (suc n) [] i = refl
slice_get-drop (suc n) (x ∷ xs) i = let place : suc (n + i) ≡ suc n + i = omega arith in slice_get-drop n xs i ∙ ap (slice_get (x ∷ xs)) place

-- what the tree holds when it forgot leaves
pub record Pruned {D : Type 0} (shape : Shape) (kept next : Kept D) : Type 0 where
  pub from : kept.start ≤ next.start
  pub upto : next.start ≤ kept.leaves
  pub leaves : next.leaves ≡ kept.leaves
  pub nodes : next.nodes ≡ drop (shape.size next.start - shape.size kept.start) kept.nodes
  pub pins : map Some next.pins ≡ map (node_at shape kept) (peak_positions shape next.start)

module _ (shape : Shape) (births : Births) (family : IsFamily shape births) (peaked : HasPeaks shape) {D : Type 0} (kept next : Kept D) (whole : IsWhole shape kept) (pruned : Pruned shape kept next) where
  pub whole-pruned : IsWhole shape next
  whole-pruned =
      let low = sizes shape births family kept.start next.start pruned.from in
      let high = sizes shape births family next.start kept.leaves pruned.upto in
      record {
        order = omega (arith, pruned.leaves, pruned.upto);
        few = omega (arith, pruned.leaves, whole.few);
        pinned = sym (length-map next.pins Some) ∙ ap length pruned.pins ∙ length-map (peak_positions shape next.start) (node_at shape kept) ∙ length-map (peaks shape next.start) shape.position;
        full = omega (arith, ap length pruned.nodes, length-drop (shape.size next.start - shape.size kept.start) kept.nodes, whole.full, ap shape.size pruned.leaves);
      }

  -- what it still holds is as before
  pub same-pruned : (p : ℕ) → Holds shape next p → node_at shape next p ≡ node_at shape kept p
  same-pruned p = ⊎_elim
      (λ (pin : Contains (peak_positions shape next.start) p).
      node_at-pin shape next p (pins_below shape births family peaked next whole-pruned p pin) ∙ pin_at-read (peak_positions shape next.start) next.pins (node_at shape kept) p pruned.pins pin)
      (λ (past : (shape.size next.start ≤ p) × (p < shape.size next.leaves)).
      let low = sizes shape births family kept.start next.start pruned.from in
      let from : shape.size kept.start ≤ p = omega (arith, past.0) in
      let n = shape.size next.start - shape.size kept.start in
      let place : n + (p - shape.size next.start) ≡ p - shape.size kept.start = omega (arith, past.0) in
      node_at-past shape next p past.0 ∙ ap (λ xs. slice_get xs (p - shape.size next.start)) pruned.nodes ∙ slice_get-drop n kept.nodes (p - shape.size next.start)
      ∙ ap (slice_get kept.nodes) place ∙ sym (node_at-past shape kept p from))

  pub stands-pruned : (bytes : D → Bytes) (hash : Bytes → Bytes) (leaves : List Bytes) → Stands shape bytes hash kept leaves → Stands shape bytes hash next leaves
  stands-pruned bytes hash leaves stands =
      let few : kept.start ≤ 2 ^ 62 = omega (arith, whole.order, whole.few) in
      let low : next.start ≤ 2 ^ 62 = omega (arith, pruned.upto, whole.few) in
      record {
        count = pruned.leaves ∙ stands.count;
        pins = read shape births family peaked bytes hash kept leaves stands (peaks shape next.start) next.pins pruned.pins few
            (λ k d lt. omega (arith, peaked.born next.start low k d lt, pruned.upto)) (λ k d lt. omega (arith, peaked.bare next.start low k d lt, pruned.from));
        nodes = λ x new born.
            ap (option_map bytes) (same-pruned (shape.position x) (inr (stands_past shape births family x next.start new, stands_below shape births family x next.leaves born)))
            ∙ stands.nodes x (omega (arith, pruned.from)) (omega (arith, pruned.leaves));
      }
