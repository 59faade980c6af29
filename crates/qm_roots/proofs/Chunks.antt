-- Chunks of lists that grow, and what a step does to them.
use Rattle.std.proofs.Common.{◌≡◌, ⊎_elim, le_refl, get_or, false, ℕ, zero, suc, ◌+◌, ◌*◌, ◌^◌, ◌<◌, ◌≤◌, List, [], ◌∷◌, ◌++◌, length, drop, map, arith, ap, ap₂, sym, subst, ◌∙◌, refl}
use Rattle.std.specs.Prelude.{filter, nat_le}
use Rattle.std.proofs.Math.Nat.{le_trans}
use Rattle.std.proofs.lemmas.Bool.{cases_lt}
use Rattle.std.proofs.lemmas.Nat.{mul-le}
use Rattle.std.proofs.lemmas.List.{take-append-drop, get_or-drop}
use Rattle.qm_model.specs.Operations.{Bytes, Operation}
use Rattle.qm_model.specs.Batches.{Begins}
use Rattle.qm_model.specs.Forms.{Form}
use Rattle.qm_model.specs.Trees.{Shape, leaves_from}
use Rattle.qm_model.specs.Families.{Births, IsFamily}
use Rattle.qm_model.specs.Bits.{bits, chunk}
use Rattle.qm_model.specs.Grafted.{chunk_size, chunk_node, chunk_of, grafted_chunks}
use Rattle.qm_model.proofs.GraftedLemmas.{grafted_born, born_grafted}
use Rattle.qm_graft.specs.Grafting.{grafting, IsStep}
use Rattle.qm_graft.proofs.Rooting.{length-leaves}
use Rattle.qm_merkle.proofs.Since.{stop-since}
use Rattle.qm_bits.specs.Bitmaps.{Bitmap, all_bits}
use Rattle.qm_overlay.specs.Layers.{Overlay}
use Rattle.qm_overlay.proofs.Applying.{below_start}
use Rattle.qm_overlay.proofs.Bytes.{packed_same}
use Rattle.qm_roots.specs.Steps.{IsOverlay}
use Rattle.qm_roots.specs.Kept.{AreInactive}
use Rattle.qm_roots.proofs.Overlays.{same-chunk, changed-none, clear-stays}

leaves-more : (hash : Bytes → Bytes) (shape : Shape) (form : Form) (i : ℕ) (xs ys : List Operation) → leaves_from hash shape form i (xs ++ ys) ≡ leaves_from hash shape form i xs ++ leaves_from hash shape form (i + length xs) ys
leaves-more hash shape form i [] ys = let same : i ≡ i + 0 = omega arith in ap (λ j. leaves_from hash shape form j ys) same
leaves-more hash shape form i (x ∷ xs) ys =
    let same : suc i + length xs ≡ i + suc (length xs) = omega arith in
    ap₂ (λ l rest. l ∷ rest) refl (leaves-more hash shape form (suc i) xs ys ∙ ap (λ j. leaves_from hash shape form (suc i) xs ++ leaves_from hash shape form j ys) same)

-- a list that begins with another one has its leaves
pub leaves-onward : (hash : Bytes → Bytes) (shape : Shape) (form : Form) (base tip : List Operation) → Begins base tip
    → leaves_from hash shape form 0 tip ≡ leaves_from hash shape form 0 base ++ leaves_from hash shape form (length base) (drop (length base) tip)
leaves-onward hash shape form base tip begins =
    let parts : base ++ drop (length base) tip ≡ tip = ap (λ l. l ++ drop (length base) tip) (sym begins) ∙ take-append-drop (length base) tip in
    let none : 0 + length base ≡ length base = omega arith in
    ap (leaves_from hash shape form 0) (sym parts) ∙ leaves-more hash shape form 0 base (drop (length base) tip)
    ∙ ap (λ j. leaves_from hash shape form 0 base ++ leaves_from hash shape form j (drop (length base) tip)) none

sized : (g size : ℕ) → 2 ^ g ≡ 8 * size → chunk_size g ≡ size
sized g size span = omega (arith, span)

module _ (shape : Shape) (births : Births) (family : IsFamily shape births) (size : ℕ) (some : 0 < 8 * size) (span : 2 ^ grafting size ≡ 8 * size)
    (prompt : (c : ℕ) → shape.birth (chunk_node (grafting size) c) ≤ suc (suc c) * 2 ^ grafting size) where
  -- more chunks are grafted in a greater tree
  pub chunks-rise : (n m : ℕ) → n ≤ m → grafted_chunks shape (grafting size) n ≤ grafted_chunks shape (grafting size) m
  chunks-rise n m low = by (grafted_chunks shape (grafting size) n) refl
    where
      by : (k : ℕ) → grafted_chunks shape (grafting size) n ≡ k → k ≤ grafted_chunks shape (grafting size) m
      by zero is = omega arith
      by (suc i) is = born_grafted shape (grafting size) m i (family.inside (chunk_node (grafting size) i)) (le_trans (grafted_born shape (grafting size) n i prompt (omega (arith, is))) low)

  pub grafted-within : (n k : ℕ) → k ≤ grafted_chunks shape (grafting size) n → k * (8 * size) ≤ n
  grafted-within n k low = subst (λ w. k * w ≤ n) span (whole n k low)
    where
      whole : (n k : ℕ) → k ≤ grafted_chunks shape (grafting size) n → k * 2 ^ grafting size ≤ n
      whole n zero low = omega arith
      whole n (suc k) low = omega (arith, family.inside (chunk_node (grafting size) k), grafted_born shape (grafting size) n k prompt low)

  -- what a step does to chunks, if those before one are inactive
  pub step-of : (hash : Bytes → Bytes) (form : Form) (overlay : Overlay) (base tip : List Operation) (count start : ℕ) → IsOverlay size overlay base tip → Begins base tip → count * (8 * size) ≤ length base
      → ((c : ℕ) → c < start → chunk size (bits base) c ≡ chunk size (bits tip) c)
      → IsStep (grafting size) count (filter (nat_le start) (map (λ e. e.0) overlay.changed)) (leaves_from hash shape form 0 base) (leaves_from hash shape form 0 tip) (chunk_of (grafting size) base) (chunk_of (grafting size) tip)
  step-of hash form overlay base tip count start is begins whole before = record {
    added = leaves_from hash shape form (length base) (drop (length base) tip);
    onward = leaves-onward hash shape form base tip begins;
    complete = let long = length-leaves hash shape form 0 base in subst (λ w. count * w ≤ length (leaves_from hash shape form 0 base)) (sym span) (omega (arith, whole, long));
    same = λ c low apart.
        ap (λ k. chunk k (bits base) c) (sized (grafting size) size span)
        ∙ ⊎_elim
        (λ (early : c < start). before c early)
        (λ (late : start ≤ c). same-chunk size some overlay base tip c is (changed-none overlay.changed c (λ found. apart (stop-since start (map (λ e. e.0) overlay.changed) c found late))))
        (cases_lt c start)
        ∙ sym (ap (λ k. chunk k (bits tip) c) (sized (grafting size) size span));
  }

-- Inactive chunks.

pub clear-chunk : (size : ℕ) (base tip : List Operation) (start c : ℕ) → AreInactive size start base → AreInactive size start tip → c < start → chunk size (bits base) c ≡ chunk size (bits tip) c
clear-chunk size base tip start c first second low = packed_same size (drop (c * (8 * size)) (bits base)) (drop (c * (8 * size)) (bits tip)) (λ i lt.
    let within : c * (8 * size) + i < start * (8 * size) = omega (arith, lt, mul-le (suc c) (8 * size) start (8 * size) (omega (arith, low)) (le_refl (8 * size))) in
    get_or-drop (c * (8 * size)) (bits base) i false ∙ first (c * (8 * size) + i) within
    ∙ sym (get_or-drop (c * (8 * size)) (bits tip) i false ∙ second (c * (8 * size) + i) within))

pub clear-onward : (size : ℕ) (base tip : List Operation) (start : ℕ) → Begins base tip → start * (8 * size) ≤ length base → AreInactive size start base → AreInactive size start tip
clear-onward size base tip start begins whole clear i low =
    let parts : base ++ drop (length base) tip ≡ tip = ap (λ l. l ++ drop (length base) tip) (sym begins) ∙ take-append-drop (length base) tip in
    subst (λ l. get_or (bits l) i false ≡ false) parts (clear-stays base (drop (length base) tip) i (omega (arith, low, whole)) (clear i low))

pub clear-pruned : (size : ℕ) (map : Bitmap) (list : List Operation) (chunks : ℕ) → all_bits size map ≡ bits list → chunks ≤ map.pruned → AreInactive size chunks list
clear-pruned size map list chunks same low i lt =
    ap (λ bs. get_or bs i false) (sym same) ∙ below_start size map i (omega (arith, lt, mul-le chunks (8 * size) map.pruned (8 * size) low (le_refl (8 * size))))
