-- Steps over one another.
use Rattle.std.proofs.Common.{◌≡◌, ℕ, zero, suc, ◌+◌, ◌-◌, ◌*◌, ◌/◌, ◌%◌, ◌<◌, ◌≤◌, Bool, true, false, List, [], ◌∷◌, ◌++◌, length, take, map, get_or, replicate, arith, ap, sym, subst, ◌∙◌, refl, Option, Some, None}
use Rattle.std.specs.Option.{option_map}
use Rattle.std.proofs.lemmas.List.{length-replicate, get_or-append_right, get_or_default}
use Rattle.qm_model.specs.Bits.{packed, chunk}
use Rattle.qm_bits.specs.Bitmaps.{Bitmap, start, bit_count, all_bits}
use Rattle.qm_bits.specs.Candidates.{is_candidate}
use Rattle.qm_overlay.specs.Layers.{Overlay, changed_at, bit_over, laid, layered, AreStacked, IsClearBehind}
use Rattle.qm_overlay.proofs.Laying.{length-all, count-laid, pruned-laid, bit_laid, chunk_changed, chunk_below}

pub layered-more : (size : ℕ) (os : List Overlay) (o : Overlay) (base : Bitmap) → layered size (os ++ o ∷ []) base ≡ laid size o (layered size os base)
layered-more size [] o base = refl
layered-more size (x ∷ os) o base = layered-more size os o (laid size x base)

-- no step changes nothing
pub layered-none : {R : Type 0} (value : R → Overlay) (size : ℕ) (xs : List R) (base : Bitmap) → length xs ≡ 0 → base ≡ layered size (map value xs) base
layered-none value size [] base none = refl
layered-none value size (x ∷ xs) base none = absurd (omega (arith, none))

pub pruned-layered : (size : ℕ) (os : List Overlay) (base : Bitmap) → (layered size os base).pruned ≡ base.pruned
pruned-layered size [] base = refl
pruned-layered size (x ∷ os) base = pruned-layered size os (laid size x base) ∙ pruned-laid size x base

pub stacked-more : (size : ℕ) (os : List Overlay) (o : Overlay) (base : Bitmap) → AreStacked size os base → bit_count size (layered size os base) ≤ o.count → AreStacked size (os ++ o ∷ []) base
stacked-more size [] o base are least = (least, tt)
stacked-more size (x ∷ os) o base are least = (are.0, stacked-more size os o (laid size x base) are.1 least)

-- the step at a place stands over those before it
pub stacked_at : {R : Type 0} (value : R → Overlay) (size : ℕ) (xs : List R) (base : Bitmap) (k : ℕ) (r : R) → AreStacked size (map value xs) base → k < length xs → r ≡ get_or xs k r
    → (bit_count size (layered size (take k (map value xs)) base) ≤ (value r).count) × (layered size (take (suc k) (map value xs)) base ≡ laid size (value r) (layered size (take k (map value xs)) base))
stacked_at value size [] base k r are lt at = absurd (omega arith)
stacked_at value size (x ∷ xs) base zero r are lt at =
    let same : x ≡ r = sym at in
    (subst (λ y. bit_count size base ≤ (value y).count) same are.0, ap (λ y. laid size (value y) base) same)
stacked_at value size (x ∷ xs) base (suc k) r are lt at = stacked_at value size xs (laid size (value x) base) k r are.1 (omega arith) at

module _ {R : Type 0} (value : R → Overlay) (size : ℕ) (xs : List R) (base : Bitmap) (k : ℕ) (r : R) (are : AreStacked size (map value xs) base) (lt : k < length xs) (at : r ≡ get_or xs k r) where
  abbrev pub below : Bitmap
  below = layered size (take k (map value xs)) base

  count : bit_count size (layered size (take (suc k) (map value xs)) base) ≡ (value r).count
  count =
      let there = stacked_at value size xs base k r are lt at in
      let least : start size below + length below.kept ≤ (value r).count = there.0 in
      ap (bit_count size) there.1 ∙ count-laid size (value r) below (omega (arith, least))

  -- how many bits there are after the last step
  pub count_last : suc k ≡ length xs → bit_count size (layered size (map value xs) base) ≡ (value r).count
  count_last last = ap (λ os. bit_count size (layered size os base)) (sym (whole xs k last)) ∙ count
    where
      whole : (ys : List R) (n : ℕ) → suc n ≡ length ys → take (suc n) (map value ys) ≡ map value ys
      whole [] n e = absurd (omega (arith, e))
      whole (y ∷ []) zero e = refl
      whole (y ∷ z ∷ ys) zero e = absurd (omega (arith, e))
      whole (y ∷ []) (suc n) e = absurd (omega (arith, e))
      whole (y ∷ z ∷ ys) (suc n) e = ap (λ os. value y ∷ os) (whole (z ∷ ys) n (omega (arith, e)))

  -- a chunk that the step changes, and one that it does not
  module _ (c : ℕ) (kept : base.pruned ≤ c) where
    kept_below : below.pruned ≤ c
    kept_below = subst (λ n. n ≤ c) (sym (pruned-layered size (take k (map value xs)) base)) kept

    pub found_there : IsClearBehind size (value r) → (bytes : List ℕ) → Some bytes ≡ option_map (packed size) (changed_at (value r).changed c) → bytes ≡ chunk size (all_bits size (layered size (take (suc k) (map value xs)) base)) c
    found_there clear bytes is = by (changed_at (value r).changed c) refl is
      where
        by : (o : Option (List Bool)) → changed_at (value r).changed c ≡ o → Some bytes ≡ option_map (packed size) o → bytes ≡ chunk size (all_bits size (layered size (take (suc k) (map value xs)) base)) c
        by None found is = cc
        by (Some bits) found is =
            let there = stacked_at value size xs base k r are lt at in
            let same : bytes ≡ packed size bits = cc in
            same ∙ chunk_changed size (value r) below c there.0 kept_below clear bits found ∙ ap (λ m. chunk size (all_bits size m) c) (sym there.1)

    pub none_there : None ≡ option_map (packed size) (changed_at (value r).changed c) → chunk size (all_bits size below) c ≡ chunk size (all_bits size (layered size (take (suc k) (map value xs)) base)) c
    none_there is = by (changed_at (value r).changed c) refl is
      where
        by : (o : Option (List Bool)) → changed_at (value r).changed c ≡ o → None ≡ option_map (packed size) o → chunk size (all_bits size below) c ≡ chunk size (all_bits size (layered size (take (suc k) (map value xs)) base)) c
        by None found is =
            let there = stacked_at value size xs base k r are lt at in
            chunk_below size (value r) below c there.0 kept_below found ∙ ap (λ m. chunk size (all_bits size m) c) (sym there.1)
        by (Some bits) found is = cc

  -- a bit of a chunk that the step changes, and of one that it does not
  module _ (some : 0 < 8 * size) (i : ℕ) (kept : start size base ≤ i) (clear : IsClearBehind size (value r)) where
    bit_there : get_or (all_bits size (layered size (take (suc k) (map value xs)) base)) i false ≡ bit_over (changed_at (value r).changed (i / (8 * size))) (i % (8 * size)) (get_or (all_bits size below) i false)
    bit_there =
        let there = stacked_at value size xs base k r are lt at in
        let begin = ap (λ n. n * (8 * size)) (pruned-layered size (take k (map value xs)) base) in
        ap (λ m. get_or (all_bits size m) i false) there.1 ∙ bit_laid size (value r) below some clear there.0 i (omega (arith, begin, kept))

    pub found_bit : (bit : Bool) → Some bit ≡ option_map (λ bits. get_or bits (i % (8 * size)) false) (changed_at (value r).changed (i / (8 * size))) → bit ≡ get_or (all_bits size (layered size (take (suc k) (map value xs)) base)) i false
    found_bit bit is = by (changed_at (value r).changed (i / (8 * size))) refl is ∙ sym bit_there
      where
        by : (o : Option (List Bool)) → changed_at (value r).changed (i / (8 * size)) ≡ o → Some bit ≡ option_map (λ bits. get_or bits (i % (8 * size)) false) o → bit ≡ bit_over (changed_at (value r).changed (i / (8 * size))) (i % (8 * size)) (get_or (all_bits size below) i false)
        by None found is = cc
        by (Some bits) found is =
            let same : bit ≡ get_or bits (i % (8 * size)) false = cc in
            same ∙ ap (λ o. bit_over o (i % (8 * size)) (get_or (all_bits size below) i false)) (sym found)

    pub none_bit : None ≡ option_map (λ bits. get_or bits (i % (8 * size)) false) (changed_at (value r).changed (i / (8 * size))) → get_or (all_bits size below) i false ≡ get_or (all_bits size (layered size (take (suc k) (map value xs)) base)) i false
    none_bit is = by (changed_at (value r).changed (i / (8 * size))) refl is ∙ sym bit_there
      where
        by : (o : Option (List Bool)) → changed_at (value r).changed (i / (8 * size)) ≡ o → None ≡ option_map (λ bits. get_or bits (i % (8 * size)) false) o → get_or (all_bits size below) i false ≡ bit_over (changed_at (value r).changed (i / (8 * size))) (i % (8 * size)) (get_or (all_bits size below) i false)
        by None found is = ap (λ o. bit_over o (i % (8 * size)) (get_or (all_bits size below) i false)) (sym found)
        by (Some bits) found is = cc

-- the bit of a bitmap at a place that is kept
pub bit_kept : (size : ℕ) (base : Bitmap) (i : ℕ) → start size base ≤ i → get_or base.kept (i - start size base) false ≡ get_or (all_bits size base) i false
bit_kept size base i from = sym (get_or-append_right (replicate (start size base) false) base.kept (start size base) i false (length-replicate {A = Bool} (start size base) false) from)

-- if a bitmap has a bit, it is a candidate by that
pub candidate_kept : (size : ℕ) (base : Bitmap) (i : ℕ) → i < bit_count size base → is_candidate (all_bits size base) i ≡ get_or (all_bits size base) i false
candidate_kept size base i lt = get_or_default (all_bits size base) i true false (let long = length-all size base in omega (arith, long, lt))

-- all of several steps
pub take_mapped : {A : Type 0} (f : A → Overlay) (xs : List A) → take (length xs) (map f xs) ≡ map f xs
take_mapped f [] = refl
take_mapped f (x ∷ xs) = ap (λ os. f x ∷ os) (take_mapped f xs)
