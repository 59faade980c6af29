-- Steps that are put into a bitmap.
use Rattle.std.proofs.Common.{◌≡◌, ℕ, zero, suc, ◌+◌, ◌-◌, ◌*◌, ◌/◌, ◌%◌, ◌<◌, ◌≤◌, ◌⊎◌, Bool, false, List, [], ◌∷◌, ◌++◌, length, take, map, get_or, replicate, arith, ap, ap₂, sym, ◌∙◌, refl, ⊎_elim}
use Rattle.std.proofs.lemmas.Bool.{cases_lt}
use Rattle.std.proofs.lemmas.List.{length-append, length-replicate, get_or_append_left, get_or-append_right, get_or-replicate, get_or_past, ext_get_or, take_all, length-map}
use Rattle.qm_bits.specs.Bitmaps.{Bitmap, start, bit_count, all_bits}
use Rattle.qm_overlay.specs.Layers.{Overlay, changed_at, bit_over, laid, longer, layered, AreStacked, IsClearBehind}
use Rattle.qm_overlay.proofs.Laying.{length-all, count-laid, pruned-laid, laid_pruned, laid_at, laid_past, bit_laid}
use Rattle.qm_overlay.proofs.Stacks.{stacked_at, pruned-layered}

-- Bitmaps by their bits.

-- a pruned bit is clear
pub below_start : (size : ℕ) (base : Bitmap) (i : ℕ) → i < start size base → get_or (all_bits size base) i false ≡ false
below_start size base i low =
    let front = length-replicate {A = Bool} (start size base) false in
    get_or_append_left (replicate (start size base) false) base.kept false i (omega arith) ∙ get_or-replicate (start size base) i false false low

-- there are none after the last one
past_all : (size : ℕ) (base : Bitmap) (i : ℕ) → bit_count size base ≤ i → get_or (all_bits size base) i false ≡ false
past_all size base i past = let long = length-all size base in get_or_past (all_bits size base) i false (omega arith)

-- bitmaps with the same bits
pub same_bitmap : (size : ℕ) (old new : Bitmap) → new.pruned ≡ old.pruned → bit_count size new ≡ bit_count size old → ((i : ℕ) → get_or (all_bits size new) i false ≡ get_or (all_bits size old) i false) → new ≡ old
same_bitmap size old new pruned count same = ap₂ (λ p k. record { pruned = p; kept = k }) pruned kept_same
  where
    at_kept : (base : Bitmap) (i : ℕ) → get_or (all_bits size base) (start size base + i) false ≡ get_or base.kept i false
    at_kept base i =
        let front = length-replicate {A = Bool} (start size base) false in
        let back : start size base + i - start size base ≡ i = omega arith in
        get_or-append_right (replicate (start size base) false) base.kept (start size base) (start size base + i) false front (omega arith) ∙ ap (λ j. get_or base.kept j false) back

    kept_same : new.kept ≡ old.kept
    kept_same =
        let begin = ap (λ n. n * (8 * size)) pruned in
        ext_get_or false new.kept old.kept (omega arith) (λ i lt.
        sym (at_kept new i) ∙ same (start size new + i) ∙ ap (λ n. get_or (all_bits size old) (n * (8 * size) + i) false) pruned ∙ at_kept old i)

-- clear bits after the others
extended_same : (size : ℕ) (old new : Bitmap) (n : ℕ) → new ≡ record { pruned = old.pruned; kept = old.kept ++ replicate n false } → (i : ℕ) → get_or (all_bits size new) i false ≡ get_or (all_bits size old) i false
extended_same size old new n is i = ap (λ m. get_or (all_bits size m) i false) is ∙ by (cases_lt i (start size old))
  where
    front : length (replicate {A = Bool} (start size old) false) ≡ start size old
    front = length-replicate {A = Bool} (start size old) false

    clear : (j : ℕ) → get_or (replicate n false) j false ≡ false
    clear j = ⊎_elim
        (λ (low : j < n). get_or-replicate n j false false low)
        (λ (past : n ≤ j). let long = length-replicate {A = Bool} n false in get_or_past (replicate n false) j false (omega arith))
        (cases_lt j n)

    kept : (j : ℕ) → get_or (old.kept ++ replicate n false) j false ≡ get_or old.kept j false
    kept j = ⊎_elim
        (λ (low : j < length old.kept). get_or_append_left old.kept (replicate n false) false j low)
        (λ (past : length old.kept ≤ j). get_or-append_right old.kept (replicate n false) (length old.kept) j false refl past ∙ clear (j - length old.kept) ∙ sym (get_or_past old.kept j false past))
        (cases_lt j (length old.kept))

    by : (i < start size old) ⊎ (start size old ≤ i) → get_or (replicate (start size old) false ++ (old.kept ++ replicate n false)) i false ≡ get_or (all_bits size old) i false
    by cases = ⊎_elim
        (λ (low : i < start size old). get_or_append_left (replicate (start size old) false) (old.kept ++ replicate n false) false i (let f = front in omega (arith, f)) ∙ get_or-replicate (start size old) i false false low ∙ sym (below_start size old i low))
        (λ (from : start size old ≤ i). get_or-append_right (replicate (start size old) false) (old.kept ++ replicate n false) (start size old) i false front from ∙ kept (i - start size old) ∙ sym (get_or-append_right (replicate (start size old) false) old.kept (start size old) i false front from))
        cases

-- a step that changes nothing
abbrev pub nothing : ℕ → Overlay
nothing len = record { count = len; changed = [] }

count-longer : (size : ℕ) (base : Bitmap) (len : ℕ) → bit_count size base ≤ len → start size base + length (base.kept ++ replicate (len - bit_count size base) false) ≡ len
count-longer size base len least =
    let both = length-append base.kept (replicate (len - bit_count size base) false) in
    let rest = length-replicate {A = Bool} (len - bit_count size base) false in
    omega (arith, least, both, rest)

pub laid_none : (size : ℕ) (base : Bitmap) (len : ℕ) → bit_count size base ≤ len → laid size (nothing len) base ≡ longer size base len
laid_none size base len least =
    let from : start size base ≤ len = omega (arith, least) in
    let total = count-longer size base len least in
    same_bitmap size (longer size base len) (laid size (nothing len) base) (pruned-laid size (nothing len) base) (count-laid size (nothing len) base from ∙ sym total) (λ i. ⊎_elim
    (λ (gone : i < start size base). laid_pruned size (nothing len) base i gone ∙ sym (below_start size (longer size base len) i gone))
    (λ (kept : start size base ≤ i). ⊎_elim
    (λ (inside : i < len). laid_at size (nothing len) base i kept inside ∙ sym (extended_same size base (longer size base len) (len - bit_count size base) refl i))
    (λ (past : len ≤ i). laid_past size (nothing len) base i from past ∙ sym (past_all size (longer size base len) i (omega (arith, total, past))))
    (cases_lt i len))
    (cases_lt i (start size base)))

-- a step that is lengthened
pub laid_longer : (size : ℕ) (old new : Overlay) (base : Bitmap) (len : ℕ) → 0 < 8 * size → IsClearBehind size old → new.count ≡ len → new.changed ≡ old.changed → bit_count size base ≤ old.count → old.count ≤ len → laid size new base ≡ longer size (laid size old base) len
laid_longer size old new base len some clear count changed least most =
    let total = count-longer size (laid size old base) len enough in
    let first = begin in
    same_bitmap size (longer size (laid size old base) len) (laid size new base) (pruned-laid size new base ∙ sym (pruned-laid size old base)) (count-laid size new base from ∙ count ∙ sym total) (λ i. ⊎_elim
    (λ (gone : i < start size base). laid_pruned size new base i gone ∙ sym (below_start size (longer size (laid size old base) len) i (omega (arith, first, gone))))
    (λ (kept : start size base ≤ i). ⊎_elim
    (λ (inside : i < len). bit i kept inside ∙ sym (extended_same size (laid size old base) (longer size (laid size old base) len) (len - bit_count size (laid size old base)) refl i))
    (λ (past : len ≤ i). laid_past size new base i from (omega (arith, past, count)) ∙ sym (past_all size (longer size (laid size old base) len) i (omega (arith, total, past))))
    (cases_lt i len))
    (cases_lt i (start size base)))
  where
    from : start size base ≤ new.count
    from = omega (arith, least, most, count)

    begin : start size (laid size old base) ≡ start size base
    begin = ap (λ n. n * (8 * size)) (pruned-laid size old base)

    enough : bit_count size (laid size old base) ≤ len
    enough = let was = count-laid size old base (omega (arith, least)) in omega (arith, was, most)

    bit : (i : ℕ) → start size base ≤ i → i < len → get_or (all_bits size (laid size new base)) i false ≡ get_or (all_bits size (laid size old base)) i false
    bit i kept low =
        laid_at size new base i kept (omega (arith, low, count))
        ∙ ap (λ chunks. bit_over (changed_at chunks (i / (8 * size))) (i % (8 * size)) (get_or (all_bits size base) i false)) changed
        ∙ sym (bit_laid size old base some clear least i kept)

-- How many bits steps come to.

pub grows : (size : ℕ) (os : List Overlay) (base : Bitmap) → AreStacked size os base → bit_count size base ≤ bit_count size (layered size os base)
grows size [] base are = omega arith
grows size (o ∷ os) base are =
    let least : start size base + length base.kept ≤ o.count = are.0 in
    let there = count-laid size o base (omega (arith, least)) in
    let rest = grows size os (laid size o base) are.1 in
    omega (arith, least, there, rest)

count_most : {R : Type 0} (value : R → Overlay) (size : ℕ) (xs : List R) (base : Bitmap) (k : ℕ) (r : R) → AreStacked size (map value xs) base → k < length xs → r ≡ get_or xs k r → (value r).count ≤ bit_count size (layered size (map value xs) base)
count_most value size [] base k r are lt at = absurd (omega arith)
count_most value size (x ∷ xs) base zero r are lt at =
    let least : start size base + length base.kept ≤ (value x).count = are.0 in
    let there = count-laid size (value x) base (omega (arith, least)) in
    let rest = grows size (map value xs) (laid size (value x) base) are.1 in
    let same = ap (λ y. (value y).count) at in
    omega (arith, there, rest, same)
count_most value size (x ∷ xs) base (suc k) r are lt at = count_most value size xs (laid size (value x) base) k r are.1 (omega arith) at

-- The first steps were put there.
pub record AreApplied (size : ℕ) (base : Bitmap) (os : List Overlay) (count : ℕ) (now : Bitmap) : Type 0 where
  pub pruned : now.pruned ≡ base.pruned
  pub long : bit_count size now ≡ count
  pub same : (i : ℕ) → get_or (all_bits size now) i false ≡ get_or (all_bits size (layered size os base)) i false

pub none_applied : (size : ℕ) (base now : Bitmap) (count : ℕ) → bit_count size base ≤ count → now ≡ longer size base count → AreApplied size base [] count now
none_applied size base now count least is = record {
  pruned = ap (λ m. m.pruned) is;
  long = ap (bit_count size) is ∙ count-longer size base count least;
  same = extended_same size base now (count - bit_count size base) is;
}

module _ {R : Type 0} (value : R → Overlay) (size : ℕ) (xs : List R) (base : Bitmap) (are : AreStacked size (map value xs) base) where
  module _ (k : ℕ) (r : R) (lt : k < length xs) (at : r ≡ get_or xs k r) (count : ℕ) (count_is : count ≡ bit_count size (layered size (map value xs) base)) (now new : Bitmap) (applied : AreApplied size base (take k (map value xs)) count now) (clear : IsClearBehind size (value r)) (pruned : new.pruned ≡ now.pruned) (long : bit_count size new ≡ bit_count size now) (some : 0 < 8 * size) (put : (i : ℕ) → start size now ≤ i → i < bit_count size now → get_or (all_bits size new) i false ≡ bit_over (changed_at (value r).changed (i / (8 * size))) (i % (8 * size)) (get_or (all_bits size now) i false)) where
    abbrev low : Bitmap
    low = layered size (take k (map value xs)) base

    least : bit_count size low ≤ (value r).count
    least = (stacked_at value size xs base k r are lt at).0

    begin : start size new ≡ start size low
    begin = ap (λ n. n * (8 * size)) (pruned ∙ applied.pruned ∙ sym (pruned-layered size (take k (map value xs)) base))

    begin_now : start size now ≡ start size low
    begin_now = ap (λ n. n * (8 * size)) (applied.pruned ∙ sym (pruned-layered size (take k (map value xs)) base))

    from : start size low ≤ (value r).count
    from = let l : start size low + length low.kept ≤ (value r).count = least in omega (arith, l)

    total : bit_count size new ≡ count
    total = long ∙ applied.long

    bit : (i : ℕ) → get_or (all_bits size new) i false ≡ get_or (all_bits size (laid size (value r) low)) i false
    bit i = ⊎_elim
        (λ (gone : i < start size low). let b = begin in below_start size new i (omega (arith, b, gone)) ∙ sym (laid_pruned size (value r) low i gone))
        (λ (kept : start size low ≤ i). ⊎_elim
        (λ (inside : i < bit_count size now).
        let b = begin_now in
        put i (omega (arith, b, kept)) inside
        ∙ ap (bit_over (changed_at (value r).changed (i / (8 * size))) (i % (8 * size))) (applied.same i)
        ∙ sym (bit_laid size (value r) low some clear least i kept))
        (λ (outside : bit_count size now ≤ i).
        let most = count_most value size xs base k r are lt at in
        let n = applied.long in
        past_all size new i (omega (arith, long, outside)) ∙ sym (laid_past size (value r) low i from (omega (arith, most, n, count_is, outside))))
        (cases_lt i (bit_count size now)))
        (cases_lt i (start size low))

    pub one_applied : AreApplied size base (take (suc k) (map value xs)) count new
    one_applied = record {
      pruned = pruned ∙ applied.pruned;
      long = total;
      same = λ i. bit i ∙ ap (λ m. get_or (all_bits size m) i false) (sym (stacked_at value size xs base k r are lt at).1);
    }

  -- all of them were
  pub all_applied : (k count : ℕ) (now : Bitmap) → length xs ≤ k → count ≡ bit_count size (layered size (map value xs) base) → AreApplied size base (take k (map value xs)) count now → now ≡ layered size (map value xs) base
  all_applied k count now past count_is applied =
      let whole : take k (map value xs) ≡ map value xs = take_all k (map value xs) (let same = length-map xs value in omega (arith, same, past)) in
      same_bitmap size (layered size (map value xs) base) now (applied.pruned ∙ sym (pruned-layered size (map value xs) base)) (applied.long ∙ count_is) (λ i. applied.same i ∙ ap (λ os. get_or (all_bits size (layered size os base)) i false) whole)
