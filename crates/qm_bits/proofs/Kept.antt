-- A bitmap's kept bits.
use Rattle.std.proofs.Common.{◌≡◌, ℕ, ◌+◌, ◌-◌, ◌*◌, ◌/◌, ◌%◌, ◌^◌, ◌<◌, ◌≤◌, Bool, true, false, List, ◌++◌, length, drop, get_or, replicate, min, max, ⊎_elim, arith, ap, ap₂, sym, ◌∙◌}
use Rattle.std.specs.Prelude.{Result, Ok, Err, OnOk, OnErr}
use Rattle.std.proofs.lemmas.List.{length-append, length-replicate, length-drop, get_or_append_left, get_or-append_right, get_or-replicate, get_or_past, get_or_default}
use lib.Seq.{drop-append-add}
use Rattle.std.proofs.lemmas.Bool.{cases_lt}
use Rattle.std.proofs.lemmas.Nat.{div-add-mod', le-div}
use Rattle.qm_model.specs.Bits.{packed, chunk}
use Rattle.qm_bits.specs.Bitmaps.{Bitmap, start, bit_count, all_bits}
use Rattle.qm_bits.specs.Candidates.{is_candidate}

-- What is a candidate.

module _ (size : ℕ) (map : Bitmap) where
  -- not if bits are no longer kept
  pruned_clear : (i : ℕ) → i < start size map → is_candidate (all_bits size map) i ≡ false
  pruned_clear i low =
      let long = length-replicate {A = Bool} (start size map) false in
      get_or_append_left (replicate (start size map) false) map.kept true i (omega arith) ∙ get_or-replicate (start size map) i false true low

  -- each location that has no bit yet
  later_found : (i : ℕ) → bit_count size map ≤ i → is_candidate (all_bits size map) i ≡ true
  later_found i past =
      let long = length-append (replicate (start size map) false) map.kept in
      let front = length-replicate {A = Bool} (start size map) false in
      get_or_past (all_bits size map) i true (omega arith)

  -- between these, by the bit
  kept_found : (i : ℕ) → start size map ≤ i → i < bit_count size map → is_candidate (all_bits size map) i ≡ get_or map.kept (i - start size map) false
  kept_found i from within =
      let front = length-replicate {A = Bool} (start size map) false in
      get_or-append_right (replicate (start size map) false) map.kept (start size map) i true front from ∙ get_or_default map.kept (i - start size map) true false (omega arith)

  -- What a search finds, between the first kept bit and the end of the bits or the tip.
  module _ (from tip at first end found : ℕ) (at_is : at ≡ start size map) (first_is : first ≡ max from at) (end_is : end ≡ min tip (bit_count size map)) (low : first - at ≤ found) (high : found ≤ end - at) (some : first < end) where
    pub search_clear : ((i : ℕ) → first - at ≤ i → i < found → get_or map.kept i false ≡ false) → (i : ℕ) → from ≤ i → i < at + found → is_candidate (all_bits size map) i ≡ false
    search_clear clear i after before = ⊎_elim
        (λ (gone : i < start size map). pruned_clear i gone)
        (λ (kept : start size map ≤ i). kept_found i kept (omega arith) ∙ clear (i - start size map) (omega arith) (omega arith))
        (cases_lt i (start size map))

    pub search_found : (found < end - at → get_or map.kept found false ≡ true) → at + found < tip → is_candidate (all_bits size map) (at + found) ≡ true
    search_found set_there before = ⊎_elim
        (λ (inside : found < end - at).
        let place : at + found - start size map ≡ found = omega arith in
        kept_found (at + found) (omega arith) (omega arith) ∙ ap (λ i. get_or map.kept i false) place ∙ set_there inside)
        (λ (past : end - at ≤ found). later_found (at + found) (omega arith))
        (cases_lt found (end - at))

  -- What is passed if there is none of them.
  module _ (from tip at first end : ℕ) (at_is : at ≡ start size map) (first_is : first ≡ max from at) (end_is : end ≡ min tip (bit_count size map)) (none : end ≤ first) where
    pub none_clear : (i : ℕ) → from ≤ i → i < max from end → is_candidate (all_bits size map) i ≡ false
    none_clear i after before = pruned_clear i (omega arith)

    pub none_found : max from end < tip → is_candidate (all_bits size map) (max from end) ≡ true
    none_found before = later_found (max from end) (omega arith)

-- Whole chunks are whole words.
pub whole_words : (k size : ℕ) → size % 8 ≡ 0 → 64 * (k * (8 * size) / 64) ≡ k * (8 * size)
whole_words k size whole =
    let eighth : size ≡ 8 * (size / 8) = omega arith in
    let product : k * (8 * size) ≡ 64 * (k * (size / 8)) = ap (λ s. k * (8 * s)) eighth ∙ omega arith in
    omega arith

-- Chunks that are pruned, up to the one that a place is in.
module _ (size at : ℕ) (old : Bitmap) (whole : size % 8 ≡ 0) (within : at ≤ bit_count size old) (order : old.pruned < at / (8 * size)) where
  chunks_split : (at / (8 * size) - old.pruned) * (8 * size) + old.pruned * (8 * size) ≡ at / (8 * size) * (8 * size)
  chunks_split = let sum : at / (8 * size) - old.pruned + old.pruned ≡ at / (8 * size) = omega arith in omega arith ∙ ap (λ k. k * (8 * size)) sum

  pub chunks_within : (at / (8 * size) - old.pruned) * (8 * size) ≤ at
  chunks_within =
      let split = chunks_split in
      let parts = div-add-mod' at (8 * size) in
      omega arith

  pub words_within : 64 * ((at / (8 * size) - old.pruned) * (8 * size) / 64) ≤ length old.kept
  words_within =
      let split = chunks_split in
      let parts = div-add-mod' at (8 * size) in
      let same = whole_words (at / (8 * size) - old.pruned) size whole in
      omega arith

  pub pruned_fits : bit_count size old ≤ 2 ^ 62 → bit_count size (record { pruned = at / (8 * size); kept = drop (64 * ((at / (8 * size) - old.pruned) * (8 * size) / 64)) old.kept }) ≤ 2 ^ 62
  pruned_fits fits =
      let split = chunks_split in
      let few = words_within in
      let same = whole_words (at / (8 * size) - old.pruned) size whole in
      let left = length-drop (64 * ((at / (8 * size) - old.pruned) * (8 * size) / 64)) old.kept in
      omega arith

  pub pruned_is : ◌≡◌ {A = Bitmap} (record { pruned = at / (8 * size); kept = drop (64 * ((at / (8 * size) - old.pruned) * (8 * size) / 64)) old.kept }) (record { pruned = max old.pruned (at / (8 * size)); kept = drop ((at / (8 * size) - old.pruned) * (8 * size)) old.kept })
  pruned_is =
      let greater : at / (8 * size) ≡ max old.pruned (at / (8 * size)) = omega arith in
      ap₂ (λ c k. record { pruned = c; kept = drop k old.kept }) greater (whole_words (at / (8 * size) - old.pruned) size whole)

-- Nothing is pruned up to a place that is in a pruned chunk.
pub pruned_same : (size at : ℕ) (old : Bitmap) → at / (8 * size) ≤ old.pruned → ◌≡◌ {A = Bitmap} old (record { pruned = max old.pruned (at / (8 * size)); kept = drop ((at / (8 * size) - old.pruned) * (8 * size)) old.kept })
pruned_same size at old low =
    let same : old.pruned ≡ max old.pruned (at / (8 * size)) = omega arith in
    let zero : at / (8 * size) - old.pruned ≡ 0 = omega arith in
    let none : 0 ≡ (at / (8 * size) - old.pruned) * (8 * size) = omega arith ∙ ap (λ k. k * (8 * size)) (sym zero) in
    ap₂ (λ c k. record { pruned = c; kept = drop k old.kept }) same none

-- The chunk after the complete ones.
module _ (size : ℕ) (map : Bitmap) where
  -- it is not pruned
  pub last_kept : 32 ≤ size → map.pruned ≤ bit_count size map / (8 * size)
  last_kept least = le-div map.pruned (bit_count size map) (8 * size) (omega arith) (omega arith)

  -- and begins at the end of the bits or before
  pub last_begun : bit_count size map / (8 * size) * (8 * size) ≤ bit_count size map
  last_begun = let parts = div-add-mod' (bit_count size map) (8 * size) in omega arith

  -- a chunk before it begins before that end too
  pub complete_begun : (at : ℕ) → at < bit_count size map / (8 * size) → at * (8 * size) ≤ bit_count size map
  complete_begun at complete =
      let parts = last_begun in
      let split : at + (bit_count size map / (8 * size) - at) ≡ bit_count size map / (8 * size) = omega arith in
      let product : at * (8 * size) + (bit_count size map / (8 * size) - at) * (8 * size) ≡ bit_count size map / (8 * size) * (8 * size) = omega arith ∙ ap (λ k. k * (8 * size)) split in
      omega arith

-- Bits that came after the others, or did not.
pub grown_fits : {T E : Type 0} (before : ℕ) (old more new : List Bool) (r : Result T E) → OnOk r (new ≡ old ++ more) → OnErr r (new ≡ old) → before + length old + length more ≤ 2 ^ 62 → before + length new ≤ 2 ^ 62
grown_fits before old more new (Ok x) ok err fits = omega (arith, ap length ok, length-append old more)
grown_fits before old more new (Err e) ok err fits = omega (arith, ap length err)

-- The bytes of a chunk.
module _ (size pruned c : ℕ) (whole : size % 8 ≡ 0) (from : pruned ≤ c) where
  chunk_place : c * (8 * size) ≡ pruned * (8 * size) + 64 * ((c - pruned) * (8 * size) / 64)
  chunk_place =
      let same = whole_words (c - pruned) size whole in
      let split : c ≡ pruned + (c - pruned) = omega arith in
      ap (λ k. k * (8 * size)) split ∙ omega arith

  pub chunk_is : (kept : List Bool) → packed (8 * (8 * size / 64)) (drop (64 * ((c - pruned) * (8 * size) / 64)) kept) ≡ chunk size (all_bits size (record { pruned = pruned; kept = kept })) c
  chunk_is kept =
      let all : 8 * (8 * size / 64) ≡ size = omega arith in
      let front = length-replicate {A = Bool} (pruned * (8 * size)) false in
      let place : length (replicate {A = Bool} (pruned * (8 * size)) false) + 64 * ((c - pruned) * (8 * size) / 64) ≡ c * (8 * size) = ap (λ k. k + 64 * ((c - pruned) * (8 * size) / 64)) front ∙ sym chunk_place in
      ap₂ (λ k bits. packed k bits) all
      (sym (drop-append-add (replicate (pruned * (8 * size)) false) kept (64 * ((c - pruned) * (8 * size) / 64)))
      ∙ ap (λ k. drop k (replicate (pruned * (8 * size)) false ++ kept)) place)

  -- where its words begin, and how far they may go
  pub chunk_fits : (n : ℕ) → pruned * (8 * size) + n ≤ 2 ^ 62 → c * (8 * size) ≤ pruned * (8 * size) + n → (c - pruned) * (8 * size) ≤ 2 ^ 62
  chunk_fits n bounded within =
      let place = chunk_place in
      let same = whole_words (c - pruned) size whole in
      omega arith
