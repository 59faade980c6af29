-- Chunks that are put into a bitmap.
use Rattle.std.proofs.Common.{◌≡◌, ◌≢◌, ◌⊎◌, inl, inr, ℕ, ◌+◌, ◌-◌, min, ◌*◌, ◌/◌, ◌%◌, ◌<◌, ◌≤◌, Bool, true, false, List, ◌∷◌, length, get_or, arith, ap, ap₂, sym, subst, ◌∙◌, ⊎_elim, le_of_eq, refl, set, Some, None}
use Rattle.std.specs.Map.{keys_of}
use Rattle.std.specs.BTreeMap.{is_at}
use Rattle.std.specs.Ordering.{nat_cmp, is_eq}
use Rattle.std.specs.List.Sorted.{IsStrictlySortedBy}
use Rattle.std.proofs.lemmas.Cmp.{nat_cmp_total, eq_by_cmp_equiv}
use Rattle.std.proofs.lemmas.Map.{lookup-none}
use Rattle.std.proofs.lemmas.Map.Entries.{lookup_head, lookup_tail, none_past_head}
use Rattle.std.proofs.lemmas.Map.Keys.{IsDistinct-from_sorted, sorted_tail}
use Rattle.std.proofs.lemmas.Bool.{cases_lt, cases_eq}
use Rattle.std.proofs.lemmas.List.{length-set, get_or-set_same, get_or-set_other}
use Rattle.std.proofs.lemmas.Nat.{div-add-mod'}
use Rattle.std.proofs.Math.Nat.{div-lt_iff_lt-mul, le-div_iff_mul-le}
use Rattle.qm_bits.specs.Bitmaps.{Bitmap, start, bit_count, all_bits}
use Rattle.qm_bits.proofs.Marks.{kept_all}
use Rattle.qm_overlay.specs.Layers.{changed_at, bit_over}
use Rattle.qm_overlay.proofs.Laying.{length-all}

-- so many bits of a chunk were put there
pub record IsBegun (size : ℕ) (old : Bitmap) (first : ℕ) (chunk : List Bool) (i : ℕ) (now : Bitmap) : Type 0 where
  pub pruned : now.pruned ≡ old.pruned
  pub count : bit_count size now ≡ bit_count size old
  pub done : (j : ℕ) → j < i → get_or (all_bits size now) (first + j) false ≡ get_or chunk j false
  pub rest : (j : ℕ) → (j < first) ⊎ (first + i ≤ j) → get_or (all_bits size now) j false ≡ get_or (all_bits size old) j false

-- none is there yet
pub begun_none : (size : ℕ) (old : Bitmap) (first : ℕ) (chunk : List Bool) → IsBegun size old first chunk 0 old
begun_none size old first chunk = record { pruned = refl; count = refl; done = λ j lt. absurd (omega arith); rest = λ j out. refl }

-- what the next one needs
pub begun_kept : (size : ℕ) (old : Bitmap) (first : ℕ) (chunk : List Bool) (i : ℕ) (now : Bitmap) → IsBegun size old first chunk i now → start size old ≤ first → start size now ≤ first + i
begun_kept size old first chunk i now begun kept =
    let begin : start size now ≡ start size old = ap (λ n. n * (8 * size)) begun.pruned in
    omega arith

pub begun_within : (size : ℕ) (old : Bitmap) (first : ℕ) (chunk : List Bool) (i : ℕ) (now : Bitmap) (span len end : ℕ) → IsBegun size old first chunk i now → end ≡ min span (len - first) → len ≡ bit_count size old → i < end → first + i < bit_count size now
begun_within size old first chunk i now span len end begun end_is len_is lt = subst (λ n. first + i < n) (len_is ∙ sym begun.count) (omega arith)

-- one more is put there
pub begun_more : (size : ℕ) (old : Bitmap) (first : ℕ) (chunk : List Bool) (i : ℕ) (now new : Bitmap) (value : Bool) → IsBegun size old first chunk i now → start size now ≤ first + i → first + i < bit_count size now
    → new ≡ record { pruned = now.pruned; kept = set now.kept (first + i - start size now) value } → value ≡ get_or chunk i false → IsBegun size old first chunk (i + 1) new
begun_more size old first chunk i now new value begun from within is bit = record {
  pruned = ap (λ m. m.pruned) is ∙ begun.pruned;
  count = ap (bit_count size) is ∙ ap (λ n. start size now + n) (length-set now.kept (first + i - start size now) value) ∙ begun.count;
  done = λ j lt. ⊎_elim
      (λ (e : j ≡ i). ap (λ bs. get_or bs (first + j) false) all ∙ ap (λ k. get_or (set (all_bits size now) (first + i) value) (first + k) false) e ∙ get_or-set_same (all_bits size now) (first + i) value false inside ∙ bit ∙ ap (λ k. get_or chunk k false) (sym e))
      (λ (apart : j ≢ i). ap (λ bs. get_or bs (first + j) false) all ∙ get_or-set_other (all_bits size now) (first + i) (first + j) value false (λ same. apart (omega (arith, same))) ∙ begun.done j (before j lt apart))
      (cases_eq j i);
  rest = λ j out. ap (λ bs. get_or bs j false) all ∙ get_or-set_other (all_bits size now) (first + i) j value false (λ same. outside j out same) ∙ begun.rest j (wider j out);
}
  where
    all : all_bits size new ≡ set (all_bits size now) (first + i) value
    all = kept_all size now new (first + i) value is from

    inside : first + i < length (all_bits size now)
    inside = subst (λ n. first + i < n) (sym (length-all size now)) within

    before : (j : ℕ) → j < i + 1 → j ≢ i → j < i
    before j lt apart = ⊎_elim (λ (lt' : j < i). lt') (λ (le : i ≤ j). absurd (apart (omega (arith, lt, le)))) (cases_lt j i)

    wider : (j : ℕ) → (j < first) ⊎ (first + (i + 1) ≤ j) → (j < first) ⊎ (first + i ≤ j)
    wider j out = ⊎_elim (λ (lt : j < first). inl lt) (λ (le : first + (i + 1) ≤ j). inr (omega (arith, le))) out

    outside : (j : ℕ) → (j < first) ⊎ (first + (i + 1) ≤ j) → j ≢ first + i
    outside j out = ⊎_elim (λ (lt : j < first). λ same. omega (arith, lt, same)) (λ (le : first + (i + 1) ≤ j). λ same. omega (arith, le, same)) out

-- A chunk that is put from its first place on.
module _ (span size at : ℕ) (span_is : span ≡ 8 * size) (some : 0 < 8 * size) where
  pub chunk_other : (i : ℕ) → i / (8 * size) ≢ at → (i < at * span) ⊎ (at * span + 8 * size ≤ i)
  chunk_other i apart = ⊎_elim
      (λ (low : i / (8 * size) < at). inl (subst (λ s. i < at * s) (sym span_is) ((div-lt_iff_lt-mul some).0 low)))
      (λ (high : at ≤ i / (8 * size)).
      let past : at + 1 ≤ i / (8 * size) = ⊎_elim (λ (lt : at < i / (8 * size)). omega (arith, lt)) (λ (le : i / (8 * size) ≤ at). absurd (apart (omega (arith, le, high)))) (cases_lt at (i / (8 * size))) in
      let from : (at + 1) * (8 * size) ≤ i = (le-div_iff_mul-le some).0 past in
      inr (subst (λ s. at * s + 8 * size ≤ i) (sym span_is) (omega (arith, from))))
      (cases_lt (i / (8 * size)) at)

  -- a chunk with a bit after pruned ones is after them
  pub chunk_kept : (p i : ℕ) → i / (8 * size) ≡ at → p * (8 * size) ≤ i → p ≤ at
  chunk_kept p i is from = subst (λ a. p ≤ a) is ((le-div_iff_mul-le some).1 from)

  -- a chunk that is not past the bits begins within them
  pub chunk_within : (n : ℕ) → at ≤ n / span → at * span ≤ n
  chunk_within n le = subst (λ s. at * s ≤ n) (sym span_is) ((le-div_iff_mul-le some).0 (subst (λ s. at ≤ n / s) span_is le))

  -- a chunk past the bits has none of them
  pub chunk_past : (n i : ℕ) → i / (8 * size) ≡ at → n / span < at → n ≤ i
  chunk_past n i is past =
      let high : n < at * (8 * size) = (div-lt_iff_lt-mul some).0 (subst (λ s. n / s < at) span_is past) in
      let from : at * (8 * size) ≤ i = (le-div_iff_mul-le some).0 (le_of_eq (sym is)) in
      omega arith

  -- where a bit of the chunk stands
  pub chunk_place : (i : ℕ) → i / (8 * size) ≡ at → at * span + i % (8 * size) ≡ i
  chunk_place i is = ap₂ (λ a s. a * s + i % (8 * size)) (sym is) span_is ∙ div-add-mod' i (8 * size)

-- Chunks one after another.

same_number : (n : ℕ) → is_eq (nat_cmp n n) ≡ true
same_number n = grind arith

other_number : (n p : ℕ) → n ≢ p → is_eq (nat_cmp n p) ≡ false
other_number n p ne = grind arith

abbrev pub AreSorted : List (ℕ × List Bool) → Type 0
AreSorted chunks = IsStrictlySortedBy nat_cmp (keys_of chunks)

changed_at-here : (p : ℕ) (bits : List Bool) (rest : List (ℕ × List Bool)) → changed_at ((p, bits) ∷ rest) p ≡ Some bits
changed_at-here p bits rest = lookup_head (is_at (nat_cmp p)) (p, bits) rest (same_number p)

changed_at-other : (p n : ℕ) (bits : List Bool) (rest : List (ℕ × List Bool)) → n ≢ p → changed_at ((p, bits) ∷ rest) n ≡ changed_at rest n
changed_at-other p n bits rest ne = lookup_tail (is_at (nat_cmp n)) (p, bits) rest (other_number n p ne)

changed_at-later : (p : ℕ) (bits : List Bool) (rest : List (ℕ × List Bool)) → AreSorted ((p, bits) ∷ rest) → changed_at rest p ≡ None
changed_at-later p bits rest sorted =
    lookup-none (is_at (nat_cmp p)) rest
    (none_past_head (eq_by_cmp_equiv nat_cmp_total) p (p, bits) rest (IsDistinct-from_sorted nat_cmp (p ∷ keys_of rest) sorted) (same_number p))

-- the chunks up to the rest were put there
pub record AreWritten (size : ℕ) (chunks : List (ℕ × List Bool)) (old : Bitmap) (rest : List (ℕ × List Bool)) (now : Bitmap) : Type 0 where
  pub sorted : AreSorted rest
  pub pruned : now.pruned ≡ old.pruned
  pub count : bit_count size now ≡ bit_count size old
  pub each : (i : ℕ) → start size old ≤ i → i < bit_count size old → bit_over (changed_at rest (i / (8 * size))) (i % (8 * size)) (get_or (all_bits size now) i false) ≡ bit_over (changed_at chunks (i / (8 * size))) (i % (8 * size)) (get_or (all_bits size old) i false)

pub one_written : (size p : ℕ) (bits : List Bool) (chunks rest next : List (ℕ × List Bool)) (old now new : Bitmap) → AreWritten size chunks old rest now → rest ≡ (p, bits) ∷ next → new.pruned ≡ now.pruned → bit_count size new ≡ bit_count size now
    → ((i : ℕ) → i / (8 * size) ≡ p → start size now ≤ i → i < bit_count size now → get_or (all_bits size new) i false ≡ get_or bits (i % (8 * size)) false)
    → ((i : ℕ) → i / (8 * size) ≢ p → get_or (all_bits size new) i false ≡ get_or (all_bits size now) i false)
    → AreWritten size chunks old next new
one_written size p bits chunks rest next old now new written is pruned count here other = record {
  sorted = sorted_tail nat_cmp p (keys_of next) sorted_here;
  pruned = pruned ∙ written.pruned;
  count = count ∙ written.count;
  each = λ i from lt. ⊎_elim
      (λ (e : i / (8 * size) ≡ p).
      let begin = ap (λ n. n * (8 * size)) written.pruned in
      let total = written.count in
      ap₂ (λ o b. bit_over o (i % (8 * size)) b) (ap (changed_at next) e ∙ changed_at-later p bits next sorted_here) (here i e (omega (arith, begin, from)) (omega (arith, total, lt)))
      ∙ sym (ap (λ o. bit_over o (i % (8 * size)) (get_or (all_bits size now) i false)) (ap (changed_at ((p, bits) ∷ next)) e ∙ changed_at-here p bits next))
      ∙ each_here i from lt)
      (λ (apart : i / (8 * size) ≢ p).
      ap₂ (λ o b. bit_over o (i % (8 * size)) b) (sym (changed_at-other p (i / (8 * size)) bits next apart)) (other i apart) ∙ each_here i from lt)
      (cases_eq (i / (8 * size)) p);
}
  where
    sorted_here : AreSorted ((p, bits) ∷ next)
    sorted_here = subst AreSorted is written.sorted

    each_here : (i : ℕ) → start size old ≤ i → i < bit_count size old → bit_over (changed_at ((p, bits) ∷ next) (i / (8 * size))) (i % (8 * size)) (get_or (all_bits size now) i false) ≡ bit_over (changed_at chunks (i / (8 * size))) (i % (8 * size)) (get_or (all_bits size old) i false)
    each_here i from lt = ap (λ cs. bit_over (changed_at cs (i / (8 * size))) (i % (8 * size)) (get_or (all_bits size now) i false)) (sym is) ∙ written.each i from lt
