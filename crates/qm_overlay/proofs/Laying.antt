-- Bits after a step.
use Rattle.std.proofs.Common.{◌≡◌, ◌≢◌, ℕ, ◌+◌, ◌-◌, ◌*◌, ◌/◌, ◌%◌, ◌<◌, ◌≤◌, ◌⊎◌, Bool, false, List, length, drop, get_or, set, replicate, arith, ap, ap₂, sym, subst, ◌∙◌, refl, ⊎_elim, Option, Some, None, IsSome, IfSome, map, Result, Ok, Err, OnOk, OnErr}
use Rattle.std.specs.List.{range_with_len}
use Rattle.std.specs.Option.{is_some}
use Rattle.std.specs.Result.{IsErr}
use Rattle.std.proofs.lemmas.Bool.{cases_lt, cases_eq}
use Rattle.std.proofs.lemmas.List.{length-append, length-replicate, length-set, get_or-drop, get_or-set_same, get_or-set_other, get_or-replicate, get_or_past, get_or_append_left, get_or-append_right, ext_get_or, set-get_or, set_past}
use Rattle.std.proofs.lemmas.List.FromFn.{length-map-range_with_len, get_or-map-range_with_len}
use Rattle.std.proofs.lemmas.Nat.{div-add-mod'}
use Rattle.std.proofs.Math.Nat.{div-lt_iff_lt-mul, div-eq_of_lt-le, le-div_iff_mul-le, mod-lt, mul-le-mul_right}
use Rattle.qm_model.specs.Bits.{packed, chunk}
use Rattle.qm_bits.specs.Bitmaps.{Bitmap, start, bit_count, all_bits}
use Rattle.qm_overlay.specs.Layers.{Overlay, Laid, changed_at, bit_over, laid_bit, laid, IsClearBehind}
use Rattle.qm_overlay.proofs.Bytes.{packed_same}

-- Places and chunks.

-- a place of a chunk
pub in_chunk : (span c i : ℕ) → i < span → (c * span + i) / span ≡ c
in_chunk span c i lt = div-eq_of_lt-le span (omega arith) (omega arith)

pub in_place : (span c i : ℕ) → i < span → (c * span + i) % span ≡ i
in_place span c i lt =
    let whole = div-add-mod' (c * span + i) span in
    let same = ap (λ q. q * span) (in_chunk span c i lt) in
    omega arith

-- a chunk and a place of it are those of one place alone
same_place : (span i at : ℕ) → i / span ≡ at / span → i % span ≡ at % span → i ≡ at
same_place span i at chunks places = sym (div-add-mod' i span) ∙ ap₂ (λ q r. q * span + r) chunks places ∙ div-add-mod' at span

-- All bits of a bitmap.

pub length-all : (size : ℕ) (base : Bitmap) → length (all_bits size base) ≡ bit_count size base
length-all size base =
    let front = length-replicate {A = Bool} (start size base) false in
    let both = length-append (replicate (start size base) false) base.kept in
    omega arith

-- a chunk after the one that the bits end in has none of them
pub behind_all : (size : ℕ) (base : Bitmap) (c : ℕ) → 0 < 8 * size → bit_count size base / (8 * size) < c → length (all_bits size base) ≤ c * (8 * size)
behind_all size base c some past =
    let long = length-all size base in
    let low = (div-lt_iff_lt-mul some).0 past in
    omega arith

module _ (size : ℕ) (overlay : Overlay) (base : Bitmap) where
  pub count-laid : start size base ≤ overlay.count → bit_count size (laid size overlay base) ≡ overlay.count
  unfolding laid
  count-laid from = let long = length-map-range_with_len (laid_bit size overlay base) (start size base) (overlay.count - start size base) in omega arith

  pub pruned-laid : (laid size overlay base).pruned ≡ base.pruned
  unfolding laid
  pruned-laid = refl

  length-all-laid : start size base ≤ overlay.count → length (all_bits size (laid size overlay base)) ≡ overlay.count
  length-all-laid from = length-all size (laid size overlay base) ∙ count-laid from

  pub laid_pruned : (i : ℕ) → i < start size base → get_or (all_bits size (laid size overlay base)) i false ≡ false
  unfolding laid
  laid_pruned i low =
      let front = length-replicate {A = Bool} (start size base) false in
      get_or_append_left (replicate (start size base) false) (laid size overlay base).kept false i (omega arith) ∙ get_or-replicate (start size base) i false false low

  pub laid_at : (i : ℕ) → start size base ≤ i → i < overlay.count → get_or (all_bits size (laid size overlay base)) i false ≡ laid_bit size overlay base i
  unfolding laid
  laid_at i from within =
      let front = length-replicate {A = Bool} (start size base) false in
      get_or-append_right (replicate (start size base) false) (laid size overlay base).kept (start size base) i false front from
      ∙ get_or-map-range_with_len (laid_bit size overlay base) (start size base) (overlay.count - start size base) (i - start size base) i false (omega arith) (omega arith)

  pub laid_past : (i : ℕ) → start size base ≤ overlay.count → overlay.count ≤ i → get_or (all_bits size (laid size overlay base)) i false ≡ false
  laid_past i from past = let long = length-all-laid from in get_or_past (all_bits size (laid size overlay base)) i false (omega arith)

-- a bit that is not pruned
pub bit_laid : (size : ℕ) (overlay : Overlay) (base : Bitmap) → 0 < 8 * size → IsClearBehind size overlay → bit_count size base ≤ overlay.count → (i : ℕ) → start size base ≤ i → get_or (all_bits size (laid size overlay base)) i false ≡ laid_bit size overlay base i
bit_laid size overlay base some clear least i from = ⊎_elim
    (λ (inside : i < overlay.count). laid_at size overlay base i from inside)
    (λ (past : overlay.count ≤ i). laid_past size overlay base i (omega (arith, least)) past ∙ sym (behind past (changed_at overlay.changed (i / (8 * size))) refl))
    (cases_lt i overlay.count)
  where
    behind : overlay.count ≤ i → (o : Option (List Bool)) → changed_at overlay.changed (i / (8 * size)) ≡ o → bit_over o (i % (8 * size)) (get_or (all_bits size base) i false) ≡ false
    behind past None found = let long = length-all size base in get_or_past (all_bits size base) i false (omega (arith, long, least, past))
    behind past (Some bits) found = clear (i / (8 * size)) bits found (i % (8 * size)) (mod-lt i some) (let whole = div-add-mod' i (8 * size) in omega (arith, whole, past))

-- steps that have the same bits
laid_same : (size : ℕ) (old new : Overlay) (base : Bitmap) → new.count ≡ old.count → ((i : ℕ) → laid_bit size new base i ≡ laid_bit size old base i) → laid size new base ≡ laid size old base
unfolding laid
laid_same size old new base count same = ap (λ kept. record { pruned = base.pruned; kept = kept }) (
    ap (λ n. map (laid_bit size new base) (range_with_len (start size base) (n - start size base))) count
    ∙ rows (start size base) (old.count - start size base))
  where
    rows : (from n : ℕ) → map (laid_bit size new base) (range_with_len from n) ≡ map (laid_bit size old base) (range_with_len from n)
    rows from n =
        let one = length-map-range_with_len (laid_bit size new base) from n in
        let two = length-map-range_with_len (laid_bit size old base) from n in
        ext_get_or false (map (laid_bit size new base) (range_with_len from n)) (map (laid_bit size old base) (range_with_len from n)) (omega arith) (λ i lt.
        get_or-map-range_with_len (laid_bit size new base) from n i (from + i) false (omega arith) refl ∙ same (from + i) ∙ sym (get_or-map-range_with_len (laid_bit size old base) from n i (from + i) false (omega arith) refl))

-- a step of which one bit is changed
laid_set : (size : ℕ) (old new : Overlay) (base : Bitmap) (at : ℕ) (value : Bool) → new.count ≡ old.count → start size base ≤ at → at < old.count
    → laid_bit size new base at ≡ value → ((i : ℕ) → i ≢ at → laid_bit size new base i ≡ laid_bit size old base i)
    → all_bits size (laid size new base) ≡ set (all_bits size (laid size old base)) at value
laid_set size old new base at value count from within here others =
    let one = length-all-laid size new base (omega arith) in
    let two = length-all-laid size old base (omega arith) in
    let three = length-set (all_bits size (laid size old base)) at value in
    ext_get_or false (all_bits size (laid size new base)) (set (all_bits size (laid size old base)) at value) (omega arith) (λ i lt. ⊎_elim
    (λ (e : i ≡ at).
    ap (λ j. get_or (all_bits size (laid size new base)) j false) e ∙ laid_at size new base at from (omega arith) ∙ here
    ∙ sym (ap (λ j. get_or (set (all_bits size (laid size old base)) at value) j false) e ∙ get_or-set_same (all_bits size (laid size old base)) at value false (omega arith)))
    (λ (apart : i ≢ at). other i apart (omega arith) (cases_lt i (start size base)) ∙ sym (get_or-set_other (all_bits size (laid size old base)) at i value false apart))
    (cases_eq i at))
  where
    other : (i : ℕ) → i ≢ at → i < old.count → (i < start size base) ⊎ (start size base ≤ i) → get_or (all_bits size (laid size new base)) i false ≡ get_or (all_bits size (laid size old base)) i false
    other i apart lt cases = ⊎_elim
        (λ (low : i < start size base). laid_pruned size new base i low ∙ sym (laid_pruned size old base i low))
        (λ (kept : start size base ≤ i). laid_at size new base i kept (omega arith) ∙ others i apart ∙ sym (laid_at size old base i kept lt))
        cases

-- A step that changes one bit of a chunk that it holds.
module _ (size : ℕ) (some : 0 < 8 * size) (old new : Overlay) (at : ℕ) (value : Bool) (bits : List Bool) (count : new.count ≡ old.count) (within : at < old.count) (long : length bits ≡ 8 * size) (was : changed_at old.changed (at / (8 * size)) ≡ Some bits) (here : changed_at new.changed (at / (8 * size)) ≡ Some (set bits (at % (8 * size)) value)) (other : (c : ℕ) → c ≢ at / (8 * size) → changed_at new.changed c ≡ changed_at old.changed c) where
  put_here : (base : Bitmap) → laid_bit size new base at ≡ value
  put_here base =
      let low : at % (8 * size) < 8 * size = mod-lt at some in
      ap (λ o. bit_over o (at % (8 * size)) (get_or (all_bits size base) at false)) here ∙ get_or-set_same bits (at % (8 * size)) value false (omega arith)

  put_other : (base : Bitmap) (i : ℕ) → i ≢ at → laid_bit size new base i ≡ laid_bit size old base i
  put_other base i apart = ⊎_elim
      (λ (e : i / (8 * size) ≡ at / (8 * size)).
      ap (λ c. bit_over (changed_at new.changed c) (i % (8 * size)) (get_or (all_bits size base) i false)) e
      ∙ ap (λ o. bit_over o (i % (8 * size)) (get_or (all_bits size base) i false)) here
      ∙ get_or-set_other bits (at % (8 * size)) (i % (8 * size)) value false (λ same. apart (same_place (8 * size) i at e same))
      ∙ ap (λ o. bit_over o (i % (8 * size)) (get_or (all_bits size base) i false)) (sym was)
      ∙ ap (λ c. bit_over (changed_at old.changed c) (i % (8 * size)) (get_or (all_bits size base) i false)) (sym e))
      (λ (away : i / (8 * size) ≢ at / (8 * size)). ap (λ o. bit_over o (i % (8 * size)) (get_or (all_bits size base) i false)) (other (i / (8 * size)) away))
      (cases_eq (i / (8 * size)) (at / (8 * size)))

  pub put_bits : (base : Bitmap) → start size base ≤ at → all_bits size (laid size new base) ≡ set (all_bits size (laid size old base)) at value
  put_bits base from = laid_set size old new base at value count from within (put_here base) (put_other base)

-- what a changed bit of a chunk that is there does
pub record IsPut (span size : ℕ) (old new : Overlay) (at : ℕ) (value : Bool) : Type 0 where
  pub held : IsSome (changed_at old.changed (at / span))
  pub here : IfSome (changed_at old.changed (at / span)) (λ bits. changed_at new.changed (at / span) ≡ Some (set bits (at % span) value))
  pub long : IfSome (changed_at old.changed (at / span)) (λ bits. length bits ≡ 8 * size)
  pub other : (c : ℕ) → c ≢ at / span → changed_at new.changed c ≡ changed_at old.changed c

module _ (span size : ℕ) (old new : Overlay) (at : ℕ) (value : Bool) (span_is : span ≡ 8 * size) (some : 0 < 8 * size) (count : new.count ≡ old.count) (within : at < old.count) (put : IsPut span size old new at value) where
  whole : IsPut (8 * size) size old new at value
  whole = subst (λ n. IsPut n size old new at value) span_is put

  found : (bits : List Bool) × (changed_at old.changed (at / (8 * size)) ≡ Some bits) × (changed_at new.changed (at / (8 * size)) ≡ Some (set bits (at % (8 * size)) value)) × (length bits ≡ 8 * size)
  found = by (changed_at old.changed (at / (8 * size))) refl whole.held whole.here whole.long
    where
      by : (o : Option (List Bool)) → changed_at old.changed (at / (8 * size)) ≡ o → IsSome o → IfSome o (λ bits. changed_at new.changed (at / (8 * size)) ≡ Some (set bits (at % (8 * size)) value)) → IfSome o (λ bits. length bits ≡ 8 * size)
          → (bits : List Bool) × (changed_at old.changed (at / (8 * size)) ≡ Some bits) × (changed_at new.changed (at / (8 * size)) ≡ Some (set bits (at % (8 * size)) value)) × (length bits ≡ 8 * size)
      by None is held here long = cc
      by (Some bits) is held here long = (bits, is, here, long)

  pub is_put_bits : (base : Bitmap) → start size base ≤ at → all_bits size (laid size new base) ≡ set (all_bits size (laid size old base)) at value
  is_put_bits = put_bits size some old new at value found.0 count within found.3 found.1 found.2 whole.other

-- A step that holds one more chunk, with the bits that are there.
module _ (size : ℕ) (base : Bitmap) (old new : Overlay) (c : ℕ) (bits : List Bool) (some : 0 < 8 * size) (count : new.count ≡ old.count) (least : bit_count size base ≤ old.count) (was : changed_at old.changed c ≡ None) (here : changed_at new.changed c ≡ Some bits) (other : (d : ℕ) → d ≢ c → changed_at new.changed d ≡ changed_at old.changed d) (read : (i : ℕ) → i < 8 * size → get_or bits i false ≡ get_or (all_bits size base) (c * (8 * size) + i) false) where
  hold_bit : (i : ℕ) → laid_bit size new base i ≡ laid_bit size old base i
  hold_bit i = ⊎_elim
      (λ (e : i / (8 * size) ≡ c).
      ap (λ d. bit_over (changed_at new.changed d) (i % (8 * size)) (get_or (all_bits size base) i false)) e
      ∙ ap (λ o. bit_over o (i % (8 * size)) (get_or (all_bits size base) i false)) here
      ∙ read (i % (8 * size)) (mod-lt i some)
      ∙ ap (λ j. get_or (all_bits size base) j false) (ap (λ q. q * (8 * size) + i % (8 * size)) (sym e) ∙ div-add-mod' i (8 * size))
      ∙ ap (λ o. bit_over o (i % (8 * size)) (get_or (all_bits size base) i false)) (sym was)
      ∙ ap (λ d. bit_over (changed_at old.changed d) (i % (8 * size)) (get_or (all_bits size base) i false)) (sym e))
      (λ (away : i / (8 * size) ≢ c). ap (λ o. bit_over o (i % (8 * size)) (get_or (all_bits size base) i false)) (other (i / (8 * size)) away))
      (cases_eq (i / (8 * size)) c)

  pub hold_same : laid size new base ≡ laid size old base
  hold_same = laid_same size old new base count hold_bit

  pub hold_clear : IsClearBehind size old → IsClearBehind size new
  hold_clear clear d held is i lt past = ⊎_elim
      (λ (e : d ≡ c).
      let same : held ≡ bits = let put : Some held ≡ Some bits = sym is ∙ ap (changed_at new.changed) e ∙ here in cc in
      let behind : new.count ≤ c * (8 * size) + i = subst (λ n. new.count ≤ n * (8 * size) + i) e past in
      let long = length-all size base in
      ap (λ bs. get_or bs i false) same ∙ read i lt ∙ get_or_past (all_bits size base) (c * (8 * size) + i) false (omega (arith, long, behind, count, least)))
      (λ (away : d ≢ c). clear d held (sym (other d away) ∙ is) i lt (subst (λ n. n ≤ d * (8 * size) + i) count past))
      (cases_eq d c)

-- A chunk after a step.
module _ (size : ℕ) (overlay : Overlay) (base : Bitmap) (c : ℕ) (least : bit_count size base ≤ overlay.count) (kept : base.pruned ≤ c) where
  from : (i : ℕ) → start size base ≤ c * (8 * size) + i
  from i = let low : base.pruned * (8 * size) ≤ c * (8 * size) = mul-le-mul_right (8 * size) kept in omega arith

  bit_there : (i : ℕ) → i < 8 * size → c * (8 * size) + i < overlay.count → get_or (all_bits size (laid size overlay base)) (c * (8 * size) + i) false ≡ bit_over (changed_at overlay.changed c) i (get_or (all_bits size base) (c * (8 * size) + i) false)
  bit_there i lt low =
      laid_at size overlay base (c * (8 * size) + i) (from i) low
      ∙ ap₂ (λ d p. bit_over (changed_at overlay.changed d) p (get_or (all_bits size base) (c * (8 * size) + i) false)) (in_chunk (8 * size) c i lt) (in_place (8 * size) c i lt)

  -- the bytes of a chunk that the step changes
  pub chunk_changed : IsClearBehind size overlay → (bits : List Bool) → changed_at overlay.changed c ≡ Some bits → packed size bits ≡ chunk size (all_bits size (laid size overlay base)) c
  chunk_changed clear bits is = packed_same size bits (drop (c * (8 * size)) (all_bits size (laid size overlay base))) (λ i lt. ⊎_elim
      (λ (low : c * (8 * size) + i < overlay.count).
      sym (get_or-drop (c * (8 * size)) (all_bits size (laid size overlay base)) i false ∙ bit_there i lt low ∙ ap (λ o. bit_over o i (get_or (all_bits size base) (c * (8 * size) + i) false)) is))
      (λ (past : overlay.count ≤ c * (8 * size) + i).
      clear c bits is i lt past ∙ sym (get_or-drop (c * (8 * size)) (all_bits size (laid size overlay base)) i false ∙ laid_past size overlay base (c * (8 * size) + i) (omega arith) past))
      (cases_lt (c * (8 * size) + i) overlay.count))

  -- and of one that it does not
  pub chunk_below : changed_at overlay.changed c ≡ None → chunk size (all_bits size base) c ≡ chunk size (all_bits size (laid size overlay base)) c
  chunk_below none = packed_same size (drop (c * (8 * size)) (all_bits size base)) (drop (c * (8 * size)) (all_bits size (laid size overlay base))) (λ i lt.
      get_or-drop (c * (8 * size)) (all_bits size base) i false
      ∙ ⊎_elim
      (λ (low : c * (8 * size) + i < overlay.count). sym (bit_there i lt low ∙ ap (λ o. bit_over o i (get_or (all_bits size base) (c * (8 * size) + i) false)) none))
      (λ (past : overlay.count ≤ c * (8 * size) + i).
      let long = length-all size base in
      get_or_past (all_bits size base) (c * (8 * size) + i) false (omega arith) ∙ sym (laid_past size overlay base (c * (8 * size) + i) (omega arith) past))
      (cases_lt (c * (8 * size) + i) overlay.count)
      ∙ sym (get_or-drop (c * (8 * size)) (all_bits size (laid size overlay base)) i false))

-- no chunk is there
pub none_there : (o : Option (List Bool)) → is_some o ≡ false → o ≡ None
none_there None no_chunk = refl
none_there (Some bits) no_chunk = cc

-- to clear a pruned bit changes nothing
pub clear_pruned : (size : ℕ) (overlay : Overlay) (base : Bitmap) (at : ℕ) → at < start size base → set (all_bits size (laid size overlay base)) at false ≡ all_bits size (laid size overlay base)
clear_pruned size overlay base at low = ap (set (all_bits size (laid size overlay base)) at) (sym (laid_pruned size overlay base at low)) ∙ set-get_or (all_bits size (laid size overlay base)) at false

-- a place in a chunk that is pruned is pruned
pub place_pruned : (size : ℕ) (base : Bitmap) (span at : ℕ) → span ≡ 8 * size → 0 < 8 * size → at / span < base.pruned → at < start size base
place_pruned size base span at span_is some low = (div-lt_iff_lt-mul some).0 (subst (λ n. at / n < base.pruned) span_is low)

-- a place in a chunk that is not pruned is kept
pub place_kept : (size : ℕ) (base : Bitmap) (span at : ℕ) → span ≡ 8 * size → 0 < 8 * size → base.pruned ≤ at / span → start size base ≤ at
place_kept size base span at span_is some kept = (le-div_iff_mul-le some).0 (subst (λ n. base.pruned ≤ at / n) span_is kept)

-- A step over a bitmap, of which the step is changed.
module _ (size : ℕ) (base : Bitmap) (old new : Overlay) (whole : Laid) (is : record { base = base; overlay = old } ≡ whole) (least : bit_count size base ≤ old.count) where
  same_laid : laid size old base ≡ laid size whole.overlay whole.base
  same_laid = ap (λ l. laid size l.overlay l.base) is

  -- its number of bits is the step's
  pub whole-count : bit_count size (laid size whole.overlay whole.base) ≡ old.count
  whole-count = ap (bit_count size) (sym same_laid) ∙ count-laid size old base (omega (arith, least))

  pub begin-whole : start size (laid size whole.overlay whole.base) ≡ start size base
  begin-whole = ap (start size) (sym same_laid) ∙ ap (λ n. n * (8 * size)) (pruned-laid size old base)

  pub changed-pruned : (laid size new base).pruned ≡ (laid size whole.overlay whole.base).pruned
  changed-pruned = pruned-laid size new base ∙ sym (pruned-laid size old base) ∙ ap (λ m. m.pruned) same_laid

  pub changed-count : new.count ≡ old.count → bit_count size (laid size new base) ≡ bit_count size (laid size whole.overlay whole.base)
  changed-count count = count-laid size new base (omega (arith, least, count)) ∙ count ∙ sym whole-count

  pub changed-bits : (at : ℕ) (value : Bool) → all_bits size (laid size new base) ≡ set (all_bits size (laid size old base)) at value → all_bits size (laid size new base) ≡ set (all_bits size (laid size whole.overlay whole.base)) at value
  changed-bits at value bits = bits ∙ ap (λ m. set (all_bits size m) at value) same_laid

  -- if there is no bit none is changed
  pub unchanged-past : (at : ℕ) (value : Bool) → old.count ≤ at → all_bits size (laid size whole.overlay whole.base) ≡ set (all_bits size (laid size whole.overlay whole.base)) at value
  unchanged-past at value past =
      let long = length-all size (laid size whole.overlay whole.base) in
      let total = whole-count in
      sym (set_past (all_bits size (laid size whole.overlay whole.base)) at value (omega (arith, long, total, past)))

pub on_ok : {X E : Type 0} {P : Type 0} (r : Result X E) → P → OnOk r P
on_ok (Ok x) p = p
on_ok (Err e) p = tt

pub ok_of_err : {X E : Type 0} (P : Type 0) (r : Result X E) → IsErr r → OnOk r P
ok_of_err P (Ok x) err = absurd (cc)
ok_of_err P (Err e) err = tt

pub on_err : {X E : Type 0} {P : Type 0} (r : Result X E) → P → OnErr r P
on_err (Ok x) p = tt
on_err (Err e) p = p

-- what holds of a call that ends well by two clauses, and of one that ends either way
pub on_ok_both : {X E : Type 0} {P Q R : Type 0} (r : Result X E) → OnOk r P → OnOk r Q → (P → Q → R) → OnOk r R
on_ok_both (Ok x) p q give = give p q
on_ok_both (Err e) p q give = tt

pub either : {X E : Type 0} {P : Type 0} (r : Result X E) → OnOk r P → OnErr r P → P
either (Ok x) p q = p
either (Err e) p q = q

-- a chunk has bits
pub some_bits : (size : ℕ) → 32 ≤ size → 0 < 8 * size
some_bits size least = omega arith
