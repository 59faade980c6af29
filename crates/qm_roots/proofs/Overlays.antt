-- What steps do to bits, whichever of the chunks below them are pruned.
use Rattle.std.proofs.Common.{◌≡◌, ℕ, zero, suc, ◌+◌, ◌*◌, ◌/◌, ◌%◌, ◌<◌, ◌≤◌, Bool, true, false, List, [], ◌∷◌, ◌++◌, length, take, drop, map, get_or, arith, ap, ap₂, sym, subst, ◌∙◌, refl, ⊎_elim, le_refl, None, Some, IsSome, Less, Equal, Greater}
use Rattle.std.specs.Prelude.{◌||◌, ◌==◌, if◌then◌else◌, cond, nat_lt, is_some, Contains}
use Rattle.std.specs.BTreeMap.{is_at}
use Rattle.std.specs.Ordering.{nat_cmp, is_eq}
use Rattle.std.proofs.lemmas.Bool.{cases_lt, le-ltb, eq-eqb, eqb-true}
use Rattle.std.proofs.lemmas.List.{ext_get_or, get_or-drop, take-append-drop}
use Rattle.std.proofs.lemmas.List.Folds.{list_any-append}
use Rattle.std.proofs.Math.Nat.{div-lt_iff_lt-mul}
use Rattle.qm_model.specs.Operations.{Operation, update, delete, commit}
use Rattle.qm_model.specs.Live.{Live, touches, touched}
use Rattle.qm_model.specs.Bits.{is_active, bits, chunk}
use Rattle.qm_model.proofs.BitLemmas.{length-bits}
use Rattle.qm_bits.specs.Bitmaps.{Bitmap, start, bit_count, all_bits}
use Rattle.qm_overlay.specs.Layers.{Overlay, changed_at, bit_over, laid, IsClearBehind, IsFrom}
use Rattle.qm_overlay.proofs.Applying.{below_start}
use Rattle.qm_overlay.proofs.Bytes.{packed_same}
use Rattle.qm_overlay.proofs.Laying.{in_chunk, in_place, length-all, count-laid, laid_pruned, bit_laid}
use Rattle.qm_roots.specs.Steps.{laid_over, AreOver, IsOverlay, AreOverlays, AreRising}

-- A clear bit stays clear, however many operations come.

cleared_by : (e : Live) (t : Bool) → is_some (if t then None else Some e) ≡ false → t ≡ true
cleared_by e true is = refl
cleared_by e false is = absurd (cc)

clear_after : (op : Operation) (rest more : List Operation) → is_active op rest ≡ false → is_active op (rest ++ more) ≡ false
clear_after op [] more is = absurd (cc)
clear_after (update k v n) (r ∷ rest) more is =
    let e : Live = record { location = 0; key = k; value = v; next = n } in
    let again : touched k (r ∷ rest) ≡ true = cleared_by e (touched k (r ∷ rest)) is in
    ap (λ t. is_some {T = Live} (if t then None else Some e)) (list_any-append (touches k) (r ∷ rest) more ∙ ap (λ t. t || touched k more) again)
clear_after (delete k) (r ∷ rest) more is = refl
clear_after (commit m f) (r ∷ rest) more is = refl

pub clear-stays : (from more : List Operation) (i : ℕ) → i < length from → get_or (bits from) i false ≡ false → get_or (bits (from ++ more)) i false ≡ false
clear-stays [] more i low is = absurd (omega (arith, low))
clear-stays (op ∷ rest) more zero low is = clear_after op rest more is
clear-stays (op ∷ rest) more (suc i) low is = clear-stays rest more i (omega (arith, low)) is

module _ (size : ℕ) (some : 0 < 8 * size) where
  -- A step over a bitmap of its base list: the bits after it are those of its tip list.
  pub laid-bits : (overlay : Overlay) (map : Bitmap) (base tip : List Operation) → IsOverlay size overlay base tip → bit_count size map ≤ overlay.count → all_bits size map ≡ bits base
      → take (length base) tip ≡ base → all_bits size (laid size overlay map) ≡ bits tip
  laid-bits overlay map base tip is least same begins = ext_get_or false _ _ long each
    where
      count : bit_count size map ≡ length base
      count = sym (length-all size map) ∙ ap length same ∙ length-bits base

      long : length (all_bits size (laid size overlay map)) ≡ length (bits tip)
      long = length-all size (laid size overlay map) ∙ count-laid size overlay map (omega (arith, least)) ∙ is.count ∙ sym (length-bits tip)

      parts : base ++ drop (length base) tip ≡ tip
      parts = ap (λ l. l ++ drop (length base) tip) (sym begins) ∙ take-append-drop (length base) tip

      each : (i : ℕ) → i < length (all_bits size (laid size overlay map)) → get_or (all_bits size (laid size overlay map)) i false ≡ get_or (bits tip) i false
      each i lt = ⊎_elim
          (λ (low : i < start size map).
          let none : get_or (bits base) i false ≡ false = ap (λ bs. get_or bs i false) (sym same) ∙ below_start size map i low in
          laid_pruned size overlay map i low ∙ sym (subst (λ l. get_or (bits l) i false ≡ false) parts (clear-stays base (drop (length base) tip) i (omega (arith, low, count)) none)))
          (λ (high : start size map ≤ i).
          bit_laid size overlay map some is.clear least i high
          ∙ ap (λ bs. bit_over (changed_at overlay.changed (i / (8 * size))) (i % (8 * size)) (get_or bs i false)) same ∙ sym (is.bits i))
          (cases_lt i (start size map))

  -- A step that was made so over one bitmap of its base list is one of the lists.
  pub made-overlay : (overlay : Overlay) (map : Bitmap) (base tip : List Operation) → IsClearBehind size overlay → IsFrom map.pruned overlay → bit_count size map ≤ overlay.count → overlay.count ≡ length tip
      → all_bits size map ≡ bits base → all_bits size (laid size overlay map) ≡ bits tip → IsOverlay size overlay base tip
  made-overlay overlay map base tip clear from least count same after = record { count = count; clear = clear; bits = each }
    where
      each : (i : ℕ) → get_or (bits tip) i false ≡ bit_over (changed_at overlay.changed (i / (8 * size))) (i % (8 * size)) (get_or (bits base) i false)
      each i = ⊎_elim
          (λ (low : i < start size map).
          let none : changed_at overlay.changed (i / (8 * size)) ≡ None = from (i / (8 * size)) ((div-lt_iff_lt-mul some).1 low) in
          ap (λ bs. get_or bs i false) (sym after) ∙ laid_pruned size overlay map i low
          ∙ sym (ap (λ o. bit_over o (i % (8 * size)) (get_or (bits base) i false)) none ∙ ap (λ bs. get_or bs i false) (sym same) ∙ below_start size map i low))
          (λ (high : start size map ≤ i).
          ap (λ bs. get_or bs i false) (sym after) ∙ bit_laid size overlay map some clear least i high
          ∙ ap (λ bs. bit_over (changed_at overlay.changed (i / (8 * size))) (i % (8 * size)) (get_or bs i false)) same)
          (cases_lt i (start size map))

  -- A chunk that it does not change.
  pub same-chunk : (overlay : Overlay) (base tip : List Operation) (c : ℕ) → IsOverlay size overlay base tip → changed_at overlay.changed c ≡ None → chunk size (bits base) c ≡ chunk size (bits tip) c
  same-chunk overlay base tip c is none = packed_same size (drop (c * (8 * size)) (bits base)) (drop (c * (8 * size)) (bits tip)) (λ i lt.
      get_or-drop (c * (8 * size)) (bits base) i false
      ∙ sym (get_or-drop (c * (8 * size)) (bits tip) i false ∙ is.bits (c * (8 * size) + i)
      ∙ ap₂ (λ d p. bit_over (changed_at overlay.changed d) p (get_or (bits base) (c * (8 * size) + i) false)) (in_chunk (8 * size) c i lt) (in_place (8 * size) c i lt)
      ∙ ap (λ o. bit_over o i (get_or (bits base) (c * (8 * size) + i) false)) none))

  -- Steps over one another, over a bitmap of the list that the oldest of the first ones starts from.
  pub bits-over : (k : ℕ) (overlays : List Overlay) (map : Bitmap) (tip : List Operation) (bases : List (List Operation)) → AreOverlays size overlays tip bases
      → AreRising tip bases → AreOver size (take k overlays) map → k ≤ length overlays
      → all_bits size map ≡ bits (get_or (tip ∷ bases) k []) → all_bits size (laid_over size (take k overlays) map) ≡ bits tip
  bits-over zero overlays map tip bases are rising stacked within same = same
  bits-over (suc k) [] map tip bases are rising stacked within same = absurd (omega (arith, within))
  bits-over (suc k) (overlay ∷ older) map tip [] are rising stacked within same = absurd are
  bits-over (suc k) (overlay ∷ older) map tip (base ∷ bases) are rising stacked within same =
      laid-bits overlay (laid_over size (take k older) map) base tip are.0 stacked.0
      (bits-over k older map base bases are.1 rising.1 stacked.1 (omega (arith, within)) same)
      rising.0

-- The chunks of a step, by number.

at-self : (c : ℕ) → is_at (nat_cmp c) c ≡ true
at-self c = ap₂ (λ s t. is_eq (cond s Less (cond t Equal Greater))) (le-ltb c c (le_refl c)) (eq-eqb c c refl)

at-same : (x y : ℕ) → is_at (nat_cmp x) y ≡ true → x ≡ y
at-same x y is = eqb-true x y (told (nat_lt x y) (x == y) is)
  where
    told : (s t : Bool) → is_eq (cond s Less (cond t Equal Greater)) ≡ true → t ≡ true
    told true t e = absurd (cc)
    told false true e = refl
    told false false e = absurd (cc)

pub changed-some : (changed : List (ℕ × List Bool)) (c : ℕ) → Contains (map (λ e. e.0) changed) c → IsSome (changed_at changed c)
changed-some [] c found = absurd (omega (arith, found.1))
changed-some (e ∷ es) c (zero, lt, at) =
    subst (λ k. IsSome (cond (is_at (nat_cmp c) k) (Some e.1) (changed_at es c))) (sym at) (subst (λ t. IsSome (cond t (Some e.1) (changed_at es c))) (sym (at-self c)) refl)
changed-some (e ∷ es) c (suc k, lt, at) = by (is_at (nat_cmp c) e.0) (changed-some es c (k, omega (arith, lt), at))
  where
    by : (t : Bool) → IsSome (changed_at es c) → IsSome (cond t (Some e.1) (changed_at es c))
    by true rest = refl
    by false rest = rest

pub changed-none : (changed : List (ℕ × List Bool)) (c : ℕ) → (Contains (map (λ e. e.0) changed) c → ⊥) → changed_at changed c ≡ None
changed-none [] c apart = refl
changed-none (e ∷ es) c apart = by (λ later. changed-none es c later) (is_at (nat_cmp c) e.0) refl
  where
    by : ((Contains (map (λ e. e.0) es) c → ⊥) → changed_at es c ≡ None) → (t : Bool) → is_at (nat_cmp c) e.0 ≡ t → cond t (Some e.1) (changed_at es c) ≡ None
    by rest true is = absurd (apart (0, omega arith, sym (at-same c e.0 is)))
    by rest false is = rest (λ found. apart (suc found.0, (let lt = found.1 in omega (arith, lt)), found.2))

-- Those of a step that changes none before this one.
pub changed-from : (least : ℕ) (overlay : Overlay) (c : ℕ) → IsFrom least overlay → Contains (map (λ e. e.0) overlay.changed) c → least ≤ c
changed-from least overlay c from found = ⊎_elim
    (λ (low : c < least). let none = from c low in let some = changed-some overlay.changed c found in absurd (cc))
    (λ (high : least ≤ c). high)
    (cases_lt c least)
