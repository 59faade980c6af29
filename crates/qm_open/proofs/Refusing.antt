-- What the checks of an opening come to, if the commit that is selected is known.
use Rattle.std.proofs.Common.{◌≡◌, ◌∙◌, refl, sym, ap, arith, ◌-◌, ◌*◌, ◌/◌, ◌^◌, ◌≤◌, ℕ, zero, suc, Bool, true, false, Option, Some, None, length}
use Rattle.std.specs.Prelude.{◌==◌, ◌&&◌, not, nat_lt, if◌then◌else◌, option_map, IfSome}
use Rattle.std.specs.Option.{option_or, option_map_or}
use Rattle.std.proofs.Math.Nat.{zero-div}
use Rattle.std.proofs.lemmas.Bool.{le-ltb, ltb-false, ne_eqb}
use Rattle.std.proofs.lemmas.List.{length-map}
use Rattle.std.proofs.lemmas.Nat.{pow_pos}
use Rattle.qm_model.specs.Forms.{Form, decoded}
use Rattle.qm_model.specs.Grafted.{pair_absorption_threshold}
use Rattle.qm_model.specs.Opening as opening
use Rattle.qm_model.specs.Opening.{when, below_bound, commit_refusal, is_empty, is_past_bits, is_unabsorbed, opening_refusal, last_commit}
use Rattle.qm_model.specs.Refused.{Refused, InvalidInitializationBound, NoRetainedCommit, FloorExceedsCommit, PrunedPastBits, HistoricalFloorPruned, DataCorrupted}
use Rattle.qm_model.specs.StoreModel.{Stored, end_of}
use Rattle.qm_model.specs.Trees.{Shape}
use Rattle.qm_base.specs.declared.error.Error.{Error}
use Rattle.qm_store.specs.Refusals.{refusal_of, IsDue}
use Rattle.qm_open.specs.declared.pruned.Pruned.{Pruned}
use Rattle.qm_open.specs.Selecting.{bits_of, chunks_of, content_refusal, count_of, found_of, is_below_threshold, kept_items, layout_of, selected_refusal, up_to, HasThreshold}

-- the checks between the metadata and the content, in their order
abbrev between : ℕ → Bool → Bool → Option Pruned → Option opening.Selected → Option Refused → Option Refused
between start is_empty short pruned at rest =
    let size = opening.size_of at in
    let floor = opening.floor_of at in
    option_or (when (nat_lt size (bits_of pruned)) (HistoricalFloorPruned size))
    (option_or (option_map DataCorrupted (commit_refusal is_empty at))
    (option_or (when (nat_lt floor start) (HistoricalFloorPruned size))
    (option_or (when (nat_lt floor (bits_of pruned)) (HistoricalFloorPruned size))
    (option_or (when short (HistoricalFloorPruned size))
    (option_or (when (is_past_bits (chunks_of pruned) start (count_of pruned)) (DataCorrupted PrunedPastBits))
    rest)))))

-- of a commit the first that fails decides
of-some : (a b d e f g : Bool) (h : Refused) (rest : Option Refused)
    → option_or (when a h) (option_or (option_map DataCorrupted (when b FloorExceedsCommit)) (option_or (when d h) (option_or (when e h) (option_or (when f h) (option_or (when g (DataCorrupted PrunedPastBits)) rest)))))
    ≡ option_or (if a then Some h else (if b then Some (DataCorrupted FloorExceedsCommit) else (if d then Some h else (if e then Some h else (if f then Some h else when g (DataCorrupted PrunedPastBits)))))) rest
of-some true b d e f g h rest = refl
of-some false true d e f g h rest = refl
of-some false false true e f g h rest = refl
of-some false false false true f g h rest = refl
of-some false false false false true g h rest = refl
of-some false false false false false true h rest = refl
of-some false false false false false false h rest = refl

-- of an empty store the pruned bits alone
of-none : (a empty d f g : Bool) (rest : Option Refused) → (a ≡ false → empty ≡ true → (d ≡ false) × (f ≡ false) × (g ≡ false))
    → option_or (when a (HistoricalFloorPruned 0)) (option_or (option_map DataCorrupted (when (not empty) NoRetainedCommit)) (option_or (when d (HistoricalFloorPruned 0)) (option_or (when a (HistoricalFloorPruned 0)) (option_or (when f (HistoricalFloorPruned 0)) (option_or (when g (DataCorrupted PrunedPastBits)) rest)))))
    ≡ option_or (if a then Some (HistoricalFloorPruned 0) else when (not empty) (DataCorrupted NoRetainedCommit)) rest
of-none true empty d f g rest none = refl
of-none false false d f g rest none = refl
of-none false true d f g rest none = let all = none refl refl in rw (all.0, all.1, all.2) refl

-- the threshold is passed or not, as the shape has it
same-threshold : (shape : Shape) (pruned : Option Pruned) (size : ℕ) → HasThreshold shape pruned → is_unabsorbed shape (chunks_of pruned) size (count_of pruned) ≡ is_below_threshold pruned size
same-threshold shape None size is = refl
same-threshold shape (Some p) size is = ap (λ o. option_map_or (λ least. nat_lt size least) o false) (sym is)

-- no bits are pruned, so no chunk is
no-chunks : (p : Pruned) → nat_lt 0 (p.chunks * 2 ^ p.height) ≡ false → p.chunks ≡ 0
no-chunks p none =
    let few : p.chunks * 2 ^ p.height ≤ 0 = ltb-false 0 (p.chunks * 2 ^ p.height) none in
    by p.chunks few
  where
    by : (n : ℕ) → n * 2 ^ p.height ≤ 0 → n ≡ 0
    by zero few = refl
    by (suc n) few = let some = pow_pos p.height in absurd (omega (arith, few, some))

none-pruned : (shape : Shape) (pruned : Option Pruned) (start : ℕ) → HasThreshold shape pruned → start ≡ 0 → nat_lt 0 (bits_of pruned) ≡ false
    → (nat_lt 0 start ≡ false) × (is_below_threshold pruned 0 ≡ false) × (is_past_bits (chunks_of pruned) start (count_of pruned) ≡ false)
none-pruned shape None start is first none = (ap (nat_lt 0) first, refl, refl)
none-pruned shape (Some p) start is first none =
    let no = no-chunks p none in (
      ap (nat_lt 0) first,
      ap (λ o. option_map_or (λ least. nat_lt 0 least) o false) (is ∙ ap (pair_absorption_threshold shape p.height) no),
      ap (λ n. nat_lt p.chunks (n / 2 ^ p.height)) first ∙ ap (nat_lt p.chunks) (zero-div (2 ^ p.height)) ∙ le-ltb p.chunks 0 (omega arith),
    )

decides : (shape : Shape) (pruned : Option Pruned) (start : ℕ) (empty : Bool) (at : Option opening.Selected) (rest : Option Refused) → HasThreshold shape pruned → (empty ≡ true → start ≡ 0)
    → between start empty (is_below_threshold pruned (opening.size_of at)) pruned at rest ≡ option_or (selected_refusal start empty pruned at) rest
decides shape pruned start empty None rest is first =
    of-none (nat_lt 0 (bits_of pruned)) empty (nat_lt 0 start) (is_below_threshold pruned 0) (is_past_bits (chunks_of pruned) start (count_of pruned)) rest (λ none bare. none-pruned shape pruned start is (first bare) none)
decides shape pruned start empty (Some c) rest is first =
    of-some (nat_lt c.size (bits_of pruned)) (nat_lt (c.size - 1) c.floor) (nat_lt c.floor start) (nat_lt c.floor (bits_of pruned)) (is_below_threshold pruned c.size) (is_past_bits (chunks_of pruned) start (count_of pruned)) (HistoricalFloorPruned c.size) rest

-- the items below a bound
pub below-same : (form : Form) (s : Stored) (pruned : Option Pruned) (bound : Option ℕ) → below_bound bound (found_of form s pruned) ≡ up_to bound s (kept_items form s)
below-same form s pruned None = refl
below-same form s pruned (Some bound) = refl

pub selected-same : (form : Form) (s : Stored) (pruned : Option Pruned) (bound : Option ℕ) → opening.selected (found_of form s pruned) bound ≡ last_commit s.start None (up_to bound s (kept_items form s))
selected-same form s pruned bound = ap (last_commit s.start None) (below-same form s pruned bound)

past-none : (n : ℕ) → (suc n == 0) ≡ false
past-none n = ne_eqb (suc n) 0 (λ is. cc)

-- a store is empty by its bounds
empty-same : (form : Form) (s : Stored) (pruned : Option Pruned) (start end : ℕ) → s.start ≡ start → end_of s ≡ end → is_empty (found_of form s pruned) ≡ (start == 0 && end == 0)
empty-same form s pruned start end first last = ap (λ n. n == 0 && length (kept_items form s) == 0) first ∙ by start first
  where
    long : length (kept_items form s) ≡ length s.items
    long = length-map s.items (decoded form)

    by : (n : ℕ) → s.start ≡ n → (n == 0 && length (kept_items form s) == 0) ≡ (n == 0 && end == 0)
    by zero is = let ends : length (kept_items form s) ≡ end = omega (arith, long, is, last) in ap (λ m. m == 0) ends
    by (suc n) is = let no = past-none n in ap (λ b. b && length (kept_items form s) == 0) no ∙ sym (ap (λ b. b && end == 0) no)

starts-first : (start end : ℕ) → (start == 0 && end == 0) ≡ true → start ≡ 0
starts-first zero end is = refl
starts-first (suc start) end is = let lost : false ≡ true = sym (ap (λ b. b && end == 0) (past-none start)) ∙ is in absurd cc

-- what an opening up to a bound is refused for: the selected commit first, then what stands beside it
pub comes-to : (form : Form) (shape : Shape) (digest_size : ℕ) (s : Stored) (bound : Option ℕ) (pruned : Option Pruned) (start end : ℕ) (at : Option opening.Selected) → HasThreshold shape pruned → s.start ≡ start → end_of s ≡ end
    → option_map_or (λ n. n == 0) bound false ≡ false → at ≡ last_commit s.start None (up_to bound s (kept_items form s))
    → opening_refusal (layout_of form shape digest_size pruned) (found_of form s pruned) bound
    ≡ option_or (selected_refusal start (start == 0 && end == 0) pruned at) (content_refusal (layout_of form shape digest_size pruned) (found_of form s pruned) at)
comes-to form shape digest_size s bound pruned start end at is first last some chosen =
    let f = found_of form s pruned in
    let layout = layout_of form shape digest_size pruned in
    let same : opening.selected f bound ≡ at = selected-same form s pruned bound ∙ sym chosen in
    let empty = empty-same form s pruned start end first last in
    ap (λ b. option_or (when b InvalidInitializationBound) (between s.start (is_empty f) (is_unabsorbed shape (chunks_of pruned) (opening.size_of (opening.selected f bound)) (count_of pruned)) pruned (opening.selected f bound) (content_refusal layout f (opening.selected f bound)))) some
    ∙ ap (λ a. between s.start (is_empty f) (is_unabsorbed shape (chunks_of pruned) (opening.size_of a) (count_of pruned)) pruned a (content_refusal layout f a)) same
    ∙ ap (λ b. between s.start (is_empty f) b pruned at (content_refusal layout f at)) (same-threshold shape pruned (opening.size_of at) is)
    ∙ ap (λ b. between s.start b (is_below_threshold pruned (opening.size_of at)) pruned at (content_refusal layout f at)) empty
    ∙ ap (λ n. between n (start == 0 && end == 0) (is_below_threshold pruned (opening.size_of at)) pruned at (content_refusal layout f at)) first
    ∙ decides shape pruned start (start == 0 && end == 0) at (content_refusal layout f at) is (starts-first start end)

-- what is due of the first is due of both
pub due-first : (e : Error) (first rest : Option Refused) → IsDue e first → IsDue e (option_or first rest)
due-first e first rest due = by (refusal_of e) due
  where
    by : (o : Option Refused) → IfSome o (λ r. first ≡ Some r) → IfSome o (λ r. option_or first rest ≡ Some r)
    by None due = tt
    by (Some r) due = ap (λ a. option_or a rest) due
