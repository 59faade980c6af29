-- The database of what an opening made.
use Rattle.std.proofs.Common.{◌≡◌, ◌≢◌, ◌⊎◌, inl, inr, ⊎_elim, le_refl, pow_mono, ◌+◌, ◌*◌, ◌^◌, Bool, true, false, ◌&&◌, [], ◌∷◌, eq-eqb, ne_eqb, ◌∙◌, ◌-◌, ◌≤◌, ◌<◌, ℕ, zero, suc, List, length, map, take, drop, arith, refl, ap, ap₂, sym, subst, Option, Some, None}
use Rattle.std.specs.Prelude.{All, slice_get, option_and_then, option_map, not, ◌==◌, is_none, filter_map, IfSome, IsSome}
use Rattle.std.specs.List.{list_any}
use Rattle.qm_model.specs.Forms.{Form, IsOf, decoded, spelling}
use Rattle.qm_model.specs.Grafted.{pair_absorption_threshold}
use Rattle.qm_model.specs.Trees.{Shape, peaks}
use Rattle.qm_model.specs.StoreModel.{Stored}
use Rattle.qm_model.specs.Opening as opening
use Rattle.qm_model.specs.Opening.{is_ring, opening_refusal}
use Rattle.qm_model.specs.Refused.{Refused, DataCorrupted, HeadDoesNotMatch}
use Rattle.qm_base.specs.declared.error.Error.TheVariants as errors
use Rattle.qm_base.specs.declared.error.JournalError.TheVariants as journal
use Rattle.qm_base.specs.declared.error.Corrupt.TheVariants as corrupt
use Rattle.qm_store.specs.Refusals.{IsDue}
use Rattle.qm_open.specs.declared.pruned.Pruned.{Pruned}
use Rattle.qm_open.specs.declared.select.Selected.{Selected}
use Rattle.qm_open.specs.Selecting.{any_layout, any_found, bits_of, content_refusal, floor_told, found_of, layout_of, selected_view, AreFew, HasThreshold}
use Rattle.qm_open.proofs.Refusing.{selected-same}
use Rattle.qm_build.specs.Reads.{items_within}
use Rattle.std.proofs.lemmas.List.{length-map}
use Rattle.std.proofs.lemmas.Bool.{cases_lt}
use Rattle.std.proofs.lemmas.Nat.{pow-add, pow_pos, mul-le}
use Rattle.std.proofs.Math.Nat.{pow-suc}
use Rattle.qm_model.proofs.MmbFamily.{log_is}
use Rattle.qm_model.specs.Operations.{Bytes, Operation, update, delete, commit}
use Rattle.qm_model.specs.Live.{floor, floor_after}
use Rattle.qm_model.specs.Refusals.{commit_floor}
use Rattle.qm_model.proofs.Forms.{decoded-spelling}
use Rattle.qm_store.proofs.Shown.{item_read}
use Rattle.qm_build.proofs.Reading.{spelled-there}
use Rattle.qm_model.specs.Step.{IsGood}
use Rattle.qm_bits.specs.Bitmaps.{Bitmap}
use Rattle.qm_store.specs.declared.Store as store
use Rattle.qm_base.specs.declared.error.Error.{Error}
use Rattle.qm_store.specs.declared.log.LogGiven.{LogGiven}
use Rattle.qm_store.specs.declared.log.LogGiven.TheVariants as variants
use Rattle.qm_store.specs.Log.{Log, IsLog, IsRefused, store_given}
use Rattle.qm_step.specs.Kinds.{HasRing}
use Rattle.qm_open.specs.Opened.{IsOpened}
use Rattle.qm_any.specs.Layouts.{Layout, spellings}
use Rattle.qm_any.specs.Databases.{Database, IsDatabase}
use Rattle.qm_open.proofs.Checking.{three}
use Rattle.qm_any.specs.Opening.{height_of, pruned_view}

-- what shared metadata spells
pub shared-bytes : {A V B : Type 0} (value : A → V) (bytes : V → B) (m : Option A) (meta : Option V) → option_map value m ≡ meta → option_map (λ r. bytes (value r)) m ≡ option_map bytes meta
shared-bytes value bytes None meta is = ap (option_map bytes) is
shared-bytes value bytes (Some a) meta is = ap (option_map bytes) is

-- what is told
pub told-so : {X : Type 0} (o : Option X) (Q : Type 0) → (IsSome o → Q) → IfSome o (λ _. Q)
told-so None Q q = tt
told-so (Some x) Q q = q refl

module _ {C D : Type 0} (members : store.Ghosts C) (layout : Layout D) where
  pub opened-stands : (old new : Log C D) (entries : List (ℕ × List ℕ)) (live_keys : ℕ) (activity : Bitmap) (root : Bytes) (meta : Option Bytes) (size low : ℕ) (db : Database C D) (list : List Operation)
      → IsOpened members layout.hashing.shape layout.hashing.bytes layout.hashing.hash layout.hashing.form layout.index_key layout.chunk old entries live_keys activity root meta list
      → IsLog members layout.hashing.shape layout.hashing.bytes layout.hashing.hash new (spellings layout.hashing list) → IsSome (members.told new.store)
      → db ≡ record { entries = entries; activity = activity; log = new; commitment = record { size = size; root = root }; floor = low; live = live_keys; metadata = meta }
      → old.tree.leaves ≡ size → low ≡ floor list → members.start new.store ≤ low → IsGood list → HasRing layout.hashing.form list → IsDatabase members layout db list
  opened-stands old new entries live_keys activity root meta size low db list opened logged told is leaves below from good ring =
      let whole : size ≡ length list = sym leaves ∙ opened.has.logged.size ∙ length-map list _ in
      subst (λ d. IsDatabase members layout d list) (sym is) (record {
        told = told;
        lent = record { indexed = opened.indexed; logged = logged; of = opened.has.of };
        commitment = ap₂ (λ n r. record { size = n; root = r }) whole opened.root_is;
        low = omega (arith, logged.start, from, below);
        floor = below;
        live = opened.counted;
        metadata = opened.metadata_is;
        active = opened.active;
        good = good;
        ring = ring;
      })

-- what a log's call gives back that gives no log back
pub given-store : {C D : Type 0} (members : store.Ghosts C) (Left : C → C → Type 0) (old : Log C D) (given : LogGiven (Log C D) C) (error : Error) → IsRefused members Left old given error → ((log : Log C D) → given ≢ variants.Log log)
    → Left old.store (store_given given)
given-store members Left old (variants.Log log) error refused never = absurd (never log refl)
given-store members Left old (variants.Store s) error refused never = refused.left s refl

-- The floor of a list is what its last commit tells.

floor-last : (before : ℕ) (ops : List Operation) (i f : ℕ) → suc i ≡ length ops → option_and_then commit_floor (slice_get ops i) ≡ Some f → floor_after before ops ≡ f
floor-last before [] i f long is = absurd (omega (arith, long))
floor-last before (update k v n ∷ []) zero f long is = cc
floor-last before (delete k ∷ []) zero f long is = cc
floor-last before (commit m h ∷ []) zero f long is = let same : h ≡ f = cc in same
floor-last before (op ∷ []) (suc i) f long is = absurd (omega (arith, long))
floor-last before (op ∷ next ∷ rest) zero f long is = absurd (omega (arith, long))
floor-last before (update k v n ∷ next ∷ rest) (suc i) f long is = floor-last before (next ∷ rest) i f (omega (arith, long)) is
floor-last before (delete k ∷ next ∷ rest) (suc i) f long is = floor-last before (next ∷ rest) i f (omega (arith, long)) is
floor-last before (commit m h ∷ next ∷ rest) (suc i) f long is = floor-last h (next ∷ rest) i f (omega (arith, long)) is

-- so the floor that is told at the end of a store's list is the list's
pub told-floor : (form : Form) (s : Stored) (size f : ℕ) (list : List Operation) → length list ≡ size → All (IsOf form) list → take (size - s.start) s.items ≡ drop s.start (map (spelling form) list)
    → s.start ≤ size - 1 → 0 < size → floor_told form s (size - 1) ≡ Some f → f ≡ floor list
told-floor form s size f list long of same low some is = by (slice_get s.items (size - 1 - s.start)) refl
  where
    by : (o : Option Bytes) → slice_get s.items (size - 1 - s.start) ≡ o → f ≡ floor list
    by None none = let lost : floor_told form s (size - 1) ≡ None = ap (λ o. option_and_then commit_floor (option_and_then (decoded form) o)) none in cc
    by (Some item) here =
        let whole = length-map list (spelling form) in
        let same' = subst (λ n. take (n - s.start) s.items ≡ drop s.start (map (spelling form) list)) (sym long ∙ sym whole) same in
        let there = item_read s.items (map (spelling form) list) s.start (size - 1) item low (omega (arith, whole, long, some)) same' here in
        let spelled = spelled-there form list (size - 1) item of there in
        let spells = spelled.2 in
        let decodes : decoded form item ≡ Some spelled.0 = ap (decoded form) (sym spells.spelled) ∙ decoded-spelling form spelled.0 spells.of in
        let told : option_and_then commit_floor (slice_get list (size - 1)) ≡ Some f = ap (option_and_then commit_floor) (spelled.1 ∙ sym decodes) ∙ ap (λ o. option_and_then commit_floor (option_and_then (decoded form) o)) (sym here) ∙ is in
        sym (floor-last 0 list (size - 1) f (omega (arith, long, some)) told)

-- if no reason is due, none is there
pub refused-none : (due : Option Refused) → due ≡ None → IsSome due → ⊥
refused-none None none some = absurd (cc some)
refused-none (Some r) none some = absurd (cc none)

-- Nothing is selected of an empty store.

module _ (form : Form) (shape : Shape) (size : ℕ) (s : Stored) (from : s.start ≡ 0) (bare : peaks shape 0 ≡ []) where
  abbrev nothing : Option Refused
  nothing = content_refusal (any_layout form shape size) (any_found form s) None

  no-pins : size * length (peaks shape s.start) ≡ 0
  no-pins = ap (λ n. size * length (peaks shape n)) from ∙ ap (λ ps. size * length ps) bare ∙ omega arith

  no-links : (o : Bool) → (o && false) ≡ false
  no-links true = refl
  no-links false = refl

  no-items : items_within form s 0 0 ≡ []
  no-items = let none : 0 - s.start ≡ 0 = omega arith in ap₂ (λ a b. drop a (take b (map (decoded form) s.items))) none none

  in-items : (items : List (Option Operation)) → items ≡ [] → three (length s.head == size * length (peaks shape s.start)) (list_any is_none items) (form.ordered && not (is_ring (filter_map (λ item. item) items)))
      ≡ three (length s.head == size * length (peaks shape s.start)) false false
  in-items items none = ap (λ xs. three (length s.head == size * length (peaks shape s.start)) (list_any is_none xs) (form.ordered && not (is_ring (filter_map (λ item. item) xs)))) none
      ∙ ap (λ b. three (length s.head == size * length (peaks shape s.start)) false b) (no-links form.ordered)

  pub nothing-accepted : s.head ≡ [] → nothing ≡ None
  nothing-accepted none = in-items (items_within form s 0 0) no-items ∙ ap (λ b. three b false false) (eq-eqb (length s.head) (size * length (peaks shape s.start)) (ap length none ∙ sym no-pins))

  nothing-refused : 0 < length s.head → nothing ≡ Some (DataCorrupted HeadDoesNotMatch)
  nothing-refused some = in-items (items_within form s 0 0) no-items ∙ ap (λ b. three b false false) (ne_eqb (length s.head) (size * length (peaks shape s.start)) (λ is. let none : length s.head ≡ 0 = is ∙ no-pins in absurd (omega (arith, some, none))))

  pub nothing-due : (e : Error) → (e ≡ errors.DataCorrupted corrupt.HeadDoesNotMatch → 0 < length s.head) → (e ≡ errors.Memory) ⊎ ((e ≡ errors.Journal journal.Store) ⊎ (e ≡ errors.DataCorrupted corrupt.HeadDoesNotMatch)) → IsDue e nothing
  nothing-due e head (inl memory) = subst (λ e. IsDue e nothing) (sym memory) tt
  nothing-due e head (inr (inl fault)) = subst (λ e. IsDue e nothing) (sym fault) tt
  nothing-due e head (inr (inr other)) = subst (λ e. IsDue e nothing) (sym other) (nothing-refused (head other))

-- Pruned chunks of activity bits, as an opening looks at them.

module _ (chunk : ℕ) (power : (e : ℕ) × (chunk ≡ 2 ^ e)) where
  -- the nodes over a chunk have a leaf for each of its bits
  pub height-spans : 2 ^ height_of chunk ≡ 8 * chunk
  height-spans =
      let e = power.0 in
      let whole : 8 * chunk ≡ 2 ^ (e + 3) = omega (arith, pow-add 2 e 3, power.1) in
      let more = pow-suc 2 (e + 3) in
      let some = pow_pos (e + 3) in
      let high : height_of chunk ≡ e + 3 = log_is (8 * chunk) (e + 3) (omega (arith, whole)) (omega (arith, whole, more, some)) in
      ap (λ n. 2 ^ n) high ∙ sym whole

  height-low : chunk ≤ 65536 → height_of chunk < 62
  height-low most = ⊎_elim
      (λ (low : height_of chunk < 62). low)
      (λ (past : 62 ≤ height_of chunk). let far : 2 ^ 62 ≤ 2 ^ height_of chunk = pow_mono past in absurd (omega (arith, far, height-spans, most)))
      (cases_lt (height_of chunk) 62)

  -- they are few enough
  pub few-seen : chunk ≤ 65536 → (pruned : Option (ℕ × Option ℕ)) (seen : Option Pruned) → seen ≡ option_map (pruned_view chunk) pruned → IfSome pruned (λ p. p.0 * (8 * chunk) ≤ 2 ^ 62) → AreFew seen
  few-seen most None seen is few = subst AreFew (sym is) tt
  few-seen most (Some p) seen is few = subst AreFew (sym is) (height-low most, subst (λ n. p.0 * n ≤ 2 ^ 62) (sym height-spans) few)

  -- if they have that number of bits, chunks of them reach no further
  pub bits-seen : (p : ℕ × Option ℕ) (floor : ℕ) → bits_of (Some (pruned_view chunk p)) ≤ floor → p.0 * (8 * chunk) ≤ floor
  bits-seen p floor low = subst (λ n. p.0 * n ≤ floor) height-spans low

-- the threshold is theirs
pub threshold-seen : (chunk : ℕ) (shape : Shape) (pruned : Option (ℕ × Option ℕ)) → IfSome pruned (λ p. p.1 ≡ pair_absorption_threshold shape (height_of chunk) p.0) → HasThreshold shape (option_map (pruned_view chunk) pruned)
threshold-seen chunk shape None same = tt
threshold-seen chunk shape (Some p) same = same

-- what the commit that is found tells of why an opening refuses the store
module _ (form : Form) (told : Option Stored) (bound : Option ℕ) where
  abbrev Accepts : Shape → ℕ → Option Pruned → Option Selected → Type 0
  Accepts shape size pruned at = IfSome told (λ s. opening_refusal (layout_of form shape size pruned) (found_of form s pruned) bound ≡ content_refusal (layout_of form shape size pruned) (found_of form s pruned) (option_map selected_view at))

  pub accepted-at : (shape : Shape) (size : ℕ) (seen pruned : Option Pruned) (found at : Option Selected) → seen ≡ pruned → found ≡ at → HasThreshold shape pruned
      → ((shape : Shape) (size : ℕ) → HasThreshold shape seen → Accepts shape size seen found) → Accepts shape size pruned at
  accepted-at shape size seen pruned found at same is threshold tells =
      subst (λ p. Accepts shape size p at) same (subst (λ o. Accepts shape size seen o) is (tells shape size (subst (HasThreshold shape) (sym same) threshold)))

-- what is selected does not hang on them
pub selects-same : (form : Form) (s : Stored) (pruned : Option Pruned) (bound : Option ℕ) → opening.selected (found_of form s pruned) bound ≡ opening.selected (any_found form s) bound
selects-same form s pruned bound = selected-same form s pruned bound ∙ sym (selected-same form s None bound)

-- this number of pruned chunks is told
abbrev pub told_chunks : ℕ → Option (ℕ × Option ℕ) → Option ℕ
told_chunks chunk pruned = option_map (λ p. p.chunks) (option_map (pruned_view chunk) pruned)

pub so-pruned : (chunk : ℕ) (pruned : Option (ℕ × Option ℕ)) (n chunks : ℕ) → n ≡ chunks → IfSome pruned (λ p. chunks ≡ p.0) → IfSome (told_chunks chunk pruned) (λ k. n ≡ k)
so-pruned chunk None n chunks is told = tt
so-pruned chunk (Some p) n chunks is told = is ∙ told

-- if they have no bit, none is told
pub none-pruned : (chunk : ℕ) (pruned : Option (ℕ × Option ℕ)) (n : ℕ) → n ≡ 0 → bits_of (option_map (pruned_view chunk) pruned) ≡ 0 → IfSome (told_chunks chunk pruned) (λ k. n ≡ k)
none-pruned chunk None n is none = tt
none-pruned chunk (Some p) n is none =
    let some = pow_pos (height_of chunk) in
    ⊎_elim
    (λ (no : p.0 < 1). omega (arith, is, no))
    (λ (more : 1 ≤ p.0). let least : 1 * 2 ^ height_of chunk ≤ p.0 * 2 ^ height_of chunk = mul-le 1 (2 ^ height_of chunk) p.0 (2 ^ height_of chunk) more (le_refl (2 ^ height_of chunk)) in absurd (omega (arith, least, none, some)))
    (cases_lt p.0 1)
