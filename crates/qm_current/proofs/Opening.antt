-- Openings of current databases, by those of any ones.
use Rattle.std.proofs.Common.{◌≡◌, ◌⊎◌, inl, inr, ◌∙◌, ◌+◌, ◌-◌, ◌*◌, ◌/◌, ◌^◌, ◌≤◌, ◌<◌, ◌++◌, ℕ, zero, suc, Bool, true, false, List, [], ◌∷◌, length, map, drop, take, arith, ap, ap₂, sym, subst, refl, le_refl, Option, None, Some}
use Rattle.std.specs.Prelude.{◌==◌, nat_lt, Result, Ok, Err, IfOk, IfErr, OnOk, IfSome, IsSome, option_map}
use Rattle.std.specs.Option.{option_or, option_map_or}
use Rattle.std.proofs.Math.Nat.{div-lt_iff_lt-mul, le_trans}
use Rattle.std.proofs.lemmas.Bool.{ltb-false, ltb-true}
use Rattle.std.proofs.lemmas.List.{nil_from_length, length-map, length-take, take_all}
use Rattle.std.proofs.lemmas.Nat.{pow_pos}
use Rattle.qm_model.specs.Causes.{IsCause, Rose}
use Rattle.qm_model.specs.Families.{Births, IsFamily, HasPeaks}
use Rattle.qm_model.specs.Forms.{Form, decoded, spelling}
use Rattle.qm_model.specs.Grafted.{grafted_pins, pair_absorption_threshold}
use Rattle.qm_model.specs.Opening.{checks, commit_refusal, found, last_commit, count_in, first_refusal, floor_of, is_empty, is_unabsorbed, metadata_refusal, opening_refusal, pins_found, selected, size_of, when}
use Rattle.qm_model.specs.Opening as model
use Rattle.qm_model.specs.Operations.{Bytes, Operation, update, delete, commit, fresh}
use Rattle.qm_model.specs.Refused.{Corrupt, DataCorrupted, HistoricalFloorPruned, InvalidInitializationBound, PrunedPastBits}
use Rattle.qm_model.specs.Schemes.{Scheme, layout_of}
use Rattle.qm_model.specs.StoreModel.{Entry, Stored, Turns, appended, end_of, left_at, metadata_in, rest_of, rewound, settled, IsImage, ReadsAs}
use Rattle.qm_model.specs.Taken.{IsTaken, selected_size, taken, LeavesOpening}
use Rattle.qm_model.specs.Trees.{Shape, peaks}
use Rattle.qm_model.proofs.Results.{err-then}
use Rattle.qm_model.proofs.Stores.{cut-whole, end-appended, found-image, image-whole}
use Rattle.qm_base.specs.declared.error.Error.{Error}
use Rattle.qm_base.specs.declared.error.Error.TheVariants as errors
use Rattle.qm_base.specs.declared.error.JournalError.TheVariants as journal
use Rattle.qm_base.specs.declared.error.Corrupt.TheVariants as corrupt
use Rattle.qm_base.specs.Views.{corrupt_view}
use Rattle.qm_merkle.proofs.Standing.{peaks-none}
use Rattle.qm_graft.specs.Grafting.{grafting}
use Rattle.qm_store.specs.declared.Store as store
use Rattle.qm_store.specs.declared.refusal.Given.TheVariants as given
use Rattle.qm_store.specs.declared.refusal.Refusal.{Refusal}
use Rattle.qm_store.specs.Given.{store_given, IsUnchanged}
use Rattle.qm_store.specs.Log.{IsKept}
use Rattle.qm_store.specs.Refusals.{IsDue}
use Rattle.qm_pinned.specs.Metadata.{TellsWhy}
use Rattle.qm_pinned.proofs.Finding.{same-pins}
use Rattle.qm_offer.specs.Crashing.{FailsOpening, FailsSettling}
use Rattle.qm_open.specs.Selecting as selecting
use Rattle.qm_open.proofs.Checking.{each-known, known-at}
use Rattle.qm_any.specs.Applying as anys_applying
use Rattle.qm_any.specs.Databases as anys
use Rattle.qm_any.specs.Layouts.{Layout}
use Rattle.qm_any.specs.Offered as anys_offered
use Rattle.qm_any.specs.Opening.{OpensUpTo, pruned_view}
use Rattle.qm_any.proofs.Restoring.{refused-none}
use Rattle.qm_any.proofs.Taking.{fails-whole, leaves-whole, reads-rewound, turns-kept, turns-weaker, unchanged-behind}
use Rattle.qm_roots.specs.Canonical.{IsCanonical}
use Rattle.qm_current.specs.Applying.{store_in}
use Rattle.qm_current.specs.Databases.{Database}
use Rattle.qm_current.specs.Offered.{scheme_of}
use Rattle.qm_current.specs.Opening.{Counts, IsUnfit, Opens, is_early, is_past, lies, refusal_up_to}

-- Refusals.

-- if no reason is due none of them is
first-none : {A : Type 0} (r : Option A) (rs : List (Option A)) → first_refusal (r ∷ rs) ≡ None → (r ≡ None) × (first_refusal rs ≡ None)
first-none None rs is = (refl, is)
first-none (Some x) rs is = absurd (cc is)

third-and-last-two : {A : Type 0} (a b c d e f g h : Option A) (rest : List (Option A)) → first_refusal (a ∷ b ∷ c ∷ d ∷ e ∷ f ∷ g ∷ h ∷ rest) ≡ None → (c ≡ None) × (g ≡ None) × (h ≡ None)
third-and-last-two a b c d e f g h rest none =
    let third = first-none b (c ∷ d ∷ e ∷ f ∷ g ∷ h ∷ rest) (first-none a (b ∷ c ∷ d ∷ e ∷ f ∷ g ∷ h ∷ rest) none).1 in
    let fourth = first-none c (d ∷ e ∷ f ∷ g ∷ h ∷ rest) third.1 in
    let sixth = first-none e (f ∷ g ∷ h ∷ rest) (first-none d (e ∷ f ∷ g ∷ h ∷ rest) fourth.1).1 in
    let eighth = first-none g (h ∷ rest) (first-none f (g ∷ h ∷ rest) sixth.1).1 in
    (fourth.0, eighth.0, (first-none h rest eighth.1).0)

when-none : {A : Type 0} (b : Bool) (r : A) → when b r ≡ None → b ≡ false
when-none false r is = refl
when-none true r is = absurd (cc is)

module _ (form : Form) (shape : Shape) (digest_size chunk : ℕ) (name : Bytes) (bound : Option ℕ) (s : Stored) (count : ℕ) (threshold : Option ℕ) where
  abbrev lying : model.Layout
  lying = lies form shape digest_size chunk name

  abbrev finds : Option Corrupt → ℕ → model.Found
  finds wrong n = record { start = s.start; items = map (decoded form) s.items; head = s.head; metadata = wrong; count = n }

  -- if metadata is read, the rest is refused as of a store of which so many chunks are pruned
  pub due-same : metadata_refusal lying (metadata_in s.metadata name) ≡ None → count ≡ count_in (metadata_in s.metadata name)
      → refusal_up_to lying bound s ≡ selecting.refusal_up_to form shape digest_size (Some (pruned_view chunk (count, threshold))) bound s
  due-same readable is =
      ap (λ wrong. opening_refusal lying (finds wrong (count_in (metadata_in s.metadata name))) bound) readable
      ∙ ap (λ n. opening_refusal lying (finds None n) bound) (sym is)

  -- if it is not, by a bound that is no 0, that is why
  pub due-unread : (wrong : Corrupt) → option_map_or (λ n. n == 0) bound false ≡ false → metadata_refusal lying (metadata_in s.metadata name) ≡ Some wrong → refusal_up_to lying bound s ≡ Some (DataCorrupted wrong)
  due-unread wrong some is =
      ap (λ b. option_or (when b InvalidInitializationBound) (first_refusal (drop 1 (checks lying (finds (metadata_refusal lying (metadata_in s.metadata name)) (count_in (metadata_in s.metadata name))) bound)))) some
      ∙ ap (λ w. first_refusal (drop 1 (checks lying (finds w (count_in (metadata_in s.metadata name))) bound))) is

  pub due-told : (e : Error) → option_map_or (λ n. n == 0) bound false ≡ false → TellsWhy e (metadata_refusal lying (metadata_in s.metadata name)) → IsDue e (refusal_up_to lying bound s)
  due-told e some (inl memory) = subst (λ x. IsDue x (refusal_up_to lying bound s)) (sym memory) tt
  due-told e some (inr (c, is, why)) = subst (λ x. IsDue x (refusal_up_to lying bound s)) (sym is) (due-unread (corrupt_view c) some why)

  -- of a store that is not refused the start is not past the pruned chunks, and the list that is selected not before their end nor shorter
  -- than they wait for
  pub due-none : selecting.refusal_up_to form shape digest_size (Some (pruned_view chunk (count, threshold))) bound s ≡ None
      → (is_past chunk s.start count ≡ false) × (size_of (selected (finds None count) bound) ≡ 0 → count ≡ 0) × (is_early (pair_absorption_threshold shape (grafting chunk) count) (size_of (selected (finds None count) bound)) ≡ false)
  due-none none =
      let at = selected (finds None count) bound in
      let size = size_of at in
      let low = floor_of at in
      let bits = count * 2 ^ grafting chunk in
      let pruned = Some (pruned_view chunk (count, threshold)) in
      let lain = selecting.layout_of form shape digest_size pruned in
      let found_none = third-and-last-two (when (option_map_or (λ n. n == 0) bound false) InvalidInitializationBound) None (when (nat_lt size bits) (HistoricalFloorPruned size)) (option_map DataCorrupted (commit_refusal (is_empty (finds None count)) at))
      (when (nat_lt low s.start) (HistoricalFloorPruned size)) (when (nat_lt low bits) (HistoricalFloorPruned size)) (when (is_unabsorbed shape lain.chunks size count) (HistoricalFloorPruned size)) (when (is_past chunk s.start count) (DataCorrupted PrunedPastBits))
      (drop 8 (checks lain (finds None count) bound)) none in
      let all = ltb-false size bits (when-none (nat_lt size bits) (HistoricalFloorPruned size) found_none.0) in
      (when-none (is_past chunk s.start count) (DataCorrupted PrunedPastBits) found_none.2, (λ is. no-chunks count (omega (arith, all, is))), when-none (is_unabsorbed shape lain.chunks size count) (HistoricalFloorPruned size) found_none.1)
    where
      no-chunks : (n : ℕ) → n * 2 ^ grafting chunk ≤ 0 → n ≡ 0
      no-chunks zero few = refl
      no-chunks (suc n) few = let some = pow_pos (grafting chunk) in absurd (omega (arith, few, some))

-- What is read of metadata.

-- what was read is what it counts
pub counts-read : {P E : Type 0} (count : P → ℕ) (pins : P → List Bytes) (layout : model.Layout) (name : Bytes) (s : Stored) (entries : List Entry) (r : Result P E) → entries ≡ metadata_in s.metadata name → OnOk r (metadata_refusal layout entries ≡ None)
    → IfOk r (λ p. count p ≡ count_in entries) → IfOk r (λ p. pins_found layout.shape entries (count p) ≡ map (λ pin. Some pin) (pins p)) → IfOk r (λ p. Counts layout name s (count p) (pins p))
counts-read count pins layout name s entries (Err e) is readable counted found = tt
counts-read count pins layout name s entries (Ok p) is readable counted found = record {
  readable = subst (λ es. metadata_refusal layout es ≡ None) is readable;
  count_is = subst (λ es. count p ≡ count_in es) is counted;
  pins_are = subst (λ es. pins_found layout.shape es (count p) ≡ map (λ pin. Some pin) (pins p)) is found;
}

-- what is wrong with it is no fault of the store
pub untold-fault : {P X : Type 0} (r : Result P Error) (why : Option Corrupt) → IfErr r (λ e. TellsWhy e why) → r ≡ Err (errors.Journal journal.Store) → X
untold-fault (Ok p) why told is = absurd (cc is)
untold-fault (Err e) why (inl memory) is = absurd (cc (memory, is))
untold-fault (Err e) why (inr (c, wrong, due)) is = absurd (cc (wrong, is))

-- What is selected.

-- a commit is one of the items
last-within : (i : ℕ) (before : Option model.Selected) (items : List (Option Operation)) → size_of before ≤ i → size_of (last_commit i before items) ≤ i + length items
last-within i before [] low = omega (arith, low)
last-within i before (None ∷ rest) low = let more = last-within (suc i) before rest (omega (arith, low)) in omega (arith, more)
last-within i before (Some (update k v x) ∷ rest) low = let more = last-within (suc i) before rest (omega (arith, low)) in omega (arith, more)
last-within i before (Some (delete k) ∷ rest) low = let more = last-within (suc i) before rest (omega (arith, low)) in omega (arith, more)
last-within i before (Some (commit m f) ∷ rest) low = let more = last-within (suc i) (Some (record { size = suc i; floor = f })) rest (le_refl (suc i)) in omega (arith, more)

selected-within : (f : model.Found) (bound : Option ℕ) → size_of (selected f bound) ≤ f.start + length f.items
selected-within f None = last-within f.start None f.items (omega arith)
selected-within f (Some bound) = let few = last-within f.start None (take (bound - f.start) f.items) (omega arith) in omega (arith, few, length-take (bound - f.start) f.items)

-- a store has no fewer items after an opening than were selected
end-taken : (m : Scheme) (n : ℕ) (s : Stored) → n ≤ end_of s → n ≤ end_of (taken m n s)
end-taken m zero s within = omega arith
end-taken m (suc n) s within = omega (arith, within, length-take (suc n - s.start) s.items)

-- what is long enough stays so if it grows
longer : (threshold : Option ℕ) (n m : ℕ) → n ≤ m → is_early threshold n ≡ false → is_early threshold m ≡ true → ⊥
longer None n m up enough early = absurd (cc early)
longer (Some least) n m up enough early = let more = ltb-false n least enough in let less = ltb-true m least early in absurd (omega (arith, up, more, less))

-- Whether a grafted tree can be made.

-- a start that is not past the chunk after the pruned ones is below its end
pub start-within : (chunk start pruned h : ℕ) → 2 ^ h ≡ 8 * chunk → start / 2 ^ h ≤ pruned → start < suc pruned * (8 * chunk)
start-within chunk start pruned h span low = subst (λ k. start < suc pruned * k) span ((div-lt_iff_lt-mul (pow_pos h)).0 (omega (arith, low)))

-- a list that is not too short has the size that is waited for
pub short-waits : (o : Option ℕ) (n : ℕ) → option_map_or (λ least. nat_lt n least) o false ≡ false → (least : ℕ) → o ≡ Some least → least ≤ n
short-waits None n is least some = absurd (cc some)
short-waits (Some m) n is least some = let same : m ≡ least = cc some in omega (arith, ltb-false n m is, same)

-- What is taken up.

-- a store of which all was made stable reads as what a crash may leave
reads-settled : (s : Stored) → s.stable ≤ end_of s → ReadsAs s.stable (IsImage s) (settled s)
reads-settled s within = record {
  image = left_at (end_of s) s;
  left = image-whole s within;
  reads = ap {B = Stored} (λ items. record (settled s) { items = items }) (sym (cut-whole s));
  least_stable = within;
  within = le_refl (end_of s);
}

-- an opening that fails may leave what one makes that does not
pub leaves-taken : (m : Scheme) (n : ℕ) (s : Stored) → s.stable ≤ end_of s → LeavesOpening m n s (taken m n s)
leaves-taken m zero s within =
    let more = map (spelling m.form) fresh in
    record {
      count = length more;
      reads = ap {B = Stored} (λ (items : List Bytes). record (settled (appended more s)) { items = s.items ++ items }) (sym (take_all (length more) more (le_refl (length more))));
      least_stable = omega (arith, within, end-appended more s);
      within = λ _. le_refl (end_of (appended more s));
    }
leaves-taken m (suc n) s within =
    reads-rewound (suc n) s (settled (rewound (suc n) s)) (reads-settled (rewound (suc n) s) (omega (arith, within, length-take (suc n - s.start) s.items)))

-- what a commit leaves that came off, it may leave if it failed
fails-settled : (s : Stored) → s.stable ≤ end_of s → FailsSettling s (settled s)
fails-settled s within = record {
  now = reads-settled s within;
  notes = rest_of s ∷ [];
  past = refl;
  each = λ image may.
      let i = found-image s image may in
      let high = i.may.within in
      let low = i.may.stable in
      let stable = ap (λ (x : Stored). x.stable) i.same in
      record {
        image = record image { ends = s.ends };
        left = i;
        reads = refl;
        least_stable = omega (arith, low, stable);
        within = omega (arith, stable, high, ap (λ (x : Stored). x.start) i.same, ap (λ (x : Stored). length x.items) i.same, length-take (i.to - s.start) s.items);
      };
}

-- and so does an opening, whatever comes of it after the commit
pub fails-taken : (m : Scheme) (n : ℕ) (s : Stored) → s.stable ≤ end_of s → FailsOpening m n s (taken m n s)
fails-taken m zero s within = inr (fails-settled (appended (map (spelling m.form) fresh) s) (let more = end-appended (map (spelling m.form) fresh) s in omega (arith, within, more)))
fails-taken m (suc n) s within = inr (fails-settled (rewound (suc n) s) (omega (arith, within, length-take (suc n - s.start) s.items)))

module _ {D : Type 0} (layout : Layout D) (digest_size : ℕ) (name : Bytes) where
  abbrev current : Scheme
  current = scheme_of digest_size layout name

  abbrev plain : Scheme
  plain = anys_offered.scheme_of digest_size layout.hashing

  -- chunks make no other list of a store
  pub size-same : (bound : Option ℕ) (s : Stored) → selected_size current bound s ≡ selected_size plain bound s
  size-same None s = refl
  size-same (Some n) s = refl

  pub size-found : (bound : Option ℕ) (s : Stored) (count : ℕ) → selected_size current bound s ≡ size_of (selected (finds layout.hashing.form layout.hashing.shape digest_size layout.chunk name bound s count None None count) bound)
  size-found None s count = refl
  size-found (Some n) s count = refl

  pub taken-same : (n : ℕ) (s : Stored) → taken plain n s ≡ taken current n s
  taken-same zero s = refl
  taken-same (suc n) s = refl

  pub leaves-same : (n : ℕ) (s new : Stored) → LeavesOpening plain n s new → LeavesOpening current n s new
  leaves-same zero s new left = left
  leaves-same (suc n) s new left = left

  pub fails-same : (n : ℕ) (s new : Stored) → FailsOpening plain n s new → FailsOpening current n s new
  fails-same zero s new failed = failed
  fails-same (suc n) s new failed = failed

  pub list-same : (n : ℕ) (s : Stored) (list : List Operation) → IsTaken current s n list → IsTaken plain s n list
  list-same zero s list is = is
  list-same (suc n) s list is = let has = is.0 in (record { size_is = has.size_is; of = has.of; good = has.good; items = has.items; head = has.head; grafted = tt }, is.1)

  -- its metadata stays
  pub metadata-same : (n : ℕ) (s : Stored) → (taken current n s).metadata ≡ s.metadata
  metadata-same zero s = refl
  metadata-same (suc n) s = refl

  -- the pins that are read are those of the list
  pub pins-taken : (births : Births) → IsFamily layout.hashing.shape births → HasPeaks layout.hashing.shape → (n : ℕ) (s : Stored) (list : List Operation) (count : ℕ) (pins : List Bytes) → IsTaken current s n list
      → Counts (lies layout.hashing.form layout.hashing.shape digest_size layout.chunk name) name s count pins → length pins ≡ length (peaks layout.hashing.shape count) → (n ≡ 0 → count ≡ 0)
      → pins ≡ grafted_pins layout.hashing.hash layout.hashing.shape (grafting layout.chunk) layout.hashing.form list count
  pins-taken births family peaked zero s list count pins is counts whole none =
      let shape = layout.hashing.shape in
      let bare : length (peaks shape count) ≡ 0 = ap (λ c. length (peaks shape c)) (none refl) ∙ ap length (peaks-none shape births family peaked) in
      nil_from_length pins (whole ∙ bare) ∙ sym (nil_from_length (grafted_pins layout.hashing.hash shape (grafting layout.chunk) layout.hashing.form list count) (length-map (peaks shape count) _ ∙ bare))
  pins-taken births family peaked (suc n) s list count pins is counts whole none =
      let own = grafted_pins layout.hashing.hash layout.hashing.shape (grafting layout.chunk) layout.hashing.form list in
      same-pins pins (own count)
      (sym counts.pins_are ∙ subst (λ n. pins_found layout.hashing.shape (metadata_in s.metadata name) n ≡ map (λ pin. Some pin) (own n)) (sym counts.count_is) is.0.grafted)

-- what is told after a call, by what was told before
was-told : (o new : Option Stored) (R : Stored → Stored → Type 0) (t : Stored) → Turns o new R → new ≡ Some t → (s : Stored) × (o ≡ Some s) × R s t
was-told None new R t turns is = absurd (cc (turns, is))
was-told (Some s) None R t turns is = absurd turns
was-told (Some s) (Some u) R t turns is = let same : u ≡ t = cc in (s, refl, subst (R s) same turns)

turned : (o new : Option Stored) (f : Stored → Stored) (s : Stored) → Turns o new (λ s t. t ≡ f s) → o ≡ Some s → new ≡ Some (f s)
turned None new f s turns is = absurd (cc is)
turned (Some u) None f s turns is = absurd turns
turned (Some u) (Some t) f s turns is = let same : u ≡ s = cc in ap (λ x. Some x) (turns ∙ ap f same)

-- What comes of an opening.

module _ {C D : Type 0} (members : store.Ghosts C) (layout : Layout D) (digest_size : ℕ) (name : Bytes) (bound : Option ℕ) (number : ℕ) where
  abbrev Answer : Type 0
  Answer = Result (Database C D) (Refusal (Database C D) C)

  abbrev Comes : C → Answer → Type 0
  Comes = Opens members layout digest_size name bound number

  abbrev ours : Scheme
  ours = current layout digest_size name

  abbrev theirs : Scheme
  theirs = plain layout digest_size name

  abbrev ours_lie : model.Layout
  ours_lie = lies layout.hashing.form layout.hashing.shape digest_size layout.chunk name

  -- metadata was not read, or the bound was 0
  pub opens-unread : (old new : C) → IfSome (members.told old) (λ s. s.stable ≤ end_of s) → IsKept members old new → (e : Error) → IfSome (members.told old) (λ s. IsDue e (refusal_up_to ours_lie bound s)) → IsCause (members.faults old) (members.faults new) (e ≡ errors.Journal journal.Store)
      → Comes old (Err (record { given = given.Store new; error = e }))
  opens-unread old new stable kept e due cause = record {
    opened = each-known (members.told old) (λ s told list taken. tt);
    counted = tt;
    named = tt;
    numbered = tt;
    offered = each-known (members.told old) (λ s told. tt);
    became = tt;
    refused = due;
    unopened = each-known (members.told old) (λ s told some. record { start = kept.start; told = kept.told });
    left = turns-kept (members.told old) (members.told new) (λ s t. LeavesOpening ours (selected_size ours bound s) s t) kept.told (λ s told. leaves-whole ours (selected_size ours bound s) s (known-at (λ s. s.stable ≤ end_of s) (members.told old) s told stable));
    failed = turns-kept (members.told old) (members.told new) (λ s. FailsOpening ours (selected_size ours bound s) s) kept.told (λ s told. fails-whole ours (selected_size ours bound s) s (known-at (λ s. s.stable ≤ end_of s) (members.told old) s told stable));
    start = kept.start;
    cause = cause.failed;
    later = cause.later;
    back = λ x is. absurd (cc is);
  }

  -- the store was only read before
  pub opens-behind : (first middle : C) → IsKept members first middle → members.faults first ≤ members.faults middle → (r : Answer) → Comes middle r → Comes first r
  opens-behind first middle kept later r is = record {
    opened = each-known (members.told first) (λ s told list taken. known-at _ (members.told middle) s (kept.told ∙ told) is.opened list taken);
    counted = is.counted;
    named = is.named;
    numbered = is.numbered;
    offered = each-known (members.told first) (λ s told. known-at _ (members.told middle) s (kept.told ∙ told) is.offered);
    became = subst (λ o. IfOk r (λ x. Turns o (members.told (store_in x)) (λ s new. new ≡ taken ours (selected_size ours bound s) s))) kept.told is.became;
    refused = each-known (members.told first) (λ s told. known-at _ (members.told middle) s (kept.told ∙ told) is.refused);
    unopened = err-then r is.unopened (λ e unopened. each-known (members.told first) (λ s told some. unchanged-behind members first middle (store_given store_in e.given) kept (known-at _ (members.told middle) s (kept.told ∙ told) unopened some)));
    left = subst (λ o. IfErr r (λ e. Turns o (members.told (store_given store_in e.given)) (λ s new. LeavesOpening ours (selected_size ours bound s) s new))) kept.told is.left;
    failed = subst (λ o. IfErr r (λ e. Turns o (members.told (store_given store_in e.given)) (λ s. FailsOpening ours (selected_size ours bound s) s))) kept.told is.failed;
    start = is.start ∙ kept.start;
    cause = err-then r is.cause (λ e rose fault. rose-later (members.faults first) (members.faults middle) (members.faults (store_given store_in e.given)) later (rose fault));
    later = le_trans later is.later;
    back = is.back;
  }
    where
      rose-later : (a b c : ℕ) → a ≤ b → Rose b c → Rose a c
      rose-later a b c low rose = omega (arith, low, rose)

  module _ (old : C) (stable : IfSome (members.told old) (λ s. s.stable ≤ end_of s)) (count : ℕ) (threshold : Option ℕ) (pins : List Bytes) (counts : IfSome (members.told old) (λ s. Counts ours_lie name s count pins)) where
    abbrev Found : Result (anys.Database C D) (Refusal (anys.Database C D) C) → Type 0
    Found = OpensUpTo members layout digest_size (Some (pruned_view layout.chunk (count, threshold))) bound old

    due : (s : Stored) → members.told old ≡ Some s → refusal_up_to ours_lie bound s ≡ selecting.refusal_up_to layout.hashing.form layout.hashing.shape digest_size (Some (pruned_view layout.chunk (count, threshold))) bound s
    due s told = let is = known-at _ (members.told old) s told counts in due-same layout.hashing.form layout.hashing.shape digest_size layout.chunk name bound s count threshold is.readable is.count_is

    -- the any database was refused
    pub opens-refused : (r : Refusal (anys.Database C D) C) (c : C) → c ≡ store_given anys_applying.store_in r.given → Found (Err r) → Comes old (Err (record { given = given.Store c; error = r.error }))
    opens-refused r c same is =
        let back = is.back in
        let back_is : c ≡ back.0 = same ∙ ap (store_given anys_applying.store_in) back.1 in
        record {
          opened = each-known (members.told old) (λ s told list taken. tt);
          counted = tt;
          named = tt;
          numbered = tt;
          offered = each-known (members.told old) (λ s told. tt);
          became = tt;
          refused = each-known (members.told old) (λ s told. subst (IsDue r.error) (sym (due s told)) (known-at _ (members.told old) s told is.refused));
          unopened = each-known (members.told old) (λ s told some. subst (IsUnchanged members old) (sym same) (known-at _ (members.told old) s told is.unopened (subst IsSome (due s told) some)));
          left = subst (λ x. Turns (members.told old) (members.told x) (λ s new. LeavesOpening ours (selected_size ours bound s) s new)) (sym same)
              (turns-weaker (members.told old) (members.told (store_given anys_applying.store_in r.given)) (λ s t. LeavesOpening theirs (selected_size theirs bound s) s t) (λ s t. LeavesOpening ours (selected_size ours bound s) s t)
              (λ s t told left. subst (λ n. LeavesOpening ours n s t) (sym (size-same layout digest_size name bound s)) (leaves-same layout digest_size name (selected_size theirs bound s) s t left)) is.left);
          failed = subst (λ x. Turns (members.told old) (members.told x) (λ s. FailsOpening ours (selected_size ours bound s) s)) (sym same)
              (turns-weaker (members.told old) (members.told (store_given anys_applying.store_in r.given)) (λ s. FailsOpening theirs (selected_size theirs bound s) s) (λ s. FailsOpening ours (selected_size ours bound s) s)
              (λ s t told failed. subst (λ n. FailsOpening ours n s t) (sym (size-same layout digest_size name bound s)) (fails-same layout digest_size name (selected_size theirs bound s) s t failed)) is.failed);
          start = ap members.start back_is ∙ back.2;
          cause = λ fault. subst (λ x. Rose (members.faults old) (members.faults x)) (sym back_is) (back.4.failed fault);
          later = subst (λ x. members.faults old ≤ members.faults x) (sym back_is) back.4.later;
          back = λ x is. absurd (cc is);
        }

    module _ (births : Births) (family : IsFamily layout.hashing.shape births) (peaked : HasPeaks layout.hashing.shape) (whole : length pins ≡ length (peaks layout.hashing.shape count)) (starts : IfSome (members.told old) (λ s. s.start ≡ members.start old))
        (any : anys.Database C D) (is : Found (Ok any)) (ends : IfSome (members.told any.log.store) (λ t. end_of t ≡ members.«end» any.log.store)) (waits : threshold ≡ pair_absorption_threshold layout.hashing.shape (grafting layout.chunk) count) where
      -- what it became
      made : (s t : Stored) → t ≡ taken theirs (selected_size theirs bound s) s → t ≡ taken ours (selected_size ours bound s) s
      made s t is = is ∙ taken-same layout digest_size name (selected_size theirs bound s) s ∙ ap (λ n. taken ours n s) (sym (size-same layout digest_size name bound s))

      accepted : (s : Stored) → members.told old ≡ Some s → refusal_up_to ours_lie bound s ≡ None
      accepted s told = due s told ∙ known-at _ (members.told old) s told is.offered

      judged : (s : Stored) → members.told old ≡ Some s
          → (is_past layout.chunk s.start count ≡ false) × (selected_size ours bound s ≡ 0 → count ≡ 0) × (is_early (pair_absorption_threshold layout.hashing.shape (grafting layout.chunk) count) (selected_size theirs bound s) ≡ false)
      judged s told =
          let all = due-none layout.hashing.form layout.hashing.shape digest_size layout.chunk name bound s count threshold (known-at _ (members.told old) s told is.offered) in
          let size = size-found layout digest_size name bound s count in
          (all.0, (λ none. all.1 (sym size ∙ none)), subst (λ n. is_early (pair_absorption_threshold layout.hashing.shape (grafting layout.chunk) count) n ≡ false) (sym size ∙ size-same layout digest_size name bound s) all.2)

      -- the list that was selected is no longer than the one that is taken up
      taken-within : (s : Stored) → members.told old ≡ Some s → selected_size theirs bound s ≤ members.«end» any.log.store
      taken-within s told =
          let few = selected-within (found (layout_of theirs) s) bound in
          let up = end-taken theirs (selected_size theirs bound s) s (omega (arith, few, length-map s.items (decoded layout.hashing.form))) in
          let now = turned (members.told old) (members.told any.log.store) (λ s. taken theirs (selected_size theirs bound s) s) s is.became told in
          subst (λ n. selected_size theirs bound s ≤ n) (known-at (λ t. end_of t ≡ members.«end» any.log.store) (members.told any.log.store) (taken theirs (selected_size theirs bound s) s) now ends) up

      -- why no grafted tree was made over it
      abbrev Gone : Error → Type 0
      Gone e = (e ≡ errors.Memory) ⊎ IsUnfit e layout.chunk threshold (members.start any.log.store) (members.«end» any.log.store) any.activity.pruned

      -- the grafted tree was made over it, or memory lacked; what else may be refused was not
      pub opens-joined : (r : Answer) → IfOk r (λ x. (x.any ≡ any) × (x.instance ≡ number) × (x.name ≡ name))
          → ((list : List Operation) → anys.IsDatabase members layout any list → pins ≡ grafted_pins layout.hashing.hash layout.hashing.shape (grafting layout.chunk) layout.hashing.form list any.activity.pruned
          → IfOk r (λ x. IsCanonical layout.hashing.bytes layout.hashing.hash layout.hashing.shape layout.chunk layout.hashing.form x.canonical list))
          → IfErr r (λ e. (e.given ≡ given.Store any.log.store) × Gone e.error)
          → Comes old r
      opens-joined (Ok x) by canonical gone = record {
        opened = each-known (members.told old) (λ s told list taken.
            let stands = known-at _ (members.told old) s told is.opened list (subst (λ n. IsTaken theirs s n list) (size-same layout digest_size name bound s) (list-same layout digest_size name (selected_size ours bound s) s list taken)) in
            let pins_are = pins-taken layout digest_size name births family peaked (selected_size ours bound s) s list count pins taken (known-at _ (members.told old) s told counts) whole (judged s told).1 in
            record {
              any = subst (λ d. anys.IsDatabase members layout d list) (sym by.0) stands;
              canonical = canonical list stands (subst (λ n. pins ≡ grafted_pins layout.hashing.hash layout.hashing.shape (grafting layout.chunk) layout.hashing.form list n) (sym is.pruned) pins_are);
            });
        counted = each-known (members.told (store_in x)) (λ t now.
            let was = was-told (members.told old) (members.told any.log.store) (λ s t. t ≡ taken theirs (selected_size theirs bound s) s) t is.became (ap (λ (d : anys.Database C D). members.told d.log.store) (sym by.0) ∙ now) in
            let same : t.metadata ≡ was.0.metadata = ap (λ (u : Stored). u.metadata) (made was.0 t was.2) ∙ metadata-same layout digest_size name (selected_size ours bound was.0) was.0 in
            let told = known-at _ (members.told old) was.0 was.1 counts in
            ap₂ (λ m n. count_in (metadata_in m n)) same by.2 ∙ sym told.count_is ∙ sym is.pruned ∙ ap (λ (d : anys.Database C D). d.activity.pruned) (sym by.0));
        named = by.2;
        numbered = by.1;
        offered = each-known (members.told old) accepted;
        became = subst (λ (d : anys.Database C D). Turns (members.told old) (members.told d.log.store) (λ s new. new ≡ taken ours (selected_size ours bound s) s)) (sym by.0)
            (turns-weaker (members.told old) (members.told any.log.store) (λ s t. t ≡ taken theirs (selected_size theirs bound s) s) (λ s t. t ≡ taken ours (selected_size ours bound s) s) (λ s t told. made s t) is.became);
        refused = each-known (members.told old) (λ s told. tt);
        unopened = tt;
        left = tt;
        failed = tt;
        start = ap (λ (d : anys.Database C D). members.start d.log.store) by.0 ∙ is.start;
        cause = tt;
        later = subst (λ (d : anys.Database C D). members.faults old ≤ members.faults d.log.store) (sym by.0) is.later;
        back = tt;
      }
      opens-joined (Err e) by canonical gone = record {
        opened = each-known (members.told old) (λ s told list taken. tt);
        counted = tt;
        named = tt;
        numbered = tt;
        offered = each-known (members.told old) (λ s told. tt);
        became = tt;
        refused = each-known (members.told old) (λ s told. memory-due s told gone.1);
        unopened = each-known (members.told old) (λ s told some. absurd (refused-none _ (accepted s told) some));
        left = subst (λ g. Turns (members.told old) (members.told (store_given store_in g)) (λ s new. LeavesOpening ours (selected_size ours bound s) s new)) (sym gone.0)
            (turns-weaker (members.told old) (members.told any.log.store) (λ s t. t ≡ taken theirs (selected_size theirs bound s) s) (λ s t. LeavesOpening ours (selected_size ours bound s) s t)
            (λ s t told is. subst (LeavesOpening ours (selected_size ours bound s) s) (sym (made s t is)) (leaves-taken ours (selected_size ours bound s) s (known-at (λ s. s.stable ≤ end_of s) (members.told old) s told stable))) is.became);
        failed = subst (λ g. Turns (members.told old) (members.told (store_given store_in g)) (λ s. FailsOpening ours (selected_size ours bound s) s)) (sym gone.0)
            (turns-weaker (members.told old) (members.told any.log.store) (λ s t. t ≡ taken theirs (selected_size theirs bound s) s) (λ s. FailsOpening ours (selected_size ours bound s) s)
            (λ s t told is. subst (FailsOpening ours (selected_size ours bound s) s) (sym (made s t is)) (fails-taken ours (selected_size ours bound s) s (known-at (λ s. s.stable ≤ end_of s) (members.told old) s told stable))) is.became);
        start = ap (λ g. members.start (store_given store_in g)) gone.0 ∙ is.start;
        cause = λ fault. no-fault fault gone.1;
        later = subst (λ g. members.faults old ≤ members.faults (store_given store_in g)) (sym gone.0) is.later;
        back = λ x given. absurd (cc (gone.0, given));
      }
        where
          memory-due : (s : Stored) → members.told old ≡ Some s → Gone e.error → IsDue e.error (refusal_up_to ours_lie bound s)
          memory-due s told (inl memory) = subst (λ x. IsDue x (refusal_up_to ours_lie bound s)) (sym memory) tt
          memory-due s told (inr (inr (is_short, early))) =
              absurd (longer threshold (selected_size theirs bound s) (members.«end» any.log.store) (taken-within s told) (ap (λ o. is_early o (selected_size theirs bound s)) waits ∙ (judged s told).2) early)
          memory-due s told (inr (inl (is_past_bits, past))) =
              let from : members.start any.log.store ≡ s.start = is.start ∙ sym (known-at _ (members.told old) s told starts) in
              let no : true ≡ false = sym past ∙ ap₂ (is_past layout.chunk) from is.pruned ∙ (judged s told).0 in
              absurd (cc no)

          no-fault : {X : Type 0} → e.error ≡ errors.Journal journal.Store → Gone e.error → X
          no-fault fault (inl memory) = absurd (cc (fault, memory))
          no-fault fault (inr (inl (other, past))) = absurd (cc (fault, other))
          no-fault fault (inr (inr (other, early))) = absurd (cc (fault, other))
