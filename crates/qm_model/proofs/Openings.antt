-- What an opening of an own store takes up, and what a crash leaves of one.
use Rattle.std.proofs.Common.{◌≡◌, ◌⊎◌, inl, inr, ℕ, suc, zero, ◌+◌, ◌-◌, ◌<◌, ◌≤◌, Bool, true, false, List, [], ◌∷◌, ◌++◌, length, take, drop, map, refl, sym, ap, ◌∙◌, Option, Some, None, subst, arith, take_all, length-take-le, length-drop, le_refl, ◌/◌}
use Rattle.std.specs.Prelude.{nat_lt, ◌||◌, is_some, if◌then◌else◌, not, filter_map, ◌*◌, is_none, ◌^◌, ◌==◌, ◌&&◌, unwrap_or, slice_index_or, option_map, IfSome}
use native.Mathlib.Nat.{zero-div}
use Rattle.std.specs.Prelude.{All}
use Rattle.std.proofs.lemmas.Nat.{mul-le, pow_pos}
use Rattle.qm_model.proofs.GraftedLemmas.{boundary_most, prunable_needed}
use Rattle.qm_model.proofs.KeyOrder.{successor-some}
use Rattle.qm_model.specs.Opening.{is_ring, is_link, same_key, items_between, is_past_bits, is_unabsorbed, pruned_bits}
use Rattle.std.specs.List.{concat, list_any, list_all, cons_option, AllByRecursion as Each}
use Rattle.std.specs.Option.{option_or}
use Rattle.std.proofs.Math.Nat.{le_trans}
use Rattle.std.proofs.Math.Seq.{take-add, take-length}
use Rattle.std.proofs.lemmas.Option.{none-some}
use Rattle.std.proofs.lemmas.Bool.{ltb-false, eqb-true, le-ltb, eq-eqb, cases_lt}
use Rattle.std.proofs.lemmas.List.{take-append-drop, drop-drop, take-map, drop-take, length-map, length-take}
use Rattle.std.proofs.lemmas.List.Elements.{All-nil, All-drop, All-take, All-from_recursion, recursion_from_All}
use Rattle.qm_model.specs.Operations.{Bytes, Operation, update, delete, commit, fresh, IsCommitEnded, eight_bytes}
use Rattle.qm_model.specs.Forms.{Form, IsOf, spelling, decoded, number_of_eight}
use Rattle.qm_model.specs.Live.{Live, live, live_keys, live_from, touched, floor, floor_after}
use Rattle.qm_model.specs.Keys.{successor, contains_key}
use Rattle.qm_model.proofs.LastWrites.{bytes_same}
use Rattle.qm_model.proofs.Floors.{live_from-front}
use Rattle.std.specs.Option.{option_map_or}
use Rattle.qm_model.specs.Trees.{Shape, peaks, digest_of, leaves_from}
use Rattle.qm_model.specs.Grafted.{boundary, chunk_of, value_over, chunk_node, needed_size, pair_absorption_threshold, prunable_chunks}
use Rattle.qm_model.specs.Refused.{Refused, HistoricalFloorPruned, DataCorrupted, FloorExceedsCommit, HeadDoesNotMatch, ItemDoesNotDecode, LinksFormNoRing, CountNotValid, CountTooLarge, MissingPin, InvalidPin, PrunedPastBits}
use Rattle.qm_model.specs.Proofs.{pins_at}
use Rattle.qm_model.specs.Walk.{Rules}
use Rattle.qm_model.specs.Step.{IsOrderedGood, Kind, unordered, ordered, Made, first, next, walk_after, IsGood}
use Rattle.qm_model.specs.Batches.{Begins}
use Rattle.qm_model.specs.StoreModel.{Stored, empty, IsImage, end_of}
use Rattle.qm_model.specs.Opening.{Chunks, Layout, Selected, is_unabsorbed, Opening, refuses, opens, commit_at, last_commit, below_bound, selected, size_of, floor_of, is_empty, when, first_refusal, is_wrong_size, pruned_bits, pins_found, numbered_pins, commit_refusal, checks, opening_refusal, opening_of, opened_list, found, found_with}
use Rattle.qm_model.specs.Own.{ArePrompt, Engine, OpensWhole, head_of, settled_list, any_engine, Log, no_log, ArePruned, taken_up, left_at, ended_size, ended_part, MetadataIs, IsStored, IsPartMade, IsKept, IsOwn, found_in, Takes, OpensParts, NeedsRise}
use Rattle.qm_model.proofs.Forms.{decoded-spelling}
use Rattle.qm_model.proofs.Chains.{take-least, Begins-self, Begins-length, Begins-through}
use Rattle.qm_model.proofs.Steps.{made-good}
use Rattle.qm_model.proofs.OrderedSteps.{made-ordered}
use Rattle.qm_model.proofs.Boundaries.{boundary-rises, may-go}
use Rattle.qm_model.proofs.Prefixes.{unordered-begins, ordered-begins}

-- What an opening finds.

read_all : (form : Form) (ops : List Operation) → Each (IsOf form) ops → map (decoded form) (map (spelling form) ops) ≡ map (λ op. Some op) ops
read_all form [] each = refl
read_all form (op ∷ ops) (is, each) = ap (λ o. o ∷ map (decoded form) (map (spelling form) ops)) (decoded-spelling form op is) ∙ ap (λ os. Some op ∷ os) (read_all form ops each)

module _ {P : Type 0} (e : Engine P) where
  items_read : (log : Log) (s : Stored) → IsOwn e log s → map (decoded e.layout.form) s.items ≡ map (λ op. Some op) (drop log.start log.list)
  items_read log s own =
      let each = recursion_from_All (IsOf e.layout.form) (drop log.start log.list) (All-drop (IsOf e.layout.form) log.start log.list own.kept.made.of_form) in
      ap (map (decoded e.layout.form)) own.stored.items ∙ read_all e.layout.form (drop log.start log.list) each

  found_alike : (chunks : Option Chunks) (log : Log) (s : Stored) → IsOwn e log s → MetadataIs e chunks log s → found_with e.layout s chunks ≡ found_in e log
  found_alike None log s own is =
      λ i. record { start = own.stored.start i; items = items_read log s own i; head = own.stored.head i; metadata = None; count = sym is i }
  found_alike (Some c) log s own is =
      λ i. record { start = own.stored.start i; items = items_read log s own i; head = own.stored.head i; metadata = is.readable i; count = is.count i }

  pub opens-alike : (log : Log) (s : Stored) → IsOwn e log s → found e.layout s ≡ found_in e log
  opens-alike log s own = found_alike e.layout.chunks log s own own.stored.metadata

-- The empty store.

-- metadata without a pruned chunk, and without pins, is read
read_without : (bits size : ℕ) (pins : List (Option Bytes)) → bits ≡ 0 → pins ≡ []
    → first_refusal (when false CountNotValid ∷ when (nat_lt (2 ^ 62) bits) CountTooLarge ∷ when (list_any is_none pins) MissingPin ∷ when (list_any (is_wrong_size size) pins) InvalidPin ∷ []) ≡ None
read_without bits size pins none bare =
    ap (λ n. first_refusal (when false CountNotValid ∷ when (nat_lt (2 ^ 62) n) CountTooLarge ∷ when (list_any is_none pins) MissingPin ∷ when (list_any (is_wrong_size size) pins) InvalidPin ∷ [])) none
    ∙ ap (λ ps. first_refusal (None ∷ None ∷ when (list_any is_none ps) MissingPin ∷ when (list_any (is_wrong_size size) ps) InvalidPin ∷ [])) bare

no_bits : (chunks : Option Chunks) → pruned_bits chunks 0 ≡ 0
no_bits None = refl
no_bits (Some c) = omega arith

module _ {P : Type 0} (e : Engine P) (bare : peaks e.layout.shape 0 ≡ []) where
  empty-metadata : (chunks : Option Chunks) → MetadataIs e chunks no_log empty
  unfolding eight_bytes number_of_eight
  empty-metadata None = refl
  empty-metadata (Some c) = record {
    readable = read_without (pruned_bits e.layout.chunks 0) e.layout.digest_size (pins_found e.layout.shape [] 0) (no_bits e.layout.chunks) (ap (numbered_pins [] 0) bare);
    count = refl;
    pins = ap (numbered_pins [] 0) bare ∙ sym (ap (λ ps. map (λ (pin : Bytes). Some pin) (map (λ p. value_over e.hash e.layout.shape c.height (leaves_from e.hash e.layout.shape e.layout.form 0 []) (chunk_of c.height []) p.height p.index) ps)) bare);
  }

  empty-pruned : (chunks : Option Chunks) → ArePruned e chunks no_log
  empty-pruned None = tt
  empty-pruned (Some c) = (omega (arith, zero-div (2 ^ c.height)), omega arith)

  pub empty-own : IsOwn e no_log empty
  empty-own = record {
    stored = record {
      start = refl;
      items = refl;
      head = sym (ap (λ ps. concat (map (digest_of e.hash e.layout.shape (leaves_from e.hash e.layout.shape e.layout.form 0 [])) ps)) bare);
      metadata = empty-metadata e.layout.chunks;
      stable = refl;
    };
    kept = record {
      made = record { whole = fresh; made = first; begins = refl; of_form = All-nil (IsOf e.layout.form) };
      start = le_refl 0;
      stable = le_refl 0;
      chunks = empty-pruned e.layout.chunks;
    };
  }

-- The last commit.

-- the last commit of items from location i on: the one before them, or one of theirs, at which they are cut
abbrev Last : ℕ → Option Selected → List Operation → Selected → Type 0
Last i before ops c =
    (before ≡ Some c) ⊎ ((n : ℕ) × (c.size ≡ i + suc n) × (suc n ≤ length ops) × ((f : ℕ) → floor_after f (take (suc n) ops) ≡ c.floor) × IsCommitEnded (take (suc n) ops))

ended_on : (op : Operation) (n : ℕ) (rest : List Operation) → suc n ≤ length rest → IsCommitEnded (take (suc n) rest) → IsCommitEnded (op ∷ take (suc n) rest)
ended_on op n [] less ended = absurd (omega (arith, less))
ended_on op n (r ∷ rest) less ended = ended

onto : (i : ℕ) (before : Option Selected) (op : Operation) (rest : List Operation) (c : Selected) → Last (suc i) (option_or (commit_at i (Some op)) before) rest c → Last i before (op ∷ rest) c
onto i before (update k v x) rest c (inl e) = inl e
onto i before (delete k) rest c (inl e) = inl e
onto i before (commit m g) rest c (inl e) =
    let same = ap (λ o. unwrap_or o c) e in
    inr (0, sym (ap (λ s. s.size) same) ∙ omega arith, omega arith, λ f. ap (λ s. s.floor) same, tt)
onto i before (update k v x) rest c (inr (n, size, less, fl, ended)) = inr (suc n, size ∙ omega arith, omega (arith, less), fl, ended_on (update k v x) n rest less ended)
onto i before (delete k) rest c (inr (n, size, less, fl, ended)) = inr (suc n, size ∙ omega arith, omega (arith, less), fl, ended_on (delete k) n rest less ended)
onto i before (commit m g) rest c (inr (n, size, less, fl, ended)) = inr (suc n, size ∙ omega arith, omega (arith, less), λ f. fl g, ended_on (commit m g) n rest less ended)

last : (i : ℕ) (before : Option Selected) (ops : List Operation) (c : Selected) → last_commit i before (map (λ op. Some op) ops) ≡ Some c → Last i before ops c
last i before [] c e = inl e
last i before (op ∷ rest) c e = onto i before op rest c (last (suc i) (option_or (commit_at i (Some op)) before) rest c e)

-- it is not before the one before
later : (i : ℕ) (before : Option Selected) (ops : List Operation) → size_of before ≤ i → size_of before ≤ size_of (last_commit i before (map (λ op. Some op) ops))
later i before [] low = le_refl (size_of before)
later i before (update k v x ∷ rest) low = later (suc i) before rest (omega (arith, low))
later i before (delete k ∷ rest) low = later (suc i) before rest (omega (arith, low))
later i before (commit m g ∷ rest) low = let up = later (suc i) (Some (record { size = suc i; floor = g })) rest (le_refl (suc i)) in omega (arith, low, up)

-- nor before any at which the items can be cut
longest : (i n : ℕ) (before : Option Selected) (ops : List Operation) → size_of before ≤ i → suc n ≤ length ops → IsCommitEnded (take (suc n) ops) → i + suc n ≤ size_of (last_commit i before (map (λ op. Some op) ops))
longest i n before [] low less ended = absurd (omega (arith, less))
longest i zero before (update k v x ∷ rest) low less ended = absurd ended
longest i zero before (delete k ∷ rest) low less ended = absurd ended
longest i zero before (commit m g ∷ rest) low less ended =
    let up = later (suc i) (Some (record { size = suc i; floor = g })) rest (le_refl (suc i)) in
    omega (arith, up)
longest i (suc n) before (op ∷ []) low less ended = absurd (omega (arith, less))
longest i (suc n) before (update k v x ∷ y ∷ rest) low less ended = let up = longest (suc i) n before (y ∷ rest) (omega (arith, low)) (omega (arith, less)) ended in omega (arith, up)
longest i (suc n) before (delete k ∷ y ∷ rest) low less ended = let up = longest (suc i) n before (y ∷ rest) (omega (arith, low)) (omega (arith, less)) ended in omega (arith, up)
longest i (suc n) before (commit m g ∷ y ∷ rest) low less ended =
    let up = longest (suc i) n (Some (record { size = suc i; floor = g })) (y ∷ rest) (le_refl (suc i)) (omega (arith, less)) ended in omega (arith, up)

-- The longest beginning that ends with a commit.

-- it is none, or one
abbrev pub IsPart : List Operation → ℕ → Type 0
IsPart ops n = (n ≡ 0) ⊎ ((0 < n) × (n ≤ length ops) × IsCommitEnded (take n ops))

part_of : (ops : List Operation) (at : Option Selected) → last_commit 0 None (map (λ op. Some op) ops) ≡ at → IsPart ops (size_of at)
part_of ops None is = inl refl
part_of ops (Some c) is = of (last 0 None ops c is)
  where
    of : Last 0 None ops c → IsPart ops c.size
    of (inl e) = absurd (none-some c e)
    of (inr (n, size, less, fl, ended)) = let is : c.size ≡ suc n = omega (arith, size) in inr (omega (arith, is), omega (arith, is, less), subst (λ k. IsCommitEnded (take k ops)) (sym is) ended)

pub ended-part : (ops : List Operation) → IsPart ops (ended_size ops)
ended-part ops = part_of ops (last_commit 0 None (map (λ op. Some op) ops)) refl

pub ended-longest : (ops : List Operation) (n : ℕ) → n ≤ length ops → IsCommitEnded (take n ops) → n ≤ ended_size ops
ended-longest ops zero less ended = omega arith
ended-longest ops (suc n) less ended = let up = longest 0 n None ops (le_refl 0) less ended in omega (arith, up)

-- a commit-ended list is the longest one of its own
pub ended-whole : (ops : List Operation) → IsCommitEnded ops → ended_part ops ≡ ops
ended-whole ops ended = take_all (ended_size ops) ops (ended-longest ops (length ops) (le_refl (length ops)) (subst IsCommitEnded (sym (take-length ops)) ended))

pub begins_take : (n : ℕ) (xs : List Operation) → Begins (take n xs) xs
begins_take zero xs = refl
begins_take (suc n) [] = refl
begins_take (suc n) (x ∷ xs) = ap (λ ys. x ∷ ys) (begins_take n xs)

-- a shorter beginning begins a longer one
pub begins_both : (a b : ℕ) (xs : List Operation) → a ≤ b → Begins (take a xs) (take b xs)
begins_both a b xs low = subst (λ ys. Begins ys (take b xs)) (take-least a b xs low) (begins_take a (take b xs))

-- Settled lists of made ones.

-- the commit-ended beginnings of a kind's made lists are made, and their floors don't fall and are inside
pub record Keeps {P : Type 0} (kind : Kind) (rules : Rules P) : Type 0 where
  pub begins : (prefix ops : List Operation) → Made kind rules ops → Begins prefix ops → IsCommitEnded prefix → Made kind rules prefix × (floor prefix ≤ floor ops)
  pub within : (ops : List Operation) → Made kind rules ops → floor ops < length ops
  pub good : (ops : List Operation) → Made kind rules ops → IsGood ops

pub unordered-keeps : {P : Type 0} (rules : Rules P) → Keeps unordered rules
unordered-keeps rules = record { begins = unordered-begins rules; within = λ ops made. (made-good rules ops made).floor_within; good = λ ops made. made-good rules ops made }

pub ordered-keeps : {P : Type 0} (rules : Rules P) → Keeps ordered rules
ordered-keeps rules = record { begins = ordered-begins rules; within = λ ops made. (made-ordered rules ops made).good.floor_within; good = λ ops made. (made-ordered rules ops made).good }

-- a list without a commit has the floor 0
pub no_floor : (ops : List Operation) (n : ℕ) → n ≡ 0 → floor (take n ops) ≡ 0
no_floor ops n z = ap (λ k. floor (take k ops)) z

module _ {P : Type 0} {kind : Kind} {rules : Rules P} (keeps : Keeps kind rules) where
  floor-within : (part whole : List Operation) → Made kind rules whole → Begins part whole → floor (ended_part part) ≤ length part
  floor-within part whole made begins = cases (ended-part part)
    where
      cases : IsPart part (ended_size part) → floor (ended_part part) ≤ length part
      cases (inl z) = let none = no_floor part (ended_size part) z in omega (arith, none)
      cases (inr (some, less, ended)) =
          let is_made = (keeps.begins (ended_part part) whole made (Begins-through (ended_part part) part whole (begins_take (ended_size part) part) begins) ended).0 in
          let low = keeps.within (ended_part part) is_made in
          omega (arith, low, less, length-take-le (ended_size part) part less)

  pub floor-rises : (xs ys whole : List Operation) → Made kind rules whole → Begins xs ys → Begins ys whole → floor (ended_part xs) ≤ floor (ended_part ys)
  floor-rises xs ys whole made front begins = cases (ended-part xs) (ended-part ys)
    where
      n : ℕ
      n = ended_size xs

      cases : IsPart xs (ended_size xs) → IsPart ys (ended_size ys) → floor (ended_part xs) ≤ floor (ended_part ys)
      cases (inl z) other = let none = no_floor xs (ended_size xs) z in omega (arith, none)
      cases (inr (some, less, ended)) other =
          let same : take n xs ≡ take n ys = ap (take n) (sym front) ∙ take-least n (length xs) ys less in
          let up : n ≤ ended_size ys = ended-longest ys n (le_trans less (Begins-length xs ys front)) (subst IsCommitEnded same ended) in
          subst (λ t. floor t ≤ floor (ended_part ys)) (sym same) (next up other)
        where
          next : ended_size xs ≤ ended_size ys → IsPart ys (ended_size ys) → floor (take (ended_size xs) ys) ≤ floor (ended_part ys)
          next up (inl z) = absurd (omega (arith, up, z, some))
          next up (inr (more, inside, last_is)) =
              let same : take n xs ≡ take n ys = ap (take n) (sym front) ∙ take-least n (length xs) ys less in
              let is_made = (keeps.begins (ended_part ys) whole made (Begins-through (ended_part ys) ys whole (begins_take (ended_size ys) ys) begins) last_is).0 in
              (keeps.begins (take n ys) (ended_part ys) is_made (begins_both n (ended_size ys) ys up) (subst IsCommitEnded same ended)).1

-- The checks, one after another.

passes : {A : Type 0} (r : Option A) (rs : List (Option A)) → first_refusal (r ∷ rs) ≡ None → (r ≡ None) × (first_refusal rs ≡ None)
passes None rs e = (refl, e)
passes (Some r) rs e = absurd (none-some r (sym e))

pub all_pass : {A : Type 0} (rs : List (Option A)) (k : ℕ) → first_refusal rs ≡ None → slice_index_or rs k None ≡ None
all_pass [] k e = refl
all_pass (r ∷ rs) zero e = (passes r rs e).0
all_pass (r ∷ rs) (suc k) e = all_pass rs k (passes r rs e).1

pub not_when : {A : Type 0} (b : Bool) (r : A) → when b r ≡ None → b ≡ false
not_when false r e = refl
not_when true r e = absurd (none-some r (sym e))

size_in : Opening → Option ℕ
size_in (refuses r) = None
size_in (opens size) = Some size

accepted : (r : Option Refused) (k size : ℕ) → opening_of r k ≡ opens size → (r ≡ None) × (k ≡ size)
unfolding size_in
accepted None k size e = (refl, ap (λ o. unwrap_or (size_in o) 0) e)
accepted (Some r) k size e = absurd (none-some size (ap size_in e))

-- if no commit is selected, the store is empty
found_empty : (b : Bool) → option_map DataCorrupted (commit_refusal b None) ≡ None → b ≡ true
found_empty true e = refl
found_empty false e = absurd (none-some _ (sym e))

both_true : (a b : Bool) → (a && b) ≡ true → (a ≡ true) × (b ≡ true)
both_true true b h = (refl, h)
both_true false b h = cc

no_operations : (list : List Operation) → length list ≡ 0 → list ≡ []
no_operations [] h = refl
no_operations (op ∷ list) h = absurd (omega (arith, h))

none_left : (start : ℕ) (list : List Operation) → (start == 0 && length (map (λ (op : Operation). Some op) (drop start list)) == 0) ≡ true → list ≡ []
none_left start list h =
    let p = both_true (start == 0) (length (map (λ (op : Operation). Some op) (drop start list)) == 0) h in
    let at : start ≡ 0 = eqb-true start 0 p.0 in
    let none : length (map (λ (op : Operation). Some op) (drop start list)) ≡ 0 = eqb-true _ 0 p.1 in
    no_operations list (omega (arith, at, none, length-map (drop start list) (λ (op : Operation). Some op), length-drop start list))

-- What an opening takes up.

floor_after-append : (f : ℕ) (xs ys : List Operation) → floor_after f (xs ++ ys) ≡ floor_after (floor_after f xs) ys
floor_after-append f [] ys = refl
floor_after-append f (update k v x ∷ rest) ys = floor_after-append f rest ys
floor_after-append f (delete k ∷ rest) ys = floor_after-append f rest ys
floor_after-append f (commit m g ∷ rest) ys = floor_after-append g rest ys

ended_append : (xs ys : List Operation) → IsCommitEnded ys → IsCommitEnded (xs ++ ys)
ended_append [] ys e = e
ended_append (x ∷ []) [] e = absurd e
ended_append (x ∷ []) (y ∷ ys) e = e
ended_append (x ∷ z ∷ xs) ys e = ended_append (z ∷ xs) ys e

ended_behind : (xs ys : List Operation) → 0 < length ys → IsCommitEnded (xs ++ ys) → IsCommitEnded ys
ended_behind [] ys some e = e
ended_behind (x ∷ []) [] some e = absurd (omega (arith, some))
ended_behind (x ∷ []) (y ∷ ys) some e = e
ended_behind (x ∷ z ∷ xs) ys some e = ended_behind (z ∷ xs) ys some e

-- a selected commit: the list up to it ends with it, and has its floor
record Taken (log : Log) (bound : Option ℕ) (c : Selected) : Type 0 where
  within : c.size ≤ length log.list
  floor_is : floor (take c.size log.list) ≡ c.floor
  some : 0 < c.size
  ended : IsCommitEnded (take c.size log.list)
  bounded : IfSome bound (λ b. c.size ≤ b)

opened_some : (n : ℕ) (list : List Operation) → 0 < n → opened_list n list ≡ take n list
opened_some zero list h = absurd (omega (arith, h))
opened_some (suc n) list h = refl

module _ {P : Type 0} (e : Engine P) (log : Log) where
  -- the items that an opening looks at are a beginning of those that are kept, up to the bound
  record Looks (bound : Option ℕ) : Type 0 where
    ops : List Operation
    are : below_bound bound (found_in e log) ≡ map (λ op. Some op) ops
    begins : Begins ops (drop log.start log.list)
    bounded : IfSome bound (λ b. length ops ≤ b - log.start)
    all : (n : ℕ) → n ≤ length log.list - log.start → IfSome bound (λ b. n ≤ b - log.start) → n ≤ length ops

  looks : (bound : Option ℕ) → Looks bound
  looks None = record { ops = drop log.start log.list; are = refl; begins = Begins-self (drop log.start log.list); bounded = tt; all = λ n less within. omega (arith, less, length-drop log.start log.list) }
  looks (Some b) = record {
    ops = take (b - log.start) (drop log.start log.list);
    are = take-map (λ op. Some op) (b - log.start) (drop log.start log.list);
    begins = begins_take (b - log.start) (drop log.start log.list);
    bounded = omega (arith, length-take (b - log.start) (drop log.start log.list));
    all = λ n less within. omega (arith, less, within, length-take (b - log.start) (drop log.start log.list), length-drop log.start log.list);
  }

  -- a size that is past the start is not above the bound, nor is what is kept after the start
  bound_above : (bound : Option ℕ) (n k : ℕ) → n ≤ log.start + k → 0 < k → IfSome bound (λ b. k ≤ b - log.start) → IfSome bound (λ b. n ≤ b)
  bound_above None n k up some h = tt
  bound_above (Some b) n k up some h = omega (arith, up, some, h)

  bound_below : (bound : Option ℕ) (n k : ℕ) → log.start + k ≤ n → IfSome bound (λ b. n ≤ b) → IfSome bound (λ b. k ≤ b - log.start)
  bound_below None n k up h = tt
  bound_below (Some b) n k up h = omega (arith, up, h)

  bound_less : (bound : Option ℕ) (n k : ℕ) → n ≤ k → IfSome bound (λ b. k ≤ b - log.start) → IfSome bound (λ b. n ≤ b - log.start)
  bound_less None n k up h = tt
  bound_less (Some b) n k up h = omega (arith, up, h)

  from_last : (bound : Option ℕ) (l : Looks bound) (c : Selected) → log.start ≤ length log.list → Last log.start None l.ops c → Taken log bound c
  from_last bound l c low (inl is) = absurd (none-some c is)
  from_last bound l c low (inr (n, size, less, fl, ended)) =
      let kept = drop log.start log.list in
      let before = take log.start log.list in
      let fits = Begins-length l.ops kept l.begins in
      let cut : take (suc n) kept ≡ take (suc n) l.ops = sym (take-least (suc n) (length l.ops) kept less) ∙ ap (take (suc n)) l.begins in
      let parts : take c.size log.list ≡ before ++ take (suc n) l.ops = ap (λ k. take k log.list) size ∙ (take-add log.start (suc n) log.list ∙ ap (λ xs. before ++ xs) cut) in
      record {
        within = omega (arith, less, fits, size, length-drop log.start log.list);
        floor_is = ap floor parts ∙ (floor_after-append 0 before (take (suc n) l.ops) ∙ fl (floor before));
        some = omega (arith, size);
        ended = subst IsCommitEnded (sym parts) (ended_append before (take (suc n) l.ops) ended);
        bounded = bound_above bound c.size (suc n) (omega (arith, size)) (omega arith) (bound_less bound (suc n) (length l.ops) less l.bounded);
      }

  -- none that ends with a commit within the bound is longer than what is selected
  selected-longest : (bound : Option ℕ) (n : ℕ) → log.start < n → n ≤ length log.list → IfSome bound (λ b. n ≤ b) → IsCommitEnded (take n log.list) → n ≤ size_of (selected (found_in e log) bound)
  selected-longest bound n past less within ended =
      let l = looks bound in
      let kept = drop log.start log.list in
      let before = take log.start log.list in
      let k = n - log.start - 1 in
      let place : n ≡ log.start + suc k = omega (arith, past) in
      let few : suc k ≤ length l.ops = l.all (suc k) (omega (arith, less, past)) (bound_below bound n (suc k) (omega (arith, place)) within) in
      let cut : take (suc k) kept ≡ take (suc k) l.ops = sym (take-least (suc k) (length l.ops) kept few) ∙ ap (take (suc k)) l.begins in
      let parts : take n log.list ≡ before ++ take (suc k) l.ops = ap (λ j. take j log.list) place ∙ (take-add log.start (suc k) log.list ∙ ap (λ xs. before ++ xs) cut) in
      let behind = ended_behind before (take (suc k) l.ops) (omega (arith, length-take-le (suc k) l.ops few)) (subst IsCommitEnded parts ended) in
      let up = longest log.start k None l.ops (omega arith) few behind in
      subst (λ items. n ≤ size_of (last_commit log.start None items)) (sym l.are) (omega (arith, up, place))

-- A longer list's longest commit-ended beginning is no shorter.
pub length-rises : (xs ys : List Operation) → Begins xs ys → length (ended_part xs) ≤ length (ended_part ys)
length-rises xs ys front = cases (ended-part xs)
  where
    cases : IsPart xs (ended_size xs) → length (ended_part xs) ≤ length (ended_part ys)
    cases (inl z) = let none : length (ended_part xs) ≡ 0 = ap (λ k. length (take k xs)) z in omega (arith, none)
    cases (inr (some, less, ended)) =
        let n = ended_size xs in
        let same : take n xs ≡ take n ys = ap (take n) (sym front) ∙ take-least n (length xs) ys less in
        let up : n ≤ ended_size ys = ended-longest ys n (le_trans less (Begins-length xs ys front)) (subst IsCommitEnded same ended) in
        next up (ended-part ys) (length-take-le n xs less)
      where
        next : ended_size xs ≤ ended_size ys → IsPart ys (ended_size ys) → length (ended_part xs) ≡ ended_size xs → length (ended_part xs) ≤ length (ended_part ys)
        next up (inl z) size = absurd (omega (arith, up, z, some))
        next up (inr (more, inside, last_is)) size = let whole = length-take-le (ended_size ys) ys inside in omega (arith, up, size, whole)

-- Databases of both kinds, with chunks or without.

module _ {P : Type 0} {kind : Kind} {rules : Rules P} (keeps : Keeps kind rules) (hash : Bytes → Bytes) (layout : Layout) where
  abbrev own : Engine P
  own = record { kind = kind; rules = rules; hash = hash; layout = layout }

  -- if the settled list gets longer, as many chunks may be pruned
  pub pruned-rises : (chunks : Option Chunks) (log : Log) (list : List Operation) (stable : ℕ) → floor (settled_list log) ≤ floor (ended_part (take stable list)) → length (settled_list log) ≤ length (ended_part (take stable list))
      → ArePruned own chunks log → ArePruned own chunks (record log { list = list; stable = stable })
  pruned-rises None log list stable low few is = tt
  pruned-rises (Some c) log list stable low few is = (is.0, le_trans is.1 (boundary-rises layout.shape c.height (floor (settled_list log)) (floor (ended_part (take stable list))) (length (settled_list log)) (length (ended_part (take stable list))) low few))

  -- as many as an opening accepts may be pruned of the list that it takes up
  pruned-opened : (chunks : Option Chunks) (log : Log) (list : List Operation) → ArePrompt chunks layout.shape → ArePruned own chunks log → ended_part (take (length list) list) ≡ list
      → nat_lt (length list) (pruned_bits chunks log.chunks) ≡ false → nat_lt (floor list) (pruned_bits chunks log.chunks) ≡ false → is_unabsorbed layout.shape chunks (length list) log.chunks ≡ false
      → ArePruned own chunks (taken_up list log)
  pruned-opened None log list prompt is same inside low absorbed = tt
  pruned-opened (Some c) log list prompt is same inside low absorbed = (
    is.0,
    subst (λ xs. log.chunks * 2 ^ c.height ≤ boundary layout.shape c.height xs) (sym same)
        (may-go layout.shape c.height (floor list) (length list) log.chunks prompt (ltb-false (floor list) (log.chunks * 2 ^ c.height) low) (ltb-false (length list) (log.chunks * 2 ^ c.height) inside) absorbed),
  )

  -- and of a list for which none are
  pruned-none : (chunks : Option Chunks) (log : Log) (list : List Operation) → ArePruned own chunks log → nat_lt 0 (pruned_bits chunks log.chunks) ≡ false → ArePruned own chunks (taken_up list log)
  pruned-none None log list is none = tt
  pruned-none (Some c) log list is none = (is.0, le_trans (ltb-false 0 (log.chunks * 2 ^ c.height) none) (omega arith))

  settled-begins : (log : Log) (kept : IsKept own log) → Begins (take log.stable log.list) kept.made.whole
  settled-begins log kept = Begins-through (take log.stable log.list) log.list kept.made.whole (begins_take log.stable log.list) kept.made.begins

  pub start-stable : (log : Log) → IsKept own log → log.start ≤ log.stable
  start-stable log kept =
      let low = floor-within keeps (take log.stable log.list) kept.made.whole kept.made.made (settled-begins log kept) in
      let start = kept.start in
      omega (arith, start, low, length-take-le log.stable log.list kept.stable)

  pub start-within : (log : Log) → IsKept own log → log.start ≤ length log.list
  start-within log kept = le_trans (start-stable log kept) kept.stable

  pub part-made : (log : Log) (n : ℕ) → IsKept own log → IsPartMade own (take n log.list)
  part-made log n kept = record {
    whole = kept.made.whole;
    made = kept.made.made;
    begins = Begins-through (take n log.list) log.list kept.made.whole (begins_take n log.list) kept.made.begins;
    of_form = All-take (IsOf layout.form) n log.list kept.made.of_form;
  }

  pub crash-keeps : (log : Log) (to : ℕ) → IsKept own log → log.stable ≤ to → to ≤ length log.list → IsKept own (left_at to log)
  crash-keeps log to kept low within =
      let same : take to (take to log.list) ≡ take to log.list = take-least to to log.list (le_refl to) in
      let begins : Begins (take log.stable log.list) (take to log.list) = begins_both log.stable to log.list low in
      let up = floor-rises keeps (take log.stable log.list) (take to log.list) kept.made.whole kept.made.made begins (Begins-through (take to log.list) log.list kept.made.whole (begins_take to log.list) kept.made.begins) in
      let rise : floor (settled_list log) ≤ floor (ended_part (take to (take to log.list))) = subst (λ xs. floor (settled_list log) ≤ floor (ended_part xs)) (sym same) up in
      let long : length (settled_list log) ≤ length (ended_part (take to (take to log.list))) = subst (λ xs. length (settled_list log) ≤ length (ended_part xs)) (sym same) (length-rises (take log.stable log.list) (take to log.list) begins) in
      record {
        made = part-made log to kept;
        start = le_trans kept.start rise;
        stable = omega (arith, length-take-le to log.list within);
        chunks = pruned-rises layout.chunks log (take to log.list) to rise long kept.chunks;
      }

  pub cut-keeps : (log : Log) (n : ℕ) → IsKept own log → IsCommitEnded (take n log.list) → log.start ≤ floor (take n log.list) → ArePruned own layout.chunks (taken_up (take n log.list) log) → IsKept own (taken_up (take n log.list) log)
  cut-keeps log n kept ended low pruned = record {
    made = part-made log n kept;
    start = subst (λ xs. log.start ≤ floor xs) (sym (ap ended_part (take-length (take n log.list)) ∙ ended-whole (take n log.list) ended)) low;
    stable = le_refl (length (take n log.list));
    chunks = pruned;
  }

  pub fresh-made : IsPartMade own fresh
  fresh-made = record { whole = fresh; made = first; begins = refl; of_form = All-from_recursion (IsOf layout.form) fresh ((tt, omega arith), tt) }

  pub fresh-keeps : (log : Log) → log.start ≤ 0 → ArePruned own layout.chunks (taken_up fresh log) → IsKept own (taken_up fresh log)
  fresh-keeps log low pruned = record {
    made = fresh-made;
    start = low;
    stable = le_refl 1;
    chunks = pruned;
  }

  bounded_zero : (bound : Option ℕ) → IfSome bound (λ b. 0 ≤ b)
  bounded_zero None = tt
  bounded_zero (Some b) = omega arith

  -- the checks of a commit that is selected, but for its content
  record ArePassed (log : Log) (at : Option Selected) : Type 0 where
    commit_is : option_map DataCorrupted (commit_refusal (is_empty (found_in own log)) at) ≡ None
    low : nat_lt (floor_of at) log.start ≡ false
    inside : nat_lt (size_of at) (pruned_bits layout.chunks log.chunks) ≡ false
    above : nat_lt (floor_of at) (pruned_bits layout.chunks log.chunks) ≡ false
    absorbed : is_unabsorbed layout.shape layout.chunks (size_of at) log.chunks ≡ false

  module _ (prompt : ArePrompt layout.chunks layout.shape) where
    takes : (log : Log) (bound : Option ℕ) (at : Option Selected) → IsKept own log → selected (found_in own log) bound ≡ at → ArePassed log at → Takes own log bound (size_of at)
    takes log bound None kept is passed =
        record {
          kept = fresh-keeps log (ltb-false 0 log.start passed.low) (pruned-none layout.chunks log fresh kept.chunks passed.inside);
          part = inr (none_left log.start log.list (found_empty _ passed.commit_is), refl);
          ended = tt;
          bounded = bounded_zero bound;
          longest = λ n past less within ended. subst (λ at. n ≤ size_of at) is (selected-longest own log bound n past less within ended);
        }
    takes log bound (Some c) kept is passed =
        let l = looks own log bound in
        let t = from_last own log bound l c (start-within log kept) (last log.start None l.ops c (ap (last_commit log.start None) (sym l.are) ∙ is)) in
        let list_is = opened_some c.size log.list t.some in
        let list = take c.size log.list in
        let size : c.size ≡ length list = sym (length-take-le c.size log.list t.within) in
        let whole : ended_part (take (length list) list) ≡ list = ap ended_part (take-length list) ∙ ended-whole list t.ended in
        let pruned : ArePruned own layout.chunks (taken_up list log) =
        pruned-opened layout.chunks log list prompt kept.chunks whole (subst (λ n. nat_lt n (pruned_bits layout.chunks log.chunks) ≡ false) size passed.inside)
        (subst (λ f. nat_lt f (pruned_bits layout.chunks log.chunks) ≡ false) (sym t.floor_is) passed.above) (subst (λ n. is_unabsorbed layout.shape layout.chunks n log.chunks ≡ false) size passed.absorbed) in
        record {
          kept = subst (λ xs. IsKept own (taken_up xs log)) (sym list_is) (cut-keeps log c.size kept t.ended (subst (λ k. log.start ≤ k) (sym t.floor_is) (ltb-false c.floor log.start passed.low)) pruned);
          part = inl (subst (λ xs. Begins xs log.list) (sym list_is) (begins_take c.size log.list));
          ended = subst IsCommitEnded (sym list_is) t.ended;
          bounded = t.bounded;
          longest = λ n past less within ended. subst (λ at. n ≤ size_of at) is (selected-longest own log bound n past less within ended);
        }

    pub parts-taken : OpensParts own
    parts-taken log bound size kept e =
        let f = found_in own log in
        let at = selected f bound in
        let a = accepted (opening_refusal own.layout f bound) (size_of at) size e in
        let pass : (k : ℕ) → slice_index_or (checks own.layout f bound) k None ≡ None = λ k. all_pass (checks own.layout f bound) k a.0 in
        subst (Takes own log bound) a.1 (takes log bound at kept refl (record {
          commit_is = pass 3;
          low = not_when _ (HistoricalFloorPruned (size_of at)) (pass 4);
          inside = not_when _ (HistoricalFloorPruned (size_of at)) (pass 2);
          above = not_when _ (HistoricalFloorPruned (size_of at)) (pass 5);
          absorbed = not_when _ (HistoricalFloorPruned (size_of at)) (pass 6);
        }))

  -- what a crash leaves of an own store is one, of a beginning of its list, whose pins the metadata has
  pub image-own : (log : Log) (s image : Stored) → IsOwn own log s → (i : IsImage s image) → MetadataIs own layout.chunks (left_at i.to log) image → IsOwn own (left_at i.to log) image
  image-own log s image is i metadata = record {
    stored = record {
      start = ap (λ t. t.start) i.same ∙ stored.start;
      items = ap (λ t. t.items) i.same ∙ items;
      head = ap (λ t. t.head) i.same ∙ (stored.head ∙ ap (λ xs. concat (pins_at hash layout.shape layout.form xs log.start)) (sym (take-least log.start i.to log.list start_to)));
      metadata = metadata;
      stable = ap (λ t. t.stable) i.same;
    };
    kept = crash-keeps log i.to is.kept low within;
  }
    where
      stored : IsStored own log s
      stored = is.stored

      low : log.stable ≤ i.to
      low = subst (λ n. n ≤ i.to) stored.stable i.may.stable

      start_to : log.start ≤ i.to
      start_to = le_trans (start-stable log is.kept) low

      size : end_of s ≡ length log.list
      size =
          let fits = start-within log is.kept in
          ap (λ n. n + length s.items) stored.start ∙ (ap (λ xs. log.start + length xs) stored.items
          ∙ omega (arith, fits, length-map (drop log.start log.list) (spelling layout.form), length-drop log.start log.list))

      within : i.to ≤ length log.list
      within = subst (λ n. i.to ≤ n) size i.may.within

      items : take (i.to - s.start) s.items ≡ map (spelling layout.form) (drop log.start (take i.to log.list))
      items =
          ap (λ n. take (i.to - n) s.items) stored.start ∙ (ap (take (i.to - log.start)) stored.items ∙ (take-map (spelling layout.form) (i.to - log.start) (drop log.start log.list)
          ∙ ap (map (spelling layout.form)) (sym (drop-take log.start (i.to - log.start) log.list) ∙ ap (λ k. drop log.start (take k log.list)) (omega (arith, start_to)))))

-- Any databases of both kinds.

-- how they lie in a store
abbrev pub without_chunks : Form → Shape → ℕ → Layout
without_chunks form shape digest_size = record { form = form; shape = shape; digest_size = digest_size; chunks = None }

module _ {P : Type 0} {kind : Kind} {rules : Rules P} (keeps : Keeps kind rules) (hash : Bytes → Bytes) (form : Form) (shape : Shape) (digest_size : ℕ) where
  abbrev plain : Engine P
  plain = any_engine kind rules hash form shape digest_size

  pub any-takes : OpensParts plain
  any-takes = parts-taken keeps hash (without_chunks form shape digest_size) tt

  pub any-image : (log : Log) (s image : Stored) → IsOwn plain log s → (i : IsImage s image) → IsOwn plain (left_at i.to log) image
  any-image log s image is i = image-own keeps hash (without_chunks form shape digest_size) log s image is i is.stored.metadata

-- An opening without a bound.

-- the size of a log's settled list
abbrev settled_size : Log → ℕ
settled_size log = ended_size (take log.stable log.list)

all_none : (rs : List (Option Refused)) → Each (λ r. r ≡ None) rs → first_refusal rs ≡ None
all_none [] each = refl
all_none (r ∷ rs) (is, each) = ap (λ o. option_or o (first_refusal rs)) is ∙ all_none rs each

all_some : (n : ℕ) (ops : List Operation) → list_any is_none (drop n (map (λ op. Some op) ops)) ≡ false
all_some zero [] = refl
all_some zero (op ∷ ops) = all_some zero ops
all_some (suc n) [] = refl
all_some (suc n) (op ∷ ops) = all_some n ops

operations_of : (n : ℕ) (ops : List Operation) → filter_map (λ item. item) (drop n (map (λ op. Some op) ops)) ≡ drop n ops
operations_of zero [] = refl
operations_of zero (op ∷ ops) = ap (λ rest. op ∷ rest) (operations_of zero ops)
operations_of (suc n) [] = refl
operations_of (suc n) (op ∷ ops) = operations_of n ops

-- keys and links are the same wherever a list begins

abbrev live_here : Bool → ℕ → Bytes → Bytes → Option Bytes → Option Live
live_here b i k v n = if b then None else Some (record { location = i; key = k; value = v; next = n })

keys_with : (b : Bool) (i j : ℕ) (k v : Bytes) (n : Option Bytes) (xs ys : List Live) → map (λ (e : Live). e.key) xs ≡ map (λ (e : Live). e.key) ys
    → map (λ (e : Live). e.key) (cons_option (live_here b i k v n) xs) ≡ map (λ (e : Live). e.key) (cons_option (live_here b j k v n) ys)
keys_with true i j k v n xs ys h = h
keys_with false i j k v n xs ys h = ap (λ ks. k ∷ ks) h

keys_moved : (i j : ℕ) (ops : List Operation) → map (λ (e : Live). e.key) (live_from i ops) ≡ map (λ (e : Live). e.key) (live_from j ops)
keys_moved i j [] = refl
keys_moved i j (update k v n ∷ ops) = keys_with (touched k ops) i j k v n (live_from (suc i) ops) (live_from (suc j) ops) (keys_moved (suc i) (suc j) ops)
keys_moved i j (delete k ∷ ops) = keys_moved (suc i) (suc j) ops
keys_moved i j (commit m f ∷ ops) = keys_moved (suc i) (suc j) ops

links_with : (keys : List Bytes) (b : Bool) (i j : ℕ) (k v : Bytes) (n : Option Bytes) (xs ys : List Live) → list_all (is_link keys) xs ≡ list_all (is_link keys) ys
    → list_all (is_link keys) (cons_option (live_here b i k v n) xs) ≡ list_all (is_link keys) (cons_option (live_here b j k v n) ys)
links_with keys true i j k v n xs ys h = h
links_with keys false i j k v n xs ys h = ap (λ b. is_link keys (record { location = j; key = k; value = v; next = n }) && b) h

links_moved : (keys : List Bytes) (i j : ℕ) (ops : List Operation) → list_all (is_link keys) (live_from i ops) ≡ list_all (is_link keys) (live_from j ops)
links_moved keys i j [] = refl
links_moved keys i j (update k v n ∷ ops) = links_with keys (touched k ops) i j k v n (live_from (suc i) ops) (live_from (suc j) ops) (links_moved keys (suc i) (suc j) ops)
links_moved keys i j (delete k ∷ ops) = links_moved keys (suc i) (suc j) ops
links_moved keys i j (commit m f ∷ ops) = links_moved keys (suc i) (suc j) ops

same_self : (o : Option Bytes) → is_some o ≡ true → option_map_or (same_key o) o false ≡ true
same_self None h = cc
same_self (Some k) h = bytes_same k

links_hold : (keys : List Bytes) (es : List Live) → ((key : Bytes) → is_some (successor keys key) ≡ true) → Each (λ e. e.next ≡ successor keys e.key) es → list_all (is_link keys) es ≡ true
links_hold keys [] some each = refl
links_hold keys (e ∷ es) some (is, each) =
    ap (λ o. option_map_or (same_key o) (successor keys e.key) false && list_all (is_link keys) es) is
    ∙ (ap (λ b. b && list_all (is_link keys) es) (same_self (successor keys e.key) (some e.key)) ∙ links_hold keys es some each)

ring_holds : (es : List Live) → All (λ e. e.next ≡ successor (map (λ (x : Live). x.key) es) e.key) es → list_all (is_link (map (λ (x : Live). x.key) es)) es ≡ true
ring_holds [] ring = refl
ring_holds (e ∷ es) ring =
    let keys = map (λ (x : Live). x.key) (e ∷ es) in
    let has : contains_key keys e.key ≡ true = ap (λ b. b || contains_key (map (λ (x : Live). x.key) es) e.key) (bytes_same e.key) in
    links_hold keys (e ∷ es) (λ key. ap is_some (successor-some keys key e.key has).1) (recursion_from_All (λ x. x.next ≡ successor keys x.key) (e ∷ es) ring)

-- what stands from the floor on has all live updates
ring-from : (ops : List Operation) → IsOrderedGood ops → is_ring (drop (floor ops) ops) ≡ true
ring-from ops ordered_good =
    let f = floor ops in
    let front = take f ops in
    let rest = drop f ops in
    let inside = ordered_good.good.floor_within in
    let parts : front ++ rest ≡ ops = take-append-drop f ops in
    let place : f ≡ 0 + length front = omega (arith, inside, length-take f ops) in
    let above : Each (λ e. f ≤ e.location) (live ops) = recursion_from_All (λ e. f ≤ e.location) (live ops) ordered_good.good.above_floor in
    let cut : Each (λ e. 0 + length front ≤ e.location) (live_from 0 (front ++ rest)) = subst (λ j. Each (λ e. j ≤ e.location) (live_from 0 (front ++ rest))) place (subst (λ t. Each (λ e. f ≤ e.location) (live t)) (sym parts) above) in
    let same : live ops ≡ live_from (0 + length front) rest = ap live (sym parts) ∙ live_from-front 0 front rest cut in
    ap (λ ks. list_all (is_link ks) (live_from 0 rest)) (keys_moved 0 (0 + length front) rest ∙ ap (map (λ (e : Live). e.key)) (sym same))
    ∙ (links_moved (live_keys ops) 0 (0 + length front) rest ∙ (ap (list_all (is_link (live_keys ops))) (sym same) ∙ ring_holds (live ops) ordered_good.ring))

and_false : (b : Bool) → (b && false) ≡ false
and_false true = refl
and_false false = refl

-- a made list begins with the fresh one
begins_more : (xs ys : List Operation) → take 1 xs ≡ fresh → take 1 (xs ++ ys) ≡ fresh
begins_more [] ys h = cc
begins_more (x ∷ xs) ys h = h

made-begins : {P : Type 0} {kind : Kind} {rules : Rules P} (ops : List Operation) → Made kind rules ops → take 1 ops ≡ fresh
made-begins _ first = refl
made-begins {kind = kind} {rules = rules} _ (next ops ws policy meta before short) =
    let written = ops ++ kind.writes ops ws in
    begins_more (written ++ kind.moves written (walk_after kind rules ops ws policy).decisions) _ (begins_more written _ (begins_more ops (kind.writes ops ws) (made-begins ops before)))

module _ {P : Type 0} {kind : Kind} {rules : Rules P} (keeps : Keeps kind rules) (hash : Bytes → Bytes) (layout : Layout) where
  abbrev whole : Engine P
  whole = record { kind = kind; rules = rules; hash = hash; layout = layout }

  module _ (log : Log) (kept : IsKept whole log) where
    -- if something is settled, its commit stands after the start
    settled : IsPart (take log.stable log.list) (settled_size log) → (settled_size log ≡ 0) ⊎ ((log.start < settled_size log) × (settled_size log ≤ log.stable) × IsCommitEnded (take (settled_size log) log.list))
    settled (inl z) = inl z
    settled (inr (some, less, ended)) =
        let n = settled_size log in
        let is_made = (keeps.begins (settled_list log) kept.made.whole kept.made.made (Begins-through (settled_list log) (take log.stable log.list) kept.made.whole (begins_take n (take log.stable log.list)) (settled-begins keeps hash layout log kept)) ended).0 in
        let low = keeps.within (settled_list log) is_made in
        let start = kept.start in
        let size = length-take-le log.stable log.list kept.stable in
        let short : n ≤ log.stable = omega (arith, less, size) in
        inr (omega (arith, start, low, length-take-le n (take log.stable log.list) less), short, subst IsCommitEnded (take-least n log.stable log.list short) ended)

    -- an opening selects no less
    selects : settled_size log ≤ size_of (selected (found_in whole log) None)
    selects = cases (settled (ended-part (take log.stable log.list)))
      where
        cases : (settled_size log ≡ 0) ⊎ ((log.start < settled_size log) × (settled_size log ≤ log.stable) × IsCommitEnded (take (settled_size log) log.list)) → settled_size log ≤ size_of (selected (found_in whole log) None)
        cases (inl z) = omega (arith, z)
        cases (inr (past, less, ended)) = selected-longest whole log None (settled_size log) past (le_trans less kept.stable) tt ended

    -- something, if there is an operation
    selects_some : log.start ≡ 0 → 0 < length log.list → 0 < size_of (selected (found_in whole log) None)
    selects_some at some =
        let front : take 1 log.list ≡ fresh = ap (take 1) (sym kept.made.begins) ∙ take-least 1 (length log.list) kept.made.whole some ∙ made-begins kept.made.whole kept.made.made in
        selected-longest whole log None 1 (omega (arith, at)) some tt (subst IsCommitEnded (sym front) tt)

    commits : (at : Option Selected) → selected (found_in whole log) None ≡ at → (option_map DataCorrupted (commit_refusal (is_empty (found_in whole log)) at) ≡ None) × (log.start ≤ floor_of at) × (floor (settled_list log) ≤ floor_of at) × (floor_of at ≤ size_of at)
    commits None is =
        let up = selects in
        let none : settled_size log ≡ 0 = omega (arith, up, ap size_of is) in
        let start = kept.start in
        let at : log.start ≡ 0 = omega (arith, start, no_floor (take log.stable log.list) (settled_size log) none) in
        let bare : length log.list ≡ 0 = elim (cases_lt 0 (length log.list)) [ inl some ↦ absurd (let has = selects_some at some in omega (arith, has, ap size_of is)) | inr few ↦ omega (arith, few) ] in
        let gone : length (map (λ (op : Operation). Some op) (drop log.start log.list)) ≡ 0 = omega (arith, bare, length-map (drop log.start log.list) (λ (op : Operation). Some op), length-drop log.start log.list) in
        let found_bare : is_empty (found_in whole log) ≡ true = ap (λ n. n == 0 && length (map (λ (op : Operation). Some op) (drop log.start log.list)) == 0) at ∙ ap (λ n. n == 0) gone in
        (ap (λ b. option_map DataCorrupted (commit_refusal b None)) found_bare, omega (arith, at), omega (arith, no_floor (take log.stable log.list) (settled_size log) none), omega arith)
    commits (Some c) is =
        let l = looks whole log None in
        let t = from_last whole log None l c (start-within keeps hash layout log kept) (last log.start None l.ops c (ap (last_commit log.start None) (sym l.are) ∙ is)) in
        let begins = Begins-through (take c.size log.list) log.list kept.made.whole (begins_take c.size log.list) kept.made.begins in
        let is_made = (keeps.begins (take c.size log.list) kept.made.whole kept.made.made begins t.ended).0 in
        let low = keeps.within (take c.size log.list) is_made in
        let inside : c.floor ≤ c.size - 1 = omega (arith, low, t.floor_is, length-take-le c.size log.list t.within) in
        let up : settled_size log ≤ c.size = subst (λ n. settled_size log ≤ n) (ap size_of is) selects in
        let start = kept.start in
        let high : floor (settled_list log) ≤ c.floor = elim (settled (ended-part (take log.stable log.list))) [
          | inl z ↦ omega (arith, no_floor (take log.stable log.list) (settled_size log) z)
          | inr (past, less, ended) ↦
              let same = take-least (settled_size log) log.stable log.list less in
              let rises = (keeps.begins (take (settled_size log) log.list) (take c.size log.list) is_made (begins_both (settled_size log) c.size log.list up) ended).1 in
              omega (arith, ap floor same, rises, t.floor_is)
        ] in
        (ap (option_map DataCorrupted) (ap (λ b. when b FloorExceedsCommit) (le-ltb (c.size - 1) c.floor inside)), le_trans start high, high, omega (arith, inside))

    -- what is found of the selected list has its ring
    found-ring : ((ops : List Operation) → Made kind rules ops → is_ring (drop (floor ops) ops) ≡ true) → (at : Option Selected) → selected (found_in whole log) None ≡ at → log.start ≤ floor_of at
        → is_ring (filter_map (λ item. item) (items_between (found_in whole log) (floor_of at) (size_of at))) ≡ true
    found-ring rings None is low =
        let none : 0 - log.start ≡ 0 = omega arith in
        ap (λ n. is_ring (filter_map (λ item. item) (drop n (take n (map (λ (op : Operation). Some op) (drop log.start log.list)))))) none
    found-ring rings (Some c) is low =
        let l = looks whole log None in
        let t = from_last whole log None l c (start-within keeps hash layout log kept) (last log.start None l.ops c (ap (last_commit log.start None) (sym l.are) ∙ is)) in
        let begins = Begins-through (take c.size log.list) log.list kept.made.whole (begins_take c.size log.list) kept.made.begins in
        let is_made = (keeps.begins (take c.size log.list) kept.made.whole kept.made.made begins t.ended).0 in
        let inside = keeps.within (take c.size log.list) is_made in
        let past : log.start ≤ c.size = omega (arith, low, inside, t.floor_is, length-take-le c.size log.list t.within) in
        let items = drop log.start log.list in
        let cut : take (c.size - log.start) items ≡ drop log.start (take c.size log.list) = sym (drop-take log.start (c.size - log.start) log.list) ∙ ap (λ k. drop log.start (take k log.list)) (omega (arith, past)) in
        let found_ops = ap (λ xs. filter_map (λ item. item) (drop (c.floor - log.start) xs)) (take-map (λ op. Some op) (c.size - log.start) items) ∙ operations_of (c.floor - log.start) (take (c.size - log.start) items) in
        let list = take c.size log.list in
        let from_floor : drop (c.floor - log.start) (take (c.size - log.start) items) ≡ drop (floor list) list =
        ap (drop (c.floor - log.start)) cut ∙ (drop-drop (c.floor - log.start) log.start list ∙ ap (λ n. drop n list) (omega (arith, low, t.floor_is))) in
        ap is_ring (found_ops ∙ from_floor) ∙ rings (take c.size log.list) is_made

    -- as many chunks are pruned as an opening accepts
    bits-in : (chunks : Option Chunks) → ArePruned whole chunks log → pruned_bits chunks log.chunks ≤ floor (settled_list log)
    bits-in None is = omega arith
    bits-in (Some c) is = le_trans is.1 (boundary_most layout.shape c.height (floor (settled_list log)) (length (settled_list log)))

    past-in : (chunks : Option Chunks) → ArePruned whole chunks log → is_past_bits chunks log.start log.chunks ≡ false
    past-in None is = refl
    past-in (Some c) is = le-ltb log.chunks (log.start / 2 ^ c.height) is.0

    absorbed-in : (chunks : Option Chunks) → NeedsRise chunks layout.shape → ArePruned whole chunks log → (size : ℕ) → length (settled_list log) ≤ size → is_unabsorbed layout.shape chunks size log.chunks ≡ false
    absorbed-in None rise is size long = refl
    absorbed-in (Some c) rise is size long = at log.chunks refl
      where
        n : ℕ
        n = length (settled_list log)

        most : ℕ
        most = prunable_chunks layout.shape c.height (length (settled_list log)) (floor (settled_list log) / 2 ^ c.height)

        at : (count : ℕ) → log.chunks ≡ count → option_map_or (λ least. nat_lt size least) (pair_absorption_threshold layout.shape c.height count) false ≡ false
        at zero e = refl
        at (suc k) e = by (pair_absorption_threshold layout.shape c.height (suc k)) refl
          where
            go : suc k * 2 ^ c.height ≤ most * 2 ^ c.height
            go = subst (λ j. j * 2 ^ c.height ≤ most * 2 ^ c.height) e is.1

            less : suc k ≤ most
            less = elim (cases_lt most (suc k)) [
              | inl short ↦
                  let up = mul-le (suc most) (2 ^ c.height) (suc k) (2 ^ c.height) short (le_refl (2 ^ c.height)) in
                  let some = pow_pos c.height in
                  let more = go in
                  absurd (omega (arith, up, some, more))
              | inr few ↦ few
            ]

            last : suc (most - 1) ≡ most
            last = let some = less in omega (arith, some)

            below : k ≤ most - 1
            below = let some = less in omega (arith, some)

            some : 0 < most
            some = let first = less in omega (arith, first)

            needs : needed_size layout.shape c.height (suc k) ≤ length (settled_list log)
            needs = le_trans (subst (λ q. needed_size layout.shape c.height (suc k) ≤ needed_size layout.shape c.height q) last (rise k (most - 1) below))
                (prunable_needed layout.shape c.height (length (settled_list log)) (floor (settled_list log) / 2 ^ c.height) some)

            by : (o : Option ℕ) → pair_absorption_threshold layout.shape c.height (suc k) ≡ o → option_map_or (λ least. nat_lt size least) o false ≡ false
            by None is = refl
            by (Some least) is = le-ltb size least (le_trans (subst (λ o. option_map_or (λ m. m) o (layout.shape.birth (chunk_node c.height (suc k - 1))) ≤ length (settled_list log)) is needs) long)

    long-enough : length (settled_list log) ≤ size_of (selected (found_in whole log) None)
    long-enough = omega (arith, selects, length-take (settled_size log) (take log.stable log.list))

    pub opens-whole : NeedsRise layout.chunks layout.shape → (layout.form.ordered ≡ false) ⊎ ((ops : List Operation) → Made kind rules ops → is_ring (drop (floor ops) ops) ≡ true) → length (head_of whole log) ≡ layout.digest_size * length (peaks layout.shape log.start) → OpensWhole whole log
    opens-whole rise plain pinned = record {
      size = size_of at;
      accepted = ap (λ r. opening_of r (size_of at)) passed;
      settled = omega (arith, selects, length-take (settled_size log) (take log.stable log.list));
    }
      where
        at : Option Selected
        at = selected (found_in whole log) None

        passed : first_refusal (checks whole.layout (found_in whole log) None) ≡ None
        passed =
            let c = commits (selected (found_in whole log) None) refl in
            all_none (checks whole.layout (found_in whole log) None) (
              refl,
              (
                refl,
                (
                  ap (λ b. when b (HistoricalFloorPruned (size_of (selected (found_in whole log) None)))) (le-ltb (size_of (selected (found_in whole log) None)) (pruned_bits layout.chunks log.chunks) (le_trans (le_trans (bits-in layout.chunks kept.chunks) c.2) c.3)),
                  (
                    c.0,
                    (
                      ap (λ b. when b (HistoricalFloorPruned (size_of (selected (found_in whole log) None)))) (le-ltb (floor_of (selected (found_in whole log) None)) log.start c.1),
                      (
                        ap (λ b. when b (HistoricalFloorPruned (size_of (selected (found_in whole log) None)))) (le-ltb (floor_of (selected (found_in whole log) None)) (pruned_bits layout.chunks log.chunks) (le_trans (bits-in layout.chunks kept.chunks) c.2)),
                        (
                          ap (λ b. when b (HistoricalFloorPruned (size_of (selected (found_in whole log) None)))) (absorbed-in layout.chunks rise kept.chunks (size_of (selected (found_in whole log) None)) long-enough),
                          (
                            ap (λ b. when b (DataCorrupted PrunedPastBits)) (past-in layout.chunks kept.chunks),
                            (
                              ap (λ b. when (not b) (DataCorrupted HeadDoesNotMatch)) (eq-eqb (length (head_of whole log)) (layout.digest_size * length (peaks layout.shape log.start)) pinned),
                              (
                                ap (λ b. when b (DataCorrupted ItemDoesNotDecode)) (ap (λ items. list_any is_none (drop ((floor_of (selected (found_in whole log) None)) - log.start) items)) (take-map (λ op. Some op) ((size_of (selected (found_in whole log) None)) - log.start) (drop log.start log.list)) ∙ all_some ((floor_of (selected (found_in whole log) None)) - log.start) (take ((size_of (selected (found_in whole log) None)) - log.start) (drop log.start log.list))),
                                (ap (λ b. when b (DataCorrupted LinksFormNoRing)) (linked plain), tt),
                              ),
                            ),
                          ),
                        ),
                      ),
                    ),
                  ),
                ),
              ),
            )
          where
            linked : (layout.form.ordered ≡ false) ⊎ ((ops : List Operation) → Made kind rules ops → is_ring (drop (floor ops) ops) ≡ true)
                → (layout.form.ordered && not (is_ring (filter_map (λ item. item) (items_between (found_in whole log) (floor_of (selected (found_in whole log) None)) (size_of (selected (found_in whole log) None)))))) ≡ false
            linked (inl is) = ap (λ b. b && not (is_ring (filter_map (λ item. item) (items_between (found_in whole log) (floor_of (selected (found_in whole log) None)) (size_of (selected (found_in whole log) None)))))) is
            linked (inr rings) = ap (λ b. layout.form.ordered && not b) (found-ring rings (selected (found_in whole log) None) refl (commits (selected (found_in whole log) None) refl).1) ∙ and_false layout.form.ordered

module _ {P : Type 0} (rules : Rules P) (hash : Bytes → Bytes) (form : Form) (shape : Shape) (digest_size : ℕ) where
  pub unordered-takes : OpensParts (any_engine unordered rules hash form shape digest_size)
  unordered-takes = any-takes (unordered-keeps rules) hash form shape digest_size

  pub ordered-takes : OpensParts (any_engine ordered rules hash form shape digest_size)
  ordered-takes = any-takes (ordered-keeps rules) hash form shape digest_size

  pub unordered-image : (log : Log) (s image : Stored) → IsOwn (any_engine unordered rules hash form shape digest_size) log s → (i : IsImage s image)
      → IsOwn (any_engine unordered rules hash form shape digest_size) (left_at i.to log) image
  unordered-image = any-image (unordered-keeps rules) hash form shape digest_size

  pub ordered-image : (log : Log) (s image : Stored) → IsOwn (any_engine ordered rules hash form shape digest_size) log s → (i : IsImage s image)
      → IsOwn (any_engine ordered rules hash form shape digest_size) (left_at i.to log) image
  ordered-image = any-image (ordered-keeps rules) hash form shape digest_size

  pub unordered-whole : (log : Log) → form.ordered ≡ false → IsKept (any_engine unordered rules hash form shape digest_size) log
      → length (head_of (any_engine unordered rules hash form shape digest_size) log) ≡ digest_size * length (peaks shape log.start) → OpensWhole (any_engine unordered rules hash form shape digest_size) log
  unordered-whole log plain kept pinned = opens-whole (unordered-keeps rules) hash (without_chunks form shape digest_size) log kept tt (inl plain) pinned

  pub ordered-whole : (log : Log) → IsKept (any_engine ordered rules hash form shape digest_size) log
      → length (head_of (any_engine ordered rules hash form shape digest_size) log) ≡ digest_size * length (peaks shape log.start) → OpensWhole (any_engine ordered rules hash form shape digest_size) log
  ordered-whole log kept pinned = opens-whole (ordered-keeps rules) hash (without_chunks form shape digest_size) log kept tt (inr (λ ops made. ring-from ops (made-ordered rules ops made))) pinned

-- Of a layout with chunks or without.
module _ {P : Type 0} (rules : Rules P) (hash : Bytes → Bytes) (layout : Layout) where
  pub unordered-parts : ArePrompt layout.chunks layout.shape → OpensParts (record { kind = unordered; rules = rules; hash = hash; layout = layout })
  unordered-parts = parts-taken (unordered-keeps rules) hash layout

  pub ordered-parts : ArePrompt layout.chunks layout.shape → OpensParts (record { kind = ordered; rules = rules; hash = hash; layout = layout })
  ordered-parts = parts-taken (ordered-keeps rules) hash layout

  pub unordered-left : (log : Log) (to : ℕ) → IsKept (record { kind = unordered; rules = rules; hash = hash; layout = layout }) log → log.stable ≤ to → to ≤ length log.list → IsKept (record { kind = unordered; rules = rules; hash = hash; layout = layout }) (left_at to log)
  unordered-left = crash-keeps (unordered-keeps rules) hash layout

  pub ordered-left : (log : Log) (to : ℕ) → IsKept (record { kind = ordered; rules = rules; hash = hash; layout = layout }) log → log.stable ≤ to → to ≤ length log.list → IsKept (record { kind = ordered; rules = rules; hash = hash; layout = layout }) (left_at to log)
  ordered-left = crash-keeps (ordered-keeps rules) hash layout

  pub unordered-opened : NeedsRise layout.chunks layout.shape → (log : Log) → layout.form.ordered ≡ false → IsKept (record { kind = unordered; rules = rules; hash = hash; layout = layout }) log
      → length (head_of (record { kind = unordered; rules = rules; hash = hash; layout = layout }) log) ≡ layout.digest_size * length (peaks layout.shape log.start) → OpensWhole (record { kind = unordered; rules = rules; hash = hash; layout = layout }) log
  unordered-opened rise log plain kept pinned = opens-whole (unordered-keeps rules) hash layout log kept rise (inl plain) pinned

  pub ordered-opened : NeedsRise layout.chunks layout.shape → (log : Log) → IsKept (record { kind = ordered; rules = rules; hash = hash; layout = layout }) log
      → length (head_of (record { kind = ordered; rules = rules; hash = hash; layout = layout }) log) ≡ layout.digest_size * length (peaks layout.shape log.start) → OpensWhole (record { kind = ordered; rules = rules; hash = hash; layout = layout }) log
  ordered-opened rise log kept pinned = opens-whole (ordered-keeps rules) hash layout log kept rise (inr (λ ops made. ring-from ops (made-ordered rules ops made))) pinned
