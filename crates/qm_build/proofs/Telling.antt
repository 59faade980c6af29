-- Proofs in the first operations of a list, and the floor of these.
use Rattle.std.proofs.Common.{◌≡◌, ℕ, zero, suc, ◌+◌, ◌-◌, ◌≤◌, ◌<◌, List, [], ◌∷◌, ◌++◌, length, take, drop, map, get_or, refl, sym, ◌∙◌, ap, ap₂, subst, arith, Option, None, Some, IfSome, All, Bool, ◌⊎◌, inl, inr}
use Rattle.std.specs.Option.{option_or}
use Rattle.std.specs.Prelude.{nat_lt, slice_get, option_and_then, if◌then◌else◌, Result, Ok, Err}
use Rattle.std.proofs.lemmas.Bool.{lt-ltb, le-ltb}
use Rattle.std.proofs.lemmas.List.{length-take-le, length-map, take-map, drop-map, take_all, take_more, map-append, get_or-map}
use Rattle.std.proofs.lemmas.List.Elements.{All-take, All-drop}
use Rattle.qm_model.specs.Refused as refusals
use Rattle.qm_model.specs.Refused.{HistoricalFloorPruned, DataCorrupted, Merkle, Journal, FloorExceedsCommit, RangeOutOfBounds, ItemPruned}
use Rattle.qm_model.specs.Live.{floor, floor_after}
use Rattle.qm_model.specs.Forms.{Form, IsOf, IsSpelling, spelling}
use Rattle.qm_model.specs.Operations.{Bytes, Operation, update, delete, commit}
use Rattle.qm_model.specs.Proofs.{proof_of, ops_proof}
use Rattle.qm_model.specs.Refusals.{commit_floor, floor_before, item_refusal, last_refusal, end_refusal, proof_refusal}
use Rattle.qm_model.specs.Trees.{Shape, inactive_peaks}
use Rattle.qm_model.proofs.Forms.{IsSpelling-once}
use Rattle.qm_base.specs.declared.error.Corrupt.TheVariants as corrupt
use Rattle.qm_base.specs.declared.error.Error.{Error}
use Rattle.qm_base.specs.declared.error.Error.TheVariants as errors
use Rattle.qm_base.specs.declared.error.JournalError.TheVariants as journal
use Rattle.qm_store.specs.Log.{digests_from}
use Rattle.qm_store.proofs.Leaves.{leaves-spelled}
use Rattle.qm_build.proofs.Reading.{spelled-there}
use Rattle.qm_build.specs.Reasons.{proof_reasons}
use Rattle.qm_store.specs.Refusals.{IsAmong, IsDue, refusal_of}

-- the floor of a list that ends with a commit
floor-commit : (g : ℕ) (list : List Operation) (i f : ℕ) → option_and_then commit_floor (slice_get list i) ≡ Some f → floor_after g (take (suc i) list) ≡ f
floor-commit g [] i f is = cc
floor-commit g (update k v n ∷ rest) zero f is = cc
floor-commit g (delete k ∷ rest) zero f is = cc
floor-commit g (commit m x ∷ rest) zero f is = cc
floor-commit g (update k v n ∷ rest) (suc i) f is = floor-commit g rest i f is
floor-commit g (delete k ∷ rest) (suc i) f is = floor-commit g rest i f is
floor-commit g (commit m x ∷ rest) (suc i) f is = floor-commit x rest i f is

pub floor-ended : (list : List Operation) (size f : ℕ) → floor_before list size ≡ Some f → f ≡ floor (take size list)
floor-ended list zero f is = cc
floor-ended list (suc i) f is = sym (floor-commit 0 list i f is)

-- the bytes before the end of the first operations tell their floor
pub floor-read : (form : Form) (list : List Operation) (size i : ℕ) (bs : Bytes) (f : Option ℕ) → size ≡ suc i → All (IsOf form) list → slice_get (map (spelling form) list) i ≡ Some bs
    → ((op : Operation) → IsSpelling form bs op → f ≡ commit_floor op) → f ≡ floor_before list size
floor-read form list size i bs f after all is told =
    let there = spelled-there form list i bs all is in
    told there.0 there.2 ∙ ap (option_and_then commit_floor) (sym there.1) ∙ ap (floor_before list) (sym after)

-- the item at a location spells the operation there
pub item-spells : {V : Type 0} (form : Form) (bytes : V → Bytes) (items : List V) (list : List Operation) (i : ℕ) (item : V) (d : Operation) → i < length items → item ≡ get_or items i item → map bytes items ≡ map (spelling form) list
    → All (IsOf form) list → IsSpelling form (bytes item) (get_or list i d)
item-spells form bytes items list i item d within is spelled all =
    let long : length items ≡ length list = sym (length-map items bytes) ∙ ap length spelled ∙ length-map list (spelling form) in
    let inside : i < length list = omega (arith, within, long) in
    let there : spelling form (get_or list i d) ≡ bytes item =
    sym (get_or-map (spelling form) list i d (bytes item) inside) ∙ ap (λ l. get_or l i (bytes item)) (sym spelled) ∙ get_or-map bytes items i item (bytes item) within ∙ ap bytes (sym is) in
    record { of = all i d inside; spelled = there }

-- one more item that is decoded
pub decoded-more : {X V : Type 0} (form : Form) (view : X → Operation) (bytes : V → Bytes) (items : List V) (list : List Operation) (i : ℕ) (item : V) (made made2 : List X) (x : X) → i < length items → item ≡ get_or items i item
    → map bytes items ≡ map (spelling form) list → All (IsOf form) list → made2 ≡ made ++ x ∷ [] → IsSpelling form (bytes item) (view x) → map view made ≡ take i list → map view made2 ≡ take (i + 1) list
decoded-more form view bytes items list i item made made2 x within is spelled all pushed spells so_far =
    let long : length items ≡ length list = sym (length-map items bytes) ∙ ap length spelled ∙ length-map list (spelling form) in
    let inside : i < length list = omega (arith, within, long) in
    let there : view x ≡ get_or list i (view x) = IsSpelling-once form (bytes item) (view x) (get_or list i (view x)) spells (item-spells form bytes items list i item (view x) within is spelled all) in
    ap (map view) pushed ∙ map-append view made (x ∷ []) ∙ ap₂ (λ ys y. ys ++ y ∷ []) so_far there ∙ sym (take_more list i (view x) inside)

-- all items are decoded
pub decoded-all : {X V : Type 0} (form : Form) (view : X → Operation) (bytes : V → Bytes) (items : List V) (list : List Operation) (i : ℕ) (made : List X) → length items ≤ i → map bytes items ≡ map (spelling form) list → map view made ≡ take i list → map view made ≡ list
decoded-all form view bytes items list i made past spelled is =
    let long : length items ≡ length list = sym (length-map items bytes) ∙ ap length spelled ∙ length-map list (spelling form) in
    is ∙ take_all i list (omega (arith, past, long))

-- the proof over the spellings of the first operations is theirs
pub proof-spelled : (hash : Bytes → Bytes) (shape : Shape) (form : Form) (list : List Operation) (size inactive a b : ℕ) → size ≤ length list → inactive ≡ inactive_peaks shape size (floor (take size list))
    → proof_of hash shape (digests_from hash shape 0 (take size (map (spelling form) list))) inactive a b ≡ ops_proof hash shape form (take size list) a b
proof-spelled hash shape form list size inactive a b within is =
    ap₂ (λ leaves n. proof_of hash shape leaves n a b)
    (ap (digests_from hash shape 0) (take-map (spelling form) size list) ∙ sym (leaves-spelled hash shape form 0 (take size list)))
    (is ∙ ap (λ n. inactive_peaks shape n (floor (take size list))) (sym (length-take-le size list within)))

-- the last of the first items is kept, or refused
pub last-there : (kept size i : ℕ) → size ≡ suc i → kept ≤ i → last_refusal kept size ≡ None
last-there kept size i after there = ap (last_refusal kept) after ∙ ap (λ b. if b then Some (Journal (ItemPruned i)) else None) (le-ltb i kept there)

last-gone : (kept size i : ℕ) → size ≡ suc i → i < kept → last_refusal kept size ≡ Some (Journal (ItemPruned i))
last-gone kept size i after gone = ap (last_refusal kept) after ∙ ap (λ b. if b then Some (Journal (ItemPruned i)) else None) (lt-ltb i kept gone)

-- want of memory, and a failing store, are no refusals
pub no-refusal : (P : refusals.Refused → Type 0) (e : Error) → (e ≡ errors.Memory) ⊎ (e ≡ errors.Journal journal.Store) → IfSome (refusal_of e) P
no-refusal P e (inl memory) = subst (λ e. IfSome (refusal_of e) P) (sym memory) tt
no-refusal P e (inr failed) = subst (λ e. IfSome (refusal_of e) P) (sym failed) tt

-- what does not decode is one of the reasons why there is no proof
pub decoded-among : (size start : ℕ) (e : Error) → (e ≡ errors.Memory) ⊎ (e ≡ errors.DataCorrupted corrupt.ItemDoesNotDecode) → IsAmong e (proof_reasons size start)
decoded-among size start e (inl memory) = subst (λ e. IsAmong e (proof_reasons size start)) (sym memory) tt
decoded-among size start e (inr wrong) = subst (λ e. IsAmong e (proof_reasons size start)) (sym wrong) (6, omega arith, refl)

-- why a log's read of an item failed
abbrev pub IsFailed : ℕ → Error → Type 0
IsFailed at e = (e ≡ errors.Memory) ⊎ ((e ≡ errors.Journal journal.Store) ⊎ (e ≡ errors.Journal (journal.ItemPruned at)))

-- the read of the last one is refused if it is gone
pub last-due : (kept size i : ℕ) (e : Error) → size ≡ suc i → IsFailed i e → (e ≡ errors.Journal (journal.ItemPruned i) → i < kept) → IsDue e (last_refusal kept size)
last-due kept size i e after (inl memory) gone = subst (λ e. IsDue e (last_refusal kept size)) (sym memory) tt
last-due kept size i e after (inr (inl failed)) gone = subst (λ e. IsDue e (last_refusal kept size)) (sym failed) tt
last-due kept size i e after (inr (inr pruned)) gone = subst (λ e. IsDue e (last_refusal kept size)) (sym pruned) (last-gone kept size i after (gone pruned))

-- that is one of the reasons why there is no proof
pub last-among : (size start : ℕ) (e : Error) → IsFailed (size - 1) e → IsAmong e (proof_reasons size start)
last-among size start e (inl memory) = subst (λ e. IsAmong e (proof_reasons size start)) (sym memory) tt
last-among size start e (inr (inl failed)) = subst (λ e. IsAmong e (proof_reasons size start)) (sym failed) tt
last-among size start e (inr (inr pruned)) = subst (λ e. IsAmong e (proof_reasons size start)) (sym pruned) (1, omega arith, refl)

-- why there is no proof, case by case
module _ (kept : ℕ) (list : List Operation) (size start : ℕ) where
  past_end : size ≤ length list → proof_refusal kept list size start ≡ option_or (last_refusal kept size) (end_refusal kept size start (floor_before list size))
  past_end within = ap (λ b. if b then Some (Merkle (RangeOutOfBounds size)) else option_or (last_refusal kept size) (end_refusal kept size start (floor_before list size))) (le-ltb (length list) size within)

  -- the list is shorter
  pub refused-end : length list < size → proof_refusal kept list size start ≡ Some (Merkle (RangeOutOfBounds size))
  refused-end past = ap (λ b. if b then Some (Merkle (RangeOutOfBounds size)) else option_or (last_refusal kept size) (end_refusal kept size start (floor_before list size))) (lt-ltb (length list) size past)

  -- the last item is
  pub refused-last : (e : Error) → size ≤ length list → IsDue e (last_refusal kept size) → IsDue e (proof_refusal kept list size start)
  refused-last e within due = by (refusal_of e) due
    where
      by : (o : Option refusals.Refused) → IfSome o (λ r. last_refusal kept size ≡ Some r) → IfSome o (λ r. proof_refusal kept list size start ≡ Some r)
      by None due = tt
      by (Some r) due = past_end within ∙ ap (λ o. option_or o (end_refusal kept size start (floor_before list size))) due

  ended : (o : Option ℕ) → size ≤ length list → last_refusal kept size ≡ None → o ≡ floor_before list size → proof_refusal kept list size start ≡ end_refusal kept size start o
  ended o within there is = past_end within ∙ ap (λ l. option_or l (end_refusal kept size start (floor_before list size))) there ∙ ap (end_refusal kept size start) (sym is)

  -- no commit stands there
  pub refused-none : size ≤ length list → last_refusal kept size ≡ None → None ≡ floor_before list size → proof_refusal kept list size start ≡ Some (HistoricalFloorPruned size)
  refused-none within there is = ended None within there is

  module _ (f : ℕ) (within : size ≤ length list) (there : last_refusal kept size ≡ None) (some : 0 < size) (is : Some f ≡ floor_before list size) where
    abbrev started : Bool → Option refusals.Refused
    started b = if b then item_refusal kept start else Some (Merkle (RangeOutOfBounds start))

    pub refused-floor : size ≤ f → proof_refusal kept list size start ≡ Some (DataCorrupted FloorExceedsCommit)
    refused-floor over =
        let low : size - 1 < f = omega (arith, over, some) in
        ended (Some f) within there is ∙ ap (λ b. if b then Some (DataCorrupted FloorExceedsCommit) else started (nat_lt start size)) (lt-ltb (size - 1) f low)

    in_floor : f < size → proof_refusal kept list size start ≡ started (nat_lt start size)
    in_floor low =
        let high : f ≤ size - 1 = omega (arith, low) in
        ended (Some f) within there is ∙ ap (λ b. if b then Some (DataCorrupted FloorExceedsCommit) else started (nat_lt start size)) (le-ltb (size - 1) f high)

    pub refused-start : f < size → size ≤ start → proof_refusal kept list size start ≡ Some (Merkle (RangeOutOfBounds start))
    refused-start low over = in_floor low ∙ ap started (le-ltb start size over)

    pub refused-kept : f < size → start < size → start < kept → proof_refusal kept list size start ≡ Some (Journal (ItemPruned start))
    refused-kept low before gone = in_floor low ∙ ap started (lt-ltb start size before) ∙ ap (λ b. if b then Some (Journal (ItemPruned start)) else None) (lt-ltb start kept gone)

    pub offered-there : f < size → start < size → kept ≤ start → proof_refusal kept list size start ≡ None
    offered-there low before from = in_floor low ∙ ap started (lt-ltb start size before) ∙ ap (λ b. if b then Some (Journal (ItemPruned start)) else None) (le-ltb start kept from)

-- the spellings of a part of a list
pub part-spelled : (form : Form) (list : List Operation) (a n : ℕ) → take n (drop a (map (spelling form) list)) ≡ map (spelling form) (take n (drop a list))
part-spelled form list a n = ap (take n) (drop-map (spelling form) a list) ∙ take-map (spelling form) n (drop a list)

pub part-of : (form : Form) (list : List Operation) (a n : ℕ) → All (IsOf form) list → All (IsOf form) (take n (drop a list))
part-of form list a n all = All-take (IsOf form) n (drop a list) (All-drop (IsOf form) a list all)

-- want of memory is due to nothing
pub due-memory : (e : Error) (due : Option refusals.Refused) → e ≡ errors.Memory → IsDue e due
due-memory e due memory = subst (λ e. IsDue e due) (sym memory) tt

-- a call that answered was not refused
pub ok-err : {X E : Type 0} (r : Result X E) (x : X) (e : E) → r ≡ Ok x → r ≡ Err e → ⊥
ok-err r x e ok err = cc

-- what is not below is at or past it
pub at-or-past : (a b : ℕ) → (b < a → ⊥) → a ≤ b
at-or-past a b past = omega (arith, past)

-- where a log's length puts a number of its first operations
pub within-list : (form : Form) (list : List Operation) (size bound leaves : ℕ) → size ≤ bound → bound ≡ leaves → leaves ≡ length (map (spelling form) list) → size ≤ length list
within-list form list size bound leaves low is long = omega (arith, low, is, long, length-map list (spelling form))

pub past-list : (form : Form) (list : List Operation) (size bound leaves : ℕ) → bound < size → bound ≡ leaves → leaves ≡ length (map (spelling form) list) → length list < size
past-list form list size bound leaves past is long = omega (arith, past, is, long, length-map list (spelling form))
