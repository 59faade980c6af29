-- When the list of a batch is taken, and why it is refused.
use Rattle.std.specs.Prelude.{◌≡◌, ◌⊎◌, ◌≤◌, ◌<◌, ◌^◌, ◌+◌, ◌∷◌, ℕ, List, [], length, map, drop, true, false, None, Some, IfSome, All}
use Rattle.qm_operations.specs.Parts.{floor_of}
use Rattle.qm_base.specs.declared.error.Error.{Error}
use Rattle.qm_base.specs.declared.error.Error.TheVariants as errors
use Rattle.qm_base.specs.declared.error.JournalError.TheVariants as journal
use Rattle.qm_base.specs.declared.error.TreeRefused.TheVariants as refused
use Rattle.qm_model.specs.Operations.{Bytes, Operation}
use Rattle.qm_model.specs.Batches.{Commitment}
use Rattle.qm_model.specs.Forms.{Form, IsOf, spelling}
use Rattle.qm_model.specs.Refusals.{too_long}
use Rattle.qm_model.specs.Live.{floor}
use Rattle.qm_merkle.specs.Batches.{stops, stops_since}
use Rattle.qm_chain.specs.Bounds.{is_at}
use Rattle.qm_store.specs.KeptTrees.{KeptTree, IsKeptTree}
use Rattle.qm_step.specs.Layers.{Layer}
use Rattle.qm_any.specs.Layouts.{Hashing, list_root, spellings}
use Rattle.qm_any.specs.Databases.{Made, child_boundary, child_tips}

-- a floor of at most 2 ^ 62, if it is a commit
abbrev pub IsLow : Operation → Type 0
IsLow op = IfSome (floor_of op) (λ floor. floor ≤ 2 ^ 62)

-- the spellings of what a tip has after its base
abbrev pub own_spellings : Form → List Operation → List Operation → List Bytes
own_spellings form base tip = map (spelling form) (drop (length base) tip)

-- no own spelling is too long, and there are not too many operations
abbrev pub IsTaken : Form → List Operation → List Operation → Type 0
IsTaken form base tip = (too_long (own_spellings form base tip) ≡ None) × (length tip ≤ 2 ^ 62)

-- the own operations of a merkleized batch: what its last step appends
abbrev pub own_of : {D : Type 0} → Made D → List Operation
own_of made = own_in made.layers
  where
    own_in : List Layer → List Operation
    own_in [] = []
    own_in (own ∷ older) = own.operations

-- nothing of a merkleized batch is too large: no spelling of its own operations, nor its list
abbrev pub IsShort : {D : Type 0} → Form → Made D → Type 0
IsShort form made = (too_long (map (spelling form) (own_of made)) ≡ None) × (made.bounds.tip.size ≤ 2 ^ 62)

-- the error tells the size of the first spelling that is too long or, if none is, the list's size
abbrev pub IsTooLong : List Bytes → ℕ → Error → Type 0
IsTooLong spelt size e =
    ((n : ℕ) × (too_long spelt ≡ Some n) × (e ≡ errors.Journal (journal.ItemTooLarge n)))
    ⊎ ((too_long spelt ≡ None) × (2 ^ 62 < size) × (e ≡ errors.Merkle (refused.LocationOverflow size)))

-- no spelling of these operations is too long, the list of `size` operations with them is not, and they are of the form if their floors are low
pub record IsSpelled (form : Form) (operations : List Operation) (size : ℕ) : Type 0 where
  pub short : too_long (map (spelling form) operations) ≡ None
  pub few : size ≤ 2 ^ 62
  pub of : All IsLow operations → All (IsOf form) operations

-- a tree has the leaves of these operations after those of an older one, and leads through the lists of that which have `boundary` operations or more
pub record IsTreeAfter {D : Type 0} (form : Form) (old : KeptTree D) (operations : List Operation) (boundary : ℕ) (new : KeptTree D) : Type 0 where
  pub leaves : new.leaves ≡ old.leaves + length operations
  pub spelled : IsSpelled form operations new.leaves
  pub through : stops new.leaves new.layers ≡ new.leaves ∷ stops_since boundary (stops old.leaves old.layers)

-- a tree is that of a list, which it leads to through these, and the digest is the list's root if this is its floor
pub record AreTreeAndRoot {D : Type 0} (hashing : Hashing D) (list : List Operation) (older : List (List Bytes)) (low : ℕ) (both : KeptTree D × D) : Type 0 where
  pub tree : IsKeptTree hashing.bytes hashing.hash hashing.shape both.0 (spellings hashing list) older
  pub root : low ≡ floor list → hashing.bytes both.1 ≡ list_root hashing list

-- these stand for the boundary and the kept tips of a child that keeps the first `keep` ancestors, which can be made at this state
pub record IsPlaced {D : Type 0} (parent : Made D) (keep : ℕ) (current db : Commitment) (kept : List Commitment) : Type 0 where
  pub boundary : db ≡ child_boundary keep parent.bounds
  pub tips : kept ≡ child_tips keep parent.bounds
  pub on : is_at current (child_boundary keep parent.bounds) (child_tips keep parent.bounds) ≡ true

-- the error is want of memory, or no such child can be made at this state
abbrev pub IsUnplaced : {D : Type 0} → Made D → ℕ → Commitment → Error → Type 0
IsUnplaced parent keep current e = (e ≡ errors.Memory) ⊎ ((e ≡ errors.StaleBatch) × (is_at current (child_boundary keep parent.bounds) (child_tips keep parent.bounds) ≡ false))

-- the error is want of memory, a stale batch, or tells what is too long
abbrev pub IsRefused : Form → List Operation → List Operation → Error → Type 0
IsRefused form base tip e = (e ≡ errors.Memory) ⊎ ((e ≡ errors.StaleBatch) ⊎ IsTooLong (own_spellings form base tip) (length tip) e)
