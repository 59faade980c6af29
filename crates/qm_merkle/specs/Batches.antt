-- Batches over a tree in memory: what a layer adds and replaces, the lists that layers lead through, and what a draft makes of a list.
use Rattle.std.specs.Prelude.{◌≡◌, ◌⊎◌, ◌↔◌, ◌≤◌, ◌<◌, ℕ, zero, suc, ◌+◌, ◌-◌, ◌*◌, List, [], ◌∷◌, ◌++◌, length, map, filter, Option, None, IsSome, IfSome, Contains, MatchOption, slice_get, slice_set, nat_le, nat_lt, if◌then◌else◌, ⊤}
use Rattle.std.specs.Option.{option_or, unwrap_or, option_map}
use Rattle.std.specs.Ordering.{nat_cmp}
use Rattle.std.specs.Map.{lookup}
use Rattle.std.specs.BTreeMap.{is_at, insert_entry}
use Rattle.qm_model.specs.Operations.{Bytes}
use Rattle.qm_model.specs.Trees.{Shape, Node, digest_of}
use Rattle.qm_model.specs.Families.{over}
use Rattle.qm_merkle.specs.Mems.{Kept, IsWhole, Stands, Gives, node_at}

-- what entries in the order of their numbers have at a number
abbrev pub found_at : {D : Type 0} → List (ℕ × D) → ℕ → Option D
found_at entries n = lookup (is_at (nat_cmp n)) entries

-- a batch without those that it stands on: the tree of its list, kept from the leaf where it began, and the nodes before these that it replaces, by position
pub record Layer (D : Type 0) : Type 0 where
  pub tree : Kept D
  pub replaced : List (ℕ × D)

-- the digest of a node that the layer adds or replaces
abbrev pub layer_at : {D : Type 0} → Shape → Layer D → ℕ → Option D
layer_at shape layer p = if nat_le (shape.size layer.tree.start) p then slice_get layer.tree.nodes (p - shape.size layer.tree.start) else found_at layer.replaced p

-- the digest of a node that layers add or replace, of which the newest is the first
abbrev pub layers_at : {D : Type 0} → Shape → List (Layer D) → ℕ → Option D
layers_at shape [] p = None
layers_at shape (layer ∷ older) p = option_or (layer_at shape layer p) (layers_at shape older p)

-- the leaf counts of the lists that layers end at, go through and start from
abbrev pub stops : {D : Type 0} → ℕ → List (Layer D) → List ℕ
stops leaves [] = leaves ∷ []
stops leaves (layer ∷ older) = leaves ∷ stops layer.tree.start older

-- of layers, the newest first, those that begin at so many leaves or later
abbrev pub layers_since : {D : Type 0} → ℕ → List (Layer D) → List (Layer D)
layers_since leaves [] = []
layers_since leaves (layer ∷ older) = if nat_le leaves layer.tree.start then layer ∷ layers_since leaves older else []

-- of their stops, those at so many leaves or more
abbrev pub stops_since : ℕ → List ℕ → List ℕ
stops_since leaves stops = filter (nat_le leaves) stops

-- of lists, those with so many leaves or more
abbrev pub lists_since : {X : Type 0} → ℕ → List (List X) → List (List X)
lists_since leaves lists = filter (λ list. nat_le leaves (length list)) lists

-- each layer's tree is whole, and begins where the older layer ends
abbrev pub AreLinked : {D : Type 0} → Shape → ℕ → List (Layer D) → Type 0
AreLinked shape leaves [] = ⊤
AreLinked shape leaves (layer ∷ older) = (layer.tree.leaves ≡ leaves) × IsWhole shape layer.tree × AreLinked shape layer.tree.start older

-- the layer leads from one list of leaves' digests to another: its tree stands for the new one, and below its start it has each node whose digest is another
pub record Leads {D : Type 0} (shape : Shape) (bytes : D → Bytes) (hash : Bytes → Bytes) (layer : Layer D) (old new : List Bytes) : Type 0 where
  pub start : layer.tree.start ≡ length old
  pub stands : Stands shape bytes hash layer.tree new
  pub replaced : (x : Node) → shape.birth x ≤ length old →
      MatchOption (found_at layer.replaced (shape.position x)) (digest_of hash shape old x ≡ digest_of hash shape new x) (λ d. bytes d ≡ digest_of hash shape new x)

-- the lists that layers end at, go through and start from, the newest first
abbrev pub IsHistory : {D : Type 0} → Shape → (D → Bytes) → (Bytes → Bytes) → List (Layer D) → List (List Bytes) → Type 0
IsHistory shape bytes hash [] [] = ⊥
IsHistory shape bytes hash [] (list ∷ []) = ⊤
IsHistory shape bytes hash [] (list ∷ more ∷ lists) = ⊥
IsHistory shape bytes hash (layer ∷ older) [] = ⊥
IsHistory shape bytes hash (layer ∷ older) (new ∷ []) = ⊥
IsHistory shape bytes hash (layer ∷ older) (new ∷ old ∷ lists) = Leads shape bytes hash layer old new × IsHistory shape bytes hash older (old ∷ lists)

-- a batch before its nodes are hashed: the kept start of its tree, the leaves and layers that it stands on, the leaves that it replaces, by location, and those that it adds
pub record Draft (D : Type 0) : Type 0 where
  pub start : ℕ
  pub base : ℕ
  pub layers : List (Layer D)
  pub replaced : List (ℕ × D)
  pub added : List D

-- how many leaves the draft's list has
abbrev pub leaves_of : {D : Type 0} → Draft D → ℕ
leaves_of draft = draft.base + length draft.added

-- the list with these leaves replaced, from location i on
abbrev pub replaced_from : {D : Type 0} → (D → Bytes) → List (ℕ × D) → ℕ → List Bytes → List Bytes
replaced_from bytes replaced i [] = []
replaced_from bytes replaced i (leaf ∷ leaves) = unwrap_or (option_map bytes (found_at replaced i)) leaf ∷ replaced_from bytes replaced (suc i) leaves

-- what the draft makes of the list that it stands on
abbrev pub drafted : {D : Type 0} → (D → Bytes) → Draft D → List Bytes → List Bytes
drafted bytes draft leaves = replaced_from bytes draft.replaced 0 leaves ++ map bytes draft.added

-- the draft with another digest for a leaf
abbrev pub updated : {D : Type 0} → Draft D → ℕ → D → Draft D
updated draft location digest =
    if nat_lt location draft.base then record draft { replaced = insert_entry nat_cmp draft.replaced location digest }
    else record draft { added = slice_set draft.added (location - draft.base) digest }

-- the node of this height and index is a replaced leaf, or over one
abbrev pub IsOver : {D : Type 0} → List (ℕ × D) → ℕ → ℕ → Type 0
IsOver replaced zero index = IsSome (found_at replaced index)
IsOver replaced (suc h) index = IsOver replaced h (2 * index) ⊎ IsOver replaced h (2 * index + 1)

-- a batch: the kept start of its tree, and its layers, the newest first
pub record Batch (D : Type 0) : Type 0 where
  pub start : ℕ
  pub newest : Layer D
  pub older : List (Layer D)

-- the layers of a batch
abbrev pub all_layers : {D : Type 0} → Batch D → List (Layer D)
all_layers batch = batch.newest ∷ batch.older

-- what layers over a tree have of a node
abbrev pub seen_at : {D : Type 0} → Shape → List (Layer D) → Kept D → Node → Option D
seen_at shape layers mem x = option_or (layers_at shape layers (shape.position x)) (node_at shape mem (shape.position x))

-- what these entries by position have there, else the layers, else the tree
abbrev pub made_at : {D : Type 0} → Shape → List (ℕ × D) → List (Layer D) → Kept D → ℕ → Option D
made_at shape entries layers mem p = option_or (found_at entries p) (option_or (layers_at shape layers p) (node_at shape mem p))

-- layers over a tree have each node of so many leaves, if the node over it was not there at the kept start
abbrev pub AreThere : {D : Type 0} → Shape → List (Layer D) → Kept D → ℕ → Type 0
AreThere shape layers mem base = (x : Node) → shape.birth x ≤ base → mem.start < shape.birth (over x) → IsSome (seen_at shape layers mem x)

-- and each has its digest over the list
abbrev pub AreRead : {D : Type 0} → Shape → (D → Bytes) → (Bytes → Bytes) → List (Layer D) → Kept D → List Bytes → Type 0
AreRead shape bytes hash layers mem list = (x : Node) → shape.birth x ≤ length list → mem.start < shape.birth (over x) → Gives bytes (seen_at shape layers mem x) (digest_of hash shape list x)

-- entries by position have digests over the list
abbrev pub AreRight : {D : Type 0} → Shape → (D → Bytes) → (Bytes → Bytes) → List (ℕ × D) → List Bytes → Type 0
AreRight shape bytes hash entries list = (x : Node) → shape.birth x ≤ length list → IfSome (found_at entries (shape.position x)) (λ d. bytes d ≡ digest_of hash shape list x)

-- entries by position have, of the nodes of so many leaves and of height h at most, those that are over a replaced leaf, and none that is higher
abbrev pub AreOver : {D : Type 0} → Shape → List (ℕ × D) → ℕ → ℕ → List (ℕ × D) → Type 0
AreOver shape replaced base h entries = (x : Node) → shape.birth x ≤ base →
    (x.height ≤ h → IsSome (found_at entries (shape.position x)) ↔ IsOver replaced x.height x.index) × (h < x.height → found_at entries (shape.position x) ≡ None)

-- entries by position have, of the nodes of so many leaves, those that are over a replaced leaf
abbrev pub HaveOver : {D : Type 0} → Shape → List (ℕ × D) → ℕ → List (ℕ × D) → Type 0
HaveOver shape replaced base entries = (x : Node) → shape.birth x ≤ base → IsSome (found_at entries (shape.position x)) ↔ IsOver replaced x.height x.index

-- the row has the indices of the nodes of this height, of so many leaves, that entries by position have
abbrev pub IsRow : {D : Type 0} → Shape → ℕ → ℕ → List (ℕ × D) → List ℕ → Type 0
IsRow shape base h entries row = (index : ℕ) → Contains row index ↔ ((shape.birth (record { height = h; index = index }) ≤ base) × IsSome (found_at entries (shape.position (record { height = h; index = index }))))
