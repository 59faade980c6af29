-- Databases over an index and a log of their operations' spellings, and their batches.
use Rattle.std.specs.Prelude.{◌≡◌, ◌≤◌, ◌^◌, ℕ, ◌+◌, nat_le, if◌then◌else◌, Bool, List, [], ◌∷◌, ◌++◌, length, map, take, get_or, All, Contains, Option, option_and_then, IsSome, ⊤}
use Rattle.qm_model.specs.Operations.{Bytes, Operation}
use Rattle.qm_model.specs.Batches.{Commitment, Kept, Chain, commitment}
use Rattle.qm_model.specs.Forms.{IsOf}
use Rattle.qm_model.specs.Live.{live, floor, last_metadata}
use Rattle.qm_model.specs.Bits.{bits}
use Rattle.qm_model.specs.Step.{IsGood}
use Rattle.qm_model.specs.Writes.{Write, last_writes, overwritten, write_of}
use Rattle.qm_operations.specs.Parts.{value_of}
use Rattle.qm_merkle.specs.Batches.{stops}
use Rattle.qm_chain.specs.Bounds.{Bounds, IsBounds, is_at}
use Rattle.qm_store.specs.declared.Store as store
use Rattle.qm_store.specs.Log.{Log}
use Rattle.qm_bits.specs.Bitmaps.{Bitmap, all_bits}
use Rattle.qm_step.specs.Bases.{Base}
use Rattle.qm_step.specs.Changes.{update_of}
use Rattle.qm_step.specs.Kinds.{HasRing}
use Rattle.qm_step.specs.Layers.{Layer, LeadThrough}
use Rattle.qm_store.specs.Reads.{IsRead}
use Rattle.qm_any.specs.Lent.{IsLent}
use Rattle.qm_step.specs.Views.{Plan}
use Rattle.qm_store.specs.KeptTrees.{KeptTree, IsKeptTree}
use Rattle.qm_any.specs.Layouts.{Hashing, Layout, list_root, spellings}

-- a database: the locations of live keys by index key, the bits of its locations, its log, what stands for its list, and
-- this list's floor, count of live keys and metadata
pub record Database (C D : Type 0) : Type 0 where
  pub entries : List (ℕ × List ℕ)
  pub activity : Bitmap
  pub log : Log C D
  pub commitment : Commitment
  pub floor : ℕ
  pub live : ℕ
  pub metadata : Option Bytes

-- what a database has beside its log
pub record State : Type 0 where
  pub entries : List (ℕ × List ℕ)
  pub activity : Bitmap
  pub commitment : Commitment
  pub floor : ℕ
  pub live : ℕ
  pub metadata : Option Bytes

-- the database of that over a log
abbrev pub over : {C D : Type 0} → State → Log C D → Database C D
over state log = record { entries = state.entries; activity = state.activity; log = log; commitment = state.commitment; floor = state.floor; live = state.live; metadata = state.metadata }

-- a merkleized batch: its bounds, its own step and those of its kept ancestors, newest first, its tree, the count of live keys
-- and the metadata of the list that it makes, and the keys that its step evicted, each with the value that it had
pub record Made (D : Type 0) : Type 0 where
  pub bounds : Bounds
  pub layers : List Layer
  pub tree : KeptTree D
  pub live : ℕ
  pub metadata : Option Bytes
  pub evicted : List (Bytes × Bytes)

-- a batch: its parent, which made its base list, how many ancestors it keeps, the parent first, and its writes in order
pub record Begun (D : Type 0) : Type 0 where
  pub parent : Made D
  pub keep : ℕ
  pub writes : List Write

-- a staged batch: the batch, and the keys that were read, in order, each with what was found of it and where
pub record Staged (D : Type 0) : Type 0 where
  pub batch : Begun D
  pub reads : List (Bytes × Option (ℕ × Operation))

-- its keys
abbrev pub staged_keys : {D : Type 0} → Staged D → List Bytes
staged_keys staged = map (λ r. r.0) staged.reads

-- the value of a key under writes, of which this live update was found
abbrev pub read_under : List Write → Bytes → Option (ℕ × Operation) → Option Bytes
read_under ws key found = overwritten (write_of (last_writes ws) key) (option_and_then (λ p. value_of p.1) found)

-- what a merkleized batch knows of the list that it makes
abbrev pub base_of : {D : Type 0} → Made D → Base
base_of batch = record { layers = batch.layers; size = batch.bounds.tip.size; floor = batch.bounds.inactivity_floor; live = batch.live }

-- the bounds of a database as a batch, which keeps no ancestor and does nothing
abbrev pub bounds_at_rest : {C D : Type 0} → Database C D → Bounds
bounds_at_rest db = record { base = db.commitment; db = db.commitment; tip = db.commitment; ancestors = []; inactivity_floor = db.floor }

-- the database as a batch
abbrev pub at_rest : {C D : Type 0} → Database C D → Made D
at_rest db = record {
  bounds = bounds_at_rest db;
  layers = record { base = db.commitment.size; operations = []; changes = [] } ∷ [];
  tree = record { leaves = db.commitment.size; layers = [] };
  live = db.live;
  metadata = db.metadata;
  evicted = [];
}

-- what stands for the lists that a batch's steps lead through, newest first: its tip, its kept ancestors' tips, its boundary
abbrev pub states : Bounds → List Commitment
states bounds = bounds.tip ∷ (bounds.ancestors ++ bounds.db ∷ [])

-- what stands for the kept ancestors' tips, and for the boundary, of a child that keeps the first `keep` ancestors
abbrev pub child_tips : ℕ → Bounds → List Commitment
child_tips keep parent = take keep (states parent)

abbrev pub child_boundary : ℕ → Bounds → Commitment
child_boundary keep parent = get_or (states parent) keep parent.db

-- the commitment is that of the batch's boundary, or of a kept ancestor's tip
abbrev pub is_on : {D : Type 0} → Commitment → Begun D → Bool
is_on current batch = is_at current (child_boundary batch.keep batch.parent.bounds) (child_tips batch.keep batch.parent.bounds)

-- the newest of the layers, up to the one that starts where a list of this size ends
abbrev pub unapplied : ℕ → List Layer → List Layer
unapplied size [] = []
unapplied size (layer ∷ layers) = if nat_le size layer.base then layer ∷ unapplied size layers else []

-- what the layers, newest first, put after the list that the oldest of them starts from
abbrev pub operations_in : List Layer → List Operation
operations_in [] = []
operations_in (layer ∷ layers) = operations_in layers ++ layer.operations

-- the sizes of the lists from which the layers start
abbrev pub bases : List Layer → List ℕ
bases layers = map (λ l. l.base) layers

-- each layer ends where the newer one starts, and the newest at this size
abbrev pub AreJoined : ℕ → List Layer → Type 0
AreJoined size [] = ⊤
AreJoined size (layer ∷ layers) = (layer.base + length layer.operations ≡ size) × AreJoined layer.base layers

-- the numbers of a merkleized batch agree: the first of its layers is its own, the layers start where its kept ancestors
-- and its boundary end, and its tree goes through all of these and keeps nothing below the boundary
pub record AreAgreed {D : Type 0} (batch : Made D) : Type 0 where
  pub few : batch.bounds.tip.size ≤ 2 ^ 62
  pub live : batch.live ≤ batch.bounds.tip.size
  pub own : take 1 (bases batch.layers) ≡ batch.bounds.base.size ∷ []
  pub starts : bases batch.layers ≡ map (λ c. c.size) (batch.bounds.ancestors ++ batch.bounds.db ∷ [])
  pub joined : AreJoined batch.bounds.tip.size batch.layers
  pub leaves : batch.tree.leaves ≡ batch.bounds.tip.size
  pub reached : All (Contains (stops batch.tree.leaves batch.tree.layers)) (batch.bounds.tip.size ∷ bases batch.layers)
  pub above : All (λ n. batch.bounds.db.size ≤ n) (stops batch.tree.leaves batch.tree.layers)

-- the batch that a plan makes on its parent: it keeps the first `keep` ancestors, counting the parent
abbrev pub child_made : {D : Type 0} → Made D → ℕ → Plan → KeptTree D → Bytes → Option Bytes → Made D
child_made parent keep plan tree root meta = record {
  bounds = record {
    base = parent.bounds.tip;
    db = child_boundary keep parent.bounds;
    tip = record { size = tree.leaves; root = root };
    ancestors = child_tips keep parent.bounds;
    inactivity_floor = plan.floor;
  };
  layers = record { base = parent.bounds.tip.size; operations = plan.operations; changes = plan.changes } ∷ take keep parent.layers;
  tree = tree;
  live = plan.live;
  metadata = meta;
  evicted = plan.evicted;
}

-- a batch starts where its parent ends, keeps the first `keep` of its ancestors, counting the parent, and nothing of what led to its boundary
pub record IsChild {D : Type 0} (parent : Made D) (keep : ℕ) (batch : Made D) : Type 0 where
  pub base : batch.bounds.base ≡ parent.bounds.tip
  pub db : batch.bounds.db ≡ child_boundary keep parent.bounds
  pub ancestors : batch.bounds.ancestors ≡ child_tips keep parent.bounds
  pub above : All (λ n. batch.bounds.db.size ≤ n) (stops batch.tree.leaves batch.tree.layers)

-- each kept ancestor makes the list from which the newer one starts, and the newest makes this one
abbrev pub AreLinked : List Operation → List Kept → Type 0
AreLinked base [] = ⊤
AreLinked base (k ∷ ks) = (k.tip ≡ base) × AreLinked k.base ks

-- the lists from which the steps of a batch of this chain start, newest first
abbrev pub bases_of : Chain → List (List Operation)
bases_of chain = chain.base ∷ map (λ k. k.base) chain.kept

-- what a child keeps of a chain that makes this list: the first `keep` ancestors, counting the parent
abbrev pub kept_by : ℕ → Chain → List Operation → List Kept
kept_by keep parent tip = take keep (record { base = parent.base; tip = tip } ∷ parent.kept)

-- what stands for a list: its size and its operations root
abbrev pub list_commitment : {D : Type 0} → Hashing D → List Operation → Commitment
list_commitment hashing list = commitment (list_root hashing) list

module _ {D : Type 0} (hashing : Hashing D) where
  -- the tree is that of the list, and leads to it through each of the older lists
  abbrev pub IsTree : KeptTree D → List Operation → List (List Operation) → Type 0
  IsTree tree list older = IsKeptTree hashing.bytes hashing.hash hashing.shape tree (spellings hashing list) (map (spellings hashing) older)

  -- the batch is of this chain, and makes this list, whose floor is no lower than those of the lists from which its steps start
  pub record IsMade (batch : Made D) (chain : Chain) (tip : List Operation) : Type 0 where
    pub bounds : IsBounds (list_root hashing) batch.bounds chain tip
    pub lowest : batch.bounds.inactivity_floor ≡ floor tip
    pub live : batch.live ≡ length (live tip)
    pub metadata : batch.metadata ≡ last_metadata tip
    pub linked : AreLinked chain.base chain.kept
    pub steps : LeadThrough batch.layers tip (bases_of chain)
    pub tree : IsTree batch.tree tip (bases_of chain)
    pub of : All (IsOf hashing.form) tip
    pub good : IsGood tip
    pub rises : All (λ (list : List Operation). floor list ≤ floor tip) (bases_of chain)
    pub ring : HasRing hashing.form tip

  -- the same, and these are the keys that its step evicted, each with the value that it had
  abbrev pub IsMadeWith : Made D → Chain → List Operation → List (Bytes × Bytes) → Type 0
  IsMadeWith batch chain tip evicted = IsMade batch chain tip × (batch.evicted ≡ evicted)

  -- the batch is of this chain, and its parent of that one
  pub record IsBegun (batch : Begun D) (chain above : Chain) : Type 0 where
    pub parent : IsMade batch.parent above chain.base
    pub kept : chain.kept ≡ kept_by batch.keep above chain.base

  -- the staged batch is of this chain, its parent of that one, and what was found of its keys is what its base list has
  pub record IsStaged (staged : Staged D) (chain above : Chain) : Type 0 where
    pub begun : IsBegun staged.batch chain above
    pub reads : All (λ r. r.1 ≡ update_of chain.base r.0) staged.reads

module _ {C D : Type 0} (members : store.Ghosts C) where
  -- the database, of this layout, stands for this list, and its store tells its items, from the list's floor or a location before it on
  pub record IsDatabase (layout : Layout D) (db : Database C D) (list : List Operation) : Type 0 where
    pub told : IsSome (members.told db.log.store)
    pub lent : IsLent members layout.hashing.shape layout.hashing.bytes layout.hashing.hash layout.hashing.form layout.index_key db.entries db.log list
    pub commitment : db.commitment ≡ list_commitment layout.hashing list
    pub low : db.log.tree.start ≤ floor list
    pub floor : db.floor ≡ floor list
    pub live : db.live ≡ length (live list)
    pub metadata : db.metadata ≡ last_metadata list
    pub active : all_bits layout.chunk db.activity ≡ bits list
    pub good : IsGood list
    pub ring : HasRing layout.hashing.form list

  -- reads left the database as it was, but for its store's count of faults, which did not fall
  pub record IsLeft (hashing : Hashing D) (old new : Database C D) : Type 0 where
    pub rest : new ≡ record old { log = new.log }
    pub read : IsRead members hashing.shape hashing.bytes hashing.hash old.log new.log
