-- What the lists of a kind of databases are hashed and kept by.
use Rattle.std.specs.Prelude.{◌≤◌, ◌≡◌, ℕ, ◌/◌, ◌^◌, max, ◌==◌, length, Bool, true, if◌then◌else◌, List, Option, Some, None, IfSome, option_map}
use Rattle.qm_model.specs.Operations.{Bytes, Operation}
use Rattle.qm_model.specs.Forms.{Form}
use Rattle.qm_model.specs.Trees.{Shape, ops_root}
use Rattle.qm_model.specs.Live.{floor}
use Rattle.qm_model.specs.Grafted.{boundary, canonical}
use Rattle.qm_model.specs.Walk.{Rules}
use Rattle.qm_model.specs.Step.{Kind, ordered, unordered}
use Rattle.qm_model.specs.Proofs.{Proof, ops_proof, pins_at}
use Rattle.qm_model.specs.Checks.{Checks}
use Rattle.qm_model.specs.Opening.{Chunks, Layout}
use Rattle.qm_model.specs.Own.{Engine, ArePrompt}
use Rattle.qm_model.specs.Families.{Births, HasPlaces}

-- what a current database has over an any one: chunks of activity bits, grafted onto its trees, and the checks of its proofs of keys and
-- ranges, if it offers these
pub record Grafts : Type 0 where
  pub chunks : Chunks
  pub checks : Option Checks

-- what a machine stands on: how operations are spelled and hashed, over which family of trees, and how many bytes a digest
-- has; a list's roots and boundary, the proofs of its operations and its pins
pub record Scheme : Type 0 where
  pub form : Form
  pub shape : Shape
  pub hash : Bytes → Bytes
  pub digest_size : ℕ
  -- the operations root, which tells a batch whether it fits
  pub root : List Operation → Bytes
  -- the root: of a current database the canonical root, of an any one the operations root
  pub canonical : List Operation → Bytes
  pub boundary : List Operation → ℕ
  -- of the whole list, for the operations from a up to b
  pub proof : List Operation → ℕ → ℕ → Proof
  pub pins : List Operation → ℕ → List Bytes
  -- none in an any database
  pub grafts : Option Grafts

-- that of any databases whose lists are hashed so, by digests of this size: both roots are the operations root, and nothing is grafted
-- onto their trees
abbrev pub any_scheme : (Bytes → Bytes) → Shape → ℕ → Form → Scheme
any_scheme hash shape size form = record {
  form = form;
  shape = shape;
  hash = hash;
  digest_size = size;
  root = ops_root hash shape form;
  canonical = ops_root hash shape form;
  boundary = floor;
  proof = ops_proof hash shape form;
  pins = pins_at hash shape form;
  grafts = None;
}

-- that of current databases with these chunks, which offer no proofs of keys and ranges
abbrev pub current_scheme : (Bytes → Bytes) → Shape → ℕ → Form → Chunks → Scheme
current_scheme hash shape size form c = record {
  form = form;
  shape = shape;
  hash = hash;
  digest_size = size;
  root = ops_root hash shape form;
  canonical = canonical hash shape c.height form;
  boundary = boundary shape c.height;
  proof = ops_proof hash shape form;
  pins = pins_at hash shape form;
  grafts = Some (record { chunks = c; checks = None });
}

-- the kind of its databases
abbrev pub kind_of : Scheme → Kind
kind_of m = if m.form.ordered then ordered else unordered

-- the chunks of its databases' bits, if they are current ones
abbrev pub chunks_of : Scheme → Option Chunks
chunks_of m = option_map (λ g. g.chunks) m.grafts

-- Chunks have 8 locations at least, and stand over the trees of a family, whose digests are of one size.
pub record IsOver (hash : Bytes → Bytes) (shape : Shape) (size : ℕ) (c : Chunks) : Type 0 where
  pub enough : 3 ≤ c.height
  pub births : Births
  pub trees : HasPlaces shape births
  pub sized : (m : Bytes) → length (hash m) ≡ size

-- how its databases lie in a store
abbrev pub layout_of : Scheme → Layout
layout_of m = record { form = m.form; shape = m.shape; digest_size = m.digest_size; chunks = chunks_of m }

-- what makes their lists under policies with these rules, and how they lie in a store
abbrev pub engine_of : Scheme → {P : Type 0} → Rules P → Engine P
engine_of m rules = record { kind = kind_of m; rules = rules; hash = m.hash; layout = layout_of m }

-- whether a database of the first instance number makes lists of batches of the second: an any one of all, a current one of its own
abbrev pub takes : Option Grafts → ℕ → ℕ → Bool
takes None own other = true
takes (Some g) own other = own == other

-- how many chunks are pruned after a prune to a location, of which so many were: an any database has none
abbrev pub chunks_after : Option Grafts → ℕ → ℕ → ℕ
chunks_after None pruned to = pruned
chunks_after (Some g) pruned to = max pruned (to / 2 ^ g.chunks.height)

-- No list may be pruned past its floor, nor, in a current database, past the boundary of its chunks; no node over a chunk waits for
-- longer than the threshold tells, and chunks are of 8 locations at least, over a family's trees.
pub record HasBounds (m : Scheme) : Type 0 where
  pub low : (list : List Operation) → m.boundary list ≤ floor list
  pub chunks : IfSome (chunks_of m) (λ c. (list : List Operation) → m.boundary list ≤ boundary m.shape c.height list)
  pub prompt : ArePrompt (chunks_of m) m.shape
  pub over : IfSome (chunks_of m) (IsOver m.hash m.shape m.digest_size)
