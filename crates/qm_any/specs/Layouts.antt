-- How the lists of a database are spelled, hashed and indexed.
use Rattle.std.specs.Prelude.{ℕ, List, map}
use Rattle.qm_model.specs.Operations.{Bytes, Operation}
use Rattle.qm_model.specs.Forms.{Form, spelling}
use Rattle.qm_model.specs.Trees.{Shape, ops_root}
use Rattle.qm_base.specs.declared.digest.Hasher as hasher
use Rattle.qm_operations.specs.declared.update.Update as update
use Rattle.qm_merkle.specs.declared.family.Family as family
use Rattle.qm_index.specs.declared.unordered.Unordered as index

-- how lists are hashed: the bytes of a digest, the digest of bytes, how trees are numbered, and how operations are spelled
pub record Hashing (D : Type 0) : Type 0 where
  pub bytes : D → Bytes
  pub hash : Bytes → Bytes
  pub shape : Shape
  pub form : Form

-- how a database's lists are hashed, how many bytes a chunk of their bits has, and the index keys of its keys
pub record Layout (D : Type 0) : Type 0 where
  pub hashing : Hashing D
  pub chunk : ℕ
  pub index_key : Bytes → ℕ

-- the spellings of a list
abbrev pub spellings : {D : Type 0} → Hashing D → List Operation → List Bytes
spellings hashing list = map (spelling hashing.form) list

-- the operations root of a list
abbrev pub list_root : {D : Type 0} → Hashing D → List Operation → Bytes
list_root hashing list = ops_root hashing.hash hashing.shape hashing.form list

abbrev pub hashing_with : {D : Type 0} → (D → Bytes) → (Bytes → Bytes) → Shape → Form → Hashing D
hashing_with bytes hash shape form = record { bytes = bytes; hash = hash; shape = shape; form = form }

-- those of a database's parameters
abbrev pub hashing_of : {D H F U K V : Type 0} → (D → Bytes) → hasher.Ghosts H D → family.Ghosts F → update.Ghosts U K V → Hashing D
hashing_of bytes hashes families updates = hashing_with bytes hashes.hash families.shape updates.form

abbrev pub layout_of : {D H F U K V I L : Type 0} → ℕ → (D → Bytes) → hasher.Ghosts H D → family.Ghosts F → update.Ghosts U K V → index.Ghosts I L → Layout D
layout_of chunk bytes hashes families updates indices = record { hashing = hashing_of bytes hashes families updates; chunk = chunk; index_key = indices.index_key }
