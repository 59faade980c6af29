-- The databases that are offered to a run.
use Rattle.std.specs.Prelude.{◌≡◌, ℕ, Bool, List, codes, Option, Some, None, if◌then◌else◌}
use Rattle.qm_model.specs.Checks.{Checks, absent_check, unordered_checks}
use Rattle.qm_model.specs.Forms.{Form}
use Rattle.qm_model.specs.Opening.{Chunks}
use Rattle.qm_model.specs.Operations.{Bytes, Operation}
use Rattle.qm_model.specs.Schemes.{Scheme, current_scheme}
use Rattle.qm_model.specs.Trees.{Shape}
use Rattle.qm_graft.specs.Grafting.{grafting}
use Rattle.qm_store.specs.declared.Store as store
use Rattle.qm_any.specs.Layouts.{Layout}
use Rattle.qm_current.specs.Databases.{Database, IsCounted, IsDatabase}

-- the check of a database's proofs of absence, which ordered ones alone make, over chunks of 2 ^ g locations
abbrev pub absences_of : (Bytes → Bytes) → Shape → ℕ → Form → Option (List Operation → Bytes → ℕ × Bool)
absences_of hash shape g form = if form.ordered then Some (absent_check hash shape g form) else None

-- the checks of all its proofs
abbrev pub checks_of : (Bytes → Bytes) → Shape → ℕ → Form → Checks
checks_of hash shape g form = record (unordered_checks hash shape g form) { absent = absences_of hash shape g form }

-- the machine of a database's lists: of digests of this size, with metadata of this name
abbrev pub scheme_of : {D : Type 0} → ℕ → Layout D → Bytes → Scheme
scheme_of digest_size layout name =
    let by = layout.hashing in
    let g = grafting layout.chunk in
    let chunks : Chunks = record { height = g; name = name } in
    record (current_scheme by.hash by.shape digest_size by.form chunks) { grafts = Some (record { chunks = chunks; checks = Some (checks_of by.hash by.shape g by.form) }) }

-- how many bytes a chunk has of those that are offered
abbrev pub offered_chunk : ℕ
offered_chunk = 32

-- the name of their metadata
abbrev pub offered_name : Bytes
offered_name = codes "grafted"

-- the database stands for this list, and its store's metadata, under the offered name, counts what is pruned of it
pub record IsOffered {C D : Type 0} (members : store.Ghosts C) (layout : Layout D) (db : Database C D) (list : List Operation) : Type 0 where
  pub at : IsDatabase members layout db list
  pub counted : IsCounted members db
  pub named : db.name ≡ offered_name
