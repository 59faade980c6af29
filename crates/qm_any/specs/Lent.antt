-- What an index and an authenticated log stand for.
use Rattle.std.specs.Prelude.{ℕ, List}
use Rattle.qm_model.specs.Operations.{Bytes, Operation}
use Rattle.qm_model.specs.Trees.{Shape}
use Rattle.qm_model.specs.Forms.{Form}
use Rattle.qm_store.specs.declared.Store as store
use Rattle.qm_store.specs.Log.{Log}
use Rattle.qm_store.specs.Reads.{log_reads}
use Rattle.qm_step.specs.Lent as lent

-- they stand for this list of a database of this form
abbrev pub IsLent : {C D : Type 0} → store.Ghosts C → Shape → (D → Bytes) → (Bytes → Bytes) → Form → (Bytes → ℕ) → List (ℕ × List ℕ) → Log C D → List Operation → Type 0
IsLent members shape bytes hash = lent.IsLent (log_reads members shape bytes hash)
