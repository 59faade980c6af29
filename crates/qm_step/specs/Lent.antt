-- What an index and a log stand for.
use Rattle.std.specs.Prelude.{◌≤◌, ℕ, List, map, All, Result}
use Rattle.qm_model.specs.Live.{live}
use Rattle.qm_model.specs.Operations.{Bytes, Operation}
use Rattle.qm_model.specs.Forms.{Form, IsOf, spelling}
use Rattle.qm_base.specs.declared.error.Error.{Error}
use Rattle.qm_base.specs.Reads.{ItemsTold, ReadsItems}
use Rattle.qm_index.specs.Indexed.{IsIndexed}

-- an index and a log stand for this list of a database of this form
pub record IsLent {L : Type 0} (reads : ItemsTold L) (form : Form) (index_key : Bytes → ℕ) (entries : List (ℕ × List ℕ)) (log : L) (list : List Operation) : Type 0 where
  pub indexed : IsIndexed index_key entries list
  pub logged : reads.logged log (map (spelling form) list)
  pub of : All (IsOf form) list

-- no live update of the list stands below this location
abbrev pub NoneBelow : ℕ → List Operation → Type 0
NoneBelow start list = All (λ e. start ≤ e.location) (live list)

-- they stand for a list whose live updates the log all has
pub record IsWhole {L : Type 0} (reads : ItemsTold L) (form : Form) (index_key : Bytes → ℕ) (entries : List (ℕ × List ℕ)) (log : L) : Type 0 where
  pub list : List Operation
  pub lent : IsLent reads form index_key entries log list
  pub none : NoneBelow (reads.start log) list

-- A call read what an index and a log lend: it left the log as it was. It failed for memory, for a read of its store, or at an item
-- below the start, and not so if the log has all live updates.
abbrev pub ReadsLent : {L A : Type 0} → ItemsTold L → Form → (Bytes → ℕ) → List (ℕ × List ℕ) → L → L → Result A Error → Type 0
ReadsLent reads form index_key entries old new result = ReadsItems reads old new result (IsWhole reads form index_key entries old)
