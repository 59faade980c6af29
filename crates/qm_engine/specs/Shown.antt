-- What only a current database is asked.
use Rattle.std.specs.Prelude.{Bool, true, ◌&&◌, is_some}
use Rattle.qm_model.specs.Schemes.{Scheme}
use Rattle.qm_machine.specs.Lines.{Question, Held, Absent, Chunks, Witness}

-- ordered databases alone are asked for proofs of absence
abbrev pub proves : Bool → Question → Bool
proves ordered (Absent key) = ordered
proves ordered (Held key) = true
proves ordered (Chunks start max) = true
proves ordered Witness = true

-- whether a scheme's databases are asked this
abbrev pub offers : Scheme → Question → Bool
offers m question = is_some m.grafts && proves m.form.ordered question
