-- What a fill tells of its commands and their replies.
use Rattle.std.specs.Prelude.{ℕ, ◌+◌, Bool, true, false, if◌then◌else◌, List, [], ◌∷◌, ◌++◌, length, codes, decimal}
use Rattle.std.specs.List.{count_by, flat_map, zip}
use Rattle.qm_model.specs.Operations.{Bytes}
use Rattle.qm_model.specs.Schemes.{Scheme}
use Rattle.qm_model.specs.Walk.{Rules}
use Rattle.qm_machine.specs.Lines.{Line, Info, Root, Answer, Refuses}
use Rattle.qm_machine.specs.Machine.{State, answers}
use Rattle.qm_machine.specs.Text.{reply_line}

abbrev pub is_refusal : Answer → Bool
is_refusal (Refuses r) = true
is_refusal answer = false

-- whether the reply to a command is shown: that to what tells the database's numbers or its roots
abbrev pub is_shown : {P : Type 0} → Line P → Bool
is_shown Info = true
is_shown Root = true
is_shown line = false

-- a command and its reply
abbrev pub Exchange : Type 0 → Type 0
Exchange P = Line P × Answer

-- the machine's answers to commands from a state, each beside its command
abbrev pub exchanges : Scheme → {P : Type 0} → Rules P → State → List (Line P) → List (Exchange P)
exchanges m rules s lines = zip lines (answers m rules s lines)

abbrev pub is_refused : {P : Type 0} → Exchange P → Bool
is_refused (line, answer) = is_refusal answer

-- the line of a reply, if it is shown
abbrev pub shown_line : {P : Type 0} → Exchange P → Bytes
shown_line (line, answer) = if is_shown line then reply_line answer ++ 10 ∷ [] else []

-- how many commands there were, how many of them were refused, and the lines that are shown
pub record Counts : Type 0 where
  pub commands : ℕ
  pub refused : ℕ
  pub shown : Bytes

unfoldable pub counts_of : {P : Type 0} → List (Exchange P) → Counts
counts_of es = record { commands = length es; refused = count_by is_refused es; shown = flat_map shown_line es }

-- those of some exchanges, and then of others
unfoldable pub both : Counts → Counts → Counts
both a b = record { commands = a.commands + b.commands; refused = a.refused + b.refused; shown = a.shown ++ b.shown }

-- the line of the counts
abbrev pub counts_line : Counts → Bytes
counts_line c = codes "commands " ++ (decimal c.commands ++ (codes " refused " ++ (decimal c.refused ++ 10 ∷ [])))

unfoldable pub summary_text : Counts → Bytes
summary_text c = counts_line c ++ c.shown

-- what a fill writes
abbrev pub summary : {P : Type 0} → List (Exchange P) → Bytes
summary es = summary_text (counts_of es)
