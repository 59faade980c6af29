-- What is appended to a string.
use Rattle.std.specs.Prelude.{◌≡◌, ◌++◌, String, Result, IfOk}
use Rattle.std.specs.String.{string_bytes}
use Rattle.qm_model.specs.Operations.{Bytes}

-- unless it failed, the text was written after what the string had
abbrev pub Adds : {A E : Type 0} → String A → String A → Result (Unit {0}) E → Bytes → Type 0
Adds old new result text = IfOk result (λ _. string_bytes new ≡ string_bytes old ++ text)
