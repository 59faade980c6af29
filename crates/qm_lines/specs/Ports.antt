-- What a sink takes of a piece, and what ports are known by.
use Rattle.std.specs.Prelude.{ℕ, ◌+◌, ◌-◌, ◌^◌, min, List, [], take, Option, Result, Ok, Err}
use Rattle.qm_model.specs.Operations.{Bytes}
use Rattle.qm_model.specs.Causes.{Grows, GrowsPart}
use Rattle.qm_lines.specs.declared.ports.SinkError.{SinkError}
use Rattle.qm_lines.specs.declared.ports.SinkError.TheVariants.{Memory, Failed}

-- `Ok n` put the first n bytes in, `Failed` a first part, `Memory` none
abbrev pub Takes : Option Bytes → Option Bytes → Result ℕ SinkError → Bytes → Type 0
Takes old new (Ok n) piece = Grows old new (take n piece)
Takes old new (Err Failed) piece = GrowsPart old new piece
Takes old new (Err Memory) piece = Grows old new []

-- a count after one more, which stands still at its last value
abbrev pub one_more : ℕ → ℕ
one_more n = min (n + 1) (2 ^ 64 - 1)

-- the bytes that a source in memory has left, the numbers of its failing calls, its calls so far and its faults
pub record SourceState : Type 0 where
  pub left : Bytes
  pub fail : List ℕ
  pub calls : ℕ
  pub faults : ℕ

-- the bytes that a sink in memory took, the numbers of its failing calls, its calls so far and its faults
pub record SinkState : Type 0 where
  pub text : Bytes
  pub fail : List ℕ
  pub calls : ℕ
  pub faults : ℕ

-- a reader or a writer, and how often it failed
pub record Counted (T : Type 0) : Type 0 where
  pub inner : T
  pub faults : ℕ
