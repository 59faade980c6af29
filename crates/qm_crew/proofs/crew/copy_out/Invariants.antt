use Rattle.std.proofs.Common.{◌≡◌, ℕ, ◌<◌, length}
use Rattle.std.specs.Prelude.{slice_index}
use mathlib.Core.Option.{some}
use lib.ListN.{get_elem?}
use Rattle.qm_crew.proofs.crew.copy_out.Given as goal

abbrev pub invariant-loop-i : goal.invariant-loop-i
invariant-loop-i l = (length l.bits ≡ length l.initial.bits) × ((j : ℕ) → j < l.i → get_elem? l.closed.words.items j ≡ some (slice_index l.bits j))
