use Rattle.std.proofs.Common.{◌≢◌, ◌<◌, ◌≤◌, ℕ, None}
use Rattle.std.specs.Prelude.{slice_index_or, IfSome}
use Rattle.qm_build.proofs.cache.key_in.Given as goal

abbrev pub invariant-loop-at : goal.invariant-loop-at
invariant-loop-at g l = (i : ℕ) → l.first ≤ i → i < l.at → IfSome (slice_index_or l.slots i None) (λ p. p.0 ≢ l.location)
