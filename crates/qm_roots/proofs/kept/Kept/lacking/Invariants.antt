use Rattle.std.proofs.Common.{◌≡◌, ◌≢◌, ◌<◌, ℕ, get_or}
use Rattle.qm_roots.specs.Kept.{sizes_of}
use Rattle.qm_roots.proofs.kept.Kept.lacking.Given as goal

-- none of the lists so far has the size
abbrev pub invariant-loop-steps : goal.invariant-loop-steps
invariant-loop-steps g l = (k : ℕ) → k < l.steps → get_or (sizes_of l.self) k 0 ≢ l.size
