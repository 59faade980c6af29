use Rattle.std.proofs.Common.{◌≡◌, ◌≢◌, ◌⊎◌, ◌<◌, ◌≤◌, ℕ, None, length}
use Rattle.std.specs.Prelude.{slice_index_or, IfSome}
use Rattle.qm_build.proofs.cache.clear_in.Given as goal

abbrev pub invariant-loop-at : goal.invariant-loop-at
invariant-loop-at g l = record {
  long : length l.slots.items ≡ length l.initial.slots.items;
  kept : (i : ℕ) → (slice_index_or l.slots.items i None ≡ None) ⊎ (slice_index_or l.slots.items i None ≡ slice_index_or l.initial.slots.items i None);
  others : (i : ℕ) → IfSome (slice_index_or l.initial.slots.items i None) (λ p. p.0 ≢ l.location) → slice_index_or l.slots.items i None ≡ slice_index_or l.initial.slots.items i None;
  clear : (i : ℕ) → l.first ≤ i → i < l.at → IfSome (slice_index_or l.slots.items i None) (λ p. p.0 ≢ l.location);
}
