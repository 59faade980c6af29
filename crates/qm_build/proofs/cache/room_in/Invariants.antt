use Rattle.std.proofs.Common.{◌<◌, ◌≤◌, ℕ, None}
use Rattle.std.specs.Prelude.{slice_index_or}
use Rattle.qm_build.specs.Cached.{IsFirst}
use Rattle.qm_build.proofs.cache.room_in.Given as goal

abbrev pub invariant-loop-at : goal.invariant-loop-at
invariant-loop-at g l = record {
  from : l.first ≤ l.room;
  below : l.room < l.end;
  least : (i : ℕ) → l.first ≤ i → i < l.at → IsFirst (slice_index_or l.slots l.room None) (slice_index_or l.slots i None);
}
