use Rattle.std.proofs.Common.{◌≢◌, ◌<◌, ◌≤◌, ℕ, length, take, List, Some}
use Rattle.std.specs.Prelude.{All, IfSome}
use Rattle.qm_model.specs.Operations.{Operation}
use Rattle.qm_index.specs.Buckets.{bucket_at}
use Rattle.qm_build.specs.Building.{key_at}
use Rattle.qm_build.specs.Cached.{AreKeys}
use Rattle.qm_build.specs.Reads.{Spells, KeepsLog}
use Rattle.qm_build.proofs.read.find.Given as goal

abbrev pub invariant-loop-place : goal.invariant-loop-place
invariant-loop-place g l = record {
  read : KeepsLog g.C.Store g.F.Family.shape g.H.Digest.Digest.bytes g.H.Hasher.hash l.initial.log l.log;
  none : (ops : List Operation) (from : ℕ) → All (λ at. (from ≤ at) × (at < length ops)) (bucket_at (g.I.Unordered.entries l.index) (g.I.Unordered.index_key l.key)) → AreKeys g.U.Key.ByteString.bytes ops l.cache →
      IfSome (g.C.Store.told l.initial.log.store) (λ s. Spells g.U.Update.form s from ops → All (λ at. key_at ops at ≢ Some l.key) (take l.place l.bucket));
}
