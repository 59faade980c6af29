use Rattle.std.proofs.Common.{◌≡◌, ◌<◌, ◌-◌, length, drop, map}
use Rattle.qm_model.specs.Trees.{fold_right}
use Rattle.qm_merkle.specs.Mems.{more}
use Rattle.qm_merkle.proofs.hasher.StandardHasher.fold_right.Given as goal

abbrev pub invariant-digests : goal.invariant-digests
invariant-digests g l = record {
  within : l.at < length l.digests;
  is_folded : g.H.Digest.Digest.bytes l.folded ≡ fold_right g.H.Hasher.hash (map g.H.Digest.Digest.bytes (drop l.at l.digests));
  made : l.self ≡ more l.fn.self (length l.digests - 1 - l.at);
}

abbrev pub decreases-digests : goal.decreases-digests
decreases-digests g l = l.at
