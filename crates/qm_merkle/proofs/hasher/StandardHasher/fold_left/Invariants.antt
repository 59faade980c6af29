use Rattle.std.proofs.Common.{◌≡◌, drop, map}
use Rattle.qm_model.specs.Trees.{fold_left}
use Rattle.qm_merkle.specs.Mems.{more}
use Rattle.qm_merkle.proofs.hasher.StandardHasher.fold_left.Given as goal

abbrev pub invariant-loop-digest : goal.invariant-loop-digest
invariant-loop-digest g l = record {
  is_folded : fold_left g.H.Hasher.hash (g.H.Digest.Digest.bytes l.folded) (map g.H.Digest.Digest.bytes (drop l.digest-index l.rest))
      ≡ fold_left g.H.Hasher.hash (g.H.Digest.Digest.bytes l.fn.first) (map g.H.Digest.Digest.bytes l.rest);
  made : l.self ≡ more l.fn.self l.digest-index;
}
