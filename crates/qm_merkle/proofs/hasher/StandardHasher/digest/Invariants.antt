use Rattle.std.proofs.Common.{◌≡◌, map, take}
use Rattle.std.specs.List.{concat}
use Rattle.qm_merkle.proofs.hasher.StandardHasher.digest.Given as goal

abbrev pub invariant-loop-part : goal.invariant-loop-part
invariant-loop-part g l = record {
  holds : g.H.Hasher.holds l.self-inside.hasher (concat (map (λ part. part.now) (take l.part-index l.parts)));
  made : l.self-inside.made ≡ l.fn.self;
}
