use Rattle.std.proofs.Common.{◌≡◌, ◌∙◌, ◌+◌, ◌-◌, sym, ap, arith, drop, length, map}
use Rattle.qm_model.specs.Trees.{fold_right}
use Rattle.qm_merkle.proofs.Rooting.{fold-last, fold-next}
use Rattle.qm_merkle.proofs.hasher.StandardHasher.fold_right.Goals as goal

pub digests-init : goal.digests-init
digests-init g c = record {
  within = omega (arith, c.requires);
  is_folded = fold-last g.H.Digest.Digest.bytes g.H.Hasher.hash c.args.digests.now (length c.args.digests.now - 1) c.index-digests-at.result (omega (arith, c.requires)) c.index-digests-at.is;
  made = omega arith;
}

pub digests-preserved : goal.digests-preserved
digests-preserved g c =
    let last : c.digests.at - 1 + 1 ≡ c.digests.at = omega (arith, c.digests-test.true) in
    record {
      within = omega (arith, c.digests.invariant.within);
      is_folded = fold-next g.H.Digest.Digest.bytes g.H.Hasher.hash c.args.digests.now (c.digests.at - 1) c.index-digests-at-in-digests.result (g.H.Digest.Digest.bytes c.digests.folded) (g.H.Digest.Digest.bytes c.pair_digest-folded.result) (omega (arith, c.digests.invariant.within, c.digests-test.true)) c.index-digests-at-in-digests.is
          (c.digests.invariant.is_folded ∙ ap (λ i. fold_right g.H.Hasher.hash (map g.H.Digest.Digest.bytes (drop i c.args.digests.now))) (sym last)) c.pair_digest-folded.ensures.digest;
      made = omega (arith, c.digests.invariant.made, c.pair_digest-folded.ensures.made, c.digests.invariant.within, c.digests-test.true);
    }

pub returns : goal.returns
returns g c =
    let none : c.digests.at ≡ 0 = omega (arith, c.digests-test.false) in
    record {
      digest = c.digests.invariant.is_folded ∙ ap (λ i. fold_right g.H.Hasher.hash (map g.H.Digest.Digest.bytes (drop i c.args.digests.now))) none;
      made = omega (arith, c.digests.invariant.made, none);
    }
