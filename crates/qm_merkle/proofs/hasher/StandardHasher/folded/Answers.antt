use Rattle.std.proofs.Common.{◌≡◌, ◌<◌, ◌+◌, ◌-◌, ◌++◌, ℕ, List, length, map, take, drop, arith, ap, ap₂, sym, ◌∙◌}
use Rattle.std.proofs.lemmas.List.{length-take, length-drop}
use Rattle.qm_model.specs.Trees.{fold_inactive, fold_right}
use Rattle.qm_merkle.specs.Mems.{more}
use Rattle.qm_merkle.proofs.Rooting.{folded_mid, folded_all, more_twice}
use Rattle.qm_merkle.proofs.hasher.StandardHasher.folded.Goals as goal

-- what two folds, a digest of both and the root make
made_mid : {D : Type 0} (peaks : List D) (j a b c d : ℕ) → 0 < j → j < length peaks → b ≡ more a (length (take (j - 1) (drop 1 peaks))) → c ≡ more b (length (take (length peaks - j) (drop j peaks)) - 1) →
    d ≡ more c 1 → d ≡ more a (length peaks - 1)
made_mid peaks j a b c d some lt first rest one =
    let m = length (take (j - 1) (drop 1 peaks)) in
    let n = length (take (length peaks - j) (drop j peaks)) - 1 in
    let total : m + n + 1 ≡ length peaks - 1 = omega (arith, length-take (j - 1) (drop 1 peaks), length-drop 1 peaks, length-take (length peaks - j) (drop j peaks), length-drop j peaks) in
    one ∙ ap (λ x. more x 1) (rest ∙ ap (λ x. more x n) first ∙ more_twice a m n) ∙ more_twice a (m + n) 1 ∙ ap (more a) total

made_all : {D : Type 0} (peaks : List D) (j a b : ℕ) → 0 < j → j ≡ length peaks → b ≡ more a (length (take (j - 1) (drop 1 peaks))) → b ≡ more a (length peaks - 1)
made_all peaks j a b some all first =
    let total : length (take (j - 1) (drop 1 peaks)) ≡ length peaks - 1 = omega (arith, length-take (j - 1) (drop 1 peaks), length-drop 1 peaks) in
    first ∙ ap (more a) total

pub returns : goal.returns
returns g c =
    let bytes = g.H.Digest.Digest.bytes in
    let hash = g.H.Hasher.hash in
    let peaks = c.args.peaks.now in
    let inactive = c.args.inactive in
    record {
      digest = c.pair_digest.ensures.digest
          ∙ ap₂ (λ a b. hash (a ++ b)) c.fold_left-first.ensures.digest c.fold_right-rest.ensures.digest
          ∙ sym (folded_mid bytes hash peaks inactive c.index-peaks-0.result (omega (arith, c.if-inactive-eq0.false)) (omega (arith, c.if-inactive-peaks.false, c.requires.inactive)) c.index-peaks-0.is);
      made = made_mid peaks inactive c.args.self.now c.fold_left-first.new.self c.fold_right-rest.new.self c.pair_digest.new.self (omega (arith, c.if-inactive-eq0.false)) (omega (arith, c.if-inactive-peaks.false, c.requires.inactive))
          c.fold_left-first.ensures.made c.fold_right-rest.ensures.made c.pair_digest.ensures.made;
    }

pub returns-then-inactive-peaks : goal.returns-then-inactive-peaks
returns-then-inactive-peaks g c =
    let peaks = c.args.peaks.now in
    let inactive = c.args.inactive in
    record {
      digest = c.fold_left-first.ensures.digest
          ∙ sym (folded_all g.H.Digest.Digest.bytes g.H.Hasher.hash peaks inactive c.index-peaks-0.result (omega (arith, c.if-inactive-eq0.false)) c.if-inactive-peaks.true c.index-peaks-0.is);
      made = made_all peaks inactive c.args.self.now c.fold_left-first.new.self (omega (arith, c.if-inactive-eq0.false)) c.if-inactive-peaks.true c.fold_left-first.ensures.made;
    }

pub fold_right-rest-requires : goal.fold_right-rest-requires
fold_right-rest-requires g c = omega (arith, c.if-inactive-peaks.false, c.requires.inactive, length-drop c.args.inactive c.args.peaks.now, length-take (length c.args.peaks.now - c.args.inactive) (drop c.args.inactive c.args.peaks.now))

pub returns-then-inactive-eq0 : goal.returns-then-inactive-eq0
returns-then-inactive-eq0 g c =
    let hash = g.H.Hasher.hash in
    let all = map g.H.Digest.Digest.bytes c.args.peaks.now in
    record {
      digest = c.fold_right.ensures.digest ∙ ap (λ i. fold_right hash (fold_inactive hash (take i all) ++ drop i all)) (sym c.if-inactive-eq0.true);
      made = c.fold_right.ensures.made;
    }
