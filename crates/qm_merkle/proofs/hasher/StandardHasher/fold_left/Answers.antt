use Rattle.std.proofs.Common.{◌≡◌, ◌∙◌, ◌+◌, ◌<◌, ℕ, List, ◌∷◌, ◌++◌, suc, length, map, drop, get_or, ap, sym, add-one, drop-cons, arith}
use Rattle.qm_model.specs.Operations.{Bytes}
use Rattle.qm_model.specs.Trees.{fold_left}
use Rattle.qm_merkle.proofs.hasher.StandardHasher.fold_left.Goals as goal

-- the rest from an element on, and from the next
from_next : {X : Type 0} (xs : List X) (i : ℕ) (x : X) → i < length xs → x ≡ get_or xs i x → drop i xs ≡ x ∷ drop (i + 1) xs
from_next xs i x lt is = rw add-one (drop-cons xs i x lt ∙ ap (λ y. y ∷ drop (suc i) xs) (sym is))

-- one more is folded
one_folded : {D : Type 0} (bytes : D → Bytes) (hash : Bytes → Bytes) (first a b : D) (xs : List D) (i : ℕ) (x : D) → i < length xs → x ≡ get_or xs i x → bytes b ≡ hash (bytes a ++ bytes x) →
    fold_left hash (bytes a) (map bytes (drop i xs)) ≡ fold_left hash (bytes first) (map bytes xs) → fold_left hash (bytes b) (map bytes (drop (i + 1) xs)) ≡ fold_left hash (bytes first) (map bytes xs)
one_folded bytes hash first a b xs i x lt is next before =
    ap (λ f. fold_left hash f (map bytes (drop (i + 1) xs))) next ∙ sym (ap (λ ys. fold_left hash (bytes a) (map bytes ys)) (from_next xs i x lt is)) ∙ before

pub loop-digest-preserved : goal.loop-digest-preserved
loop-digest-preserved g c = record {
  is_folded = one_folded g.H.Digest.Digest.bytes g.H.Hasher.hash c.args.first c.loop-digest.folded c.pair_digest-folded.result c.args.rest.now c.loop-digest.digest-index c.digest-item.result
      c.loop-digest-test.true c.digest-item.is c.pair_digest-folded.ensures.digest c.loop-digest.invariant.is_folded;
  made = omega (arith, c.pair_digest-folded.ensures.made, c.loop-digest.invariant.made);
}
