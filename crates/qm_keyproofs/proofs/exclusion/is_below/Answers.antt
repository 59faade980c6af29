use Rattle.std.proofs.Common.{◌≡◌, refl, ap, sym, ℕ, List, ◌∷◌, true, false}
use Rattle.std.specs.Ordering.{nat_cmp, is_lt, ordering_then, MatchOrdering}
use Rattle.std.specs.Cmp.Lexicographic.{slice_cmp}
use Rattle.std.specs.declared.cmp.Ordering.{Ordering}
use Rattle.std.specs.declared.cmp.Ordering.TheVariants.{Less, Equal, Greater}
use Rattle.std.proofs.lemmas.Cmp.{same_from_slice_cmp_tested}
use Rattle.qm_model.specs.Keys.{key_lt}
use Rattle.qm_keyproofs.proofs.exclusion.is_below.Goals as goal

by_first : (x y : ℕ) (xs ys : List ℕ) (o : Ordering) → o ≡ nat_cmp x y →
    MatchOrdering o (key_lt (x ∷ xs) (y ∷ ys) ≡ true) (key_lt (x ∷ xs) (y ∷ ys) ≡ key_lt xs ys) (key_lt (x ∷ xs) (y ∷ ys) ≡ false)
by_first x y xs ys Less e = ap (λ o. is_lt (ordering_then o (slice_cmp nat_cmp xs ys))) (sym e)
by_first x y xs ys Equal e = ap (λ o. is_lt (ordering_then o (slice_cmp nat_cmp xs ys))) (sym e)
by_first x y xs ys Greater e = ap (λ o. is_lt (ordering_then o (slice_cmp nat_cmp xs ys))) (sym e)

pub returns : goal.returns
returns c = same_from_slice_cmp_tested nat_cmp is_lt key_lt refl (λ _ _. refl) (λ _ _. refl) by_first c.args.key.now c.args.other.now c.lt.result c.lt.ensures
