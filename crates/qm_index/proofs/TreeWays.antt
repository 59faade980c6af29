-- Neighbours on a way in a tree, from its ranges and its ends.
use Rattle.std.proofs.Common.{◌≡◌, ℕ, true, nat_eq, List, [], ◌∷◌, ◌++◌, Option, Some, None, refl, ap, sym, ◌∙◌, BTreeMap, arith}
use Rattle.std.specs.BTreeMap.{get, IsLowerBound, IsUpperBound}
use Rattle.std.specs.BTreeMap.Range.{IsRangeOf}
use Rattle.std.specs.Map.{lookup}
use Rattle.std.specs.Option.{is_some}
use Rattle.std.specs.Ordering.{nat_cmp}
use Rattle.std.specs.declared.ops.Bound.TheVariants.{Excluded, Unbounded}
use Rattle.std.proofs.lemmas.Map.Keys.{le_from_not_gt, ge_from_not_lt}
use Rattle.qm_index.specs.Ways.{Up, Down, FirstIs, NextIs}
use Rattle.qm_index.proofs.Picks.{number_below}
use Rattle.qm_index.proofs.TreeNeighbours.{less-below, below-less}
use Rattle.qm_index.proofs.Trees.{looked_up}
use Rattle.qm_index.proofs.Ways.{test-below}

module _ {V : Type 0} (m : BTreeMap ℕ (List V)) where
  found : (x : ℕ) (b : List V) → get nat_cmp m x ≡ Some b → lookup (nat_eq x) m.entries ≡ Some b
  found x b is = sym (looked_up m x) ∙ is

  none : (x : ℕ) → (is_some (get nat_cmp m x) ≡ true → ⊥) → lookup (nat_eq x) m.entries ≡ None
  none x not = sym (looked_up m x) ∙ by (get nat_cmp m x) refl
    where
      by : (o : Option (List V)) → get nat_cmp m x ≡ o → get nat_cmp m x ≡ None
      by None is = is
      by (Some b) is = absurd (not (ap is_some is))

  -- the ends
  pub tree-first : (k : ℕ) (b : List V) → get nat_cmp m k ≡ Some b → IsLowerBound nat_cmp m k → FirstIs Up m.entries (Some b)
  tree-first k b is low = (k, found k b is, λ x below. none x (λ there. let from = le_from_not_gt k x (low x there) in absurd (omega (arith, from, below))))

  pub tree-last : (k : ℕ) (b : List V) → get nat_cmp m k ≡ Some b → IsUpperBound nat_cmp m k → FirstIs Down m.entries (Some b)
  tree-last k b is high = (k, found k b is, λ x above. none x (λ there. let to = ge_from_not_lt k x (high x there) in absurd (omega (arith, to, above))))

  module _ (k : ℕ) where
    -- the first above, and none
    pub tree-above : (e : ℕ × List V) (rest : List (ℕ × List V)) → IsRangeOf nat_cmp (Excluded k) Unbounded m (e ∷ rest) → NextIs Up m.entries k (Some e.1)
    tree-above e rest range =
        let is = range.1 in (
          e.0,
          number_below k e.0 (less-below k e.0 is.0.0),
          found e.0 e.1 is.1,
          λ x up below. none x (λ there. let from = le_from_not_gt e.0 x (range.2 x (below-less k x (test-below k x up), tt) there) in absurd (omega (arith, from, below))),
        )

    pub tree-none-above : IsRangeOf nat_cmp (Excluded k) Unbounded m [] → NextIs Up m.entries k None
    tree-none-above range = λ x up. sym (looked_up m x) ∙ range.5 refl x (below-less k x (test-below k x up), tt)

    -- the last below, and none
    pub tree-below : (e : ℕ × List V) (front : List (ℕ × List V)) → IsRangeOf nat_cmp Unbounded (Excluded k) m (front ++ e ∷ []) → NextIs Down m.entries k (Some e.1)
    tree-below e front range =
        let is = range.3 e front refl in (
          e.0,
          number_below e.0 k (less-below e.0 k is.0.1),
          found e.0 e.1 is.1,
          λ x down above. none x (λ there. let to = ge_from_not_lt e.0 x (range.4 e front refl x (tt, below-less x k (test-below x k down)) there) in absurd (omega (arith, to, above))),
        )

    pub tree-none-below : IsRangeOf nat_cmp Unbounded (Excluded k) m [] → NextIs Down m.entries k None
    tree-none-below range = λ x down. sym (looked_up m x) ∙ range.5 refl x (tt, below-less x k (test-below x k down))
