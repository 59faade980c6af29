-- Neighbours of an index key in a tree, from its ranges and its ends.
use Rattle.std.proofs.Common.{◌≡◌, ◌<◌, ℕ, Bool, true, false, true≢false, cond, nat_lt, List, [], ◌∷◌, ◌++◌, length, Option, Some, None, refl, ap, sym, ◌∙◌, BTreeMap, arith}
use Rattle.std.specs.Prelude.{filter, option_map, ◌==◌}
use Rattle.std.specs.BTreeMap.{get, IsLowerBound, IsUpperBound}
use Rattle.std.specs.BTreeMap.Range.{IsRangeOf}
use Rattle.std.specs.Map.{keys_of}
use Rattle.std.specs.Option.{is_some}
use Rattle.std.specs.Ordering.{nat_cmp}
use Rattle.std.specs.declared.cmp.Ordering.TheVariants.{Less, Equal, Greater}
use Rattle.std.specs.declared.ops.Bound.TheVariants.{Excluded, Unbounded}
use Rattle.std.proofs.lemmas.Map.Keys.{le_from_not_gt, ge_from_not_lt}
use Rattle.qm_model.proofs.KeyOrder.{and-true, and-both, false-not, apart}
use Rattle.qm_index.specs.Buckets.{bucket_at}
use Rattle.qm_index.specs.Neighbours.{least_key, greatest_key, near_or_wrapped, next_key, prev_key, neighbour_at}
use Rattle.qm_index.proofs.Picks.{has, has-filter, has-lookup, picks_least, picks_greatest, is-picked, none-picked}
use Rattle.qm_index.proofs.Trees.{looked_up, bucket-found}

-- below, as an order and as a test
pub less-below : (a b : ℕ) → nat_cmp a b ≡ Less → nat_lt a b ≡ true
less-below a b h = cases (nat_lt a b) (a == b) h
  where
    cases : (t u : Bool) → cond t Less (cond u Equal Greater) ≡ Less → t ≡ true
    cases true u h = refl
    cases false true h = absurd (cc)
    cases false false h = absurd (cc)

pub below-less : (a b : ℕ) → nat_lt a b ≡ true → nat_cmp a b ≡ Less
below-less a b h = ap (λ t. cond t Less (cond (a == b) Equal Greater)) h

module _ {V : Type 0} (m : BTreeMap ℕ (List V)) where
  there : (x : ℕ) → has (keys_of m.entries) x ≡ is_some (get nat_cmp m x)
  there x = has-lookup m.entries x ∙ ap is_some (sym (looked_up m x))

  -- the ends
  pub least-found : (k : ℕ) (b : List V) → get nat_cmp m k ≡ Some b → IsLowerBound nat_cmp m k → option_map (bucket_at m.entries) (least_key (keys_of m.entries)) ≡ Some b
  least-found k b is low =
      ap (option_map (bucket_at m.entries)) (is-picked picks_least (keys_of m.entries) k (there k ∙ ap is_some is) (λ x at. le_from_not_gt k x (low x (sym (there x) ∙ at))))
      ∙ ap (λ values. Some values) (sym (bucket-found m k (Some b) (sym is)))

  pub greatest-found : (k : ℕ) (b : List V) → get nat_cmp m k ≡ Some b → IsUpperBound nat_cmp m k → option_map (bucket_at m.entries) (greatest_key (keys_of m.entries)) ≡ Some b
  greatest-found k b is high =
      ap (option_map (bucket_at m.entries)) (is-picked picks_greatest (keys_of m.entries) k (there k ∙ ap is_some is) (λ x at. ge_from_not_lt k x (high x (sym (there x) ∙ at))))
      ∙ ap (λ values. Some values) (sym (bucket-found m k (Some b) (sym is)))

  module _ (k : ℕ) where
    in_next : (x : ℕ) → has (filter (λ q. nat_lt k q) (keys_of m.entries)) x ≡ true → (has (keys_of m.entries) x ≡ true) × (nat_lt k x ≡ true)
    in_next x h = and-true (has (keys_of m.entries) x) (nat_lt k x) (sym (has-filter (λ q. nat_lt k q) (keys_of m.entries) x) ∙ h)

    in_prev : (x : ℕ) → has (filter (λ q. nat_lt q k) (keys_of m.entries)) x ≡ true → (has (keys_of m.entries) x ≡ true) × (nat_lt x k ≡ true)
    in_prev x h = and-true (has (keys_of m.entries) x) (nat_lt x k) (sym (has-filter (λ q. nat_lt q k) (keys_of m.entries) x) ∙ h)

    -- the first above, and none
    pub next-found : (e : ℕ × List V) (rest : List (ℕ × List V)) → IsRangeOf nat_cmp (Excluded k) Unbounded m (e ∷ rest) → neighbour_at m.entries (next_key (keys_of m.entries) k) ≡ Some (e.1, false)
    next-found e rest range =
        let is = range.1 in
        let up : nat_lt k e.0 ≡ true = less-below k e.0 is.0.0 in
        let near : least_key (filter (λ q. nat_lt k q) (keys_of m.entries)) ≡ Some e.0 =
        is-picked picks_least (filter (λ q. nat_lt k q) (keys_of m.entries)) e.0
        (has-filter (λ q. nat_lt k q) (keys_of m.entries) e.0 ∙ and-both (has (keys_of m.entries) e.0) (nat_lt k e.0) (there e.0 ∙ ap is_some is.1) up)
        (λ x at. let both = in_next x at in le_from_not_gt e.0 x (range.2 x (below-less k x both.1, tt) (sym (there x) ∙ both.0))) in
        ap (λ near. neighbour_at m.entries (near_or_wrapped near (least_key (keys_of m.entries)))) near
        ∙ ap (λ values. Some (values, false)) (sym (bucket-found m e.0 (Some e.1) (sym is.1)))

    pub next-wrapped : (values : List V) → IsRangeOf nat_cmp (Excluded k) Unbounded m [] → option_map (bucket_at m.entries) (least_key (keys_of m.entries)) ≡ Some values → neighbour_at m.entries (next_key (keys_of m.entries) k) ≡ Some (values, true)
    next-wrapped values range is =
        ap (λ near. neighbour_at m.entries (near_or_wrapped near (least_key (keys_of m.entries))))
        (none-picked picks_least (filter (λ q. nat_lt k q) (keys_of m.entries)) (λ x. false-not (has (filter (λ q. nat_lt k q) (keys_of m.entries)) x) (λ at.
        let both = in_next x at in apart (has (keys_of m.entries) x) both.0 (there x ∙ ap is_some (range.5 refl x (below-less k x both.1, tt))))))
        ∙ far (least_key (keys_of m.entries)) is
      where
        far : (o : Option ℕ) → option_map (bucket_at m.entries) o ≡ Some values → neighbour_at m.entries (near_or_wrapped None o) ≡ Some (values, true)
        far None h = absurd (cc)
        far (Some n) h = ap (option_map (λ values. (values, true))) h

    -- the last below, and none
    pub prev-found : (e : ℕ × List V) (front : List (ℕ × List V)) → IsRangeOf nat_cmp Unbounded (Excluded k) m (front ++ e ∷ []) → neighbour_at m.entries (prev_key (keys_of m.entries) k) ≡ Some (e.1, false)
    prev-found e front range =
        let is = range.3 e front refl in
        let down : nat_lt e.0 k ≡ true = less-below e.0 k is.0.1 in
        let near : greatest_key (filter (λ q. nat_lt q k) (keys_of m.entries)) ≡ Some e.0 =
        is-picked picks_greatest (filter (λ q. nat_lt q k) (keys_of m.entries)) e.0
        (has-filter (λ q. nat_lt q k) (keys_of m.entries) e.0 ∙ and-both (has (keys_of m.entries) e.0) (nat_lt e.0 k) (there e.0 ∙ ap is_some is.1) down)
        (λ x at. let both = in_prev x at in ge_from_not_lt e.0 x (range.4 e front refl x (tt, below-less x k both.1) (sym (there x) ∙ both.0))) in
        ap (λ near. neighbour_at m.entries (near_or_wrapped near (greatest_key (keys_of m.entries)))) near
        ∙ ap (λ values. Some (values, false)) (sym (bucket-found m e.0 (Some e.1) (sym is.1)))

    pub prev-wrapped : (values : List V) → IsRangeOf nat_cmp Unbounded (Excluded k) m [] → option_map (bucket_at m.entries) (greatest_key (keys_of m.entries)) ≡ Some values → neighbour_at m.entries (prev_key (keys_of m.entries) k) ≡ Some (values, true)
    prev-wrapped values range is =
        ap (λ near. neighbour_at m.entries (near_or_wrapped near (greatest_key (keys_of m.entries))))
        (none-picked picks_greatest (filter (λ q. nat_lt q k) (keys_of m.entries)) (λ x. false-not (has (filter (λ q. nat_lt q k) (keys_of m.entries)) x) (λ at.
        let both = in_prev x at in apart (has (keys_of m.entries) x) both.0 (there x ∙ ap is_some (range.5 refl x (tt, below-less x k both.1))))))
        ∙ far (greatest_key (keys_of m.entries)) is
      where
        far : (o : Option ℕ) → option_map (bucket_at m.entries) o ≡ Some values → neighbour_at m.entries (near_or_wrapped None o) ≡ Some (values, true)
        far None h = absurd (cc)
        far (Some n) h = ap (option_map (λ values. (values, true))) h

-- a map whose length is not above zero has no entry
pub none-in : {A : Type 0} (entries : List A) → (0 < length entries → false ≡ true) → entries ≡ []
none-in [] more = refl
none-in (e ∷ es) more = absurd (true≢false (sym (more (omega arith))))
