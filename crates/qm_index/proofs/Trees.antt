-- Trees of buckets by index key: the order of numbers tells index keys apart, so that a tree is read as an index.
use Rattle.std.proofs.Common.{◌≡◌, ℕ, cond, nat_eq, length, ◌<◌, List, [], Option, Some, None, ap, sym, ◌∙◌, subst, arith, BTreeMap}
use Rattle.std.proofs.Math.Path.{fun_ext}
use Rattle.std.specs.Prelude.{unwrap_or}
use Rattle.std.specs.BTreeMap.{get, is_at, Updates, WritesThrough, IsOrdered}
use Rattle.std.specs.List.{IsDistinct}
use Rattle.std.specs.List.Sorted.{IsStrictlySortedBy}
use Rattle.std.specs.Map.{lookup, keys_of, set_value}
use Rattle.std.specs.Option.{is_some}
use Rattle.std.specs.Ordering.{nat_cmp, is_eq, eq_by_cmp}
use Rattle.std.proofs.lemmas.Bool.Decides.{nat_tests}
use Rattle.std.proofs.lemmas.Map.Keys.{IsDistinct-from_sorted}
use Rattle.std.proofs.lemmas.Map.Steps.{set_value_same}
use Rattle.qm_index.specs.Buckets.{bucket_at, Puts, IsIndex}
use Rattle.qm_index.proofs.Changed.{bucket-at, place-in, no-place, changed-puts, changed-index, changed-by}

same_answer : (q k : ℕ) → is_eq (nat_cmp q k) ≡ nat_eq q k
same_answer q k = grind (arith, nat_tests)

same_test : (q : ℕ) → is_at (nat_cmp q) ≡ nat_eq q
same_test q = fun_ext (λ k. same_answer q k)

same_tests : eq_by_cmp nat_cmp ≡ nat_eq
same_tests = fun_ext (λ q. same_test q)

-- index keys in order differ
pub ordered-distinct : (keys : List ℕ) → IsStrictlySortedBy nat_cmp keys → IsDistinct nat_eq keys
ordered-distinct keys rising = subst (λ eq. IsDistinct eq keys) same_tests (IsDistinct-from_sorted nat_cmp keys rising)

module _ {V : Type 0} where
  -- what a tree has at an index key
  pub looked_up : (m : BTreeMap ℕ (List V)) (k : ℕ) → get nat_cmp m k ≡ lookup (nat_eq k) m.entries
  looked_up m k = ap (λ test. lookup test m.entries) (same_test k)

  -- a change at one index key
  changed : (m n : BTreeMap ℕ (List V)) (k : ℕ) (w : Option (List V)) → Updates nat_cmp m n k w → (q : ℕ) → lookup (nat_eq q) n.entries ≡ cond (nat_eq k q) w (lookup (nat_eq q) m.entries)
  changed m n k w updates q =
      sym (looked_up n q) ∙ updates.0 q ∙ ap (λ t. cond t w (get nat_cmp m q)) (same_answer k q) ∙ ap (cond (nat_eq k q) w) (looked_up m q)

  -- puts the values that the tree has there then
  pub puts : (m n : BTreeMap ℕ (List V)) (k : ℕ) (w : Option (List V)) → Updates nat_cmp m n k w → Puts m.entries n.entries k (unwrap_or w [])
  puts m n k w updates = changed-puts m.entries k n.entries w (changed m n k w updates)

  -- and the tree stays an index, if they are some or none at all
  pub stays_index : (m n : BTreeMap ℕ (List V)) (k : ℕ) (w : Option (List V)) → IsIndex m.entries → Updates nat_cmp m n k w → IsOrdered nat_cmp n → (w ≡ Some [] → ⊥) → IsIndex n.entries
  stays_index m n k w was updates rising some = changed-index m.entries k n.entries w (changed m n k w updates) was (ordered-distinct (keys_of n.entries) rising) some

  -- the bucket that the tree has at an index key
  pub bucket-found : (m : BTreeMap ℕ (List V)) (k : ℕ) (found : Option (List V)) → found ≡ get nat_cmp m k → unwrap_or found [] ≡ bucket_at m.entries k
  bucket-found m k found is = bucket-at m.entries k found (is ∙ looked_up m k)

  -- a bucket that is written through
  module _ (m n : BTreeMap ℕ (List V)) (k : ℕ) (found written : List V) (is : Some found ≡ get nat_cmp m k) (through : WritesThrough nat_cmp (nat_cmp k) m written n) where
    updates : Updates nat_cmp m n k (Some written)
    updates = through.3 (ap is_some (sym is))

    pub written-index : IsIndex m.entries → (written ≡ [] → ⊥) → IsIndex n.entries
    written-index was some = stays_index m n k (Some written) was updates through.4 (λ none. some (ap (λ o. unwrap_or o []) none))

    pub written-puts : (values : List V → List V) → written ≡ values found → Puts m.entries n.entries k (values (bucket_at m.entries k))
    written-puts values by = changed-by m.entries k n.entries (Some written) (changed m n k (Some written) updates) (Some found) (is ∙ looked_up m k) values by

    -- what was found there, written back
    pub written-back : written ≡ found → n.entries ≡ m.entries
    written-back same = through.0 ∙ ap (set_value (is_at (nat_cmp k)) m.entries) same ∙ set_value_same (is_at (nat_cmp k)) m.entries found (sym is)

    pub place-found : (i : ℕ) → i < length (bucket_at m.entries k) → i < length found
    place-found i place = place-in m.entries k found i (is ∙ looked_up m k) place

  -- no place is in a bucket that is not there
  pub place-none : (m : BTreeMap ℕ (List V)) (k i : ℕ) → None ≡ get nat_cmp m k → i < length (bucket_at m.entries k) → ⊥
  place-none m k i is place = no-place m.entries k i (is ∙ looked_up m k) place

  -- a tree without buckets is an index
  pub new-index : (m : BTreeMap ℕ (List V)) → IsOrdered nat_cmp m → m.entries ≡ [] → IsIndex m.entries
  new-index m rising none = (ordered-distinct (keys_of m.entries) rising, λ k at. apart (sym at ∙ ap (lookup (nat_eq k)) none))
    where
      apart : {X : Type 0} {x : X} → Some x ≡ None → ⊥
      apart h = cc
