-- What becomes of what is known when a key is let go of, kept or learned.
use Rattle.std.proofs.Common.{◌≡◌, ◌⊎◌, inl, inr, ℕ, Bool, true, false, cond, List, refl, ap, sym, ◌∙◌, subst, Option, Some, None}
use Rattle.std.specs.Prelude.{option_map}
use Rattle.std.specs.BTreeMap.{BTreeMap, get, UpdatesBy, is_at}
use Rattle.std.specs.Ordering.{nat_cmp}
use Rattle.std.proofs.lemmas.Option.{same_Some, none-some}
use Rattle.qm_model.specs.Operations.{Bytes, Operation}
use Rattle.qm_build.specs.Building.{key_at}
use Rattle.std.proofs.lemmas.Bool.{cases_eq}
use Rattle.qm_build.specs.Cached.{Cached, given, put, removed}
use Rattle.qm_build.proofs.Keeping.{let_go-was, kept_on-was}
use Rattle.qm_workers.specs.Known.{Knowledge, IsTrueOf, KnowsNoMore, Learns}

module _ {K : Type 0} (bytes : K → Bytes) where
  -- hints without one
  pub hint-removed : (old new : BTreeMap ℕ (Option K)) (own : ℕ) → UpdatesBy nat_cmp (nat_cmp own) old new None → (at : ℕ) (key : Option Bytes)
      → option_map (option_map bytes) (get nat_cmp new at) ≡ Some key → option_map (option_map bytes) (get nat_cmp old at) ≡ Some key
  hint-removed old new own updates at key is = by (is_at (nat_cmp own) at) (updates.0 at)
    where
      by : (t : Bool) → get nat_cmp new at ≡ cond t None (get nat_cmp old at) → option_map (option_map bytes) (get nat_cmp old at) ≡ Some key
      by true same = absurd (none-some key (sym (ap (option_map (option_map bytes)) same) ∙ is))
      by false same = sym (ap (option_map (option_map bytes)) same) ∙ is

  -- what a cache gives is one of two
  both-given : (a : Option K) (P : Bytes → Type 0) → ((k : K) → a ≡ Some k → P (bytes k)) → (key : Bytes) → option_map bytes a ≡ Some key → P key
  both-given None P all key is = absurd (none-some key is)
  both-given (Some k) P all key is = subst P (same_Some (bytes k) key is) (all k refl)

  pub cache-removed : (c : Cached K) (own at : ℕ) (key : Bytes) → option_map bytes (given (removed c own) at) ≡ Some key → option_map bytes (given c at) ≡ Some key
  cache-removed c own at key is = both-given (given (removed c own) at) (λ k. option_map bytes (given c at) ≡ Some k) (λ k here. ap (option_map bytes) (let_go-was c (Some own) at k here)) key is

  pub cache-put : (c : Cached K) (own : ℕ) (new : K) (at : ℕ) (key : Bytes) → option_map bytes (given (put c own new) at) ≡ Some key → (option_map bytes (given c at) ≡ Some key) ⊎ ((at ≡ own) × (Some (bytes new) ≡ Some key))
  cache-put c own new at key is = both-given (given (put c own new) at) (λ b. (option_map bytes (given c at) ≡ Some b) ⊎ ((at ≡ own) × (Some (bytes new) ≡ Some b))) (λ k here. by k (kept_on-was c None true own new at k here)) key is
    where
      by : (k : K) → ((true ≡ true) × (at ≡ own) × (k ≡ new)) ⊎ (given c at ≡ Some k) → (option_map bytes (given c at) ≡ Some (bytes k)) ⊎ ((at ≡ own) × (Some (bytes new) ≡ Some (bytes k)))
      by k (inl new_one) = inr (new_one.1, ap (λ x. Some (bytes x)) (sym new_one.2))
      by k (inr old) = inl (ap (option_map bytes) old)

-- what is no more than before, again
pub no_more-then : (a b c : Knowledge) → KnowsNoMore a b → KnowsNoMore b c → KnowsNoMore a c
no_more-then a b c first second = record {
  hints = λ at key is. first.hints at key (second.hints at key is);
  cache = λ at key is. by at key (second.cache at key is);
}
  where
    by : (at : ℕ) (key : Bytes) → (b.cached at ≡ Some key) ⊎ (b.hinted at ≡ Some (Some key)) → (a.cached at ≡ Some key) ⊎ (a.hinted at ≡ Some (Some key))
    by at key (inl cached) = first.cache at key cached
    by at key (inr hinted) = inr (first.hints at (Some key) hinted)

-- and it is as true
pub no_more-true : (ops : List Operation) (a b : Knowledge) → KnowsNoMore a b → IsTrueOf ops a → IsTrueOf ops b
no_more-true ops a b less are = record {
  hints = λ at key is. are.hints at key (less.hints at key is);
  cache = λ at key is. by at key (less.cache at key is);
}
  where
    by : (at : ℕ) (key : Bytes) → (a.cached at ≡ Some key) ⊎ (a.hinted at ≡ Some (Some key)) → key_at ops at ≡ Some key
    by at key (inl cached) = are.cache at key cached
    by at key (inr hinted) = are.hints at (Some key) hinted

-- a true key is learned
pub learned-true : (ops : List Operation) (at : ℕ) (key : Option Bytes) (a b : Knowledge) → Learns at key a b → key_at ops at ≡ key → IsTrueOf ops a → IsTrueOf ops b
learned-true ops at key a b learns own are = record {
  hints = λ n k is. by n k is (cases_eq n at);
  cache = λ n k is. are.cache n k (sym (learns.cache n) ∙ is);
}
  where
    by : (n : ℕ) (k : Option Bytes) → b.hinted n ≡ Some k → (n ≡ at) ⊎ (n ≡ at → ⊥) → key_at ops n ≡ k
    by n k is (inl same) = ap (key_at ops) same ∙ own ∙ same_Some key k (sym learns.here ∙ sym (ap b.hinted same) ∙ is)
    by n k is (inr other) = are.hints n k (sym (learns.others n other) ∙ is)
