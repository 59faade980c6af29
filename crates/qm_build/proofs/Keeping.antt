-- Keys in ascending order of their locations: what is looked up, put in and taken out.
use Rattle.std.proofs.Common.{◌≡◌, ◌≢◌, ℕ, suc, ◌<◌, ◌≤◌, Bool, true, false, cond, eqb, ltb, not, [], ◌∷◌, length, refl, ap, ap₂, sym, ◌∙◌, subst, Option, Some, None, arith, ◌⊎◌, inl, inr}
use Rattle.std.specs.Prelude.{filter}
use Rattle.std.proofs.lemmas.Bool.{cases_eq, cases_order, cond-true, cond-false, eq-eqb, ne_eqb, lt-ltb, le-ltb, true≢false, false≢true}
use Rattle.std.proofs.lemmas.Option.{same_Some, none-some}
use Rattle.qm_build.specs.Cached.{Cached, Kept, key_for, without, with_key, with_room, in_set, set_of, smallest, given, put, let_go, kept_on}

-- each location is above this one
abbrev pub Above : {K : Type 0} → ℕ → Kept K → Type 0
Above n [] = Unit {0}
Above n (e ∷ es) = (n < e.0) × Above n es

abbrev pub Ascending : {K : Type 0} → Kept K → Type 0
Ascending [] = Unit {0}
Ascending (e ∷ es) = Above e.0 es × Ascending es

module _ {K : Type 0} where
  pub key-first : (e : ℕ × K) (m : Kept K) (at : ℕ) → e.0 ≡ at → key_for (e ∷ m) at ≡ Some e.1
  key-first e m at is = cond-true (eqb e.0 at) (Some e.1) (key_for m at) (eq-eqb e.0 at is)

  pub key-later : (e : ℕ × K) (m : Kept K) (at : ℕ) → e.0 ≢ at → key_for (e ∷ m) at ≡ key_for m at
  key-later e m at other = cond-false (eqb e.0 at) (Some e.1) (key_for m at) (ne_eqb e.0 at other)

  above-less : (m : Kept K) (a b : ℕ) → a ≤ b → Above b m → Above a m
  above-less [] a b le all = tt
  above-less (e ∷ es) a b le all = (omega (arith, le, all.0), above-less es a b le all.1)

  pub key-above : (m : Kept K) (at : ℕ) → Above at m → key_for m at ≡ None
  key-above [] at all = refl
  key-above (e ∷ es) at all = key-later e es at (λ is. absurd (omega (arith, is, all.0))) ∙ key-above es at all.1

  -- a key where another is put in: before it, in its place, or after it
  put-before : (at : ℕ) (key : K) (e : ℕ × K) (es : Kept K) → at < e.0 → with_key at key (e ∷ es) ≡ (at, key) ∷ e ∷ es
  put-before at key e es less = cond-true (ltb at e.0) _ _ (lt-ltb at e.0 less)

  put-here : (at : ℕ) (key : K) (e : ℕ × K) (es : Kept K) → at ≡ e.0 → with_key at key (e ∷ es) ≡ (at, key) ∷ es
  put-here at key e es is = cond-false (ltb at e.0) _ _ (le-ltb at e.0 (omega (arith, is))) ∙ cond-true (eqb at e.0) _ _ (eq-eqb at e.0 is)

  put-after : (at : ℕ) (key : K) (e : ℕ × K) (es : Kept K) → e.0 < at → with_key at key (e ∷ es) ≡ e ∷ with_key at key es
  put-after at key e es less = cond-false (ltb at e.0) _ _ (le-ltb at e.0 (omega (arith, less))) ∙ cond-false (eqb at e.0) _ _ (ne_eqb at e.0 (λ is. absurd (omega (arith, is, less))))

  pub key-put : (at : ℕ) (key : K) (m : Kept K) → key_for (with_key at key m) at ≡ Some key
  key-put at key [] = key-first (at, key) [] at refl
  key-put at key (e ∷ es) = by (key-put at key es) (cases_order at e.0)
    where
      by : key_for (with_key at key es) at ≡ Some key → (at ≡ e.0) ⊎ ((at < e.0) ⊎ (e.0 < at)) → key_for (with_key at key (e ∷ es)) at ≡ Some key
      by before (inl is) = ap (λ m. key_for m at) (put-here at key e es is) ∙ key-first (at, key) es at refl
      by before (inr (inl less)) = ap (λ m. key_for m at) (put-before at key e es less) ∙ key-first (at, key) (e ∷ es) at refl
      by before (inr (inr more)) = ap (λ m. key_for m at) (put-after at key e es more) ∙ key-later e (with_key at key es) at (λ is. absurd (omega (arith, is, more))) ∙ before

  pub key-other : (at : ℕ) (key : K) (m : Kept K) (q : ℕ) → at ≢ q → key_for (with_key at key m) q ≡ key_for m q
  key-other at key [] q other = key-later (at, key) [] q other
  key-other at key (e ∷ es) q other = by (key-other at key es q other) (cases_order at e.0)
    where
      step : (x y : Kept K) → key_for x q ≡ key_for y q → key_for (e ∷ x) q ≡ key_for (e ∷ y) q
      step x y same = ap (λ o. cond (eqb e.0 q) (Some e.1) o) same

      by : key_for (with_key at key es) q ≡ key_for es q → (at ≡ e.0) ⊎ ((at < e.0) ⊎ (e.0 < at)) → key_for (with_key at key (e ∷ es)) q ≡ key_for (e ∷ es) q
      by before (inl is) = ap (λ m. key_for m q) (put-here at key e es is) ∙ key-later (at, key) es q other ∙ sym (key-later e es q (λ same. other (is ∙ same)))
      by before (inr (inl less)) = ap (λ m. key_for m q) (put-before at key e es less) ∙ key-later (at, key) (e ∷ es) q other
      by before (inr (inr more)) = ap (λ m. key_for m q) (put-after at key e es more) ∙ step (with_key at key es) es before

  above-put : (n at : ℕ) (key : K) (m : Kept K) → n < at → Above n m → Above n (with_key at key m)
  above-put n at key [] less all = (less, tt)
  above-put n at key (e ∷ es) less all = by (above-put n at key es less all.1) (cases_order at e.0)
    where
      by : Above n (with_key at key es) → (at ≡ e.0) ⊎ ((at < e.0) ⊎ (e.0 < at)) → Above n (with_key at key (e ∷ es))
      by rest (inl is) = subst (Above n) (sym (put-here at key e es is)) (less, all.1)
      by rest (inr (inl below)) = subst (Above n) (sym (put-before at key e es below)) (less, all)
      by rest (inr (inr more)) = subst (Above n) (sym (put-after at key e es more)) (all.0, rest)

  pub ascending-put : (at : ℕ) (key : K) (m : Kept K) → Ascending m → Ascending (with_key at key m)
  ascending-put at key [] up = (tt, tt)
  ascending-put at key (e ∷ es) up = by (ascending-put at key es up.1) (cases_order at e.0)
    where
      by : Ascending (with_key at key es) → (at ≡ e.0) ⊎ ((at < e.0) ⊎ (e.0 < at)) → Ascending (with_key at key (e ∷ es))
      by rest (inl is) = subst Ascending (sym (put-here at key e es is)) (above-less es at e.0 (omega (arith, is)) up.0, up.1)
      by rest (inr (inl less)) = subst Ascending (sym (put-before at key e es less)) ((less, above-less es at e.0 (omega (arith, less)) up.0), up)
      by rest (inr (inr more)) = subst Ascending (sym (put-after at key e es more)) (above-put e.0 at key es more up.0, rest)

  above-filter : (test : ℕ × K → Bool) (n : ℕ) (m : Kept K) → Above n m → Above n (filter test m)
  above-filter test n [] all = tt
  above-filter test n (e ∷ es) all = by (above-filter test n es all.1) (test e)
    where
      by : Above n (filter test es) → (t : Bool) → Above n (cond t (e ∷ filter test es) (filter test es))
      by rest true = (all.0, rest)
      by rest false = rest

  pub ascending-filter : (test : ℕ × K → Bool) (m : Kept K) → Ascending m → Ascending (filter test m)
  ascending-filter test [] up = tt
  ascending-filter test (e ∷ es) up = by (ascending-filter test es up.1) (test e)
    where
      by : Ascending (filter test es) → (t : Bool) → Ascending (cond t (e ∷ filter test es) (filter test es))
      by rest true = (above-filter test e.0 es up.0, rest)
      by rest false = rest

  -- what is looked up among those whose locations pass a test
  key-passed : (test : ℕ → Bool) (m : Kept K) (at : ℕ) → test at ≡ true → key_for (filter (λ e. test e.0) m) at ≡ key_for m at
  key-passed test [] at passes = refl
  key-passed test (e ∷ es) at passes = by (key-passed test es at passes) (test e.0) refl
    where
      by : key_for (filter (λ u. test u.0) es) at ≡ key_for es at → (t : Bool) → t ≡ test e.0 → key_for (cond t (e ∷ filter (λ u. test u.0) es) (filter (λ u. test u.0) es)) at ≡ key_for (e ∷ es) at
      by rest true is = ap (λ o. cond (eqb e.0 at) (Some e.1) o) rest
      by rest false is = rest ∙ sym (key-later e es at (λ same. false≢true (is ∙ ap test same ∙ passes)))

  key-failed : (test : ℕ → Bool) (m : Kept K) (at : ℕ) → test at ≡ false → key_for (filter (λ e. test e.0) m) at ≡ None
  key-failed test [] at fails = refl
  key-failed test (e ∷ es) at fails = by (key-failed test es at fails) (test e.0) refl
    where
      by : key_for (filter (λ u. test u.0) es) at ≡ None → (t : Bool) → t ≡ test e.0 → key_for (cond t (e ∷ filter (λ u. test u.0) es) (filter (λ u. test u.0) es)) at ≡ None
      by rest true is = key-later e (filter (λ u. test u.0) es) at (λ same. true≢false (is ∙ ap test same ∙ fails)) ∙ rest
      by rest false is = rest

  pub key-without : (own : ℕ) (m : Kept K) (at : ℕ) → at ≢ own → key_for (without own m) at ≡ key_for m at
  key-without own m at other = key-passed (λ n. not (eqb n own)) m at (ap not (ne_eqb at own other))

  pub key-left : (own : ℕ) (m : Kept K) → key_for (without own m) own ≡ None
  key-left own m = key-failed (λ n. not (eqb n own)) m own (ap not (eq-eqb own own refl))

  pub key-in_set : (sets set : ℕ) (m : Kept K) (at : ℕ) → set_of sets at ≡ set → key_for (in_set sets set m) at ≡ key_for m at
  key-in_set sets set m at is = key-passed (λ n. eqb (set_of sets n) set) m at (eq-eqb (set_of sets at) set is)

  pub key-out_of_set : (sets set : ℕ) (m : Kept K) (at : ℕ) → set_of sets at ≢ set → key_for (in_set sets set m) at ≡ None
  key-out_of_set sets set m at other = key-failed (λ n. eqb (set_of sets n) set) m at (ne_eqb (set_of sets at) set other)

  -- what has the same keys in ascending order is the same
  abbrev pub HasKeys : Kept K → Kept K → Type 0
  HasKeys a b = (at : ℕ) (key : K) → key_for a at ≡ Some key → key_for b at ≡ Some key

  pub same-kept : (a b : Kept K) → Ascending a → Ascending b → HasKeys a b → HasKeys b a → a ≡ b
  same-kept [] [] up_a up_b ab ba = refl
  same-kept [] (y ∷ ys) up_a up_b ab ba = absurd (none-some y.1 (ba y.0 y.1 (key-first y ys y.0 refl)))
  same-kept (x ∷ xs) [] up_a up_b ab ba = absurd (none-some x.1 (ab x.0 x.1 (key-first x xs x.0 refl)))
  same-kept (x ∷ xs) (y ∷ ys) up_a up_b ab ba = by (same-kept xs ys up_a.1 up_b.1) (cases_order x.0 y.0)
    where
      -- the first location of one is not below that of the other
      lost : (u v : ℕ × K) (us vs : Kept K) → u.0 < v.0 → Above v.0 vs → HasKeys (u ∷ us) (v ∷ vs) → ⊥
      lost u v us vs less all has =
          none-some u.1 (sym (key-later v vs u.0 (λ is. absurd (omega (arith, is, less))) ∙ key-above vs u.0 (above-less vs u.0 v.0 (omega (arith, less)) all)) ∙ has u.0 u.1 (key-first u us u.0 refl))

      rest : (u v : ℕ × K) (us vs : Kept K) → u.0 ≡ v.0 → Above u.0 us → HasKeys (u ∷ us) (v ∷ vs) → HasKeys us vs
      rest u v us vs same all has at key is = at_tail (cases_eq u.0 at)
        where
          at_tail : (u.0 ≡ at) ⊎ (u.0 ≢ at) → key_for vs at ≡ Some key
          at_tail (inl here) = absurd (none-some key (sym (key-above us at (subst (λ n. Above n us) here all)) ∙ is))
          at_tail (inr other) = sym (key-later v vs at (λ here. other (same ∙ here))) ∙ has at key (key-later u us at other ∙ is)

      joined : (u v : ℕ × K) (us vs : Kept K) → u.0 ≡ v.0 → u.1 ≡ v.1 → us ≡ vs → (u ∷ us) ≡ (v ∷ vs)
      joined u v us vs first second tails = ap₂ (λ (e : ℕ × K) (m : Kept K). e ∷ m) (ap₂ (λ (n : ℕ) (k : K). (n, k)) first second) tails

      by : (HasKeys xs ys → HasKeys ys xs → xs ≡ ys) → (x.0 ≡ y.0) ⊎ ((x.0 < y.0) ⊎ (y.0 < x.0)) → (x ∷ xs) ≡ (y ∷ ys)
      by tails (inl same) =
          let own : y.1 ≡ x.1 = same_Some y.1 x.1 (sym (key-first y ys x.0 (sym same)) ∙ ab x.0 x.1 (key-first x xs x.0 refl)) in
          joined x y xs ys same (sym own) (tails (rest x y xs ys same up_a.0 ab) (rest y x ys xs (sym same) up_b.0 ba))
      by tails (inr (inl less)) = absurd (lost x y xs ys less up_b.0 ab)
      by tails (inr (inr more)) = absurd (lost y x ys xs more up_a.0 ba)

  -- the first is the smallest
  pub smallest-is : (m : Kept K) (at : ℕ) (key : K) → Ascending m → key_for m at ≡ Some key → ((q : ℕ) (k : K) → key_for m q ≡ Some k → at ≤ q) → smallest m ≡ at
  smallest-is [] at key up is least = absurd (none-some key is)
  smallest-is (e ∷ es) at key up is least =
      let low : at ≤ e.0 = least e.0 e.1 (key-first e es e.0 refl) in
      by (cases_order at e.0)
    where
      by : (at ≡ e.0) ⊎ ((at < e.0) ⊎ (e.0 < at)) → e.0 ≡ at
      by (inl same) = sym same
      by (inr (inl less)) = absurd (none-some key (sym (key-above (e ∷ es) at (less, above-less es at e.0 (omega (arith, less)) up.0)) ∙ is))
      by (inr (inr more)) = let low = least e.0 e.1 (key-first e es e.0 refl) in absurd (omega (arith, low, more))

  -- how many there are after a key is put in
  pub long-put : (at : ℕ) (key : K) (m : Kept K) → length (with_key at key m) ≤ suc (length m)
  long-put at key [] = omega arith
  long-put at key (e ∷ es) = by (long-put at key es) (cases_order at e.0)
    where
      by : length (with_key at key es) ≤ suc (length es) → (at ≡ e.0) ⊎ ((at < e.0) ⊎ (e.0 < at)) → length (with_key at key (e ∷ es)) ≤ suc (length (e ∷ es))
      by rest (inl is) = let l = ap length (put-here at key e es is) in omega (arith, l)
      by rest (inr (inl less)) = let l = ap length (put-before at key e es less) in omega (arith, l)
      by rest (inr (inr more)) = let l = ap length (put-after at key e es more) in omega (arith, l, rest)

  pub longer-put : (at : ℕ) (key : K) (m : Kept K) → key_for m at ≡ None → length (with_key at key m) ≡ suc (length m)
  longer-put at key [] none = omega arith
  longer-put at key (e ∷ es) none = by (longer-put at key es) (cases_order at e.0)
    where
      by : (key_for es at ≡ None → length (with_key at key es) ≡ suc (length es)) → (at ≡ e.0) ⊎ ((at < e.0) ⊎ (e.0 < at)) → length (with_key at key (e ∷ es)) ≡ suc (length (e ∷ es))
      by rest (inl is) = absurd (none-some e.1 (sym none ∙ key-first e es at (sym is)))
      by rest (inr (inl less)) = ap length (put-before at key e es less)
      by rest (inr (inr more)) = ap length (put-after at key e es more) ∙ ap suc (rest (sym (key-later e es at (λ is. absurd (omega (arith, is, more)))) ∙ none))

  -- what is given after a key was put in or taken out
  left-was : (own : ℕ) (m : Kept K) (at : ℕ) (key : K) → key_for (without own m) at ≡ Some key → key_for m at ≡ Some key
  left-was own m at key is = by (cases_eq at own)
    where
      by : (at ≡ own) ⊎ (at ≢ own) → key_for m at ≡ Some key
      by (inl same) = absurd (none-some key (sym (ap (key_for (without own m)) same ∙ key-left own m) ∙ is))
      by (inr other) = sym (key-without own m at other) ∙ is

  room-was : (ways sets set : ℕ) (m : Kept K) (at : ℕ) (key : K) → key_for (with_room ways sets set m) at ≡ Some key → key_for m at ≡ Some key
  room-was ways sets set m at key = by (ltb (length (in_set sets set m)) ways)
    where
      by : (t : Bool) → key_for (cond t m (without (smallest (in_set sets set m)) m)) at ≡ Some key → key_for m at ≡ Some key
      by true is = is
      by false is = left-was (smallest (in_set sets set m)) m at key is

  pub let_go-was : (c : Cached K) (found : Option ℕ) (at : ℕ) (key : K) → given (let_go c found) at ≡ Some key → given c at ≡ Some key
  let_go-was c None at key is = is
  let_go-was c (Some own) at key is = left-was own c.kept at key is

  key-was : (own : ℕ) (new : K) (m : Kept K) (at : ℕ) (key : K) → key_for (with_key own new m) at ≡ Some key → ((at ≡ own) × (key ≡ new)) ⊎ (key_for m at ≡ Some key)
  key-was own new m at key is = by (cases_eq own at)
    where
      by : (own ≡ at) ⊎ (own ≢ at) → ((at ≡ own) × (key ≡ new)) ⊎ (key_for m at ≡ Some key)
      by (inl same) = inl (sym same, sym (same_Some new key (sym (key-put own new m) ∙ ap (key_for (with_key own new m)) same ∙ is)))
      by (inr other) = inr (sym (key-other own new m at other) ∙ is)

  put-was : (c : Cached K) (own : ℕ) (new : K) (at : ℕ) (key : K) → given (put c own new) at ≡ Some key → ((at ≡ own) × (key ≡ new)) ⊎ (given c at ≡ Some key)
  put-was c own new at key is = by (key-was own new (with_room c.ways c.sets (set_of c.sets own) (without own c.kept)) at key is)
    where
      by : ((at ≡ own) × (key ≡ new)) ⊎ (key_for (with_room c.ways c.sets (set_of c.sets own) (without own c.kept)) at ≡ Some key) → ((at ≡ own) × (key ≡ new)) ⊎ (given c at ≡ Some key)
      by (inl both) = inl both
      by (inr old) = inr (left-was own c.kept at key (room-was c.ways c.sets (set_of c.sets own) (without own c.kept) at key old))

  pub kept_on-was : (c : Cached K) (found : Option ℕ) (keeps : Bool) (own : ℕ) (new : K) (at : ℕ) (key : K) → given (kept_on c found keeps own new) at ≡ Some key
      → ((keeps ≡ true) × (at ≡ own) × (key ≡ new)) ⊎ (given c at ≡ Some key)
  kept_on-was c found true own new at key is = by (put-was (let_go c found) own new at key is)
    where
      by : ((at ≡ own) × (key ≡ new)) ⊎ (given (let_go c found) at ≡ Some key) → ((true ≡ true) × (at ≡ own) × (key ≡ new)) ⊎ (given c at ≡ Some key)
      by (inl both) = inl (refl, both.0, both.1)
      by (inr old) = inr (let_go-was c found at key old)
  kept_on-was c found false own new at key is = inr (let_go-was c found at key is)
