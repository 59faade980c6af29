-- Neighbours on a way, in an index and among partitions.
use Rattle.std.proofs.Common.{◌≡◌, ◌⊎◌, inl, inr, subst, ℕ, zero, suc, min, max, ◌+◌, ◌-◌, ◌++◌, length, length-append, ◌*◌, ◌^◌, ◌<◌, ◌≤◌, nat_eq, nat_lt, Bool, true, false, true≢false, cond, List, [], ◌∷◌, refl, ap, sym, ◌∙◌, Option, Some, None, arith}
use Rattle.std.proofs.lemmas.List.{get_or-drop, get_or-take, length-take-le}
use Rattle.std.specs.Prelude.{⊤, map, drop, take, slice_index_or, filter, option_map, unwrap_or}
use Rattle.std.specs.Option.{is_some}
use Rattle.std.specs.Map.{lookup, keys_of}
use Rattle.std.proofs.lemmas.Option.{none-some}
use mathlib.Core.Logic.{dite}
use native.Mathlib.Decide.{dec_lt}
use Rattle.std.proofs.lemmas.Bool.{eq-eqb}
use Rattle.qm_index.specs.Buckets.{bucket_at}
use Rattle.qm_model.proofs.KeyOrder.{and-true, and-both, false-not}
use Rattle.qm_index.specs.Neighbours.{picked, near_or_wrapped, neighbour_at}
use Rattle.qm_index.specs.Partitioned.{joined, AreSmall, AreIndices}
use Rattle.qm_index.specs.Ways.{Up, Down, FirstIs, NextIs, FirstOf}
use Rattle.qm_index.proofs.Picks.{IsPick, has, has-filter, has-lookup, picks_least, picks_greatest, is-picked, none-picked, number_below, number_from}
use Rattle.qm_index.proofs.Partitions.{Entries, parted, joined-at, joined-low, index-at, front-at, last-at}

-- a way through index keys, which goes through partitions and then through those in each
pub record IsWay (Goes : ℕ → ℕ → Type 0) (goes : ℕ → ℕ → Bool) (pick : ℕ → ℕ → ℕ) (From : ℕ → ℕ → Type 0) : Type 0 where
  pub picks : IsPick pick From
  pub told : (a b : ℕ) → Goes a b → goes a b ≡ true
  pub tells : (a b : ℕ) → goes a b ≡ true → Goes a b
  pub else : (a b : ℕ) → (Goes a b → ⊥) → From b a
  pub once : (a b : ℕ) → Goes a b → Goes b a → ⊥
  pub far : (first p r q s : ℕ) → Goes p q → r < 2 ^ 64 → s < 2 ^ 64 → Goes ((first + p) * 2 ^ 64 + r) ((first + q) * 2 ^ 64 + s)
  pub near : (first p r s : ℕ) → Goes r s → Goes ((first + p) * 2 ^ 64 + r) ((first + p) * 2 ^ 64 + s)
  pub either : (first p r q s : ℕ) → r < 2 ^ 64 → s < 2 ^ 64 → Goes ((first + p) * 2 ^ 64 + r) ((first + q) * 2 ^ 64 + s) → Goes p q ⊎ ((p ≡ q) × Goes r s)

-- where they stand in order, one of two cases
parts-either : (first p r q s : ℕ) → r < 2 ^ 64 → s < 2 ^ 64 → (first + p) * 2 ^ 64 + r < (first + q) * 2 ^ 64 + s → (p < q) ⊎ ((p ≡ q) × (r < s))
parts-either first p r q s small less below = dite (dec_lt p q) (λ h. inl h) (λ h. let same : p ≡ q = omega (arith, h, small, less, below) in inr (same, omega (arith, same, below)))

pub test-below : (a b : ℕ) → a < b → nat_lt a b ≡ true
test-below a b h = by (nat_lt a b) refl
  where
    by : (t : Bool) → nat_lt a b ≡ t → nat_lt a b ≡ true
    by true is = is
    by false is = let from = number_from a b is in absurd (omega (arith, from, h))

pub way_up : IsWay Up (λ a b. nat_lt a b) min (λ a b. a ≤ b)
way_up = record {
  picks = picks_least;
  told = λ a b h. test-below a b h;
  tells = λ a b h. number_below a b h;
  else = λ a b h. dite (dec_lt a b) (λ low. absurd (h low)) (λ up. omega (arith, up));
  once = λ a b h k. absurd (omega (arith, h, k));
  far = λ first p r q s h small less. omega (arith, h, small, less);
  near = λ first p r s h. omega (arith, h);
  either = λ first p r q s small less h. parts-either first p r q s small less h;
}

pub way_down : IsWay Down (λ a b. nat_lt b a) max (λ a b. b ≤ a)
way_down = record {
  picks = picks_greatest;
  told = λ a b h. test-below b a h;
  tells = λ a b h. number_below b a h;
  else = λ a b h. dite (dec_lt b a) (λ low. absurd (h low)) (λ up. omega (arith, up));
  once = λ a b h k. absurd (omega (arith, h, k));
  far = λ first p r q s h small less. omega (arith, h, small, less);
  near = λ first p r s h. omega (arith, h);
  either = λ first p r q s small less h. elim (parts-either first q s p r less small h) [ inl low ↦ inl low | inr both ↦ inr (sym both.0, both.1) ];
}

module _ {V : Type 0} where
  abbrev at : ℕ → Entries V → Option (List V)
  at k es = lookup (nat_eq k) es

  -- an index in which nothing is found has nothing
  pub none-at : (es : Entries V) → ((x : ℕ) → at x es ≡ None) → es ≡ []
  none-at [] none = refl
  none-at (e ∷ es) none = absurd (none-some e.1 (sym (none e.0) ∙ ap (λ (t : Bool). cond t (Some e.1) (at e.0 es)) (eq-eqb e.0 e.0 refl)))

  -- there is no end where there is nothing
  pub end-none : {X : Type 0} (now : X → List V) (es : Entries V) (Goes : ℕ → ℕ → Type 0) (o : Option X) → FirstIs Goes es (option_map now o) → (o ≡ None → es ≡ []) × (es ≡ [] → o ≡ None)
  end-none now es Goes None end = (λ same. none-at es end, λ empty. refl)
  end-none now es Goes (Some x) end = (λ same. absurd (none-some x (sym same)), λ empty. absurd (none-some (now x) (ap (at end.0) (sym empty) ∙ end.1)))

  -- an index key that is there is small
  there-small : (n : ℕ) (es : Entries V) (b : List V) → AreSmall es → at n es ≡ Some b → n < 2 ^ 64
  there-small n es b small is = dite (dec_lt n (2 ^ 64)) (λ low. low) (λ high. absurd (none-some b (sym (small n (omega (arith, high))) ∙ is)))

  to-has : (es : Entries V) (x : ℕ) (b : List V) → at x es ≡ Some b → has (keys_of es) x ≡ true
  to-has es x b is = has-lookup es x ∙ ap is_some is

  from-has : (es : Entries V) (x : ℕ) → at x es ≡ None → has (keys_of es) x ≡ false
  from-has es x none = has-lookup es x ∙ ap is_some none

  in-bucket : (es : Entries V) (x : ℕ) (b : List V) → at x es ≡ Some b → bucket_at es x ≡ b
  in-bucket es x b is = ap (λ o. unwrap_or o []) is

  module _ {Goes : ℕ → ℕ → Type 0} {goes : ℕ → ℕ → Bool} {pick : ℕ → ℕ → ℕ} {From : ℕ → ℕ → Type 0} (way : IsWay Goes goes pick From) where
    -- What an index answers, from look-ups.

    pub first-clause : (es : Entries V) (found : Option (List V)) → FirstIs Goes es found → option_map (bucket_at es) (picked pick (keys_of es)) ≡ found
    first-clause es None none = ap (option_map (bucket_at es)) (none-picked way.picks (keys_of es) (λ x. from-has es x (none x)))
    first-clause es (Some b) some =
        let n = some.0 in
        ap (option_map (bucket_at es)) (is-picked way.picks (keys_of es) n (to-has es n b some.1) (λ x there. way.else x n (λ before. true≢false (sym there ∙ from-has es x (some.2 x before)))))
        ∙ ap Some (in-bucket es n b some.1)

    -- an index key that is among those behind stands in the index, and is behind
    from-behind : (es : Entries V) (k x : ℕ) → has (filter (λ q. goes k q) (keys_of es)) x ≡ true → (has (keys_of es) x ≡ true) × Goes k x
    from-behind es k x there =
        let both = and-true (has (keys_of es) x) (goes k x) (sym (has-filter (λ q. goes k q) (keys_of es) x) ∙ there) in
        (both.0, way.tells k x both.1)

    to-behind : (es : Entries V) (k x : ℕ) → has (keys_of es) x ≡ true → Goes k x → has (filter (λ q. goes k q) (keys_of es)) x ≡ true
    to-behind es k x there on = has-filter (λ q. goes k q) (keys_of es) x ∙ and-both (has (keys_of es) x) (goes k x) there (way.told k x on)

    near-clause : (es : Entries V) (k : ℕ) (found : Option (List V)) → NextIs Goes es k found → option_map (bucket_at es) (picked pick (filter (λ q. goes k q) (keys_of es))) ≡ found
    near-clause es k None none =
        ap (option_map (bucket_at es)) (none-picked way.picks (filter (λ q. goes k q) (keys_of es)) (λ x. false-not (has (filter (λ q. goes k q) (keys_of es)) x)
        (λ there. let both = from-behind es k x there in true≢false (sym both.0 ∙ from-has es x (none x both.1)))))
    near-clause es k (Some b) some =
        let n = some.0 in
        ap (option_map (bucket_at es)) (is-picked way.picks (filter (λ q. goes k q) (keys_of es)) n (to-behind es k n (to-has es n b some.2) some.1)
        (λ x there. let both = from-behind es k x there in way.else x n (λ before. true≢false (sym both.0 ∙ from-has es x (some.3 x both.1 before)))))
        ∙ ap Some (in-bucket es n b some.2)

    -- the neighbour
    pub next-near : (es : Entries V) (k : ℕ) (b : List V) → NextIs Goes es k (Some b) → neighbour_at es (near_or_wrapped (picked pick (filter (λ q. goes k q) (keys_of es))) (picked pick (keys_of es))) ≡ Some (b, false)
    next-near es k b next = by (picked pick (filter (λ q. goes k q) (keys_of es))) (near-clause es k (Some b) next)
      where
        by : (a : Option ℕ) → option_map (bucket_at es) a ≡ Some b → neighbour_at es (near_or_wrapped a (picked pick (keys_of es))) ≡ Some (b, false)
        by None one = absurd (none-some b one)
        by (Some n) one = ap (option_map (λ b. (b, false))) one

    -- or else the far end
    pub next-far : (es : Entries V) (k : ℕ) (far : Option (List V)) → NextIs Goes es k None → FirstIs Goes es far → neighbour_at es (near_or_wrapped (picked pick (filter (λ q. goes k q) (keys_of es))) (picked pick (keys_of es))) ≡ option_map (λ b. (b, true)) far
    next-far es k far next end = by (picked pick (filter (λ q. goes k q) (keys_of es))) (picked pick (keys_of es)) (near-clause es k None next) (first-clause es far end)
      where
        by : (a c : Option ℕ) → option_map (bucket_at es) a ≡ None → option_map (bucket_at es) c ≡ far → neighbour_at es (near_or_wrapped a c) ≡ option_map (λ b. (b, true)) far
        by None None one two = ap (option_map (λ b. (b, true))) two
        by None (Some n) one two = ap (option_map (λ b. (b, true))) two
        by (Some n) c one two = absurd (none-some (bucket_at es n) (sym one))

    -- Among partitions.

    module _ (first : ℕ) (parts : List (Entries V)) (are : AreIndices parts) where
      abbrev part : ℕ → Entries V
      part p = slice_index_or parts p []

      abbrev Stands : ℕ → Type 0
      Stands x = (x < first * 2 ^ 64) ⊎ ((p : ℕ) × (r : ℕ) × (r < 2 ^ 64) × (x ≡ (first + p) * 2 ^ 64 + r))

      -- nothing is found where nothing is found in its partition
      none-here : (x : ℕ) → ((p r : ℕ) → r < 2 ^ 64 → x ≡ (first + p) * 2 ^ 64 + r → at r (part p) ≡ None) → at x (joined first parts) ≡ None
      none-here x none = by (parted first x)
        where
          by : Stands x → at x (joined first parts) ≡ None
          by (inl lower) = joined-low first x parts lower
          by (inr (p, r, small, whole)) = ap (λ n. at n (joined first parts)) whole ∙ joined-at first p r parts are small ∙ none p r small whole

      -- the next one is in its own partition
      pub next-own : (p r : ℕ) (b : List V) → r < 2 ^ 64 → NextIs Goes (part p) r (Some b) → NextIs Goes (joined first parts) ((first + p) * 2 ^ 64 + r) (Some b)
      next-own p r b small own =
          let n = own.0 in
          let less = there-small n (part p) b (index-at parts p are).1 own.2 in (
            (first + p) * 2 ^ 64 + n,
            way.near first p r n own.1,
            joined-at first p n parts are less ∙ own.2,
            λ x low high. none-here x (λ q s tiny whole. between x low high q s tiny whole less),
          )
        where
          between : (x : ℕ) → Goes ((first + p) * 2 ^ 64 + r) x → Goes x ((first + p) * 2 ^ 64 + own.0) → (q s : ℕ) → s < 2 ^ 64 → x ≡ (first + q) * 2 ^ 64 + s → own.0 < 2 ^ 64 → at s (part q) ≡ None
          between x low high q s tiny whole less =
              by (way.either first p r q s small tiny (subst (Goes ((first + p) * 2 ^ 64 + r)) whole low)) (way.either first q s p own.0 tiny less (subst (λ y. Goes y ((first + p) * 2 ^ 64 + own.0)) whole high))
            where
              by : Goes p q ⊎ ((p ≡ q) × Goes r s) → Goes q p ⊎ ((q ≡ p) × Goes s own.0) → at s (part q) ≡ None
              by (inl a) (inl c) = absurd (way.once p q a c)
              by (inl a) (inr c) = let a' = subst (λ y. Goes p y) c.0 a in absurd (way.once p p a' a')
              by (inr a) (inl c) = let c' = subst (λ y. Goes q y) a.0 c in absurd (way.once q q c' c')
              by (inr a) (inr c) = ap (λ y. at s (part y)) c.0 ∙ own.3 s a.1 c.1

      -- or else the first behind
      pub next-behind : (Is : ℕ → Type 0) (p r : ℕ) (found : Option (List V)) → r < 2 ^ 64 → ((j : ℕ) → Is j → (part j ≡ []) ⊎ Goes p j) → ((j : ℕ) → Goes p j → (part j ≡ []) ⊎ Is j)
          → NextIs Goes (part p) r None → FirstOf Goes Is parts found → NextIs Goes (joined first parts) ((first + p) * 2 ^ 64 + r) found
      next-behind Is p r (Some b) small is on own later =
          let i = later.0 in
          let n = later.2.0 in
          let less = there-small n (part i) b (index-at parts i are).1 later.2.1 in (
            (first + i) * 2 ^ 64 + n,
            way.far first p r i n (there (is i later.1)) small less,
            joined-at first i n parts are less ∙ later.2.1,
            λ x low high. none-here x (λ q s tiny whole. between x low high q s tiny whole less),
          )
        where
          there : (part later.0 ≡ []) ⊎ Goes p later.0 → Goes p later.0
          there (inl none) = absurd (none-some b (ap (at later.2.0) (sym none) ∙ later.2.1))
          there (inr goes_on) = goes_on

          between : (x : ℕ) → Goes ((first + p) * 2 ^ 64 + r) x → Goes x ((first + later.0) * 2 ^ 64 + later.2.0) → (q s : ℕ) → s < 2 ^ 64 → x ≡ (first + q) * 2 ^ 64 + s → later.2.0 < 2 ^ 64 → at s (part q) ≡ None
          between x low high q s tiny whole less =
              by (way.either first p r q s small tiny (subst (Goes ((first + p) * 2 ^ 64 + r)) whole low)) (way.either first q s later.0 later.2.0 tiny less (subst (λ y. Goes y ((first + later.0) * 2 ^ 64 + later.2.0)) whole high))
            where
              empty : (part q ≡ []) ⊎ Is q → Goes q later.0 → at s (part q) ≡ None
              empty (inl none) c = ap (at s) none
              empty (inr is_q) c = later.3 q is_q c s

              by : Goes p q ⊎ ((p ≡ q) × Goes r s) → Goes q later.0 ⊎ ((q ≡ later.0) × Goes s later.2.0) → at s (part q) ≡ None
              by (inr a) c = ap (λ y. at s (part y)) (sym a.0) ∙ own s a.1
              by (inl a) (inl c) = empty (on q a) c
              by (inl a) (inr c) = ap (λ y. at s (part y)) c.0 ∙ later.2.2 s c.1
      next-behind Is p r None small is on own later = λ x low. none-here x (λ q s tiny whole. by q s (way.either first p r q s small tiny (subst (Goes ((first + p) * 2 ^ 64 + r)) whole low)))
        where
          empty : (q s : ℕ) → (part q ≡ []) ⊎ Is q → at s (part q) ≡ None
          empty q s (inl none) = ap (at s) none
          empty q s (inr is_q) = later q is_q s

          by : (q s : ℕ) → Goes p q ⊎ ((p ≡ q) × Goes r s) → at s (part q) ≡ None
          by q s (inr a) = ap (λ y. at s (part y)) (sym a.0) ∙ own s a.1
          by q s (inl a) = empty q s (on q a)

      -- the first one is the first in all partitions
      pub first-joined : (Is : ℕ → Type 0) (found : Option (List V)) → ((j : ℕ) → (part j ≡ []) ⊎ Is j) → FirstOf Goes Is parts found → FirstIs Goes (joined first parts) found
      first-joined Is None all later = λ x. none-here x (λ q s tiny whole. by q s (all q))
        where
          by : (q s : ℕ) → (part q ≡ []) ⊎ Is q → at s (part q) ≡ None
          by q s (inl none) = ap (at s) none
          by q s (inr is) = later q is s
      first-joined Is (Some b) all later =
          let i = later.0 in
          let n = later.2.0 in
          let less = there-small n (part i) b (index-at parts i are).1 later.2.1 in
          ((first + i) * 2 ^ 64 + n, joined-at first i n parts are less ∙ later.2.1, λ x high. none-here x (λ q s tiny whole. by q s (all q) (way.either first q s i n tiny less (subst (λ y. Goes y ((first + i) * 2 ^ 64 + n)) whole high))))
        where
          by : (q s : ℕ) → (part q ≡ []) ⊎ Is q → Goes q later.0 ⊎ ((q ≡ later.0) × Goes s later.2.0) → at s (part q) ≡ None
          by q s (inl none) c = ap (at s) none
          by q s (inr is) (inl c) = later.3 q is c s
          by q s (inr is) (inr c) = ap (λ y. at s (part y)) c.0 ∙ later.2.2 s c.1

  -- From an index key below the first partition.

  pub low-up : (first k : ℕ) (parts : List (Entries V)) (found : Option (List V)) → k < first * 2 ^ 64 → FirstIs Up (joined first parts) found → NextIs Up (joined first parts) k found
  low-up first k parts None low end = λ x up. end x
  low-up first k parts (Some b) low end =
      let above = dite (dec_lt end.0 (first * 2 ^ 64)) (λ (h : end.0 < first * 2 ^ 64). absurd (none-some b (sym (joined-low first end.0 parts h) ∙ end.1))) (λ h. let up : k < end.0 = omega (arith, h, low) in up) in
      (end.0, above, end.1, λ x up on. end.2 x on)

  pub low-down : (first k : ℕ) (parts : List (Entries V)) → k < first * 2 ^ 64 → NextIs Down (joined first parts) k None
  low-down first k parts low = λ x down. joined-low first x parts (omega (arith, low, down))

  -- Along a row of partitions.

  pub first-end : {A : Type 0} (e : A → Entries V) (xs : List A) → length xs ≡ 0 → FirstOf Up (λ j. ⊤) (map e xs) None
  first-end e [] none = λ j is x. refl
  first-end e (x ∷ xs) none = absurd (omega (arith, none))

  pub first-here : (part : Entries V) (parts : List (Entries V)) (b : List V) → FirstIs Up part (Some b) → FirstOf Up (λ j. ⊤) (part ∷ parts) (Some b)
  first-here part parts b is = (0, tt, is, λ j all low. absurd (omega (arith, low)))

  pub first-on : (part : Entries V) (parts : List (Entries V)) (found : Option (List V)) → FirstIs Up part None → FirstOf Up (λ j. ⊤) parts found → FirstOf Up (λ j. ⊤) (part ∷ parts) found
  first-on part parts None none later = λ j all x. by j x
    where
      by : (j x : ℕ) → at x (slice_index_or (part ∷ parts) j []) ≡ None
      by zero x = none x
      by (suc j) x = later j tt x
  first-on part parts (Some b) none later = (suc later.0, tt, later.2, λ j all low x. by j x low)
    where
      by : (j x : ℕ) → j < suc later.0 → at x (slice_index_or (part ∷ parts) j []) ≡ None
      by zero x low = none x
      by (suc j) x low = later.3 j tt (omega (arith, low)) x

  pub first-init : (place : ℕ) (parts : List (Entries V)) (found : Option (List V)) → FirstOf Up (λ j. ⊤) (drop place parts) found → FirstOf Up (λ j. place ≤ j) parts found
  first-init place parts found later = by found later
    where
      moved : (j x : ℕ) → place ≤ j → at x (slice_index_or parts j []) ≡ at x (slice_index_or (drop place parts) (j - place) [])
      moved j x from = let same : j ≡ place + (j - place) = omega (arith, from) in ap (λ n. at x (slice_index_or parts n [])) same ∙ ap (at x) (sym (get_or-drop place parts (j - place) []))

      by : (found : Option (List V)) → FirstOf Up (λ j. ⊤) (drop place parts) found → FirstOf Up (λ j. place ≤ j) parts found
      by None later = λ j from x. moved j x from ∙ later (j - place) tt x
      by (Some b) later = (place + later.0, omega arith, subst (λ (es : Entries V). FirstIs Up es (Some b)) (get_or-drop place parts later.0 []) later.2, λ j from low x. moved j x from ∙ later.3 (j - place) tt (omega (arith, from, low)) x)

  pub last-end : {A : Type 0} (e : A → Entries V) (xs : List A) → length xs ≡ 0 → FirstOf Down (λ j. j < length (map e xs)) (map e xs) None
  last-end e [] none = λ j is x. refl
  last-end e (x ∷ xs) none = absurd (omega (arith, none))

  pub last-here : (part : Entries V) (front : List (Entries V)) (b : List V) → FirstIs Down part (Some b) → FirstOf Down (λ j. j < length (front ++ part ∷ [])) (front ++ part ∷ []) (Some b)
  last-here part front b is =
      let long = length-append front (part ∷ []) in
      (length front, omega (arith, long), subst (λ (es : Entries V). FirstIs Down es (Some b)) (sym (last-at front part [])) is, λ j low up x. absurd (omega (arith, low, up, long)))

  pub last-on : (part : Entries V) (front : List (Entries V)) (found : Option (List V)) → FirstIs Down part None → FirstOf Down (λ j. j < length front) front found → FirstOf Down (λ j. j < length (front ++ part ∷ [])) (front ++ part ∷ []) found
  last-on part front found none later = by found later
    where
      here : (j x : ℕ) → j < length (front ++ part ∷ []) → (j < length front → at x (slice_index_or front j []) ≡ None) → at x (slice_index_or (front ++ part ∷ []) j []) ≡ None
      here j x low before = dite (dec_lt j (length front))
          (λ (h : j < length front). ap (at x) (front-at front part j [] h) ∙ before h)
          (λ h.
          let long = length-append front (part ∷ []) in
          let same : j ≡ length front = omega (arith, h, low, long) in
          ap (λ n. at x (slice_index_or (front ++ part ∷ []) n [])) same ∙ ap (at x) (last-at front part []) ∙ none x)

      by : (found : Option (List V)) → FirstOf Down (λ j. j < length front) front found → FirstOf Down (λ j. j < length (front ++ part ∷ [])) (front ++ part ∷ []) found
      by None later = λ j low x. here j x low (λ h. later j h x)
      by (Some b) later =
          let long = length-append front (part ∷ []) in
          let low = later.1 in
          (later.0, omega (arith, low, long), subst (λ (es : Entries V). FirstIs Down es (Some b)) (sym (front-at front part later.0 [] low)) later.2, λ j less up x. here j x less (λ h. later.3 j h up x))

  pub last-init : (place : ℕ) (parts : List (Entries V)) (found : Option (List V)) → place ≤ length parts → FirstOf Down (λ j. j < length (take place parts)) (take place parts) found → FirstOf Down (λ j. j < place) parts found
  last-init place parts found room later = by found later
    where
      long : length (take place parts) ≡ place
      long = length-take-le place parts room

      by : (found : Option (List V)) → FirstOf Down (λ j. j < length (take place parts)) (take place parts) found → FirstOf Down (λ j. j < place) parts found
      by None later = λ j low x. ap (at x) (sym (get_or-take place parts j [] low)) ∙ later j (let l = long in omega (arith, low, l)) x
      by (Some b) later =
          let low : later.0 < place = (let l = long in let h = later.1 in omega (arith, h, l)) in
          (later.0, low, subst (λ (es : Entries V). FirstIs Down es (Some b)) (get_or-take place parts later.0 [] low) later.2, λ j less up x. ap (at x) (sym (get_or-take place parts j [] less)) ∙ later.3 j (let l = long in omega (arith, less, l)) up x)
