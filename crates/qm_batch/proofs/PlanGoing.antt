-- Steps of a walk on its way.
use Rattle.std.proofs.Common.{◌≡◌, ℕ, suc, ◌+◌, ◌-◌, ◌≤◌, ◌<◌, nat_le, min, max, Bool, true, false, List, [], ◌∷◌, ◌++◌, length, map, drop, refl, ap, ap₂, sym, ◌∙◌, subst, Option, Some, None, arith, append-nil, append_assoc, ⊎_elim}
use Rattle.std.specs.Prelude.{option_to_list, option_map, is_some, All, MatchBool, if◌then◌else◌}
use Rattle.std.specs.List.{cons_option}
use Rattle.std.proofs.lemmas.Bool.{cases_lt}
use Rattle.std.proofs.lemmas.List.{map-append}
use Rattle.std.proofs.lemmas.List.Elements.{All-nil, All-push, filter_map-append}
use Rattle.std.proofs.lemmas.Option.{same_Some}
use Rattle.qm_operations.specs.Parts.{key_of, value_of}
use Rattle.qm_bits.specs.Candidates.{candidates}
use Rattle.qm_bits.proofs.Rounds.{candidates_first, candidates_none}
use Rattle.qm_chain.specs.declared.walk.Walk.{Walk}
use Rattle.qm_model.specs.Bits.{bits}
use Rattle.qm_model.specs.Operations.{Bytes, Operation, update}
use Rattle.qm_model.specs.Live.{floor, touches}
use Rattle.qm_model.specs.Live as lives
use Rattle.qm_model.specs.Step.{evicted_of, evicted_with}
use Rattle.qm_model.specs.Writes.{Write}
use Rattle.qm_base.specs.Views.{pair_view}
use Rattle.qm_model.specs.Walk.{Action, write, stop, evict, Rules, Walked, ended, decided, walk, walk_from}
use Rattle.qm_model.proofs.LastWrites.{bytes_same}
use Rattle.qm_step.specs.Changes.{next_in}
use Rattle.qm_step.specs.Going.{Decided, write_for, decided_for, told_of, AreDead, AreDeadBetween, IsSpaced, resumed, IsDecided, IsGoing, AreDecided}
use Rattle.qm_step.specs.Touches.{Touch, IsMoveAt, live_update_at}
use Rattle.qm_batch.proofs.PlanCandidates.{dead_unless_candidate}
use Rattle.qm_batch.proofs.PlanMoves.{live_update-is, live_update-next, live_update-value}
use Rattle.qm_batch.proofs.PlanPassing.{passes, falls_short, spent, at_end, decides}

-- locations that ascend from one on do so from one below
pub spaced-below : (a b to : ℕ) (xs : List ℕ) → a ≤ b → IsSpaced b xs to → IsSpaced a xs to
spaced-below a b to [] below h = omega (arith, below, h)
spaced-below a b to (x ∷ xs) below h = let low = h.0 in (omega (arith, below, low), h.1, h.2)

-- and up to one above
pub spaced-above : (from a b : ℕ) (xs : List ℕ) → a ≤ b → IsSpaced from xs a → IsSpaced from xs b
spaced-above from a b [] above h = omega (arith, above, h)
spaced-above from a b (x ∷ xs) above h = let high = h.1 in (h.0, omega (arith, above, high), spaced-above (x + 1) a b xs above h.2)

-- what is dead up to a location, and from there on
pub dead-then : (list : List Operation) (a b to : ℕ) → AreDead list a b → AreDead list b to → AreDead list a to
dead-then list a b to first later = λ i low high. ⊎_elim (λ below. first i low below) (λ above. later i above high) (cases_lt i b)

pub between-then : (list : List Operation) (a b to : ℕ) (xs : List ℕ) → AreDead list a b → AreDeadBetween list b xs to → AreDeadBetween list a xs to
between-then list a b to [] first h = dead-then list a b to first h
between-then list a b to (x ∷ xs) first h = (dead-then list a b x first h.0, h.1)

-- if nothing is live
pub dead-here : (list : List Operation) (at : ℕ) → None ≡ live_update_at list at → AreDead list at (at + 1)
dead-here list at none = λ i low high. subst (λ n. live_update_at list n ≡ None) (sym (same i low high)) (sym none)
  where
    same : (i : ℕ) → at ≤ i → i < at + 1 → i ≡ at
    same i low high = omega (arith, low, high)

-- a round of candidates ascends, and nothing is live between them
pub round-spaced : (bs : List Bool) (from to : ℕ) (round : List ℕ) → from ≤ to → candidates bs from to ≡ round → IsSpaced from round to
round-spaced bs from to [] rises is = rises
round-spaced bs from to (x ∷ xs) rises is =
    let first = candidates_first bs from to x xs is in
    let within = first.1 in
    (first.0, within, round-spaced bs (x + 1) to xs (omega (arith, within)) (sym first.3))

pub round-dead : (lent more : List Operation) (from to : ℕ) (round : List ℕ) → candidates (bits lent) from to ≡ round → AreDeadBetween (lent ++ more) from round to
round-dead lent more from to [] is = λ i low high. dead_unless_candidate lent more i (candidates_none (bits lent) from to is i low high)
round-dead lent more from to (x ∷ xs) is =
    let first = candidates_first (bits lent) from to x xs is in
    (λ i low high. dead_unless_candidate lent more i (first.2 i low high), round-dead lent more (x + 1) to xs (sym first.3))

-- a round from a location to itself has none
pub round-none : (bs : List Bool) (from : ℕ) (round : List ℕ) → candidates bs from from ≡ round → round ≡ []
round-none bs from [] is = refl
round-none bs from (x ∷ xs) is =
    let first = candidates_first bs from from x xs is in
    let low = first.0 in
    let high = first.1 in
    absurd (omega (arith, low, high))

le-true : (a b : ℕ) → nat_le a b ≡ true → a ≤ b
le-true a b h = grind (arith, h)

le-false : (a b : ℕ) → nat_le a b ≡ false → b < a
le-false a b h = grind (arith, h)

-- what is told of one more decision
told-push : (list : List Operation) (es fs : List (Bytes × Bytes)) (ds us : List Decided) (d : Decided) (value : Bytes) → lives.value_of list d.key ≡ Some value → es ≡ evicted_of list (map write_for ds) → us ≡ ds ++ d ∷ [] →
    fs ≡ es ++ option_to_list (evicted_with (write_for d) (Some value)) → fs ≡ evicted_of list (map write_for us)
told-push list es fs ds us d value is told pushed more =
    more
    ∙ ap₂ (λ xs o. xs ++ option_to_list (evicted_with (write_for d) o)) told (sym is)
    ∙ ap (λ xs. evicted_of list (map write_for ds) ++ xs) (one (evicted_with (write_for d) (lives.value_of list d.key)))
    ∙ sym (filter_map-append (λ (w : Write). evicted_with w (lives.value_of list w.key)) (map write_for ds) (write_for d ∷ []))
    ∙ ap (evicted_of list) (sym (map-append write_for ds (d ∷ [])))
    ∙ ap (λ xs. evicted_of list (map write_for xs)) (sym pushed)
  where
    one : (o : Option (Bytes × Bytes)) → option_to_list o ≡ cons_option o []
    one None = refl
    one (Some p) = refl

-- what is told of an answer, if the pair was kept of a policy that may evict
pub kept-told : {K V : Type 0} (key : K → Bytes) (value : V → Bytes) (k : K) (v : V) (evicts : Bool) (had : Option (K × V)) (action : Action) → had ≡ (if evicts then Some (k, v) else None) → (evicts ≡ false → action ≡ evict → ⊥) →
    told_of action (option_map (pair_view key value) had) ≡ told_of action (Some (key k, value v))
kept-told key value k v evicts had (write x) is never = refl
kept-told key value k v evicts had stop is never = refl
kept-told key value k v true had evict is never = ap (option_map (pair_view key value)) is
kept-told key value k v false had evict is never = absurd (never refl refl)

-- pairs with one more, as the program has them
pub told-more : {A : Type 0} (f : A → Bytes × Bytes) (es ms fs : List A) (r : Option A) (o : Option (Bytes × Bytes)) → ms ≡ es ++ option_to_list r → fs ≡ ms → option_map f r ≡ o → map f fs ≡ map f es ++ option_to_list o
told-more f es ms fs None o pushed same is = ap (map f) (same ∙ pushed) ∙ map-append f es [] ∙ ap (λ o. map f es ++ option_to_list o) is
told-more f es ms fs (Some a) o pushed same is = ap (map f) (same ∙ pushed) ∙ map-append f es (a ∷ []) ∙ ap (λ o. map f es ++ option_to_list o) is

module _ {P F : Type 0} (rules : Rules P) (base list : List Operation) where
  pub going-begins : (ds : List Decided) (es : List (Bytes × Bytes)) (w : Walk F) (p : P) (t e s : ℕ) → ds ≡ [] → es ≡ [] → t ≡ max (floor base) (length list) → w ≡ record { floor = floor base; end = min t (floor base + e + s); entries = e; skips = s } →
      IsGoing rules base list ds es w p (walk rules list (floor base) (record { entries = e; skips = s }) p)
  going-begins ds es w p t e s none empty top is =
      subst (λ (w : Walk F). IsGoing {F = F} rules base list ds es w p (walk rules list (floor base) (record { entries = e; skips = s }) p)) (sym is)
      (subst (λ ds. IsGoing {F = F} rules base list ds es (record { floor = floor base; end = min t (floor base + e + s); entries = e; skips = s }) p (walk rules list (floor base) (record { entries = e; skips = s }) p)) (sym none)
      (record {
        from = All-nil (IsDecided base list);
        told = empty;
        above = omega arith;
        end = omega (arith, top);
        rest = refl;
      }))

  module _ (ds : List Decided) (es : List (Bytes × Bytes)) (w : Walk F) (p : P) (whole : Walked P) (going : IsGoing rules base list ds es w p whole) where
    abbrev left : ℕ → ℕ → ℕ → P → Walked P
    left f e s p = walk_from rules (drop f list) f e s p

    -- where the walk ends
    ends : (g : ℕ) (q : P) → left w.floor w.entries w.skips p ≡ ended g q → AreDecided base list ds es g q whole
    ends g q same = record {
      from = going.from;
      told = going.told;
      makes = ap (λ us. record { floor = g; decisions = us; policy = q }) (sym (append-nil (map write_for ds))) ∙ ap (resumed (map write_for ds)) (sym same) ∙ going.rest;
    }

    pub going-spent : w.entries ≡ 0 → AreDecided base list ds es w.floor p whole
    going-spent none = ends w.floor p (ap (λ n. left w.floor n w.skips p) none ∙ spent rules list w.floor w.skips p)

    module _ (some : 0 < w.entries) where
      less : w.entries ≡ suc (w.entries - 1)
      less = omega (arith, some)

      more : (f s : ℕ) → left f w.entries s p ≡ left f (suc (w.entries - 1)) s p
      more f s = ap (λ n. left f n s p) less

      inside : (at : ℕ) → w.floor ≤ at → at < w.end → at < length list
      inside at low high = let above = going.above in let end = going.end in omega (arith, low, high, above, end)

      module _ (at : ℕ) (next : Walk F) (low : w.floor ≤ at) (high : at < w.end) (dead : AreDead list w.floor at) (place : next.floor ≡ min at (w.floor + w.skips))
          (is : next ≡ record w { floor = next.floor; skips = w.skips - (at - w.floor) }) where
        within : at ≤ length list
        within = let it = inside at low high in omega (arith, it)

        -- the walk comes to a location
        pub going-reached : nat_le (at - w.floor) w.skips ≡ true → IsGoing rules base list ds es next p whole
        going-reached h =
            let fits = le-true (at - w.floor) w.skips h in
            let here : next.floor ≡ at = omega (arith, low, fits, place) in
            let end : next.end ≡ w.end = ap (λ (x : Walk F). x.end) is in
            let entries : next.entries ≡ w.entries = ap (λ (x : Walk F). x.entries) is in
            let skips : next.skips ≡ w.skips - (at - w.floor) = ap (λ (x : Walk F). x.skips) is in
            let above = going.above in
            let was = going.end in
            record {
              from = going.from;
              told = going.told;
              above = omega (arith, above, low, here);
              end = omega (arith, was, end, entries, skips, here, low, fits);
              rest = ap (λ n. resumed (map write_for ds) (left n next.entries next.skips p)) here
                  ∙ ap (λ n. resumed (map write_for ds) (left at n next.skips p)) (entries ∙ less)
                  ∙ ap (λ n. resumed (map write_for ds) (left at (suc (w.entries - 1)) n p)) skips
                  ∙ ap (resumed (map write_for ds)) (sym (more w.floor w.skips ∙ passes rules list w.floor at (w.entries - 1) w.skips p low within dead fits))
                  ∙ going.rest;
            }

        -- its skips do not suffice
        pub going-short : nat_le (at - w.floor) w.skips ≡ false → AreDecided base list ds es next.floor p whole
        going-short h =
            let short = le-false (at - w.floor) w.skips h in
            let here : w.floor + w.skips ≡ next.floor = omega (arith, low, short, place) in
            ends next.floor p (more w.floor w.skips ∙ falls_short rules list w.floor at (w.entries - 1) w.skips p low within dead short ∙ ap (λ n. ended n p) here)

      -- nothing is live any more
      pub going-exhausted : (next : Walk F) → w.floor ≤ w.end → AreDead list w.floor w.end → next.floor ≡ min w.end (w.floor + w.skips) → AreDecided base list ds es next.floor p whole
      going-exhausted next low dead place = ⊎_elim short enough (cases_lt w.skips (w.end - w.floor))
        where
          short : w.skips < w.end - w.floor → AreDecided base list ds es next.floor p whole
          short h =
              let above = going.above in
              let end = going.end in
              let within : w.end ≤ length list = omega (arith, above, end, h) in
              let here : w.floor + w.skips ≡ next.floor = omega (arith, low, h, place) in
              ends next.floor p (more w.floor w.skips ∙ falls_short rules list w.floor w.end (w.entries - 1) w.skips p low within dead h ∙ ap (λ n. ended n p) here)

          enough : w.end - w.floor ≤ w.skips → AreDecided base list ds es next.floor p whole
          enough h = ⊎_elim before past (cases_lt w.floor (length list))
            where
              top : w.end ≡ max (floor base) (length list)
              top = let end = going.end in omega (arith, h, some, low, end)

              before : w.floor < length list → AreDecided base list ds es next.floor p whole
              before under =
                  let above = going.above in
                  let all : w.end ≡ length list = omega (arith, above, under, top) in
                  let within : w.end ≤ length list = omega (arith, all) in
                  let beyond : length list ≤ w.end = omega (arith, all) in
                  let here : w.end ≡ next.floor = omega (arith, low, h, place) in
                  ends next.floor p
                  (more w.floor w.skips ∙ passes rules list w.floor w.end (w.entries - 1) w.skips p low within dead h
                  ∙ at_end rules list w.end (suc (w.entries - 1)) (w.skips - (w.end - w.floor)) p beyond ∙ ap (λ n. ended n p) here)

              past : length list ≤ w.floor → AreDecided base list ds es next.floor p whole
              past over =
                  let above = going.above in
                  let here : w.floor ≡ next.floor = omega (arith, above, over, top, low, place) in
                  ends next.floor p (at_end rules list w.floor w.entries w.skips p over ∙ ap (λ n. ended n p) here)

    -- the walk is at its end
    pub going-finished : (next : Walk F) → w.floor ≤ w.end → AreDead list w.floor w.end → (w.entries ≡ 0 → next.floor ≡ w.floor) → (0 < w.entries → next.floor ≡ min w.end (w.floor + w.skips)) → AreDecided base list ds es next.floor p whole
    going-finished next low dead none some =
        ⊎_elim (λ more. going-exhausted more next low dead (some more)) (λ h. let is : w.entries ≡ 0 = omega (arith, h) in subst (λ n. AreDecided base list ds es n p whole) (sym (none is)) (going-spent is)) (cases_lt 0 w.entries)

    module _ (some : 0 < w.entries) where
      -- the policy has decided the live update at the floor
      module _ (t : Touch) (move : IsMoveAt (Some t) base list w.floor) (key value : Bytes) (is_key : key_of t.operation ≡ Some key) (is_value : value_of t.operation ≡ Some value)
          (action : Action) (q : P) (answer : rules.decide p w.floor w.entries key value ≡ (action, q)) where
        entry : (n : Option Bytes) × (t.operation ≡ update key value n)
        entry =
            let found = live_update-is list w.floor t.operation (sym move.operation) in
            let u = found.0 in
            let k : u.key ≡ key = same_Some u.key key (ap key_of (sym found.1) ∙ is_key) in
            let v : u.value ≡ value = same_Some u.value value (ap value_of (sym found.1) ∙ is_value) in
            (u.next, found.1 ∙ ap₂ (λ a b. update a b u.next) k v)

        standing : live_update_at list w.floor ≡ Some (update key value entry.0)
        standing = sym move.operation ∙ ap (λ op. Some op) entry.1

        is_decided : (v : Option Bytes) → IsDecided base list (record { key = key; value = v; next = next_in t.operation; before = t.before })
        is_decided v = record {
          live = live_update-next list w.floor key value entry.0 standing ∙ ap (λ op. Some (next_in op)) (sym entry.1);
          before = move.from key (ap (touches key) entry.1 ∙ bytes_same key);
        }

        onward : left w.floor w.entries w.skips p ≡ decided (λ f e s p. left f e s p) w.floor (w.entries - 1) w.skips key (action, q)
        onward =
            let all : suc (w.entries - 1) ≡ w.entries = omega (arith, some) in
            more some w.floor w.skips
            ∙ decides rules list w.floor (w.entries - 1) w.skips p key value entry.0 standing
            ∙ ap (λ n. decided (λ f e s p. left f e s p) w.floor (w.entries - 1) w.skips key (rules.decide p w.floor n key value)) all
            ∙ ap (λ a. decided (λ f e s p. left f e s p) w.floor (w.entries - 1) w.skips key a) answer

        had : lives.value_of list key ≡ Some value
        had = live_update-value list w.floor key value entry.0 standing

        goes : (v : Option Bytes) (us : List Decided) (fs : List (Bytes × Bytes)) (next : Walk F) → fs ≡ es ++ option_to_list (evicted_with (record { key = key; value = v }) (Some value)) → us ≡ ds ++ record { key = key; value = v; next = next_in t.operation; before = t.before } ∷ [] → next ≡ record w { floor = w.floor + 1; entries = w.entries - 1 } →
            left w.floor w.entries w.skips p ≡ record (left (suc w.floor) (w.entries - 1) w.skips q) { decisions = record { key = key; value = v } ∷ (left (suc w.floor) (w.entries - 1) w.skips q).decisions } →
            IsGoing rules base list us fs next q whole
        goes v us fs next more pushed is same =
            let d : Decided = record { key = key; value = v; next = next_in t.operation; before = t.before } in
            let here : next.floor ≡ w.floor + 1 = ap (λ (x : Walk F). x.floor) is in
            let end : next.end ≡ w.end = ap (λ (x : Walk F). x.end) is in
            let entries : next.entries ≡ w.entries - 1 = ap (λ (x : Walk F). x.entries) is in
            let skips : next.skips ≡ w.skips = ap (λ (x : Walk F). x.skips) is in
            let above = going.above in
            let was = going.end in
            let place : next.floor ≡ suc w.floor = omega (arith, here) in
            let later = left (suc w.floor) (w.entries - 1) w.skips q in
            record {
              from = subst (All (IsDecided base list)) (sym pushed) (All-push (IsDecided base list) ds d going.from (is_decided v));
              told = told-push list es fs ds us d value had going.told pushed more;
              above = omega (arith, above, here);
              end = omega (arith, was, end, entries, skips, here, some);
              rest = ap (λ xs. resumed (map write_for xs) (left next.floor next.entries next.skips q)) pushed
                  ∙ ap (λ n. resumed (map write_for (ds ++ d ∷ [])) (left n next.entries next.skips q)) place
                  ∙ ap₂ (λ n m. resumed (map write_for (ds ++ d ∷ [])) (left (suc w.floor) n m q)) entries skips
                  ∙ ap (λ xs. resumed xs later) (map-append write_for ds (d ∷ []))
                  ∙ ap (λ xs. record later { decisions = xs }) (append_assoc (map write_for ds) (write_for d ∷ []) later.decisions)
                  ∙ ap (resumed (map write_for ds)) (sym same)
                  ∙ going.rest;
            }

        pub going-decided : (us : List Decided) (fs : List (Bytes × Bytes)) (next : Walk F) (on : Bool) → fs ≡ es ++ option_to_list (told_of action (Some (key, value))) → on ≡ is_some (decided_for key (next_in t.operation) t.before action) → us ≡ ds ++ option_to_list (decided_for key (next_in t.operation) t.before action) →
            next ≡ (if on then record w { floor = w.floor + 1; entries = w.entries - 1 } else w) → MatchBool on (IsGoing rules base list us fs next q whole) (AreDecided base list us fs next.floor q whole)
        going-decided us fs next on more some pushed is = by action more onward pushed on some is
          where
            by : (a : Action) → fs ≡ es ++ option_to_list (told_of a (Some (key, value))) → left w.floor w.entries w.skips p ≡ decided (λ f e s p. left f e s p) w.floor (w.entries - 1) w.skips key (a, q) → us ≡ ds ++ option_to_list (decided_for key (next_in t.operation) t.before a) →
                (o : Bool) → o ≡ is_some (decided_for key (next_in t.operation) t.before a) → next ≡ (if o then record w { floor = w.floor + 1; entries = w.entries - 1 } else w) → MatchBool o (IsGoing rules base list us fs next q whole) (AreDecided base list us fs next.floor q whole)
            by (write v) more same pushed true o is = goes (Some v) us fs next more pushed is same
            by (write v) more same pushed false o is = cc
            by evict more same pushed true o is = goes None us fs next more pushed is same
            by evict more same pushed false o is = cc
            by stop more same pushed true o is = cc
            by stop more same pushed false o is =
                subst (λ xs. AreDecided base list us xs next.floor q whole) (sym (more ∙ append-nil es))
                (subst (λ xs. AreDecided base list xs es next.floor q whole) (sym (pushed ∙ append-nil ds)) (subst (λ (x : Walk F). AreDecided base list ds es x.floor q whole) (sym is) (ends w.floor q same)))

-- how far a decided walk is
pub passed : {F : Type 0} (on : Bool) (w next : Walk F) → next ≡ (if on then record w { floor = w.floor + 1; entries = w.entries - 1 } else w) → on ≡ true → next.floor ≡ w.floor + 1
passed true w next is goes = ap (λ (x : Walk _). x.floor) is
passed false w next is goes = cc

pub not-back : {F : Type 0} (on : Bool) (w next : Walk F) → next ≡ (if on then record w { floor = w.floor + 1; entries = w.entries - 1 } else w) → w.floor ≤ next.floor
not-back true w next is = let floor = ap (λ (x : Walk _). x.floor) is in omega (arith, floor)
not-back false w next is = let floor = ap (λ (x : Walk _). x.floor) is in omega (arith, floor)

pub one-on : {F : Type 0} (on : Bool) (w next : Walk F) → next ≡ (if on then record w { floor = w.floor + 1; entries = w.entries - 1 } else w) → next.floor ≤ w.floor + 1
one-on true w next is = let floor = ap (λ (x : Walk _). x.floor) is in omega (arith, floor)
one-on false w next is = let floor = ap (λ (x : Walk _). x.floor) is in omega (arith, floor)

pub same-end : {F : Type 0} (on : Bool) (w next : Walk F) → next ≡ (if on then record w { floor = w.floor + 1; entries = w.entries - 1 } else w) → next.end ≡ w.end
same-end true w next is = ap (λ (x : Walk _). x.end) is
same-end false w next is = ap (λ (x : Walk _). x.end) is

-- the first of two facts, if it is chosen
pub chosen : (b : Bool) (P Q R : Type 0) → MatchBool b P R → (b ≡ true → P → Q) → MatchBool b Q R
chosen true P Q R h next = next refl h
chosen false P Q R h next = h

pub dead-none : (list : List Operation) (from to : ℕ) → to ≤ from → AreDead list from to
dead-none list from to past = λ i low high. absurd (omega (arith, past, low, high))

pub reached-at : (at f s next : ℕ) → f ≤ at → next ≡ min at (f + s) → nat_le (at - f) s ≡ true → next ≡ at
reached-at at f s next low place h = let fits = le-true (at - f) s h in omega (arith, low, place, fits)
