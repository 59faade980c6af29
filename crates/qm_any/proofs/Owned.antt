-- What an accepted opening takes up of an own store: the first operations of its list.
use Rattle.std.proofs.Common.{◌≡◌, ◌∙◌, ◌+◌, ◌-◌, ◌<◌, ◌≤◌, ℕ, zero, suc, Bool, true, false, List, [], ◌∷◌, length, map, take, drop, Option, Some, None, Result, Ok, Err, ap, sym, subst, refl, arith, le_refl, length-take-le}
use Rattle.std.specs.Prelude.{◌==◌, ◌&&◌, get_or, IfSome, IfOk, option_map, if◌then◌else◌}
use Rattle.std.specs.List.{concat}
use Rattle.std.specs.Option.{option_or}
use Rattle.std.proofs.lemmas.Bool.{eqb-true}
use Rattle.std.proofs.lemmas.List.{length-map, length-take, length-drop, drop-map, drop-take, take-map, take-take}
use Rattle.qm_model.specs.Operations.{Operation}
use Rattle.qm_model.specs.Forms.{spelling}
use Rattle.qm_model.specs.Live.{floor}
use Rattle.qm_model.specs.Ordered.{IsRing}
use Rattle.qm_model.specs.Proofs.{pins_at}
use Rattle.qm_model.specs.Grafted.{grafted_pins}
use Rattle.qm_model.specs.Walk.{Rules}
use Rattle.qm_model.specs.Step.{Made, ordered, unordered}
use Rattle.qm_model.specs.StoreModel.{Stored, metadata_in}
use Rattle.qm_model.specs.Refused.{DataCorrupted}
use Rattle.qm_model.specs.Opening.{checks, commit_refusal, first_refusal, is_empty, Chunks, Found, Selected, opens, opening, opening_of, opening_refusal, opened_list, commit_at, last_commit, below_bound, selected, size_of, found, pins_found}
use Rattle.qm_model.specs.Own.{Engine, Log, Takes, OpensParts, KeepsCount, MetadataIs, IsOwn, IsKept, found_in, taken_up, ended_part, settled_list}
use Rattle.qm_model.specs.Schemes.{Scheme, HasBounds, chunks_of, engine_of, kind_of, layout_of}
use Rattle.qm_model.specs.Taken.{HasPins, IsTaken, head_at, selected_size}
use Rattle.qm_model.proofs.Chains.{Begins-self}
use Rattle.qm_model.proofs.Crashes.{keeps-count}
use Rattle.qm_model.proofs.Openings.{Keeps, ended-whole, opens-alike, ordered-keeps, ordered-parts, start-within, unordered-keeps, unordered-parts}
use Rattle.qm_model.proofs.OrderedSteps.{made-ordered}
use Rattle.qm_store.specs.declared.Store as store
use Rattle.qm_store.specs.declared.refusal.Refusal.{Refusal}
use Rattle.qm_open.proofs.Checking.{known-at}
use Rattle.qm_any.specs.Databases.{Database, IsDatabase}
use Rattle.qm_any.specs.Layouts.{Layout}
use Rattle.qm_any.specs.Offered.{scheme_of}
use Rattle.qm_any.specs.Opening.{OpensUpTo}

-- Where the last commit ends of items that stand behind a start.

abbrev IsWithin : ℕ → ℕ → Option Selected → Type 0
IsWithin start n at = IfSome at (λ c. (start < c.size) × (c.size ≤ n))

within-more : (start n : ℕ) (at : Option Selected) → IsWithin start n at → IsWithin start (suc n) at
within-more start n None is = tt
within-more start n (Some c) is = (is.0, let low = is.1 in omega (arith, low))

within-next : (start i : ℕ) (floor : Option ℕ) (before : Option Selected) → start ≤ i → IsWithin start i before → IsWithin start (suc i) (option_or (option_map (λ f. record { size = suc i; floor = f }) floor) before)
within-next start i None before low is = within-more start i before is
within-next start i (Some f) before low is = (omega (arith, low), omega arith)

last-within : (start i : ℕ) (before : Option Selected) (items : List (Option Operation)) → start ≤ i → IsWithin start i before → IsWithin start (i + length items) (last_commit i before items)
last-within start i before [] low is = subst (λ n. IsWithin start n before) (omega arith) is
last-within start i before (item ∷ items) low is =
    subst (λ n. IsWithin start n (last_commit (suc i) (option_or (commit_at i item) before) items)) (omega arith)
    (last-within start (suc i) (option_or (commit_at i item) before) items (omega (arith, low)) (within-next start i _ before low is))

below-few : (bound : Option ℕ) (f : Found) → length (below_bound bound f) ≤ length f.items
below-few None f = omega arith
below-few (Some bound) f = let size = length-take (bound - f.start) f.items in omega (arith, size)

selected-within : (f : Found) (bound : Option ℕ) → IsWithin f.start (f.start + length f.items) (selected f bound)
selected-within f bound = up (selected f bound) (below-few bound f) (last-within f.start f.start None (below_bound bound f) (le_refl f.start) tt)
  where
    up : (at : Option Selected) → length (below_bound bound f) ≤ length f.items → IsWithin f.start (f.start + length (below_bound bound f)) at → IsWithin f.start (f.start + length f.items) at
    up None few is = tt
    up (Some c) few is = (is.0, let low = is.1 in omega (arith, low, few))

selected-some : (start n k : ℕ) (at : Option Selected) → IsWithin start n at → size_of at ≡ suc k → (start < suc k) × (suc k ≤ n)
selected-some start n k None within is = absurd (omega (arith, is))
selected-some start n k (Some c) within is = let low = within.0 in let high = within.1 in (omega (arith, is, low), omega (arith, is, high))

-- no check fails
none-at : {A : Type 0} (rs : List (Option A)) (k : ℕ) → first_refusal rs ≡ None → get_or rs k None ≡ None
none-at [] k is = refl
none-at (Some r ∷ rs) k is = absurd (cc)
none-at (None ∷ rs) zero is = refl
none-at (None ∷ rs) (suc k) is = none-at rs k is

-- An engine of a scheme.

module _ (m : Scheme) {P : Type 0} (rules : Rules P) (bounds : HasBounds m) where
  abbrev own : Engine P
  own = engine_of m rules

  parts : OpensParts own
  parts = by m.form.ordered
    where
      by : (b : Bool) → OpensParts (record { kind = if b then ordered else unordered; rules = rules; hash = m.hash; layout = layout_of m })
      by true = ordered-parts rules m.hash (layout_of m) bounds.prompt
      by false = unordered-parts rules m.hash (layout_of m) bounds.prompt

  pub keeps : Keeps (kind_of m) rules
  keeps = by m.form.ordered
    where
      by : (b : Bool) → Keeps (if b then ordered else unordered) rules
      by true = ordered-keeps rules
      by false = unordered-keeps rules

  ring : (list : List Operation) → Made (kind_of m) rules list → m.form.ordered ≡ true → IsRing list
  ring list = by m.form.ordered
    where
      by : (b : Bool) → Made (if b then ordered else unordered) rules list → b ≡ true → IsRing list
      by true made is = (made-ordered rules list made).ring
      by false made is = absurd cc

  counts : (log : Log) → IsKept own log → KeepsCount own log
  counts log kept = keeps-count rules rules keeps m.hash m.form m.shape m.digest_size (chunks_of m) bounds.over log kept

  module _ (log : Log) (s : Stored) (is : IsOwn own log s) where
    alike : found (layout_of m) s ≡ found_in own log
    alike = opens-alike own log s is

    opened : (bound : Option ℕ) → opening_refusal (layout_of m) (found (layout_of m) s) bound ≡ None → opening (layout_of m) (found_in own log) bound ≡ opens (selected_size m bound s)
    opened bound accepted = ap (λ f. opening (layout_of m) f bound) (sym alike) ∙ ap (λ o. opening_of o (selected_size m bound s)) accepted

    -- what an accepted opening takes up
    pub own-takes : (bound : Option ℕ) → opening_refusal (layout_of m) (found (layout_of m) s) bound ≡ None → Takes own log bound (selected_size m bound s)
    own-takes bound accepted = parts log bound (selected_size m bound s) is.kept (opened bound accepted)

    inside : log.start ≤ length log.list
    inside = start-within keeps m.hash (layout_of m) log is.kept

    -- a commit that it selects stands in the log
    own-selected : (bound : Option ℕ) (n : ℕ) → selected_size m bound s ≡ suc n → (log.start < suc n) × (suc n ≤ length log.list)
    own-selected bound n size =
        let within = selected-some log.start (log.start + length (found_in own log).items) n (selected (found_in own log) bound) (selected-within (found_in own log) bound) (ap (λ f. size_of (selected f bound)) (sym alike) ∙ size) in
        (within.0, let high = within.1 in omega (arith, high, inside, length-map (drop log.start log.list) (λ (op : Operation). Some op), length-drop log.start log.list))

    -- it selects none of an empty log alone
    pub own-none : (bound : Option ℕ) → opening_refusal (layout_of m) (found (layout_of m) s) bound ≡ None → selected_size m bound s ≡ 0 → log.list ≡ []
    own-none bound accepted size = by (selected f bound) refl (ap (λ g. size_of (selected g bound)) (sym alike) ∙ size) (selected-within f bound)
      where
        f : Found
        f = found_in own log

        counted : f.start + length f.items ≡ length log.list
        counted = omega (arith, inside, length-map (drop log.start log.list) (λ (op : Operation). Some op), length-drop log.start log.list)

        bare : (ops : List Operation) → length ops ≡ 0 → ops ≡ []
        bare [] e = refl
        bare (op ∷ ops) e = absurd (omega (arith, e))

        empty : (b : Bool) → is_empty f ≡ b → option_map DataCorrupted (commit_refusal b None) ≡ None → log.list ≡ []
        empty false e due = absurd (cc)
        empty true e due = bare log.list (sym counted ∙ ends f.start (length f.items) e)
          where
            both : (p q : Bool) → (p && q) ≡ true → (p ≡ true) × (q ≡ true)
            both true true e = (refl, refl)
            both true false e = absurd (cc)
            both false q e = absurd (cc)

            ends : (a b : ℕ) → (a == 0 && b == 0) ≡ true → a + b ≡ 0
            ends a b e = let zeros = both (a == 0) (b == 0) e in omega (arith, eqb-true a 0 zeros.0, eqb-true b 0 zeros.1)

        by : (at : Option Selected) → selected f bound ≡ at → size_of at ≡ 0 → IsWithin f.start (f.start + length f.items) at → log.list ≡ []
        by None e none within =
            empty (is_empty f) refl (subst (λ at. option_map DataCorrupted (commit_refusal (is_empty f) at) ≡ None) e (none-at (checks (layout_of m) f bound) 3 (subst (λ g. opening_refusal (layout_of m) g bound ≡ None) alike accepted)))
        by (Some c) e none within = let some = within.0 in absurd (omega (arith, some, none))

    -- nor more than the log has, nor less than its start
    pub own-few : (bound : Option ℕ) → selected_size m bound s ≤ length log.list
    own-few bound = by (selected_size m bound s) refl
      where
        by : (n : ℕ) → selected_size m bound s ≡ n → n ≤ length log.list
        by zero size = omega arith
        by (suc n) size = (own-selected bound n size).1

    pub own-low : (bound : Option ℕ) → opening_refusal (layout_of m) (found (layout_of m) s) bound ≡ None → log.start ≤ selected_size m bound s
    own-low bound accepted = by (selected_size m bound s) refl
      where
        by : (n : ℕ) → selected_size m bound s ≡ n → log.start ≤ n
        by zero size = omega (arith, inside, ap length (own-none bound accepted size))
        by (suc n) size = let low = (own-selected bound n size).0 in omega (arith, low)

    -- the pins that metadata counts are those of each list that goes on
    pins : (list : List Operation) → IsKept own (taken_up list log) → settled_list (taken_up list log) ≡ list → take (length list) log.list ≡ list → HasPins (chunks_of m) m s list
    pins list kept whole begins = by (chunks_of m) (counts (taken_up list log) kept log (taken_up list log) s s refl refl (subst (λ l. take (length l) log.list ≡ l) (sym whole) begins) (subst (λ l. take (length l) list ≡ l) (sym whole) (Begins-self list)) refl is.stored.metadata)
      where
        by : (chunks : Option Chunks) → MetadataIs own chunks (taken_up list log) s → HasPins chunks m s list
        by None says = tt
        by (Some c) says =
            let entries = metadata_in s.metadata c.name in
            subst (λ n. pins_found m.shape entries n ≡ map (λ pin. Some pin) (grafted_pins m.hash m.shape c.height m.form list n)) (sym says.count) says.pins

    -- an accepted opening takes up the first operations of the log's list, or the fresh list of an empty one
    pub own-taken : (bound : Option ℕ) → opening_refusal (layout_of m) (found (layout_of m) s) bound ≡ None → IsTaken m s (selected_size m bound s) (opened_list (selected_size m bound s) log.list)
    own-taken bound accepted = by (selected_size m bound s) refl
      where
        by : (n : ℕ) → selected_size m bound s ≡ n → IsTaken m s n (opened_list n log.list)
        by zero size = refl
        by (suc n) size =
            let list = take (suc n) log.list in
            let within = own-selected bound n size in
            let few : suc n ≤ length log.list = within.1 in
            let low : log.start ≤ suc n = let past = within.0 in omega (arith, past) in
            let taken : Takes own log bound (suc n) = subst (Takes own log bound) size (own-takes bound accepted) in
            let long : length list ≡ suc n = length-take-le (suc n) log.list few in
            let of = taken.kept.made.of_form in
            let made : Made (kind_of m) rules list = (keeps.begins list taken.kept.made.whole taken.kept.made.made taken.kept.made.begins taken.ended).0 in
            let whole : settled_list (taken_up list log) ≡ list = ap ended_part (take-all list) ∙ ended-whole list taken.ended in (
              record {
                size_is = long;
                of = of;
                good = keeps.good list made;
                items =
                    ap (λ k. take (suc n - k) s.items) is.stored.start
                    ∙ (ap (take (suc n - log.start)) is.stored.items
                    ∙ (take-map (spelling m.form) (suc n - log.start) (drop log.start log.list)
                    ∙ (ap (map (spelling m.form)) (cut low)
                    ∙ (sym (drop-map (spelling m.form) log.start list) ∙ ap (λ k. drop k (map (spelling m.form) list)) (sym is.stored.start)))));
                head =
                    is.stored.head ∙ ap (λ ops. concat (pins_at m.hash m.shape m.form ops log.start)) (sym (take-take log.start (suc n) log.list low)) ∙ ap (head_at m list) (sym is.stored.start);
                grafted = pins list taken.kept whole (ap (λ k. take k log.list) long);
              },
              ring list made,
            )
          where
            cut : log.start ≤ suc n → take (suc n - log.start) (drop log.start log.list) ≡ drop log.start (take (suc n) log.list)
            cut low =
                let end : log.start + (suc n - log.start) ≡ suc n = omega (arith, low) in
                sym (drop-take log.start (suc n - log.start) log.list) ∙ ap (λ k. drop log.start (take k log.list)) end

            take-all : (xs : List Operation) → take (length xs) xs ≡ xs
            take-all xs = Begins-self xs

-- Any databases.

module _ {C D : Type 0} (members : store.Ghosts C) (layout : Layout D) (digest_size : ℕ) where
  abbrev machine : Scheme
  machine = scheme_of digest_size layout.hashing

  pub plain : HasBounds machine
  plain = record { low = λ list. le_refl (floor list); chunks = tt; prompt = tt; over = tt }

  -- the database of an opened own store stands for the first operations of its list
  pub own-stands : {P : Type 0} (rules : Rules P) (bound : Option ℕ) (old : C) (result : Result (Database C D) (Refusal (Database C D) C)) (log : Log) (s : Stored)
      → IsOwn (engine_of machine rules) log s → members.told old ≡ Some s → OpensUpTo members layout digest_size None bound old result
      → IfOk result (λ db. IsDatabase members layout db (opened_list (selected_size machine bound s) log.list))
  own-stands rules bound old (Err r) log s is told came = tt
  own-stands rules bound old (Ok db) log s is told came =
      known-at _ (members.told old) s told came.opened (opened_list (selected_size machine bound s) log.list)
      (own-taken machine rules plain log s is bound (known-at _ (members.told old) s told came.offered))
