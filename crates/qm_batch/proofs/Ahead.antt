-- What is ahead of a scan: the pairs of a bucket, and what comes after it.
use Rattle.std.proofs.Common.{◌≡◌, ◌∙◌, refl, sym, ap, subst, ℕ, ◌≤◌, ◌<◌, Bool, true, false, List, [], ◌∷◌, ◌++◌, map, Option, Some, None, ◌&&◌, ◌||◌, inl, inr, arith}
use Rattle.std.specs.Prelude.{filter, filter_map, fold, option_map, All, ◌==◌, nat_lt, nat_le, not}
use Rattle.std.specs.Map.{keys_of}
use Rattle.std.proofs.lemmas.Bool.Decides.{nat_tests}
use Rattle.std.proofs.lemmas.List.Elements.{filter_map-append, recursion_from_All}
use Rattle.std.proofs.lemmas.Option.{same_Some}
use Rattle.qm_model.specs.Forms.{Form, IsOf}
use Rattle.qm_model.specs.Operations.{Bytes, AreBytes, Operation}
use Rattle.qm_model.specs.Live.{Live, live, live_keys}
use Rattle.qm_model.specs.Keys.{key_lt, by_key, contains_key}
use Rattle.qm_model.specs.Ranges.{Limit, unlimited, is_after, is_before}
use Rattle.qm_model.proofs.KeyOrder.{Has, Has-first, lt-back, lt-total, rises, apart, and-true, and-both, and-left, false-not, not-true, contains-filter}
use Rattle.qm_model.proofs.KeySorts.{by_key-up}
use Rattle.qm_model.proofs.OrderedMoves.{contains-by_key}
use Rattle.qm_index.specs.Buckets.{IsIndex, bucket_at}
use Rattle.qm_index.specs.Indexed.{IsIndexed}
use Rattle.qm_index.specs.Neighbours.{least_key, neighbour_at, next_key, near_or_wrapped}
use Rattle.qm_index.specs.Translated.{IsMonotone}
use Rattle.qm_index.proofs.Neighbours.{stood-same}
use Rattle.qm_index.proofs.Picks.{has, has-filter, number_below, number_same, same_number, picks_least, picked-is, picked-none}
use Rattle.qm_step.specs.Lent.{NoneBelow}
use Rattle.qm_step.proofs.LentKeys.{live-bytes}
use Rattle.qm_step.proofs.LastKeys.{before-closed}
use Rattle.qm_step.proofs.LentKeys.{bucket-above}
use Rattle.qm_batch.specs.Gathered.{Pair, is_in, put_at}
use Rattle.qm_batch.specs.Scans.{BeginsAt, Place, beginning, behind, nowhere, ahead_of, behind_first, is_ahead, valued}
use Rattle.qm_batch.proofs.Buckets.{bucket-firsts, bucket-pairs, firsts}
use Rattle.qm_batch.proofs.Cuts.{cut, each-has, filter-agrees, filter-fails, from-number, to-number}

-- a key that is above where a range begins is after it, and one that is below it is not
above-begins : (key : Bytes) (low : Limit) (x : Bytes) → BeginsAt key low → key_lt key x ≡ true → is_after low x ≡ true
above-begins key low x (inl is) above = ap (λ l. is_after l x) is ∙ not-true (key_lt x key) (lt-back rises key x above)
above-begins key low x (inr is) above = ap (λ l. is_after l x) is ∙ above

below-begins : (key : Bytes) (low : Limit) (x : Bytes) → BeginsAt key low → key_lt x key ≡ true → is_after low x ≡ false
below-begins key low x (inl is) below = ap (λ l. is_after l x) is ∙ ap not below
below-begins key low x (inr is) below = ap (λ l. is_after l x) is ∙ lt-back rises x key below

upto : (n m : ℕ) → n ≤ m → nat_le n m ≡ true
upto n m h = grind (arith, nat_tests, h)

not-upto : (n m : ℕ) → m < n → nat_le n m ≡ false
not-upto n m h = grind (arith, nat_tests, h)

-- of three tests on two numbers one holds
three-ways : (n m : ℕ) (P : Bool → Bool → Type 0) → (m ≡ n → P true false) → (n < m → P false true) → (m < n → P false false) → P (m == n) (nat_lt n m)
three-ways n m P same above below = by (m == n) (nat_lt n m) refl refl
  where
    differ : m ≡ n → n < m → ⊥
    differ e l = omega (arith, e, l)

    less : nat_lt n m ≡ false → (m == n) ≡ false → m < n
    less l e = grind (arith, nat_tests, e, l)

    by : (s t : Bool) → (m == n) ≡ s → nat_lt n m ≡ t → P s t
    by true true is lt = absurd (differ (same_number m n is) (number_below n m lt))
    by true false is lt = same (same_number m n is)
    by false true is lt = above (number_below n m lt)
    by false false is lt = below (less lt is)

only : (c : Bool) → c ≡ c || false
only true = refl
only false = refl

none-some : {X : Type 0} {x : X} → None ≡ Some x → ⊥
none-some h = cc

module _ (index_key : Bytes → ℕ) (entries : List (ℕ × List ℕ)) (index : IsIndex entries) (list : List Operation) (indexed : IsIndexed index_key entries list) where
  abbrev keys : List Bytes
  keys = by_key (live_keys list)

  abbrev numbers : List ℕ
  numbers = keys_of entries

  live-has : (x : Bytes) → Has keys x → Has (live_keys list) x
  live-has x at = sym (contains-by_key (live_keys list) x) ∙ at

  -- the index keys of live keys are those of the index, and no other
  numbers-same : (n : ℕ) → has numbers n ≡ has (map index_key (live_keys list)) n
  numbers-same n = stood-same index_key (λ (e : Live). e.key) (λ (e : Live). e.location) entries (live list) index indexed n

  number-has : (x : Bytes) → Has keys x → has numbers (index_key x) ≡ true
  number-has x at = numbers-same (index_key x) ∙ to-number index_key (live_keys list) x (live-has x at)

  has-number : (n : ℕ) → has numbers n ≡ true → (x : Bytes) × Has keys x × (index_key x ≡ n)
  has-number n at =
      let found = from-number index_key (live_keys list) n (sym (numbers-same n) ∙ at) in
      (found.0, contains-by_key (live_keys list) found.0 ∙ found.1, found.2)

  -- if no key is ahead nothing is
  over : (low high : Limit) (place : Place) → ((x : Bytes) → Has keys x → is_ahead index_key low place x ≡ false) → ahead_of index_key low high place list ≡ []
  over low high place none = ap (filter_map (valued list)) (filter-fails (λ k. is_ahead index_key low place k && is_before high k) keys (λ x at. and-left (is_ahead index_key low place x) (is_before high x) (none x at)))

  pub over-nowhere : (low high : Limit) → ahead_of index_key low high nowhere list ≡ []
  over-nowhere low high = over low high nowhere (λ x at. refl)

  pub over-first : (low high : Limit) → None ≡ option_map (bucket_at entries) (least_key numbers) → ahead_of index_key low high beginning list ≡ []
  over-first low high h = over low high beginning (λ x at. absurd (apart (has numbers (index_key x)) (number-has x at) (picked-none picks_least numbers (none (least_key numbers) h) (index_key x))))
    where
      none : (o : Option ℕ) → None ≡ option_map (bucket_at entries) o → o ≡ None
      none None h = refl
      none (Some n) h = absurd (none-some h)

  -- the least of the index keys above one
  abbrev near : ℕ → Option ℕ
  near k = least_key (filter (λ q. nat_lt k q) numbers)

  over-near : (low high : Limit) (key : Bytes) → near (index_key key) ≡ None → ahead_of index_key low high (behind key) list ≡ []
  over-near low high key h = over low high (behind key) (λ x at. false-not (nat_lt (index_key key) (index_key x)) (λ above.
      apart (has (filter (λ q. nat_lt (index_key key) q) numbers) (index_key x))
      (has-filter (λ q. nat_lt (index_key key) q) numbers (index_key x) ∙ and-both (has numbers (index_key x)) (nat_lt (index_key key) (index_key x)) (number-has x at) above)
      (picked-none picks_least (filter (λ q. nat_lt (index_key key) q) numbers) h (index_key x))))

  near-found : (key : Bytes) (locations : List ℕ) → Some (locations, false) ≡ neighbour_at entries (next_key numbers (index_key key)) → (n : ℕ) × (near (index_key key) ≡ Some n) × (locations ≡ bucket_at entries n)
  near-found key locations h = by (near (index_key key)) (least_key numbers) refl h
    where
      by : (o far : Option ℕ) → near (index_key key) ≡ o → Some (locations, false) ≡ neighbour_at entries (near_or_wrapped o far) → (n : ℕ) × (near (index_key key) ≡ Some n) × (locations ≡ bucket_at entries n)
      by (Some n) far is found = (n, is, ap (λ (b : List ℕ × Bool). b.0) (same_Some (locations, false) (bucket_at entries n, false) found))
      by None None is found = absurd (none-some (sym found))
      by None (Some m) is found = absurd (wraps (ap (λ (b : List ℕ × Bool). b.1) (same_Some (locations, false) (bucket_at entries m, true) found)))
        where
          wraps : false ≡ true → ⊥
          wraps e = cc

  -- no location of these buckets is below a log's start if no live update is
  pub first-above : (locations : List ℕ) (start : ℕ) → Some locations ≡ option_map (bucket_at entries) (least_key numbers) → NoneBelow start list → All (λ at. start ≤ at) locations
  first-above locations start h none = by (least_key numbers) h
    where
      by : (o : Option ℕ) → Some locations ≡ option_map (bucket_at entries) o → All (λ at. start ≤ at) locations
      by None found = absurd (none-some (sym found))
      by (Some n) found = subst (All (λ at. start ≤ at)) (sym (same_Some locations (bucket_at entries n) found)) (bucket-above list index_key entries indexed n start none)

  pub next-above : (key : Bytes) (locations : List ℕ) (start : ℕ) → Some (locations, false) ≡ neighbour_at entries (next_key numbers (index_key key)) → NoneBelow start list → All (λ at. start ≤ at) locations
  next-above key locations start h none =
      let found = near-found key locations h in
      subst (All (λ at. start ≤ at)) (sym found.2) (bucket-above list index_key entries indexed found.0 start none)

  pub over-next : (low high : Limit) (key : Bytes) → ((locations : List ℕ) → neighbour_at entries (next_key numbers (index_key key)) ≡ Some (locations, false) → ⊥) → ahead_of index_key low high (behind key) list ≡ []
  over-next low high key h = over-near low high key (by (near (index_key key)) h)
    where
      by : (o : Option ℕ) → ((locations : List ℕ) → neighbour_at entries (near_or_wrapped o (least_key numbers)) ≡ Some (locations, false) → ⊥) → o ≡ None
      by None h = refl
      by (Some n) h = absurd (h (bucket_at entries n) refl)

  module _ (form : Form) (bytes : (bs : Bytes) → form.is_key bs ≡ true → AreBytes bs) (monotone : IsMonotone index_key) (of : All (IsOf form) list) where
    key-bytes : (x : Bytes) → Has keys x → AreBytes x
    key-bytes x at = each-has AreBytes (live_keys list) (recursion_from_All AreBytes (live_keys list) (live-bytes form list bytes of)) x (live-has x at)

    -- a key with a lesser index key comes before one with a greater
    lower-first : (x y : Bytes) → AreBytes x → AreBytes y → index_key x < index_key y → key_lt x y ≡ true
    lower-first x y x_bytes y_bytes lower = by (key_lt x y) (key_lt y x) refl refl
      where
        no : index_key y ≤ index_key x → ⊥
        no h = omega (arith, lower, h)

        same : x ≡ y → ⊥
        same e = let equal : index_key x ≡ index_key y = ap index_key e in omega (arith, lower, equal)

        by : (s t : Bool) → key_lt x y ≡ s → key_lt y x ≡ t → key_lt x y ≡ true
        by true t up down = up
        by false true up down = absurd (no (monotone y x y_bytes x_bytes down))
        by false false up down = absurd (same (lt-total x y up down))

    module _ (n : ℕ) (high : Limit) where
      abbrev later : Bytes → Bool
      later k = nat_lt n (index_key k) && is_before high k

      -- the pairs of the bucket in a range, and after them those of later ones
      split : (own : Limit) (low : Limit) (place : Place) →
          ((x : Bytes) → Has keys x → is_ahead index_key low place x && is_before high x ≡ ((index_key x == n) && is_in own high x) || later x) →
          ahead_of index_key low high place list ≡ fold (put_at own high list) [] (bucket_at entries n) ++ filter_map (valued list) (filter later keys)
      split own low place agrees =
          ap (filter_map (valued list))
          (filter-agrees (λ k. is_ahead index_key low place k && is_before high k) (λ k. ((index_key k == n) && is_in own high k) || later k) keys agrees
          ∙ cut (λ k. (index_key k == n) && is_in own high k) later keys (by_key-up (live_keys list)) below)
          ∙ filter_map-append (valued list) (filter (λ k. (index_key k == n) && is_in own high k) keys) (filter later keys)
          ∙ ap (λ ps. ps ++ filter_map (valued list) (filter later keys)) (sym (bucket-pairs list index_key entries indexed n own high))
        where
          below : (x y : Bytes) → Has keys x → Has keys y → (index_key x == n) && is_in own high x ≡ true → later y ≡ true → key_lt x y ≡ true
          below x y in_x in_y here past =
              let at = same_number (index_key x) n (and-true (index_key x == n) (is_in own high x) here).0 in
              let above = number_below n (index_key y) (and-true (nat_lt n (index_key y)) (is_before high y) past).0 in
              lower-first x y (key-bytes x in_x) (key-bytes y in_y) (lower at above)
            where
              lower : index_key x ≡ n → n < index_key y → index_key x < index_key y
              lower at above = omega (arith, at, above)

      -- after a bucket without keys before the end there are none
      ends : has numbers n ≡ true → fold (put_at unlimited high list) [] (bucket_at entries n) ≡ [] → filter later keys ≡ []
      ends at none = filter-fails later keys (λ x in_keys. false-not (later x) (λ passes.
          let own = has-number n at in
          let parts = and-true (nat_lt n (index_key x)) (is_before high x) passes in
          let up = lower-first own.0 x (key-bytes own.0 own.1) (key-bytes x in_keys) (lower own.0 x own.2 (number_below n (index_key x) parts.0)) in
          let before = before-closed high own.0 x up parts.1 in
          no own.0 own.1 own.2 before))
        where
          lower : (y x : Bytes) → index_key y ≡ n → n < index_key x → index_key y < index_key x
          lower y x is above = omega (arith, is, above)

          no : (y : Bytes) → Has keys y → index_key y ≡ n → is_before high y ≡ true → ⊥
          no y in_keys is before =
              let passes = contains-filter (λ k. (index_key k == n) && is_in unlimited high k) keys y
              ∙ and-both (contains_key keys y) ((index_key y == n) && is_in unlimited high y) in_keys (and-both (index_key y == n) (is_before high y) (number_same (index_key y) n is) before) in
              apart (contains_key (filter (λ k. (index_key k == n) && is_in unlimited high k) keys) y) passes
              (ap (λ ks. contains_key ks y) (sym (bucket-firsts list index_key entries indexed n unlimited high) ∙ ap firsts none))

      -- a bucket that a scan comes to, none of whose keys was read
      comes : (low : Limit) (place : Place) → has numbers n ≡ true → ((x : Bytes) → Has keys x → is_ahead index_key low place x ≡ nat_le n (index_key x)) →
          ahead_of index_key low high place list ≡ fold (put_at unlimited high list) [] (bucket_at entries n) ++ ahead_of index_key low high (behind_first (fold (put_at unlimited high list) [] (bucket_at entries n))) list
      comes low place at ahead =
          split unlimited low place agrees
          ∙ ap (λ ps. fold (put_at unlimited high list) [] (bucket_at entries n) ++ ps) (rest (fold (put_at unlimited high list) [] (bucket_at entries n)) refl)
        where
          parts : (m : ℕ) (b : Bool) → nat_le n m && b ≡ ((m == n) && b) || (nat_lt n m && b)
          parts m b = three-ways n m (λ s t. nat_le n m && b ≡ (s && b) || (t && b))
              (λ same. ap (λ u. u && b) (upto n m (omega (arith, same))) ∙ only b) (λ above. ap (λ u. u && b) (upto n m (omega (arith, above)))) (λ below. ap (λ u. u && b) (not-upto n m below))

          agrees : (x : Bytes) → Has keys x → is_ahead index_key low place x && is_before high x ≡ ((index_key x == n) && is_in unlimited high x) || later x
          agrees x in_keys = ap (λ t. t && is_before high x) (ahead x in_keys) ∙ parts (index_key x) (is_before high x)

          rest : (ps : List Pair) → fold (put_at unlimited high list) [] (bucket_at entries n) ≡ ps → filter_map (valued list) (filter later keys) ≡ ahead_of index_key low high (behind_first ps) list
          rest [] is = ap (filter_map (valued list)) (ends at is) ∙ sym (over-nowhere low high)
          rest (p ∷ ps) is =
              let first = sym (contains-filter (λ k. (index_key k == n) && is_in unlimited high k) keys p.0)
              ∙ ap (λ ks. contains_key ks p.0) (sym (bucket-firsts list index_key entries indexed n unlimited high) ∙ ap firsts is) ∙ Has-first p.0 (firsts ps) in
              let passes = (and-true (contains_key keys p.0) ((index_key p.0 == n) && is_in unlimited high p.0) first).1 in
              let here = same_number (index_key p.0) n (and-true (index_key p.0 == n) (is_in unlimited high p.0) passes).0 in
              ap (λ m. filter_map (valued list) (filter (λ k. nat_lt m (index_key k) && is_before high k) keys)) (sym here)

    -- the bucket of the key where a range begins
    pub own-bucket : (key : Bytes) (low high : Limit) → AreBytes key → BeginsAt key low →
        ahead_of index_key low high beginning list ≡ fold (put_at low high list) [] (bucket_at entries (index_key key)) ++ ahead_of index_key low high (behind key) list
    own-bucket key low high key_bytes begins = split (index_key key) high low low beginning agrees
      where
        agrees : (x : Bytes) → Has keys x → is_after low x && is_before high x ≡ ((index_key x == index_key key) && is_in low high x) || (nat_lt (index_key key) (index_key x) && is_before high x)
        agrees x in_keys = three-ways (index_key key) (index_key x) (λ s t. is_after low x && is_before high x ≡ (s && is_in low high x) || (t && is_before high x))
            (λ same. only (is_in low high x))
            (λ above. ap (λ u. u && is_before high x) (above-begins key low x begins (lower-first key x key_bytes (key-bytes x in_keys) above)))
            (λ below. ap (λ u. u && is_before high x) (below-begins key low x begins (lower-first x key (key-bytes x in_keys) key_bytes below)))

    -- the first bucket
    pub first-bucket : (high : Limit) (locations : List ℕ) → Some locations ≡ option_map (bucket_at entries) (least_key numbers) →
        ahead_of index_key unlimited high beginning list ≡ fold (put_at unlimited high list) [] locations ++ ahead_of index_key unlimited high (behind_first (fold (put_at unlimited high list) [] locations)) list
    first-bucket high locations h = by (least_key numbers) refl h
      where
        by : (o : Option ℕ) → least_key numbers ≡ o → Some locations ≡ option_map (bucket_at entries) o →
            ahead_of index_key unlimited high beginning list ≡ fold (put_at unlimited high list) [] locations ++ ahead_of index_key unlimited high (behind_first (fold (put_at unlimited high list) [] locations)) list
        by None is found = absurd (none-some (sym found))
        by (Some n) is found =
            let least = picked-is picks_least numbers n is in
            subst (λ ls. ahead_of index_key unlimited high beginning list ≡ fold (put_at unlimited high list) [] ls ++ ahead_of index_key unlimited high (behind_first (fold (put_at unlimited high list) [] ls)) list)
            (sym (same_Some locations (bucket_at entries n) found))
            (comes n high unlimited beginning least.0 (λ x in_keys. sym (upto n (index_key x) (least.1 (index_key x) (number-has x in_keys)))))

    -- the bucket after a key's
    pub next-bucket : (low high : Limit) (key : Bytes) (locations : List ℕ) → Some (locations, false) ≡ neighbour_at entries (next_key numbers (index_key key)) →
        ahead_of index_key low high (behind key) list ≡ fold (put_at unlimited high list) [] locations ++ ahead_of index_key low high (behind_first (fold (put_at unlimited high list) [] locations)) list
    next-bucket low high key locations h =
        let found = near-found key locations h in
        let is = picked-is picks_least (filter (λ q. nat_lt (index_key key) q) numbers) found.0 found.1 in
        let at = and-true (has numbers found.0) (nat_lt (index_key key) found.0) (sym (has-filter (λ q. nat_lt (index_key key) q) numbers found.0) ∙ is.0) in
        subst (λ ls. ahead_of index_key low high (behind key) list ≡ fold (put_at unlimited high list) [] ls ++ ahead_of index_key low high (behind_first (fold (put_at unlimited high list) [] ls)) list)
        (sym found.2)
        (comes found.0 high low (behind key) at.0 (λ x in_keys. sides found.0 (index_key x) (number_below (index_key key) found.0 at.1) (λ above.
        is.1 (index_key x) (has-filter (λ q. nat_lt (index_key key) q) numbers (index_key x) ∙ and-both (has numbers (index_key x)) (nat_lt (index_key key) (index_key x)) (number-has x in_keys) above))))
      where
        sides : (n m : ℕ) → index_key key < n → (nat_lt (index_key key) m ≡ true → n ≤ m) → nat_lt (index_key key) m ≡ nat_le n m
        sides n m below least = by (nat_lt (index_key key) m) refl
          where
            by : (t : Bool) → nat_lt (index_key key) m ≡ t → t ≡ nat_le n m
            by true is = sym (upto n m (least is))
            by false is = sym (not-upto n m (under is below))
              where
                under : nat_lt (index_key key) m ≡ false → index_key key < n → m < n
                under e l = grind (arith, nat_tests, e, l)
