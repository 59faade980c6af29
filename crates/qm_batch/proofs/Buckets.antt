-- The pairs of a bucket are those of the live keys with its index key, in key order.
use Rattle.std.proofs.Common.{◌≡◌, ◌∙◌, refl, sym, ap, subst, ℕ, Bool, true, false, List, [], ◌∷◌, map, Option, Some, None, ◌&&◌}
use Rattle.std.specs.Prelude.{cond, filter, filter_map, fold, option_map, Contains, IsPermutation, ◌==◌, if◌then◌else◌, bytes_eq, unwrap_or}
use Rattle.std.specs.List.{AllByRecursion as Each, cons_option}
use Rattle.std.proofs.lemmas.Cmp.{nat_list_eq_equiv}
use Rattle.std.proofs.lemmas.List.Elements.{All-contains_itself, All-weaker, recursion_from_All}
use Rattle.std.proofs.lemmas.List.Sorted.{IsPermutation-map, list_any-IsPermutation}
use Rattle.std.proofs.lemmas.Map.Keys.{IsDistinct-IsPermutation}
use Rattle.qm_model.specs.Operations.{Bytes, Operation, update}
use Rattle.qm_model.specs.Live.{Live, live, live_keys, value_of}
use Rattle.qm_model.specs.Keys.{key_lt, by_key, contains_key, put_key}
use Rattle.qm_model.specs.Ranges.{Limit}
use Rattle.qm_model.proofs.KeyOrder.{SameKeys, contains-filter}
use Rattle.qm_model.proofs.KeySorts.{by_key-sorted, filter-distinct, rising-same}
use Rattle.qm_model.proofs.LiveCounts.{live-distinct}
use Rattle.qm_model.proofs.OrderedMoves.{contains-by_key}
use Rattle.qm_index.specs.Buckets.{bucket_at}
use Rattle.qm_index.specs.Indexed.{IsIndexed, locations_at}
use Rattle.qm_step.specs.Changes.{update_at}
use Rattle.qm_step.specs.Nearest.{said_key}
use Rattle.qm_step.proofs.LentKeys.{IsLiveAt, bucket-live, key_at}
use Rattle.qm_step.proofs.Standing.{live-stands, live-of_key}
use Rattle.qm_batch.specs.Gathered.{Pair, is_in, only_in, put_at, put_pair, put_said}
use Rattle.qm_batch.specs.Scans.{valued}
use Rattle.qm_batch.proofs.Cuts.{rising-filter}

-- the keys of pairs
abbrev pub firsts : List Pair → List Bytes
firsts ps = map (λ p. p.0) ps

put-firsts : (ps : List Pair) (p : Pair) → firsts (put_pair ps p) ≡ put_key (firsts ps) p.0
put-firsts [] p = refl
put-firsts (q ∷ ps) p = by (key_lt p.0 q.0) (put-firsts ps p)
  where
    by : (t : Bool) → firsts (put_pair ps p) ≡ put_key (firsts ps) p.0 → firsts (if t then p ∷ q ∷ ps else q ∷ put_pair ps p) ≡ (if t then p.0 ∷ q.0 ∷ firsts ps else q.0 ∷ put_key (firsts ps) p.0)
    by true later = refl
    by false later = ap (λ ks. q.0 ∷ ks) later

put-each : (P : Pair → Type 0) (ps : List Pair) (p : Pair) → Each P ps → P p → Each P (put_pair ps p)
put-each P [] p all here = (here, tt)
put-each P (q ∷ ps) p all here = by (key_lt p.0 q.0) (put-each P ps p all.1 here)
  where
    by : (t : Bool) → Each P (put_pair ps p) → Each P (if t then p ∷ q ∷ ps else q ∷ put_pair ps p)
    by true later = (here, all)
    by false later = (all.0, later)

module _ (list : List Operation) where
  -- the value is that of the key
  abbrev IsValued : Pair → Type 0
  IsValued p = value_of list p.0 ≡ Some p.1

  -- pairs of keys with their values are known by the keys
  each-valued : (ps : List Pair) → Each IsValued ps → ps ≡ filter_map (valued list) (firsts ps)
  each-valued [] all = refl
  each-valued (p ∷ ps) all = ap (λ xs. p ∷ xs) (each-valued ps all.1) ∙ ap (λ o. cons_option (option_map (λ v. (p.0, v)) o) (filter_map (valued list) (firsts ps))) (sym all.0)

  said : (at : ℕ) (e : Live) → Contains (live list) e → e.location ≡ at → update_at list at ≡ Some (update e.key e.value e.next)
  said at e within place = ap (update_at list) (sym place) ∙ live-stands list e within

  module _ (low high : Limit) where
    abbrev Goes : List Pair → Option Operation → Bytes → Type 0
    Goes ps o key =
        Each IsValued (put_said ps (only_in low high o))
        × (firsts (put_said ps (only_in low high o)) ≡ cond (is_in low high key) (put_key (firsts ps) key) (firsts ps))

    -- one more location
    step : (ps : List Pair) (at : ℕ) → IsLiveAt list at → Each IsValued ps → Goes ps (update_at list at) (key_at list at)
    step ps at (e, within, place) all =
        let is = said at e within place in
        subst (λ o. Goes ps o (unwrap_or (option_map said_key o) [])) (sym is) (by (is_in low high e.key))
      where
        own : value_of list e.key ≡ Some e.value
        own = ap (option_map (λ (u : Live). u.value)) (live-of_key list e within)

        by : (t : Bool) → Each IsValued (put_said ps (if t then Some (update e.key e.value e.next) else None))
            × (firsts (put_said ps (if t then Some (update e.key e.value e.next) else None)) ≡ cond t (put_key (firsts ps) e.key) (firsts ps))
        by true = (put-each IsValued ps (e.key, e.value) all own, put-firsts ps (e.key, e.value))
        by false = (all, refl)

    gathered : (locations : List ℕ) (ps : List Pair) → Each (IsLiveAt list) locations → Each IsValued ps →
        Each IsValued (fold (put_at low high list) ps locations) × (firsts (fold (put_at low high list) ps locations) ≡ fold put_key (firsts ps) (filter (is_in low high) (map (key_at list) locations)))
    gathered [] ps live_here all = (all, refl)
    gathered (at ∷ locations) ps live_here all =
        let here = step ps at live_here.0 all in
        let rest = gathered locations (put_at low high list ps at) live_here.1 here.0 in
        (rest.0, rest.1 ∙ ap (λ ks. fold put_key ks (filter (is_in low high) (map (key_at list) locations))) here.1 ∙ by (is_in low high (key_at list at)))
      where
        by : (t : Bool) → fold put_key (cond t (put_key (firsts ps) (key_at list at)) (firsts ps)) (filter (is_in low high) (map (key_at list) locations))
            ≡ fold put_key (firsts ps) (cond t (key_at list at ∷ filter (is_in low high) (map (key_at list) locations)) (filter (is_in low high) (map (key_at list) locations)))
        by true = refl
        by false = refl

  module _ (index_key : Bytes → ℕ) (entries : List (ℕ × List ℕ)) (indexed : IsIndexed index_key entries list) (n : ℕ) where
    abbrev here : Bytes → Bool
    here k = index_key k == n

    abbrev read : List Bytes
    read = map (key_at list) (bucket_at entries n)

    keys-said : (es : List Live) → Each (λ e. key_at list e.location ≡ e.key) es → map (key_at list) (map (λ e. e.location) (filter (λ e. index_key e.key == n) es)) ≡ filter here (map (λ e. e.key) es)
    keys-said [] all = refl
    keys-said (e ∷ es) all = by (index_key e.key == n) (keys-said es all.1)
      where
        by : (t : Bool) → map (key_at list) (map (λ e. e.location) (filter (λ e. index_key e.key == n) es)) ≡ filter here (map (λ e. e.key) es) →
            map (key_at list) (map (λ e. e.location) (cond t (e ∷ filter (λ e. index_key e.key == n) es) (filter (λ e. index_key e.key == n) es)))
            ≡ cond t (e.key ∷ filter here (map (λ e. e.key) es)) (filter here (map (λ e. e.key) es))
        by true later = ap (λ ks. key_at list e.location ∷ ks) later ∙ ap (λ k. k ∷ filter here (map (λ e. e.key) es)) all.0
        by false later = later

    -- what a bucket's locations say are the live keys of its index key, in another order
    read-keys : IsPermutation (filter here (live_keys list)) read
    read-keys =
        subst (λ ks. IsPermutation ks read)
        (keys-said (live list) (recursion_from_All (λ (e : Live). key_at list e.location ≡ e.key) (live list)
        (All-weaker (Contains (live list)) (λ (e : Live). key_at list e.location ≡ e.key) (λ e within. ap (λ o. unwrap_or (option_map said_key o) []) (live-stands list e within)) (live list) (All-contains_itself (live list)))))
        (IsPermutation-map (key_at list) (locations_at index_key list n) (bucket_at entries n) (indexed n))

    module _ (low high : Limit) where
      abbrev in_range : Bytes → Bool
      in_range = is_in low high

      abbrev both : Bytes → Bool
      both k = here k && in_range k

      in-order : by_key (filter in_range read) ≡ filter both (by_key (live_keys list))
      in-order =
          let distinct = live-distinct list in
          rising-same (by_key (filter in_range read)) (filter both (by_key (live_keys list)))
          (by_key-sorted (filter in_range read) (filter-distinct in_range read
          (IsDistinct-IsPermutation bytes_eq (nat_list_eq_equiv).symm (filter here (live_keys list)) read read-keys (filter-distinct here (live_keys list) distinct))))
          (rising-filter both (by_key (live_keys list)) (by_key-sorted (live_keys list) distinct)) same
        where
          three : (a b c : Bool) → (a && b) && c ≡ a && (b && c)
          three true b c = refl
          three false b c = refl

          same : SameKeys (by_key (filter in_range read)) (filter both (by_key (live_keys list)))
          same x =
              contains-by_key (filter in_range read) x ∙ contains-filter in_range read x
              ∙ ap (λ t. t && in_range x) (sym (list_any-IsPermutation (λ k. bytes_eq k x) (filter here (live_keys list)) read read-keys) ∙ contains-filter here (live_keys list) x)
              ∙ three (contains_key (live_keys list) x) (here x) (in_range x)
              ∙ ap (λ t. t && both x) (sym (contains-by_key (live_keys list) x)) ∙ sym (contains-filter both (by_key (live_keys list)) x)

      -- so its pairs in a range are those of these keys, in key order
      pub bucket-firsts : firsts (fold (put_at low high list) [] (bucket_at entries n)) ≡ filter (λ k. (index_key k == n) && is_in low high k) (by_key (live_keys list))
      bucket-firsts = (gathered low high (bucket_at entries n) [] (recursion_from_All (IsLiveAt list) (bucket_at entries n) (bucket-live list index_key entries indexed n)) tt).1 ∙ in-order

      pub bucket-pairs : fold (put_at low high list) [] (bucket_at entries n) ≡ filter_map (valued list) (filter (λ k. (index_key k == n) && is_in low high k) (by_key (live_keys list)))
      bucket-pairs =
          each-valued (fold (put_at low high list) [] (bucket_at entries n)) (gathered low high (bucket_at entries n) [] (recursion_from_All (IsLiveAt list) (bucket_at entries n) (bucket-live list index_key entries indexed n)) tt).0
          ∙ ap (filter_map (valued list)) bucket-firsts
