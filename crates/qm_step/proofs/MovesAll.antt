-- The moves of an ordered step, as the program makes them.
use Rattle.std.proofs.Common.{◌≡◌, ℕ, false, cond, List, [], ◌∷◌, ◌++◌, length, map, refl, ap, ap₂, sym, ◌∙◌, subst, Option, Some, None, ◌&&◌, Bor, inl, inr, append-nil, arith}
use Rattle.std.specs.Prelude.{Contains, All, not, filter, filter_map, count_by, option_map, is_none, is_some, bytes_eq}
use Rattle.std.specs.Cmp.Lexicographic.{slice_cmp}
use Rattle.std.specs.Ordering.{nat_cmp}
use Rattle.std.specs.List.{cons_option, AllByRecursion as Each, IsDistinct}
use Rattle.std.specs.List.Sorted.{IsStrictlySortedBy}
use Rattle.std.proofs.lemmas.List.{map-append}
use Rattle.std.proofs.lemmas.List.Sums.{length-filter}
use Rattle.std.proofs.lemmas.List.Elements.{recursion_from_All, All-from_recursion, All-contains, All-contains_itself}
use Rattle.std.proofs.lemmas.List.Kept.{IsStrictlySortedBy-filter}
use Rattle.std.proofs.lemmas.Option.{same_Some}
use Rattle.qm_operations.specs.Parts.{key_of}
use Rattle.qm_operations.specs.declared.update.Ordered.{Ordered}
use Rattle.qm_model.specs.Operations.{Bytes, Operation, update}
use Rattle.qm_model.specs.Live.{Live, live, live_of, live_keys}
use Rattle.qm_model.specs.Keys.{successor, contains_key, without, by_key}
use Rattle.qm_model.specs.Writes.{Write, operation_of}
use Rattle.qm_model.specs.Ordered.{IsRing, linked, rewritten, moved_keys, evicted_keys, is_broken, broken_keys, ordered_moves}
use Rattle.qm_model.proofs.KeyOrder.{Has, Has-first, Has-later, successor-some}
use Rattle.qm_model.proofs.KeySorts.{by_key-sorted, rising-same}
use Rattle.qm_model.proofs.LiveCounts.{live-distinct}
use Rattle.qm_step.specs.Changes.{update_of, located, place_in}
use Rattle.qm_step.specs.Going.{Decided, IsDecided, write_for}
use Rattle.qm_step.specs.Moves.{before_evicted, touch_naming, rewritten_naming, place_before}
use Rattle.qm_step.specs.OrderedViews.{ordered_update}
use Rattle.qm_step.specs.PlanViews.{decided_views}
use Rattle.qm_step.specs.Rings.{touch_in}
use Rattle.qm_step.specs.Touches.{Touch, IsFrom, operations_of}
use Rattle.qm_step.specs.Views.{read_view}
use Rattle.qm_step.specs.declared.decided.Decided as declared
use Rattle.qm_step.proofs.MovesFound.{Stands, all-stand, found-keys, broken-is, broken-parts}
use Rattle.qm_step.proofs.MovesNames.{nexts, passing, passing-from, moved-not-evicted, decided-here, here-of, has_remaining, relinked-next, naming-is}
use Rattle.qm_step.proofs.MovesPlaces.{place-is}
use Rattle.qm_step.proofs.NearestKeys.{sorted-keys}
use Rattle.qm_step.proofs.Standing.{of_key-within}

-- decisions of the program as byte strings
module _ {K V : Type 0} (key : K → Bytes) (value : V → Bytes) where
  pub nexts-shown : (ds : List (declared.Decided K V)) → filter_map (λ d. option_map key d.next) ds ≡ nexts (decided_views key value ds)
  nexts-shown [] = refl
  nexts-shown (d ∷ ds) = ap (cons_option (option_map key d.next)) (nexts-shown ds)

  pub gone-shown : (ds : List (declared.Decided K V)) → map (λ d. key d.key) (filter (λ d. is_none d.value) ds) ≡ passing is_none (decided_views key value ds)
  gone-shown [] = refl
  gone-shown (d ∷ ds) = by d.value (gone-shown ds)
    where
      by : (v : Option V) → map (λ d. key d.key) (filter (λ d. is_none d.value) ds) ≡ passing is_none (decided_views key value ds) →
          map (λ (d : declared.Decided K V). key d.key) (cond (is_none v) (d ∷ filter (λ d. is_none d.value) ds) (filter (λ d. is_none d.value) ds))
          ≡ map (λ (w : Write). w.key) (cond (is_none (option_map value v)) (record { key = key d.key; value = option_map value d.value } ∷ filter (λ w. is_none w.value) (map write_for (decided_views key value ds))) (filter (λ w. is_none w.value) (map write_for (decided_views key value ds))))
      by None later = ap (λ ks. key d.key ∷ ks) later
      by (Some v) later = later

  pub keys-shown : (ds : List (declared.Decided K V)) → map (λ d. key d.key) ds ≡ map (λ d. d.key) (decided_views key value ds)
  keys-shown [] = refl
  keys-shown (d ∷ ds) = ap (λ ks. key d.key ∷ ks) (keys-shown ds)

-- if none goes none is evicted
pub none-gone : {K V : Type 0} (key : K → Bytes) (value : V → Bytes) (ds : List (declared.Decided K V)) → count_by (λ d. is_none d.value) ds ≡ 0 → passing is_none (decided_views key value ds) ≡ []
none-gone {K} {V} key value ds none =
    sym (gone-shown key value ds) ∙ ap (map (λ (d : declared.Decided K V). key d.key)) (empty (filter (λ d. is_none d.value) ds) (length-filter (λ (d : declared.Decided K V). is_none d.value) ds ∙ none))
  where
    empty : (us : List (declared.Decided K V)) → length us ≡ 0 → us ≡ []
    empty [] h = refl
    empty (u ∷ us) h = absurd (omega (arith, h))

module _ (list : List Operation) (made : List Touch) (size : ℕ) (long : size ≡ length list) (ds : List Decided)
    (ring : IsRing (list ++ operations_of made)) (from : All (IsFrom list) made) (decided : All (IsDecided list (list ++ operations_of made)) ds) (distinct : IsDistinct bytes_eq (map (λ d. d.key) (map write_for ds))) where
  each_decided : Each (IsDecided list (list ++ operations_of made)) ds
  each_decided = recursion_from_All (IsDecided list (list ++ operations_of made)) ds decided

  here : Each (λ d. Has (live_keys (list ++ operations_of made)) d.key × (d.next ≡ successor (live_keys (list ++ operations_of made)) d.key)) ds
  here = decided-here list (list ++ operations_of made) ds ring each_decided

  module _ {K E V : Type 0} (key : K → Bytes) (value : V → Bytes) where
    -- what was found stands
    pub found-stand : (found : List (ℕ × Ordered K E V)) → map (read_view (ordered_update key value)) found ≡ filter_map (before_evicted (list ++ operations_of made)) ds →
        All (λ f. update_of (list ++ operations_of made) (key f.1.key) ≡ Some (read_view (ordered_update key value) f)) found
    found-stand found is =
        let P : ℕ × Ordered K E V → Type 0 = λ f. update_of (list ++ operations_of made) (key f.1.key) ≡ Some (read_view (ordered_update key value) f) in
        All-from_recursion P found (back found (subst (Each (Stands (list ++ operations_of made))) (sym is) (all-stand (list ++ operations_of made) ds)))
      where
        back : (fs : List (ℕ × Ordered K E V)) → Each (Stands (list ++ operations_of made)) (map (read_view (ordered_update key value)) fs) → Each (λ f. update_of (list ++ operations_of made) (key f.1.key) ≡ Some (read_view (ordered_update key value) f)) fs
        back [] h = tt
        back (f ∷ fs) h = (h.0, back fs h.1)

    keys_found : (found : List (ℕ × Ordered K E V)) → map (λ f. key f.1.key) found ≡ filter_map (λ (y : ℕ × Operation). key_of y.1) (map (read_view (ordered_update key value)) found)
    keys_found [] = refl
    keys_found (f ∷ fs) = ap (λ ks. key f.1.key ∷ ks) (keys_found fs)

  module _ (names : List Bytes) (are : (x : Bytes) → contains_key names x ≡ (contains_key (nexts ds) x && not (contains_key (passing is_none ds) x))) where
    abbrev remaining : List Bytes
    remaining = without (evicted_keys (map write_for ds)) (live_keys (list ++ operations_of made))

    decision : (d : Decided) → Contains ds d → touch_naming (successor names d.key) d ≡ touch_in list (linked remaining (operation_of (write_for d)))
    decision d within =
        naming-is list remaining (successor names d.key) d.key d.value d.before (All-contains (IsDecided list (list ++ operations_of made)) ds d decided within).before (λ v some.
        let kept = moved-not-evicted ds d distinct within (ap is_some some) in
        let at = (here-of (live_keys (list ++ operations_of made)) ds names here are d within).0 in
        relinked-next (live_keys (list ++ operations_of made)) ds names here are d.key (has_remaining (live_keys (list ++ operations_of made)) ds names here are d.key at kept) (inl (d, within, refl)))

    pub decisions-are : map (λ d. touch_naming (successor names d.key) d) ds ≡ map (touch_in list) (map (linked remaining) (map operation_of (map write_for ds)))
    decisions-are = go ds (recursion_from_All (Contains ds) ds (All-contains_itself ds))
      where
        go : (us : List Decided) → Each (Contains ds) us → map (λ d. touch_naming (successor names d.key) d) us ≡ map (touch_in list) (map (linked remaining) (map operation_of (map write_for us)))
        go [] h = refl
        go (u ∷ us) h = ap₂ (λ t ts. t ∷ ts) (decision u h.0) (go us h.1)

    module _ {K E V : Type 0} (key : K → Bytes) (value : V → Bytes) where
      -- an entry of a broken key
      record IsEntry (e : Bor Bytes × Bor (ℕ × Ordered K E V)) : Type 0 where
        stands : update_of (list ++ operations_of made) e.0.now ≡ Some (read_view (ordered_update key value) e.1.now)
        next : (s : Bytes) × (successor remaining e.0.now ≡ Some s) × (successor names e.0.now ≡ Some s)

      rewrite-is : (e : Bor Bytes × Bor (ℕ × Ordered K E V)) → IsEntry e →
          rewritten_naming (successor names (key e.1.now.1.key)) (place_before size made e.1.now.0) (key e.1.now.1.key) (value e.1.now.1.value)
          ≡ option_map (λ op. touch_in list (linked remaining op)) (rewritten (live (list ++ operations_of made)) e.0.now)
      rewrite-is e entry = by (live_of (live (list ++ operations_of made)) e.0.now) refl entry.stands entry.next.0 entry.next.1 entry.next.2
        where
          by : (o : Option Live) → live_of (live (list ++ operations_of made)) e.0.now ≡ o → option_map located o ≡ Some (read_view (ordered_update key value) e.1.now) → (s : Bytes) → successor remaining e.0.now ≡ Some s → successor names e.0.now ≡ Some s →
              rewritten_naming (successor names (key e.1.now.1.key)) (place_before size made e.1.now.0) (key e.1.now.1.key) (value e.1.now.1.value)
              ≡ option_map (λ op. touch_in list (linked remaining op)) (option_map (λ u. update e.0.now u.value None) o)
          by None is same s p q = cc
          by (Some u) is same s p q =
              let parts : located u ≡ read_view (ordered_update key value) e.1.now = same_Some (located u) (read_view (ordered_update key value) e.1.now) same in
              let place : u.location ≡ e.1.now.0 = ap (λ (y : ℕ × Operation). y.0) parts in
              let op : update u.key u.value u.next ≡ update (key e.1.now.1.key) (value e.1.now.1.value) (Some (key e.1.now.1.next_key)) = ap (λ (y : ℕ × Operation). y.1) parts in
              let k : u.key ≡ key e.1.now.1.key = cc in
              let v : u.value ≡ value e.1.now.1.value = cc in
              let own : key e.1.now.1.key ≡ e.0.now = sym k ∙ (of_key-within (live (list ++ operations_of made)) e.0.now u is).1 in
              let there : place_before size made e.1.now.0 ≡ place_in list e.0.now = ap (place_before size made) (sym place) ∙ place-is list made from e.0.now u is size long in
              ap (λ b. rewritten_naming (successor names b) (place_before size made e.1.now.0) b (value e.1.now.1.value)) own
              ∙ ap (λ o. rewritten_naming o (place_before size made e.1.now.0) e.0.now (value e.1.now.1.value)) q
              ∙ ap₂ (λ (b : Option ℕ) (x : Bytes). Some (record { operation = update e.0.now x (Some s); before = b })) there (sym v)
              ∙ ap (λ (o : Option Bytes). Some (record { operation = update e.0.now u.value o; before = place_in list e.0.now })) (sym p)

      rewrites-are : (es : List (Bor Bytes × Bor (ℕ × Ordered K E V))) → Each IsEntry es →
          filter_map (λ e. rewritten_naming (successor names (key e.1.now.1.key)) (place_before size made e.1.now.0) (key e.1.now.1.key) (value e.1.now.1.value)) es
          ≡ map (touch_in list) (map (linked remaining) (filter_map (rewritten (live (list ++ operations_of made))) (map (λ e. e.0.now) es)))
      rewrites-are [] h = refl
      rewrites-are (e ∷ es) h = ap₂ cons_option (rewrite-is e h.0) (rewrites-are es h.1) ∙ push (rewritten (live (list ++ operations_of made)) e.0.now)
        where
          rest : List Operation
          rest = filter_map (rewritten (live (list ++ operations_of made))) (map (λ (e : Bor Bytes × Bor (ℕ × Ordered K E V)). e.0.now) es)

          push : (o : Option Operation) → cons_option (option_map (λ op. touch_in list (linked remaining op)) o) (map (touch_in list) (map (linked remaining) rest)) ≡ map (touch_in list) (map (linked remaining) (cons_option o rest))
          push None = refl
          push (Some op) = refl

      module _ (found : List (ℕ × Ordered K E V)) (is_found : map (read_view (ordered_update key value)) found ≡ filter_map (before_evicted (list ++ operations_of made)) ds) (es : List (Bor Bytes × Bor (ℕ × Ordered K E V)))
          (sorted : IsStrictlySortedBy (λ x y. slice_cmp nat_cmp x.now y.now) (map (λ e. e.0) es))
          (has : (x : Bytes) → contains_key (map (λ e. e.0.now) es) x ≡ (contains_key (map (λ f. key f.1.key) found) x && not (contains_key (map (λ d. d.key) ds) x)))
          (stand : All (λ e. update_of (list ++ operations_of made) e.0.now ≡ Some (read_view (ordered_update key value) e.1.now)) es) where
        abbrev before : List Bytes
        before = live_keys (list ++ operations_of made)

        evicted-live : (x : Bytes) → Has (passing is_none ds) x → Has before x
        evicted-live x h =
            let found = passing-from is_none ds x h in
            subst (Has before) found.3 (here-of before ds names here are found.0 found.1).0

        same_keys : (x : Bytes) → contains_key (map (λ e. e.0.now) es) x ≡ contains_key (broken_keys before (map write_for ds)) x
        same_keys x =
            has x ∙ ap (λ ks. contains_key ks x && not (contains_key (map (λ d. d.key) ds) x)) (keys_found key value found ∙ ap (filter_map (λ (y : ℕ × Operation). key_of y.1)) is_found ∙ found-keys (list ++ operations_of made) ds)
            ∙ broken-is before ds evicted-live x

        broken-rise : IsStrictlySortedBy (slice_cmp nat_cmp) (broken_keys before (map write_for ds))
        broken-rise =
            IsStrictlySortedBy-filter (slice_cmp nat_cmp) (is_broken before (evicted_keys (map write_for ds))) (without (moved_keys (map write_for ds)) (without (evicted_keys (map write_for ds)) (by_key before)))
            (IsStrictlySortedBy-filter (slice_cmp nat_cmp) (λ k. not (contains_key (moved_keys (map write_for ds)) k)) (without (evicted_keys (map write_for ds)) (by_key before))
            (IsStrictlySortedBy-filter (slice_cmp nat_cmp) (λ k. not (contains_key (evicted_keys (map write_for ds)) k)) (by_key before) (by_key-sorted before (live-distinct (list ++ operations_of made)))))

        keys-are : map (λ e. e.0.now) es ≡ broken_keys before (map write_for ds)
        keys-are = rising-same (map (λ e. e.0.now) es) (broken_keys before (map write_for ds)) (sorted-keys es sorted) broken-rise same_keys

        entry : (e : Bor Bytes × Bor (ℕ × Ordered K E V)) → Has (map (λ e. e.0.now) es) e.0.now → update_of (list ++ operations_of made) e.0.now ≡ Some (read_view (ordered_update key value) e.1.now) → IsEntry e
        entry e at stands =
            let parts = broken-parts before ds evicted-live e.0.now (sym (same_keys e.0.now) ∙ at) in
            record {
              stands = stands;
              next = relinked-next before ds names here are e.0.now (has_remaining before ds names here are e.0.now parts.0 parts.1) (inr parts.3);
            }

        entries : (us : List (Bor Bytes × Bor (ℕ × Ordered K E V))) → ((x : Bytes) → Has (map (λ e. e.0.now) us) x → Has (map (λ e. e.0.now) es) x) →
            Each (λ e. update_of (list ++ operations_of made) e.0.now ≡ Some (read_view (ordered_update key value) e.1.now)) us → Each IsEntry us
        entries [] part h = tt
        entries (u ∷ us) part h = (entry u (part u.0.now (Has-first u.0.now (map (λ e. e.0.now) us))) h.0, entries us (λ x at. part x (Has-later u.0.now (map (λ e. e.0.now) us) x at)) h.1)

        -- the decisions, then the broken links
        pub moves-are : map (λ d. touch_naming (successor names d.key) d) ds
            ++ filter_map (λ e. rewritten_naming (successor names (key e.1.now.1.key)) (place_before size made e.1.now.0) (key e.1.now.1.key) (value e.1.now.1.value)) es
            ≡ map (touch_in list) (ordered_moves (list ++ operations_of made) (map write_for ds))
        moves-are =
            let ms = map operation_of (map write_for ds) in
            let bs = filter_map (rewritten (live (list ++ operations_of made))) (broken_keys before (map write_for ds)) in
            ap₂ (λ xs ys. xs ++ ys) decisions-are
            (rewrites-are es (entries es (λ x h. h) (recursion_from_All (λ e. update_of (list ++ operations_of made) e.0.now ≡ Some (read_view (ordered_update key value) e.1.now)) es stand))
            ∙ ap (λ ks. map (touch_in list) (map (linked remaining) (filter_map (rewritten (live (list ++ operations_of made))) ks))) keys-are)
            ∙ sym (map-append (touch_in list) (map (linked remaining) ms) (map (linked remaining) bs))
            ∙ ap (map (touch_in list)) (sym (map-append (linked remaining) ms bs))

  -- if no key is evicted each moved key keeps its next one
  module _ (none : passing is_none ds ≡ []) where
    all_kept : (keys : List Bytes) → without [] keys ≡ keys
    all_kept [] = refl
    all_kept (k ∷ ks) = ap (λ ys. k ∷ ys) (all_kept ks)

    unbroken : (keys : List Bytes) → filter (is_broken (live_keys (list ++ operations_of made)) []) keys ≡ []
    unbroken [] = refl
    unbroken (k ∷ ks) = ap (λ t. cond t (k ∷ filter (is_broken (live_keys (list ++ operations_of made)) []) ks) (filter (is_broken (live_keys (list ++ operations_of made)) []) ks)) (by (successor (live_keys (list ++ operations_of made)) k)) ∙ unbroken ks
      where
        by : (o : Option Bytes) → elim o [ None ↦ false | Some n ↦ contains_key [] n ] ≡ false
        by None = refl
        by (Some n) = refl

    no_break : broken_keys (live_keys (list ++ operations_of made)) (map write_for ds) ≡ []
    no_break =
        let before = live_keys (list ++ operations_of made) in
        ap (λ gone. filter (is_broken before gone) (without (moved_keys (map write_for ds)) (without gone (by_key before)))) none ∙ unbroken (without (moved_keys (map write_for ds)) (without [] (by_key before)))

    kept : (d : Decided) → IsDecided list (list ++ operations_of made) d → Has (live_keys (list ++ operations_of made)) d.key × (d.next ≡ successor (live_keys (list ++ operations_of made)) d.key) →
        touch_naming d.next d ≡ touch_in list (linked (live_keys (list ++ operations_of made)) (operation_of (write_for d)))
    kept d is at =
        naming-is list (live_keys (list ++ operations_of made)) d.next d.key d.value d.before is.before (λ v some.
        let found = successor-some (live_keys (list ++ operations_of made)) d.key d.key at.0 in (found.0, found.1, at.1 ∙ found.1))

    all_moved : (us : List Decided) → Each (IsDecided list (list ++ operations_of made)) us → Each (λ d. Has (live_keys (list ++ operations_of made)) d.key × (d.next ≡ successor (live_keys (list ++ operations_of made)) d.key)) us →
        map (λ d. touch_naming d.next d) us ≡ map (touch_in list) (map (linked (live_keys (list ++ operations_of made))) (map operation_of (map write_for us)))
    all_moved [] p q = refl
    all_moved (u ∷ us) p q = ap₂ (λ t ts. t ∷ ts) (kept u p.0 q.0) (all_moved us p.1 q.1)

    pub kept-are : map (λ d. touch_naming d.next d) ds ≡ map (touch_in list) (ordered_moves (list ++ operations_of made) (map write_for ds))
    kept-are =
        let before = live_keys (list ++ operations_of made) in
        let ms = map operation_of (map write_for ds) in
        all_moved ds each_decided here
        ∙ ap₂ (λ keys ops. map (touch_in list) (map (linked keys) ops)) (sym (ap (λ gone. without gone before) none ∙ all_kept before))
        (sym (ap (λ ks. ms ++ filter_map (rewritten (live (list ++ operations_of made))) ks) no_break ∙ append-nil ms))
