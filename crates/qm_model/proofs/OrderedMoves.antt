-- The moves of an ordered step: the values that they leave, and the ring.
use Rattle.std.proofs.Common.{◌≡◌, ◌+◌, Bool, true, false, cond, List, [], ◌∷◌, ◌++◌, length, map, refl, ap, sym, ◌∙◌, Option, Some, None, ◌||◌, ◌&&◌, subst}
use Rattle.std.specs.Prelude.{not, filter, filter_map, fold, option_map, is_some, is_none, if◌then◌else◌, bytes_eq}
use Rattle.std.specs.List.{AllByRecursion as Each}
use Rattle.std.specs.Option.{option_or}
use Rattle.std.proofs.lemmas.List.Sums.{fold-append}
use Rattle.std.proofs.lemmas.List.Folds.{list_any-append}
use Rattle.std.proofs.lemmas.List.Elements.{All-from_recursion, recursion_from_All}
use Rattle.qm_model.specs.Operations.{Bytes, Operation, update}
use Rattle.qm_model.specs.Live.{Live, live, live_from, live_of, live_keys, touches, touched, value_of}
use Rattle.qm_model.specs.Keys.{key_lt, successor, contains_key, without, put_key, by_key}
use Rattle.qm_model.specs.Writes.{Write, write_of, operation_of, overwritten}
use Rattle.qm_model.specs.Ordered.{IsRing, rewritten, moved_keys, evicted_keys, is_broken, broken_keys, ordered_moves}
use Rattle.qm_model.proofs.LastWrites.{bytes_same, write_of-key}
use Rattle.qm_model.proofs.Maps.{after, after-operation_of, value_of-append, same_key}
use Rattle.qm_model.proofs.KeyOrder.{Has, SameKeys, or-left, or-false, and-true, and-both, false-not, not-false, not-true, apart, contains-filter, contains-without, successor-is, is-successor, successor-some, successor-same, after-fewer}
use Rattle.qm_model.proofs.OrderedLists.{Each-all, Each-both, Each-live-append, touched-linked, fold-linked, live-linked, live-contains, live-value, Each-has, fold-made, after-rewritten, touched-by, Single, write_of-none}
use Rattle.qm_model.proofs.OrderedWrites.{rewritten-some}

-- keys in key order are the same keys

put_key-contains : (ks : List Bytes) (key x : Bytes) → contains_key (put_key ks key) x ≡ (bytes_eq key x || contains_key ks x)
put_key-contains [] key x = refl
put_key-contains (k ∷ ks) key x = cases (key_lt key k) (put_key-contains ks key x)
  where
    swapped : (a b c : Bool) → (a || (b || c)) ≡ (b || (a || c))
    swapped true true c = refl
    swapped true false c = refl
    swapped false true c = refl
    swapped false false c = refl

    cases : (t : Bool) → contains_key (put_key ks key) x ≡ (bytes_eq key x || contains_key ks x) → contains_key (if t then key ∷ k ∷ ks else k ∷ put_key ks key) x ≡ (bytes_eq key x || (bytes_eq k x || contains_key ks x))
    cases true later = refl
    cases false later = ap (λ t. bytes_eq k x || t) later ∙ swapped (bytes_eq k x) (bytes_eq key x) (contains_key ks x)

by_key-from : (keys seen : List Bytes) (x : Bytes) → contains_key (fold put_key seen keys) x ≡ (contains_key seen x || contains_key keys x)
by_key-from [] seen x = or-none (contains_key seen x)
  where
    or-none : (a : Bool) → a ≡ (a || false)
    or-none true = refl
    or-none false = refl
by_key-from (k ∷ ks) seen x = by_key-from ks (put_key seen k) x ∙ ap (λ t. t || contains_key ks x) (put_key-contains seen k x) ∙ regroup (bytes_eq k x) (contains_key seen x) (contains_key ks x)
  where
    regroup : (a b c : Bool) → ((a || b) || c) ≡ (b || (a || c))
    regroup true true c = refl
    regroup true false c = refl
    regroup false true c = refl
    regroup false false c = refl

pub contains-by_key : (keys : List Bytes) (x : Bytes) → contains_key (by_key keys) x ≡ contains_key keys x
contains-by_key keys x = by_key-from keys [] x

-- the decision on a key

abbrev tested : (Option Bytes → Bool) → Option Write → Bool
tested p None = false
tested p (Some w) = p w.value

contains-tested : (p : Option Bytes → Bool) (ws : List Write) (key : Bytes) → Single ws → contains_key (map (λ w. w.key) (filter (λ w. p w.value) ws)) key ≡ tested p (write_of ws key)
contains-tested p [] key single = refl
contains-tested p (w ∷ ws) key single = cases (p w.value) (bytes_eq w.key key) refl refl (contains-tested p ws key single.1)
  where
    cases : (t u : Bool) → p w.value ≡ t → bytes_eq w.key key ≡ u → contains_key (map (λ (w : Write). w.key) (filter (λ w. p w.value) ws)) key ≡ tested p (write_of ws key) →
        contains_key (map (λ (w : Write). w.key) (cond t (w ∷ filter (λ w. p w.value) ws) (filter (λ w. p w.value) ws))) key ≡ tested p (cond u (Some w) (write_of ws key))
    cases true true at is later = or-left (bytes_eq w.key key) (contains_key (map (λ (w : Write). w.key) (filter (λ w. p w.value) ws)) key) is ∙ sym at
    cases true false at is later = ap (λ b. b || contains_key (map (λ (w : Write). w.key) (filter (λ w. p w.value) ws)) key) is ∙ later
    cases false true at is later =
        let none : write_of ws key ≡ None = ap (write_of ws) (sym (same_key w.key key is)) ∙ write_of-none w.key ws single.0 in
        later ∙ ap (tested p) none ∙ sym at
    cases false false at is later = later

tested-none : (o : Option Write) → tested is_some o ≡ false → tested is_none o ≡ false → o ≡ None
tested-none None p q = refl
tested-none (Some w) p q = absurd (cases w.value p q)
  where
    cases : (v : Option Bytes) → is_some v ≡ false → is_none v ≡ false → ⊥
    cases None p q = cc
    cases (Some x) p q = cc

pub write_of-each : (P : Write → Type 0) (ws : List Write) (key : Bytes) (w : Write) → Each P ws → write_of ws key ≡ Some w → P w
write_of-each P [] key w h is = absurd (cc)
write_of-each P (u ∷ us) key w h is = cases (bytes_eq u.key key) is (write_of-each P us key w h.1)
  where
    cases : (t : Bool) → cond t (Some u) (write_of us key) ≡ Some w → (write_of us key ≡ Some w → P w) → P w
    cases true is later = let same : u ≡ w = cc in subst P same h.0
    cases false is later = later is

-- decisions one after another
pub fold-decisions : (key : Bytes) (ds : List Write) (b : Option Bytes) → Single ds → fold (after key) b (map operation_of ds) ≡ overwritten (write_of ds key) b
fold-decisions key [] b single = refl
fold-decisions key (d ∷ ds) b single = ap (λ c. fold (after key) c (map operation_of ds)) (after-operation_of key b d) ∙ cases (bytes_eq d.key key) refl (λ c. fold-decisions key ds c single.1)
  where
    cases : (t : Bool) → bytes_eq d.key key ≡ t → ((c : Option Bytes) → fold (after key) c (map operation_of ds) ≡ overwritten (write_of ds key) c) →
        fold (after key) (if t then d.value else b) (map operation_of ds) ≡ overwritten (cond t (Some d) (write_of ds key)) b
    cases true at later =
        let none : write_of ds key ≡ None = ap (write_of ds) (sym (same_key d.key key at)) ∙ write_of-none d.key ds single.0 in
        later d.value ∙ ap (λ o. overwritten o d.value) none
    cases false at later = later b

touches-decision : (key : Bytes) (d : Write) → touches key (operation_of d) ≡ bytes_eq d.key key
touches-decision key d = cases d.value
  where
    cases : (v : Option Bytes) → touches key (operation_of (record { key = d.key; value = v })) ≡ bytes_eq d.key key
    cases None = refl
    cases (Some v) = refl

-- what they do not touch they do not decide
undecided : (key : Bytes) (ds : List Write) → touched key (map operation_of ds) ≡ false → write_of ds key ≡ None
undecided key [] h = refl
undecided key (d ∷ ds) h =
    let both = or-false (touches key (operation_of d)) (touched key (map operation_of ds)) h in
    ap (λ t. cond t (Some d) (write_of ds key)) (sym (touches-decision key d) ∙ both.0) ∙ undecided key ds both.1

-- the value of a key that is written again for its link (b), or not
again : (o : Option Write) (l : Option Live) (b : Bool) → (b ≡ true → o ≡ None) →
    (if b then option_or (option_map (λ e. e.value) l) (overwritten o (option_map (λ e. e.value) l)) else overwritten o (option_map (λ e. e.value) l)) ≡ overwritten o (option_map (λ e. e.value) l)
again o l false h = refl
again None None true h = refl
again None (Some e) true h = refl
again (Some w) l true h = let no = h refl in absurd (cc)

remains : (o : Option Write) (l : Option Live) → ((w : Write) → o ≡ Some w → is_some l ≡ true) → (is_some l && not (tested is_none o)) ≡ is_some (overwritten o (option_map (λ e. e.value) l))
remains None None h = refl
remains None (Some e) h = refl
remains (Some w) l h = ap (λ t. t && not (is_none w.value)) (h w refl) ∙ cases w.value
  where
    cases : (v : Option Bytes) → not (is_none v) ≡ is_some v
    cases None = refl
    cases (Some x) = refl

-- decisions of live keys, one for each
module _ (ops : List Operation) (ds : List Write) (single : Single ds) (lives : Each (λ d. Has (live_keys ops) d.key) ds) where
  abbrev evicted : List Bytes
  evicted = evicted_keys ds

  abbrev moved : List Bytes
  moved = moved_keys ds

  abbrev remaining : List Bytes
  remaining = without evicted (live_keys ops)

  abbrev candidates : List Bytes
  candidates = without moved (without evicted (by_key (live_keys ops)))

  abbrev broken : List Bytes
  broken = broken_keys (live_keys ops) ds

  in_evicted : (key : Bytes) → contains_key evicted key ≡ tested is_none (write_of ds key)
  in_evicted key = contains-tested is_none ds key single

  in_moved : (key : Bytes) → contains_key moved key ≡ tested is_some (write_of ds key)
  in_moved key = contains-tested is_some ds key single

  in_remaining : (key : Bytes) → contains_key remaining key ≡ (contains_key (live_keys ops) key && not (contains_key evicted key))
  in_remaining key = contains-without evicted (live_keys ops) key

  in_candidates : (key : Bytes) → contains_key candidates key ≡ ((contains_key (live_keys ops) key && not (contains_key evicted key)) && not (contains_key moved key))
  in_candidates key =
      contains-without moved (without evicted (by_key (live_keys ops))) key
      ∙ ap (λ t. t && not (contains_key moved key)) (contains-without evicted (by_key (live_keys ops)) key ∙ ap (λ t. t && not (contains_key evicted key)) (contains-by_key (live_keys ops) key))

  in_broken : (key : Bytes) → contains_key broken key ≡ (contains_key candidates key && is_broken (live_keys ops) evicted key)
  in_broken key = contains-filter (is_broken (live_keys ops) evicted) candidates key

  broken-undecided : (key : Bytes) → Has broken key → write_of ds key ≡ None
  broken-undecided key h =
      let one = (and-true (contains_key candidates key) (is_broken (live_keys ops) evicted key) (sym (in_broken key) ∙ h)).0 in
      let two = and-true (contains_key (live_keys ops) key && not (contains_key evicted key)) (not (contains_key moved key)) (sym (in_candidates key) ∙ one) in
      let three = and-true (contains_key (live_keys ops) key) (not (contains_key evicted key)) two.0 in
      tested-none (write_of ds key) (sym (in_moved key) ∙ not-false (contains_key moved key) two.1) (sym (in_evicted key) ∙ not-false (contains_key evicted key) three.1)

  -- the moves give each key the value that was decided for it, and change no other
  pub ordered-moved : (key : Bytes) → value_of (ops ++ ordered_moves ops ds) key ≡ overwritten (write_of ds key) (value_of ops key)
  ordered-moved key =
      let f = after key in
      let b0 = value_of ops key in
      let ms = map operation_of ds in
      let bs = filter_map (rewritten (live ops)) broken in
      value_of-append ops (ordered_moves ops ds) key
      ∙ fold-linked remaining key b0 (ms ++ bs)
      ∙ fold-append f b0 ms bs
      ∙ ap (λ b. fold f b bs) (fold-decisions key ds b0 single)
      ∙ fold-made (rewritten (live ops)) (λ x. option_map (λ e. e.value) (live_of (live ops) x)) key (after-rewritten (live ops) key) broken (overwritten (write_of ds key) b0)
      ∙ again (write_of ds key) (live_of (live ops) key) (contains_key broken key) (broken-undecided key)

  decided-live : (key : Bytes) (w : Write) → write_of ds key ≡ Some w → is_some (live_of (live ops) key) ≡ true
  decided-live key w is =
      sym (live-contains (live ops) key) ∙ subst (Has (live_keys ops)) (write_of-key ds key w is) (write_of-each (λ d. Has (live_keys ops) d.key) ds key w lives is)

  moved-keys : SameKeys remaining (live_keys (ops ++ ordered_moves ops ds))
  moved-keys key =
      in_remaining key
      ∙ ap (λ t. t && not (contains_key evicted key)) (live-contains (live ops) key)
      ∙ ap (λ t. is_some (live_of (live ops) key) && not t) (in_evicted key)
      ∙ remains (write_of ds key) (live_of (live ops) key) (decided-live key)
      ∙ ap is_some (sym (ordered-moved key)) ∙ sym (live-value (ops ++ ordered_moves ops ds) key)

  -- the next key of a live key that the moves do not touch stays
  same-next : (key : Bytes) → Has (live_keys ops) key → touched key (ordered_moves ops ds) ≡ false → successor (live_keys ops) key ≡ successor (live_keys (ops ++ ordered_moves ops ds)) key
  same-next key at h =
      let ms = map operation_of ds in
      let bs = filter_map (rewritten (live ops)) broken in
      let none : touched key (ms ++ bs) ≡ false = sym (touched-linked remaining key (ms ++ bs)) ∙ h in
      let parts = or-false (touched key ms) (touched key bs) (sym (list_any-append (touches key) ms bs) ∙ none) in
      let free : write_of ds key ≡ None = undecided key ds parts.0 in
      let evicted_not : contains_key evicted key ≡ false = in_evicted key ∙ ap (tested is_none) free in
      let moved_not : contains_key moved key ≡ false = in_moved key ∙ ap (tested is_some) free in
      let stays : Has remaining key = in_remaining key ∙ and-both (contains_key (live_keys ops) key) (not (contains_key evicted key)) at (not-true (contains_key evicted key) evicted_not) in
      let candidate : Has candidates key =
      in_candidates key ∙ and-both (contains_key (live_keys ops) key && not (contains_key evicted key)) (not (contains_key moved key)) (sym (in_remaining key) ∙ stays) (not-true (contains_key moved key) moved_not) in
      let again = rewritten-some (live ops) key at in
      let whole : is_broken (live_keys ops) evicted key ≡ false =
      false-not (is_broken (live_keys ops) evicted key) (λ is.
      apart (touched key bs) (touched-by (rewritten (live ops)) key (update key again.0 None) again.1 (bytes_same key) broken
      (in_broken key ∙ and-both (contains_key candidates key) (is_broken (live_keys ops) evicted key) candidate is)) parts.1) in
      let found = successor-some (live_keys ops) key key at in
      let is = successor-is (live_keys ops) key found.0 found.1 in
      let spared : contains_key evicted found.0 ≡ false = subst (λ o. elim o [ None ↦ false | Some n ↦ contains_key evicted n ] ≡ false) found.1 whole in
      let next_stays : Has remaining found.0 = in_remaining found.0 ∙ and-both (contains_key (live_keys ops) found.0) (not (contains_key evicted found.0)) is.has (not-true (contains_key evicted found.0) spared) in
      found.1
      ∙ sym (is-successor remaining key found.0 (after-fewer (live_keys ops) remaining key found.0 (λ x has. (and-true (contains_key (live_keys ops) x) (not (contains_key evicted x)) (sym (in_remaining x) ∙ has)).0) next_stays is))
      ∙ successor-same remaining (live_keys (ops ++ ordered_moves ops ds)) key moved-keys

  pub moved-ring : IsRing ops → IsRing (ops ++ ordered_moves ops ds)
  moved-ring ring =
      let list = ops ++ ordered_moves ops ds in
      let linked_here : Live → Type 0 = λ e. e.next ≡ successor (live_keys list) e.key in
      let old : Each (λ e. touched e.key (ordered_moves ops ds) ≡ false → linked_here e) (live ops) =
      Each-both (λ e. e.next ≡ successor (live_keys ops) e.key) (λ e. Has (live_keys ops) e.key) (λ e. touched e.key (ordered_moves ops ds) ≡ false → linked_here e)
      (λ e is at h. is ∙ same-next e.key at h) (live ops) (recursion_from_All (λ e. e.next ≡ successor (live_keys ops) e.key) (live ops) ring) (Each-has (live ops)) in
      let new : Each linked_here (live_from (0 + length ops) (ordered_moves ops ds)) =
      Each-all (λ e. e.next ≡ successor remaining e.key) linked_here (λ e is. is ∙ successor-same remaining (live_keys list) e.key moved-keys)
      (live_from (0 + length ops) (ordered_moves ops ds)) (live-linked remaining (0 + length ops) (map operation_of ds ++ filter_map (rewritten (live ops)) broken)) in
      All-from_recursion linked_here (live list) (Each-live-append linked_here ops (ordered_moves ops ds) old new)
