-- What an ordered database appends: each operation of a key, of each key one, and how many keys are live after what a walk decided.
use Rattle.std.proofs.Common.{◌≡◌, ◌+◌, Bool, true, false, true≢false, cond, List, [], ◌∷◌, ◌++◌, length, map, count_by, refl, ap, sym, ◌∙◌, subst, Option, Some, None, arith, append_assoc, ◌||◌, ◌&&◌}
use Rattle.std.specs.Prelude.{if◌then◌else◌, not, filter, filter_map, option_map, option_and_then, bytes_eq, is_some, is_none}
use Rattle.std.specs.List.{cons_option, AllByRecursion as Each, IsDistinct}
use Rattle.std.proofs.lemmas.List.{length-map}
use Rattle.std.proofs.lemmas.List.Elements.{All-from_recursion, recursion_from_All}
use Rattle.std.proofs.lemmas.List.Folds.{list_any-append}
use Rattle.std.proofs.lemmas.List.Sums.{length-filter}
use Rattle.qm_operations.specs.Parts.{key_of}
use Rattle.qm_model.specs.Keys.{contains_key, once, without}
use Rattle.qm_model.specs.Operations.{Bytes, Operation, update, delete, commit}
use Rattle.qm_model.specs.Live.{Live, live, live_keys, live_of, touches, touched, value_of}
use Rattle.qm_model.specs.Ordered.{IsRing, deleted_keys, evicted_keys, linked, ordered_moves, ordered_writes, put_of, rewritten, updated_keys, created_keys}
use Rattle.qm_model.specs.Forms.{Form}
use Rattle.qm_model.specs.Step.{ordered, unordered}
use Rattle.qm_model.specs.Writes.{Write, last_writes, overwritten, write_of}
use Rattle.qm_model.proofs.Decisions.{Single-distinct}
use Rattle.qm_model.proofs.KeyOrder.{Has, SameKeys, and-true, contains-filter, contains-without, false-not, not-false}
use Rattle.qm_model.proofs.KeySorts.{filter-distinct, filter-length, once-distinct, same-length}
use Rattle.qm_model.proofs.LastWrites.{bytes_same, last_writes-Rising, write_of-key}
use Rattle.qm_model.proofs.LiveCounts.{live-distinct}
use Rattle.qm_model.proofs.Maps.{same_key}
use Rattle.qm_model.proofs.OrderedLists.{Each-all, Each-filter, Single, Rising-single, live-contains, live-value, picked, touched-linked, write_of-none}
use Rattle.qm_model.proofs.OrderedMoves.{ordered-moved, write_of-each}
use Rattle.qm_model.proofs.OrderedWrites.{before_them, before_them-kept, ordered-ring, in_created, in_deleted, in_kept, in_relinked, in_updated, relinked}
use Rattle.qm_step.specs.Kinds.{kind_of, AreWritten, CountsMoves, HasRing}
use Rattle.qm_step.specs.Rings.{touch_in}
use Rattle.qm_step.specs.Touches.{Touch, IsFrom, IsKeyed, Once, operations_of}
use Rattle.qm_step.proofs.PlanCounts.{singles}
use Rattle.qm_step.proofs.Touched.{own-key, touched-from, touched-operations}
use Rattle.qm_step.proofs.PlanWrites.{once-append}
use Rattle.qm_index.proofs.Basics.{or-later}

abbrev KeyedOps : List Operation → Type 0
KeyedOps ops = Each (λ op. is_some (key_of op) ≡ true) ops

-- operations that are made of keys, each of its own
module _ (make : Bytes → Option Operation) (own : (key : Bytes) (op : Operation) → make key ≡ Some op → key_of op ≡ Some key) where
  touches-made : (k key : Bytes) (op : Operation) → make k ≡ Some op → touches key op ≡ true → k ≡ key
  touches-made k key op is hit = by (sym (own k op is) ∙ own-key op key hit)
    where
      by : ◌≡◌ {A = Option Bytes} (Some k) (Some key) → k ≡ key
      by h = cc

  untouched-made : (key : Bytes) (keys : List Bytes) → Each (λ k. bytes_eq key k ≡ false) keys → touched key (filter_map make keys) ≡ false
  untouched-made key [] h = refl
  untouched-made key (k ∷ ks) h = by (make k) refl (untouched-made key ks h.1)
    where
      by : (o : Option Operation) → make k ≡ o → touched key (filter_map make ks) ≡ false → touched key (cons_option o (filter_map make ks)) ≡ false
      by None is later = later
      by (Some op) is later = one (touches key op) refl
        where
          one : (t : Bool) → touches key op ≡ t → (touches key op || touched key (filter_map make ks)) ≡ false
          one true hit = absurd (true≢false (sym (bytes_same key) ∙ ap (bytes_eq key) (sym (touches-made k key op is hit)) ∙ h.0))
          one false miss = ap (λ b. b || touched key (filter_map make ks)) miss ∙ later

  made-has : (key : Bytes) (keys : List Bytes) → touched key (filter_map make keys) ≡ true → contains_key keys key ≡ true
  made-has key [] h = h
  made-has key (k ∷ ks) h = by (make k) refl h (made-has key ks)
    where
      by : (o : Option Operation) → make k ≡ o → touched key (cons_option o (filter_map make ks)) ≡ true → (touched key (filter_map make ks) ≡ true → contains_key ks key ≡ true) → (bytes_eq k key || contains_key ks key) ≡ true
      by None is h later = or-later (bytes_eq k key) (contains_key ks key) (later h)
      by (Some op) is h later = one (touches key op) refl h
        where
          one : (t : Bool) → touches key op ≡ t → (t || touched key (filter_map make ks)) ≡ true → (bytes_eq k key || contains_key ks key) ≡ true
          one true hit h = ap (λ b. b || contains_key ks key) (ap (λ x. bytes_eq x key) (touches-made k key op is hit) ∙ bytes_same key)
          one false miss h = or-later (bytes_eq k key) (contains_key ks key) (later h)

  once-made : (keys : List Bytes) → IsDistinct bytes_eq keys → Once (filter_map make keys)
  unfolding IsDistinct
  once-made [] h = tt
  once-made (k ∷ ks) h = by (make k) refl (once-made ks h.1)
    where
      by : (o : Option Operation) → make k ≡ o → Once (filter_map make ks) → Once (cons_option o (filter_map make ks))
      by None is later = later
      by (Some op) is later = (λ key hit. ap (λ x. touched x (filter_map make ks)) (sym (touches-made k key op is hit)) ∙ untouched-made k ks h.0, later)

  keyed-made : (keys : List Bytes) → KeyedOps (filter_map make keys)
  keyed-made [] = tt
  keyed-made (k ∷ ks) = by (make k) refl (keyed-made ks)
    where
      by : (o : Option Operation) → make k ≡ o → KeyedOps (filter_map make ks) → KeyedOps (cons_option o (filter_map make ks))
      by None is later = later
      by (Some op) is later = (ap is_some (own k op is), later)

-- links change no key
once-linked : (keys : List Bytes) (ops : List Operation) → Once ops → Once (map (linked keys) ops)
once-linked keys [] h = tt
once-linked keys (op ∷ ops) h = (λ key hit. touched-linked keys key ops ∙ h.0 key (sym (same-touch op key) ∙ hit), once-linked keys ops h.1)
  where
    same-touch : (op : Operation) (key : Bytes) → touches key (linked keys op) ≡ touches key op
    same-touch (update k v n) key = refl
    same-touch (delete k) key = refl
    same-touch (commit m f) key = refl

keyed-linked : (keys : List Bytes) (ops : List Operation) → KeyedOps ops → KeyedOps (map (linked keys) ops)
keyed-linked keys [] h = tt
keyed-linked keys (op ∷ ops) h = (same-key op ∙ h.0, keyed-linked keys ops h.1)
  where
    same-key : (op : Operation) → is_some (key_of (linked keys op)) ≡ is_some (key_of op)
    same-key (update k v n) = refl
    same-key (delete k) = refl
    same-key (commit m f) = refl

keyed-append : (xs ys : List Operation) → KeyedOps xs → KeyedOps ys → KeyedOps (xs ++ ys)
keyed-append [] ys first second = second
keyed-append (x ∷ xs) ys first second = (first.0, keyed-append xs ys first.1 second)

deletes-made : (keys : List Bytes) → map delete keys ≡ filter_map (λ k. Some (delete k)) keys
deletes-made [] = refl
deletes-made (k ∷ ks) = ap (λ ops. delete k ∷ ops) (deletes-made ks)

own-delete : (key : Bytes) (op : Operation) → Some (delete key) ≡ Some op → key_of op ≡ Some key
own-delete key op is = sym (ap (option_and_then key_of) is)

own-put : (ws : List Write) (key : Bytes) (op : Operation) → put_of ws key ≡ Some op → key_of op ≡ Some key
own-put ws key op is = by (option_and_then (λ w. w.value) (write_of ws key)) is
  where
    by : (o : Option Bytes) → option_map (λ v. update key v None) o ≡ Some op → key_of op ≡ Some key
    by None h = cc
    by (Some v) h = sym (ap (option_and_then key_of) h)

own-again : (es : List Live) (key : Bytes) (op : Operation) → rewritten es key ≡ Some op → key_of op ≡ Some key
own-again es key op is = by (live_of es key) is
  where
    by : (o : Option Live) → option_map (λ (e : Live). update key e.value None) o ≡ Some op → key_of op ≡ Some key
    by None h = cc
    by (Some e) h = sym (ap (option_and_then key_of) h)

single-filter : (t : Write → Bool) (ws : List Write) → Single ws → Single (filter t ws)
single-filter t [] h = tt
single-filter t (w ∷ ws) h = cases (t w) (single-filter t ws h.1)
  where
    cases : (b : Bool) → Single (filter t ws) → Single (cond b (w ∷ filter t ws) (filter t ws))
    cases true later = (Each-filter (λ u. bytes_eq u.key w.key ≡ false) t ws (Each-all (λ u. bytes_eq u.key w.key ≡ false) (λ u. t u ≡ true → bytes_eq u.key w.key ≡ false) (λ u k _. k) ws h.0), later)
    cases false later = later

-- a key that is picked by its write is picked in one way
module _ (o : Option Write) (l : Option Live) where
  deleted-only : picked is_none is_some o l ≡ true → (picked is_some is_some o l ≡ false) × (picked is_some is_none o l ≡ false) × (is_some l ≡ true)
  deleted-only h = by o h
    where
      at : (v : Option Bytes) → (is_none v && is_some l) ≡ true → ((is_some v && is_some l) ≡ false) × ((is_some v && is_none l) ≡ false) × (is_some l ≡ true)
      at None h = (refl, refl, h)
      at (Some v) h = cc

      by : (o : Option Write) → picked is_none is_some o l ≡ true → (picked is_some is_some o l ≡ false) × (picked is_some is_none o l ≡ false) × (is_some l ≡ true)
      by None h = cc
      by (Some w) h = at w.value h

  updated-only : picked is_some is_some o l ≡ true → picked is_some is_none o l ≡ false
  updated-only h = by o h
    where
      at : (v : Option Bytes) (l : Option Live) → (is_some v && is_some l) ≡ true → (is_some v && is_none l) ≡ false
      at None l h = refl
      at (Some v) None h = cc
      at (Some v) (Some e) h = refl

      by : (o : Option Write) → picked is_some is_some o l ≡ true → picked is_some is_none o l ≡ false
      by None h = refl
      by (Some w) h = at w.value l h

  created-new : picked is_some is_none o l ≡ true → is_some l ≡ false
  created-new h = by o h
    where
      new : (l : Option Live) → is_none l ≡ true → is_some l ≡ false
      new None h = refl
      new (Some e) h = cc

      by : (o : Option Write) → picked is_some is_none o l ≡ true → is_some l ≡ false
      by None h = cc
      by (Some w) h = new l (and-true (is_some w.value) (is_none l) h).1

-- ordered writes
module _ (base : List Operation) (ws : List Write) where
  abbrev last : List Write
  last = last_writes ws

  abbrev deleted : List Bytes
  deleted = deleted_keys (live base) last

  abbrev updated : List Bytes
  updated = updated_keys (live base) last

  abbrev created : List Bytes
  created = created_keys (live base) last

  abbrev again : List Bytes
  again = relinked base ws

  abbrev ds : List Operation
  ds = map delete deleted

  abbrev us : List Operation
  us = filter_map (put_of last) updated

  abbrev cs : List Operation
  cs = filter_map (put_of last) created

  abbrev bs : List Operation
  bs = filter_map (rewritten (live base)) again

  single : Single last
  single = Rising-single last (last_writes-Rising ws)

  deleted-once : IsDistinct bytes_eq deleted
  deleted-once = Single-distinct (filter (λ w. is_none w.value && is_some (live_of (live base) w.key)) last) (single-filter (λ w. is_none w.value && is_some (live_of (live base) w.key)) last single)

  updated-once : IsDistinct bytes_eq updated
  updated-once = Single-distinct (filter (λ w. is_some w.value && is_some (live_of (live base) w.key)) last) (single-filter (λ w. is_some w.value && is_some (live_of (live base) w.key)) last single)

  created-once : IsDistinct bytes_eq created
  created-once = Single-distinct (filter (λ w. is_some w.value && is_none (live_of (live base) w.key)) last) (single-filter (λ w. is_some w.value && is_none (live_of (live base) w.key)) last single)

  again-once : IsDistinct bytes_eq again
  again-once = filter-distinct (λ k. not (contains_key updated k)) (once (before_them base ws)) (once-distinct (before_them base ws))

  -- a key that is written again is live, and neither updated nor deleted
  again-parts : (key : Bytes) → Has again key → (contains_key updated key ≡ false) × (contains_key deleted key ≡ false) × (is_some (live_of (live base) key) ≡ true)
  again-parts key h =
      let first = and-true (contains_key (before_them base ws) key) (not (contains_key updated key)) (sym (in_relinked base ws key) ∙ h) in
      let second = and-true (contains_key (live_keys base) key) (not (contains_key deleted key)) (sym (in_kept base ws key) ∙ before_them-kept base ws key first.0) in
      (not-false (contains_key updated key) first.1, not-false (contains_key deleted key) second.1, sym (live-contains (live base) key) ∙ second.0)

  none-of : (make : Bytes → Option Operation) (own : (key : Bytes) (op : Operation) → make key ≡ Some op → key_of op ≡ Some key) (keys : List Bytes) (key : Bytes) → (contains_key keys key ≡ true → ⊥) → touched key (filter_map make keys) ≡ false
  none-of make own keys key not_in = false-not (touched key (filter_map make keys)) (λ hit. not_in (made-has make own key keys hit))

  deletes-apart : (key : Bytes) → touched key ds ≡ true → touched key (us ++ (cs ++ bs)) ≡ false
  deletes-apart key hit =
      let in_it = made-has (λ k. Some (delete k)) own-delete key deleted (ap (touched key) (sym (deletes-made deleted)) ∙ hit) in
      let only = deleted-only (write_of last key) (live_of (live base) key) (sym (in_deleted base ws key) ∙ in_it) in
      list_any-append (touches key) us (cs ++ bs)
      ∙ ap (λ b. b || touched key (cs ++ bs)) (none-of (put_of last) (own-put last) updated key (λ h. true≢false (sym h ∙ in_updated base ws key ∙ only.0)))
      ∙ list_any-append (touches key) cs bs
      ∙ ap (λ b. b || touched key bs) (none-of (put_of last) (own-put last) created key (λ h. true≢false (sym h ∙ in_created base ws key ∙ only.1)))
      ∙ none-of (rewritten (live base)) (own-again (live base)) again key (λ h. true≢false (sym in_it ∙ (again-parts key h).1))

  updates-apart : (key : Bytes) → touched key us ≡ true → touched key (cs ++ bs) ≡ false
  updates-apart key hit =
      let in_it = made-has (put_of last) (own-put last) key updated hit in
      let only = updated-only (write_of last key) (live_of (live base) key) (sym (in_updated base ws key) ∙ in_it) in
      list_any-append (touches key) cs bs
      ∙ ap (λ b. b || touched key bs) (none-of (put_of last) (own-put last) created key (λ h. true≢false (sym h ∙ in_created base ws key ∙ only)))
      ∙ none-of (rewritten (live base)) (own-again (live base)) again key (λ h. true≢false (sym in_it ∙ (again-parts key h).0))

  creates-apart : (key : Bytes) → touched key cs ≡ true → touched key bs ≡ false
  creates-apart key hit =
      let in_it = made-has (put_of last) (own-put last) key created hit in
      let new = created-new (write_of last key) (live_of (live base) key) (sym (in_created base ws key) ∙ in_it) in
      none-of (rewritten (live base)) (own-again (live base)) again key (λ h. true≢false (sym (again-parts key h).2 ∙ new))

  apart-groups : ds ++ (us ++ (cs ++ bs)) ≡ ds ++ us ++ cs ++ bs
  apart-groups = sym (append_assoc (ds ++ us) cs bs ∙ append_assoc ds us (cs ++ bs))

  once-ordered : Once (ordered_writes base ws)
  once-ordered =
      once-linked _ (ds ++ us ++ cs ++ bs)
      (subst Once apart-groups
      (once-append ds (us ++ (cs ++ bs)) (subst Once (sym (deletes-made deleted)) (once-made (λ k. Some (delete k)) own-delete deleted deleted-once))
      (once-append us (cs ++ bs) (once-made (put_of last) (own-put last) updated updated-once)
      (once-append cs bs (once-made (put_of last) (own-put last) created created-once) (once-made (rewritten (live base)) (own-again (live base)) again again-once) creates-apart) updates-apart) deletes-apart))

  keyed-ordered : KeyedOps (ordered_writes base ws)
  keyed-ordered =
      keyed-linked _ (ds ++ us ++ cs ++ bs)
      (subst KeyedOps apart-groups
      (keyed-append ds (us ++ (cs ++ bs)) (subst KeyedOps (sym (deletes-made deleted)) (keyed-made (λ k. Some (delete k)) own-delete deleted))
      (keyed-append us (cs ++ bs) (keyed-made (put_of last) (own-put last) updated)
      (keyed-append cs bs (keyed-made (put_of last) (own-put last) created) (keyed-made (rewritten (live base)) (own-again (live base)) again)))))

  -- what an ordered database appends for writes
  pub written-ordered : (touches : List Touch) → touches ≡ map (touch_in base) (ordered_writes base ws) → AreWritten ordered base ws touches
  written-ordered touches is = subst (AreWritten ordered base ws) (sym is) (record {
    operations = same;
    from = All-from_recursion (IsFrom base) (map (touch_in base) (ordered_writes base ws)) (touched-from base (ordered_writes base ws));
    keyed = All-from_recursion IsKeyed (map (touch_in base) (ordered_writes base ws)) (each (ordered_writes base ws) keyed-ordered);
    once = subst Once (sym same) once-ordered;
  })
    where
      same : operations_of (map (touch_in base) (ordered_writes base ws)) ≡ ordered_writes base ws
      same = touched-operations base (ordered_writes base ws)

      each : (ops : List Operation) → KeyedOps ops → Each IsKeyed (map (touch_in base) ops)
      each [] h = tt
      each (op ∷ ops) h = (h.0, each ops h.1)

-- which keys go
in-evicted : (ds : List Write) (key : Bytes) → Single ds → contains_key (evicted_keys ds) key ≡ is_some (option_and_then (λ (w : Write). cond (is_none w.value) (Some w) None) (write_of ds key))
in-evicted [] key one = refl
in-evicted (d ∷ ds) key one = by (is_none d.value) refl (bytes_eq d.key key) refl (in-evicted ds key one.1)
  where
    goes : Write → Option Write
    goes w = cond (is_none w.value) (Some w) None

    rest : Bool
    rest = contains_key (evicted_keys ds) key

    by : (t : Bool) → is_none d.value ≡ t → (s : Bool) → bytes_eq d.key key ≡ s → rest ≡ is_some (option_and_then goes (write_of ds key)) →
        contains_key (map (λ (w : Write). w.key) (cond t (d ∷ filter (λ (w : Write). is_none w.value) ds) (filter (λ (w : Write). is_none w.value) ds))) key ≡ is_some (option_and_then goes (cond s (Some d) (write_of ds key)))
    by true gone true same later = ap (λ b. b || rest) same ∙ sym (ap (λ t. is_some (cond t (Some d) None)) gone)
    by true gone false other later = ap (λ b. b || rest) other ∙ later
    by false stays true same later =
        let none : write_of ds key ≡ None = ap (write_of ds) (sym (same_key d.key key same)) ∙ write_of-none d.key ds one.0 in
        later ∙ ap (λ o. is_some (option_and_then goes o)) none ∙ sym (ap (λ t. is_some {T = Write} (cond t (Some d) None)) stays)
    by false stays false other later = later

-- after what a walk decided as many keys are live as before, without those that go
pub counts-ordered : CountsMoves ordered.moves
counts-ordered list ds distinct alive =
    let whole : length (filter (contains_key evicted) (live_keys list)) + length remaining ≡ length (live_keys list) = filter-length (contains_key evicted) (live_keys list) in
    let gone : length (filter (contains_key evicted) (live_keys list)) ≡ length evicted =
    same-length (filter (contains_key evicted) (live_keys list)) evicted (filter-distinct (contains_key evicted) (live_keys list) (live-distinct list)) (Single-distinct (filter (λ (d : Write). is_none d.value) ds) (single-filter (λ (d : Write). is_none d.value) ds one)) hits in
    let left : length remaining ≡ length (live_keys after) =
    same-length remaining (live_keys after) (filter-distinct (λ k. not (contains_key evicted k)) (live_keys list) (live-distinct list)) (live-distinct after) stay in
    let counted : length evicted ≡ count_by (λ (d : Write). is_none d.value) ds = length-map (filter (λ (d : Write). is_none d.value) ds) (λ (d : Write). d.key) ∙ length-filter (λ (d : Write). is_none d.value) ds in
    omega (arith, whole, gone, left, counted, length-map (live list) (λ (e : Live). e.key), length-map (live after) (λ (e : Live). e.key))
  where
    one : Single ds
    one = singles ds distinct

    lives : Each (λ (d : Write). Has (live_keys list) d.key) ds
    lives = recursion_from_All (λ (d : Write). Has (live_keys list) d.key) ds alive

    after : List Operation
    after = list ++ ordered_moves list ds

    evicted : List Bytes
    evicted = evicted_keys ds

    remaining : List Bytes
    remaining = without evicted (live_keys list)

    -- what goes was live
    hits : SameKeys (filter (contains_key evicted) (live_keys list)) evicted
    hits key = contains-filter (contains_key evicted) (live_keys list) key ∙ by (write_of ds key) refl (contains_key evicted key) (in-evicted ds key one)
      where
        by : (o : Option Write) → write_of ds key ≡ o → (t : Bool) → t ≡ is_some (option_and_then (λ (w : Write). cond (is_none w.value) (Some w) None) (write_of ds key)) → (contains_key (live_keys list) key && t) ≡ t
        by o is false h = and-none (contains_key (live_keys list) key)
          where
            and-none : (a : Bool) → (a && false) ≡ false
            and-none true = refl
            and-none false = refl
        by None is true h = absurd (true≢false (h ∙ ap (λ o. is_some (option_and_then (λ (w : Write). cond (is_none w.value) (Some w) None) o)) is))
        by (Some w) is true h =
            let live_one : Has (live_keys list) key = subst (Has (live_keys list)) (write_of-key ds key w is) (write_of-each (λ (d : Write). Has (live_keys list) d.key) ds key w lives is) in
            ap (λ b. b && true) live_one

    stay : SameKeys remaining (live_keys after)
    stay key =
        contains-without evicted (live_keys list) key
        ∙ ap (λ t. contains_key (live_keys list) key && not t) (in-evicted ds key one)
        ∙ by (write_of ds key) refl
        ∙ ap is_some (sym (ordered-moved list ds one lives key)) ∙ sym (live-value after key)
      where
        at : (w : Write) (a : Bool) → a ≡ true → (v : Option Bytes) → (a && not (is_some {T = Write} (cond (is_none v) (Some w) None))) ≡ is_some v
        at w true h None = refl
        at w true h (Some v) = refl
        at w false h v = absurd (true≢false (sym h))

        same : (a : Bool) → (a && true) ≡ a
        same true = refl
        same false = refl

        by : (o : Option Write) → write_of ds key ≡ o → (contains_key (live_keys list) key && not (is_some (option_and_then (λ (w : Write). cond (is_none w.value) (Some w) None) o))) ≡ is_some (overwritten o (value_of list key))
        by None is = same (contains_key (live_keys list) key) ∙ live-value list key
        by (Some w) is = at w (contains_key (live_keys list) key) (subst (Has (live_keys list)) (write_of-key ds key w is) (write_of-each (λ (d : Write). Has (live_keys list) d.key) ds key w lives is)) w.value

-- the list with what an ordered database appends for writes has a ring
pub ring-over : (form : Form) (base : List Operation) (ws : List Write) (made : List Touch) → HasRing form base → AreWritten (kind_of form) base ws made → form.ordered ≡ true → IsRing (base ++ operations_of made)
ring-over form base ws made ring written is =
    let same : (kind_of form).writes base ws ≡ ordered_writes base ws = ap (λ (t : Bool). (if t then ordered else unordered).writes base ws) is in
    subst (λ ops. IsRing (base ++ ops)) (sym (written.operations ∙ same)) (ordered-ring base ws (ring is))
