-- What operations make of links, and when links form a ring.
use Rattle.std.proofs.Common.{◌≡◌, ℕ, ◌+◌, Bool, true, false, cond, List, [], ◌∷◌, ◌++◌, length, map, refl, ap, ap₂, sym, ◌∙◌, subst, Option, Some, None, ◌||◌, ◌&&◌, option_map, Ordering, Less}
use Rattle.std.specs.Prelude.{not, filter, find, is_some, option_to_list, bytes_eq, if◌then◌else◌}
use Rattle.std.specs.List.{list_all, IsDistinct, AllByRecursion as Each}
use Rattle.std.specs.List.Sorted.{IsStrictlySortedBy}
use Rattle.std.specs.Option.{option_or, option_map_or}
use Rattle.std.specs.Map.{lookup, KeepsOthers}
use Rattle.std.specs.Cmp.Lexicographic.{slice_cmp, texts_ties}
use Rattle.std.specs.Ordering.{nat_cmp, is_eq, eq_by_cmp}
use Rattle.std.proofs.lemmas.List.Folds.{find-append, list_all-map}
use Rattle.qm_model.specs.Operations.{Bytes, Operation, update, delete, commit}
use Rattle.qm_model.specs.Keys.{successor, contains_key}
use Rattle.qm_model.specs.Live.{Live, live, live_at, live_of, live_keys, touches}
use Rattle.qm_model.specs.Opening.{same_key as names_key, is_ring}
use Rattle.qm_model.proofs.Pushes.{live_from-push}
use Rattle.qm_model.proofs.Maps.{same_key}
use Rattle.qm_model.proofs.LastWrites.{bytes_same}
use Rattle.qm_model.proofs.KeyOrder.{SameKeys, successor-same, and-both, and-true}
use Rattle.qm_model.proofs.LiveCounts.{live-distinct}
use Rattle.qm_index.proofs.Basics.{bytes-turned}
use Rattle.qm_build.specs.Linked.{next_of, link_of, AreLinks}

-- One more operation.

-- the next key that an operation gives the key that it touches
abbrev pub named_by : Operation → Option (Option Bytes)
named_by (update k v n) = Some n
named_by (delete k) = None
named_by (commit m f) = None

-- a filter that keeps all that the test finds, or none of it
find-filter : (p q : Live → Bool) (b : Bool) → ((e : Live) → p e ≡ true → q e ≡ b) → (es : List Live) → find p (filter q es) ≡ (if b then find p es else None)
find-filter p q true same [] = refl
find-filter p q false same [] = refl
find-filter p q b same (e ∷ es) = cases (p e) (q e) b refl (same e) (find-filter p q b same es)
  where
    cases : (t u c : Bool) → p e ≡ t → (t ≡ true → u ≡ c) → find p (filter q es) ≡ (if c then find p es else None) →
        find p (cond u (e ∷ filter q es) (filter q es)) ≡ (if c then cond t (Some e) (find p es) else None)
    cases true true true at is later = ap (λ x. cond x (Some e) (find p (filter q es))) at
    cases true true false at is later = let no : true ≡ false = is refl in cc
    cases true false true at is later = let no : false ≡ true = is refl in cc
    cases true false false at is later = later
    cases false true true at is later = ap (λ x. cond x (Some e) (find p (filter q es))) at ∙ later
    cases false true false at is later = ap (λ x. cond x (Some e) (find p (filter q es))) at ∙ later
    cases false false true at is later = later
    cases false false false at is later = later

-- what is found after an operation that touches the key (t) or does not
found : (t : Bool) (before tail : Option Live) (o : Option (Option Bytes)) → option_map (λ e. e.next) tail ≡ (if t then o else None) →
    option_map (λ e. e.next) (option_or (if not t then before else None) tail) ≡ (if t then o else option_map (λ e. e.next) before)
found true before tail o h = h
found false None tail o h = h
found false (Some e) tail o h = refl

found_last : (i : ℕ) (op : Operation) (key : Bytes) → option_map (λ e. e.next) (live_of (option_to_list (live_at i op [])) key) ≡ (if touches key op then named_by op else None)
found_last i (update k v n) key = cases (bytes_eq k key)
  where
    cases : (t : Bool) → option_map (λ (e : Live). e.next) (cond t (Some (record { location = i; key = k; value = v; next = n })) None) ≡ (if t then Some n else None)
    cases true = refl
    cases false = refl
found_last i (delete k) key = cases (bytes_eq k key)
  where
    cases : (t : Bool) → ◌≡◌ {A = Option (Option Bytes)} None (if t then None else None)
    cases true = refl
    cases false = refl
found_last i (commit m f) key = refl

-- the next key of a key after one more operation
next_of-push : (ops : List Operation) (op : Operation) (key : Bytes) → next_of (ops ++ op ∷ []) key ≡ (if touches key op then named_by op else next_of ops key)
next_of-push ops op key =
    let p : Live → Bool = λ e. bytes_eq e.key key in
    let q : Live → Bool = λ e. not (touches e.key op) in
    let last : List Live = option_to_list (live_at (0 + length ops) op []) in
    ap (λ es. option_map (λ e. e.next) (find p es)) (live_from-push 0 ops op)
    ∙ ap (option_map (λ e. e.next)) (find-append p (filter q (live ops)) last)
    ∙ ap (λ o. option_map (λ e. e.next) (option_or o (find p last))) (find-filter p q (not (touches key op)) (λ x is. ap (λ k. not (touches k op)) (same_key x.key key is)) (live ops))
    ∙ found (touches key op) (find p (live ops)) (find p last) (named_by op) (found_last (0 + length ops) op key)

module _ {K : Type 0} (bytes : K → Bytes) where
  abbrev at_key : Bytes → K → Bool
  at_key key k = is_eq (slice_cmp nat_cmp key (bytes k))

  abbrev pub by_bytes : K → K → Ordering
  by_bytes a b = slice_cmp nat_cmp (bytes a) (bytes b)

  at-same : (key : Bytes) (k : K) → at_key key k ≡ bytes_eq key (bytes k)
  at-same key k = sym (texts_ties key (bytes k))

  -- no operations have no links
  pub links-none : (es : List (K × Option K)) → es ≡ [] → AreLinks bytes es []
  links-none es none = λ key. ap (λ es. link_of bytes es key) none

  -- one operation more, which touches a key, takes its link
  pub links-more : (old new : List (K × Option K)) (ops : List Operation) (op : Operation) (key : Bytes) (link : Option (Option K)) →
      ((q : Bytes) → touches q op ≡ bytes_eq key q) → option_map (option_map bytes) link ≡ named_by op →
      lookup (λ k. is_eq (slice_cmp nat_cmp key (bytes k))) new ≡ link → KeepsOthers (eq_by_cmp by_bytes) (λ k. is_eq (slice_cmp nat_cmp key (bytes k))) old new →
      AreLinks bytes old ops → AreLinks bytes new (ops ++ op ∷ [])
  unfolding KeepsOthers
  links-more old new ops op key link touch names here others are = λ q. by q (bytes_eq key q) refl
    where
      by : (q : Bytes) (t : Bool) → bytes_eq key q ≡ t → link_of bytes new q ≡ next_of (ops ++ op ∷ []) q
      by q true is =
          let same : key ≡ q = same_key key q is in
          ap (link_of bytes new) (sym same) ∙ ap (option_map (option_map bytes)) here ∙ names
          ∙ sym (next_of-push ops op q ∙ ap (λ t. if t then named_by op else next_of ops q) (touch q ∙ is))
      by q false is =
          ap (option_map (option_map bytes))
          (others (at_key q)
          (λ x y h. ap (λ z. is_eq (slice_cmp nat_cmp z (bytes y))) (same_key q (bytes x) (sym (at-same q x) ∙ h)))
          (λ k h. at-same q k ∙ ap (bytes_eq q) (sym (same_key key (bytes k) (sym (at-same key k) ∙ h))) ∙ bytes-turned q key ∙ is))
          ∙ are q
          ∙ sym (next_of-push ops op q ∙ ap (λ t. if t then named_by op else next_of ops q) (touch q ∙ is))

  -- a commit changes no link
  pub links-commit : (es : List (K × Option K)) (ops : List Operation) (m : Option Bytes) (f : ℕ) → AreLinks bytes es ops → AreLinks bytes es (ops ++ commit m f ∷ [])
  links-commit es ops m f are = λ q. are q ∙ sym (next_of-push ops (commit m f) q)

-- Keys, each with a next one.

abbrev Pair : Type 0
Pair = Bytes × Option Bytes

abbrev beside : List Pair → Bytes → Option (Option Bytes)
beside xs q = lookup (λ k. bytes_eq k q) xs

abbrev keys_in : List Pair → List Bytes
keys_in xs = map (λ p. p.0) xs

-- a key names the next of some keys
abbrev is_named : List Bytes → Pair → Bool
is_named keys p = option_map_or (names_key p.1) (successor keys p.0) false

keys-beside : (xs : List Pair) (q : Bytes) → contains_key (keys_in xs) q ≡ is_some (beside xs q)
keys-beside [] q = refl
keys-beside (x ∷ xs) q = cases (bytes_eq x.0 q) (keys-beside xs q)
  where
    cases : (t : Bool) → contains_key (keys_in xs) q ≡ is_some (beside xs q) → (t || contains_key (keys_in xs) q) ≡ is_some (cond t (Some x.1) (beside xs q))
    cases true h = refl
    cases false h = h

all-same : (xs : List Pair) (keys others : List Bytes) → SameKeys keys others → list_all (is_named keys) xs ≡ list_all (is_named others) xs
all-same [] keys others same = refl
all-same (x ∷ xs) keys others same = ap₂ (λ a b. a && b) (ap (λ o. option_map_or (names_key x.1) o false) (successor-same keys others x.0 same)) (all-same xs keys others same)

module _ (p : Pair → Bool) where
  -- what holds of all holds of what is found
  all-beside : (xs : List Pair) → list_all p xs ≡ true → (q : Bytes) (n : Option Bytes) → beside xs q ≡ Some n → p (q, n) ≡ true
  all-beside [] all q n is = cc
  all-beside (x ∷ xs) all q n is =
      let parts = and-true (p x) (list_all p xs) all in
      by parts.0 (all-beside xs parts.1 q n) (bytes_eq x.0 q) refl is
    where
      by : p x ≡ true → (beside xs q ≡ Some n → p (q, n) ≡ true) → (t : Bool) → bytes_eq x.0 q ≡ t → cond t (Some x.1) (beside xs q) ≡ Some n → p (q, n) ≡ true
      by here later true at is =
          let key : x.0 ≡ q = same_key x.0 q at in
          let next : x.1 ≡ n = cc in
          ap p (ap₂ (λ k m. (k, m)) (sym key) (sym next)) ∙ here
      by here later false at is = later is

  out : (k q : Bytes) (n : Option Bytes) (xs : List Pair) → Each (λ x. bytes_eq k x ≡ false) (keys_in xs) → beside xs q ≡ Some n → bytes_eq k q ≡ false
  out k q n [] h is = cc
  out k q n (x ∷ xs) h is = by (out k q n xs h.1) (bytes_eq x.0 q) refl is
    where
      by : (beside xs q ≡ Some n → bytes_eq k q ≡ false) → (t : Bool) → bytes_eq x.0 q ≡ t → cond t (Some x.1) (beside xs q) ≡ Some n → bytes_eq k q ≡ false
      by later true at is = ap (bytes_eq k) (sym (same_key x.0 q at)) ∙ h.0
      by later false at is = later is

  -- and the other way round, if no key stands twice
  beside-all : (xs : List Pair) → IsDistinct bytes_eq (keys_in xs) → ((q : Bytes) (n : Option Bytes) → beside xs q ≡ Some n → p (q, n) ≡ true) → list_all p xs ≡ true
  unfolding IsDistinct
  beside-all [] distinct each = refl
  beside-all (x ∷ xs) distinct each =
      and-both (p x) (list_all p xs)
      (each x.0 x.1 (ap (λ t. cond t (Some x.1) (beside xs x.0)) (bytes_same x.0)))
      (beside-all xs distinct.1 (λ q n is. each q n (ap (λ t. cond t (Some x.1) (beside xs q)) (out x.0 q n xs distinct.0 is) ∙ is)))

same-bool : (a b : Bool) → (a ≡ true → b ≡ true) → (b ≡ true → a ≡ true) → a ≡ b
same-bool true b there back = sym (there refl)
same-bool false true there back = back refl
same-bool false false there back = refl

-- pairs that have the same beside each key all name the next one, or not
ring-same : (xs ys : List Pair) → IsDistinct bytes_eq (keys_in xs) → IsDistinct bytes_eq (keys_in ys) → ((q : Bytes) → beside xs q ≡ beside ys q) → list_all (is_named (keys_in xs)) xs ≡ list_all (is_named (keys_in ys)) ys
ring-same xs ys dx dy same =
    let p = is_named (keys_in ys) in
    all-same xs (keys_in xs) (keys_in ys) (λ q. keys-beside xs q ∙ ap is_some (same q) ∙ sym (keys-beside ys q))
    ∙ same-bool (list_all p xs) (list_all p ys)
    (λ all. beside-all p ys dy (λ q n is. all-beside p xs all q n (same q ∙ is)))
    (λ all. beside-all p xs dx (λ q n is. all-beside p ys all q n (sym (same q) ∙ is)))

-- the pairs of live updates

abbrev live_pair : Live → Pair
live_pair e = (e.key, e.next)

live-keys : (es : List Live) → keys_in (map live_pair es) ≡ map (λ e. e.key) es
live-keys [] = refl
live-keys (e ∷ es) = ap (λ ks. e.key ∷ ks) (live-keys es)

live-beside : (es : List Live) (q : Bytes) → option_map (λ e. e.next) (live_of es q) ≡ beside (map live_pair es) q
live-beside [] q = refl
live-beside (e ∷ es) q = cases (bytes_eq e.key q) (live-beside es q)
  where
    cases : (t : Bool) → option_map (λ (e : Live). e.next) (live_of es q) ≡ beside (map live_pair es) q → option_map (λ (e : Live). e.next) (cond t (Some e) (live_of es q)) ≡ cond t (Some e.next) (beside (map live_pair es) q)
    cases true h = refl
    cases false h = h

live-ring : (ops : List Operation) → list_all (is_named (keys_in (map live_pair (live ops)))) (map live_pair (live ops)) ≡ is_ring ops
live-ring ops =
    ap (λ keys. list_all (is_named keys) (map live_pair (live ops))) (live-keys (live ops))
    ∙ list_all-map (is_named (live_keys ops)) live_pair (live ops)

-- and those of entries

module _ {K : Type 0} (bytes : K → Bytes) where
  abbrev entry_pair : K × Option K → Pair
  entry_pair e = (bytes e.0, option_map bytes e.1)

  -- a key's entry names the next of some keys
  abbrev pub is_next : List Bytes → K × Option K → Bool
  is_next keys e = option_map_or (names_key (option_map bytes e.1)) (successor keys (bytes e.0)) false

  -- and so it does if that is the key after it
  pub next-named : (keys : List Bytes) (e : K × Option K) (behind : Option Bytes) (t : Bool) → behind ≡ successor keys (bytes e.0) → t ≡ option_map_or (names_key (option_map bytes e.1)) behind false → is_next keys e ≡ t
  next-named keys e behind t is here = ap (λ o. option_map_or (names_key (option_map bytes e.1)) o false) (sym is) ∙ sym here

  entry-keys : (es : List (K × Option K)) → keys_in (map entry_pair es) ≡ map (λ e. bytes e.0) es
  entry-keys [] = refl
  entry-keys (e ∷ es) = ap (λ ks. bytes e.0 ∷ ks) (entry-keys es)

  entry-beside : (es : List (K × Option K)) (q : Bytes) → link_of bytes es q ≡ beside (map entry_pair es) q
  entry-beside [] q = refl
  entry-beside (e ∷ es) q =
      ap (λ t. option_map (option_map bytes) (cond t (Some e.1) (lookup (λ k. is_eq (slice_cmp nat_cmp q (bytes k))) es))) (sym (texts_ties q (bytes e.0)) ∙ bytes-turned q (bytes e.0))
      ∙ cases (bytes_eq (bytes e.0) q) (entry-beside es q)
    where
      cases : (t : Bool) → link_of bytes es q ≡ beside (map entry_pair es) q →
          option_map (option_map bytes) (cond t (Some e.1) (lookup (λ k. is_eq (slice_cmp nat_cmp q (bytes k))) es)) ≡ cond t (Some (option_map bytes e.1)) (beside (map entry_pair es) q)
      cases true h = refl
      cases false h = h

  entry-distinct : (es : List (K × Option K)) → IsStrictlySortedBy (λ a b. slice_cmp nat_cmp (bytes a) (bytes b)) (map (λ e. e.0) es) → IsDistinct bytes_eq (keys_in (map entry_pair es))
  unfolding IsDistinct IsStrictlySortedBy
  entry-distinct [] sorted = tt
  entry-distinct (e ∷ es) sorted = (each es sorted.0, entry-distinct es sorted.1)
    where
      each : (us : List (K × Option K)) → Each (λ b. slice_cmp nat_cmp (bytes e.0) (bytes b) ≡ Less) (map (λ e. e.0) us) → Each (λ x. bytes_eq (bytes e.0) x ≡ false) (keys_in (map entry_pair us))
      each [] h = tt
      each (u ∷ us) h = (texts_ties (bytes e.0) (bytes u.0) ∙ ap is_eq h.0, each us h.1)

  -- the links of a list form a ring if its live updates do
  pub links-ring : (es : List (K × Option K)) (ops : List Operation) → IsStrictlySortedBy (λ a b. slice_cmp nat_cmp (bytes a) (bytes b)) (map (λ e. e.0) es) → AreLinks bytes es ops →
      list_all (is_next (map (λ e. bytes e.0) es)) es ≡ is_ring ops
  links-ring es ops sorted are =
      sym (list_all-map (is_named (map (λ e. bytes e.0) es)) entry_pair es)
      ∙ ap (λ keys. list_all (is_named keys) (map entry_pair es)) (sym (entry-keys es))
      ∙ ring-same (map entry_pair es) (map live_pair (live ops)) (entry-distinct es sorted) (subst (IsDistinct bytes_eq) (sym (live-keys (live ops))) (live-distinct ops))
      (λ q. sym (entry-beside es q) ∙ are q ∙ live-beside (live ops) q)
      ∙ live-ring ops
