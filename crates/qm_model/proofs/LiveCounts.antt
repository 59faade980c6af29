-- How many keys are live: no key is live twice, and what ordered writes change.
use Rattle.std.proofs.Common.{◌≡◌, ℕ, suc, ◌+◌, ◌*◌, Bool, true, false, List, [], ◌∷◌, ◌++◌, length, map, refl, ap, sym, ◌∙◌, Option, Some, None, ◌||◌, ◌&&◌, arith, length-append}
use Rattle.std.specs.Prelude.{cond, not, filter, filter_map, option_map, option_and_then, is_some, is_none, if◌then◌else◌, bytes_eq}
use Rattle.std.specs.List.{cons_option, AllByRecursion as Each, IsDistinct}
use Rattle.std.proofs.lemmas.List.{length-map}
use Rattle.qm_model.specs.Operations.{Bytes, Operation, update, delete, commit}
use Rattle.qm_model.specs.Live.{Live, live, live_from, live_of, live_keys, touched}
use Rattle.qm_model.specs.Keys.{contains_key, without}
use Rattle.qm_model.specs.Writes.{Write, last_writes, write_of, made_inactive}
use Rattle.qm_model.specs.Ordered.{linked, rewritten, put_of, deleted_keys, updated_keys, created_keys, relinked_keys, ordered_writes}
use Rattle.qm_model.proofs.LastWrites.{bytes_same, last_writes-Rising}
use Rattle.qm_model.proofs.Maps.{same_key}
use Rattle.qm_model.proofs.KeyOrder.{Has, Has-first, Has-later, or-left, or-right, and-true, false-not, apart, contains-filter}
use Rattle.qm_model.proofs.OrderedLists.{Each-all, Each-filter, Single, Rising-single, picked, live-contains}
use Rattle.qm_model.proofs.OrderedWrites.{in_deleted, in_updated, in_created, in_kept, in_relinked, before_them, before_them-kept, rewritten-some, written-keys}
use Rattle.qm_model.proofs.Decisions.{Single-distinct}
use Rattle.qm_model.proofs.KeySorts.{same-length, filter-distinct, append-distinct, filter-length}

-- each live update's key is touched in its list
live-touched : (i : ℕ) (ops : List Operation) → Each (λ e. touched e.key ops ≡ true) (live_from i ops)
live-touched i [] = tt
live-touched i (update k v n ∷ rest) = cases (touched k rest) (Each-all (λ e. touched e.key rest ≡ true) (λ e. (bytes_eq k e.key || touched e.key rest) ≡ true) (λ e h. or-right (bytes_eq k e.key) (touched e.key rest) h) (live_from (suc i) rest) (live-touched (suc i) rest))
  where
    cases : (t : Bool) → Each (λ e. (bytes_eq k e.key || touched e.key rest) ≡ true) (live_from (suc i) rest) →
        Each (λ e. (bytes_eq k e.key || touched e.key rest) ≡ true) (cons_option (if t then None else Some (record { location = i; key = k; value = v; next = n })) (live_from (suc i) rest))
    cases true later = later
    cases false later = (or-left (bytes_eq k k) (touched k rest) (bytes_same k), later)
live-touched i (delete k ∷ rest) = Each-all (λ e. touched e.key rest ≡ true) (λ e. (bytes_eq k e.key || touched e.key rest) ≡ true) (λ e h. or-right (bytes_eq k e.key) (touched e.key rest) h) (live_from (suc i) rest) (live-touched (suc i) rest)
live-touched i (commit m f ∷ rest) = live-touched (suc i) rest

untouched-differs : (k : Bytes) (rest : List Operation) → touched k rest ≡ false → (es : List Live) → Each (λ e. touched e.key rest ≡ true) es → Each (λ x. bytes_eq k x ≡ false) (map (λ e. e.key) es)
untouched-differs k rest none [] h = tt
untouched-differs k rest none (e ∷ es) h =
    (false-not (bytes_eq k e.key) (λ same. apart (touched k rest) (ap (λ x. touched x rest) (same_key k e.key same) ∙ h.0) none), untouched-differs k rest none es h.1)

live_from-distinct : (i : ℕ) (ops : List Operation) → IsDistinct bytes_eq (map (λ e. e.key) (live_from i ops))
unfolding IsDistinct
live_from-distinct i [] = tt
live_from-distinct i (update k v n ∷ rest) = cases (touched k rest) refl (live_from-distinct (suc i) rest)
  where
    cases : (t : Bool) → touched k rest ≡ t → IsDistinct bytes_eq (map (λ (e : Live). e.key) (live_from (suc i) rest)) →
        IsDistinct bytes_eq (map (λ (e : Live). e.key) (cons_option (if t then None else Some (record { location = i; key = k; value = v; next = n })) (live_from (suc i) rest)))
    cases true at later = later
    cases false at later = (untouched-differs k rest at (live_from (suc i) rest) (live-touched (suc i) rest), later)
live_from-distinct i (delete k ∷ rest) = live_from-distinct (suc i) rest
live_from-distinct i (commit m f ∷ rest) = live_from-distinct (suc i) rest

-- no key is live twice
pub live-distinct : (ops : List Operation) → IsDistinct bytes_eq (live_keys ops)
live-distinct ops = live_from-distinct 0 ops

Single-filter : (t : Write → Bool) (ws : List Write) → Single ws → Single (filter t ws)
Single-filter t [] h = tt
Single-filter t (w ∷ ws) h = cases (t w) (Single-filter t ws h.1)
  where
    cases : (b : Bool) → Single (filter t ws) → Single (cond b (w ∷ filter t ws) (filter t ws))
    cases true later = (Each-filter (λ u. bytes_eq u.key w.key ≡ false) t ws (Each-all (λ u. bytes_eq u.key w.key ≡ false) (λ u. t u ≡ true → bytes_eq u.key w.key ≡ false) (λ u k _. k) ws h.0), later)
    cases false later = later

picked-live : (p : Option Bytes → Bool) (o : Option Write) (l : Option Live) → picked p is_some o l ≡ true → is_some l ≡ true
picked-live p None l h = absurd (cc)
picked-live p (Some w) l h = (and-true (p w.value) (is_some l) h).1

picked-new : (p : Option Bytes → Bool) (o : Option Write) (l : Option Live) → picked p is_none o l ≡ true → is_some l ≡ false
picked-new p None l h = absurd (cc)
picked-new p (Some w) l h = none l (and-true (p w.value) (is_none l) h).1
  where
    none : (l : Option Live) → is_none l ≡ true → is_some l ≡ false
    none None h = refl
    none (Some e) h = absurd (cc)

-- the keys that are live after ordered writes are those before, without the deleted ones and with the created ones
pub ordered-count : (ops : List Operation) (ws : List Write) → let deleted = deleted_keys (live ops) (last_writes ws) in let created = created_keys (live ops) (last_writes ws) in
    length (live (ops ++ ordered_writes ops ws)) + length deleted ≡ length (live ops) + length created
ordered-count ops ws =
    let last = last_writes ws in
    let deleted = deleted_keys (live ops) last in
    let created = created_keys (live ops) last in
    let kept = without deleted (live_keys ops) in
    let hit = filter (contains_key deleted) (live_keys ops) in
    let after = live_keys (ops ++ ordered_writes ops ws) in
    let single : Single last = Rising-single last (last_writes-Rising ws) in
    let deleted_once : IsDistinct bytes_eq deleted = Single-distinct (filter (λ w. is_none w.value && is_some (live_of (live ops) w.key)) last) (Single-filter (λ w. is_none w.value && is_some (live_of (live ops) w.key)) last single) in
    let created_once : IsDistinct bytes_eq created = Single-distinct (filter (λ w. is_some w.value && is_none (live_of (live ops) w.key)) last) (Single-filter (λ w. is_some w.value && is_none (live_of (live ops) w.key)) last single) in
    let kept_once : IsDistinct bytes_eq kept = filter-distinct (λ k. not (contains_key deleted k)) (live_keys ops) (live-distinct ops) in
    let fresh : (x : Bytes) → Has kept x → contains_key created x ≡ false =
    λ x h. false-not (contains_key created x) (λ new.
    apart (contains_key (live_keys ops) x) (and-true (contains_key (live_keys ops) x) (not (contains_key deleted x)) (sym (in_kept ops ws x) ∙ h)).0
    (live-contains (live ops) x ∙ picked-new is_some (write_of last x) (live_of (live ops) x) (sym (in_created ops ws x) ∙ new))) in
    let lives : (x : Bytes) → contains_key deleted x ≡ true → contains_key (live_keys ops) x ≡ true =
    λ x h. live-contains (live ops) x ∙ picked-live is_none (write_of last x) (live_of (live ops) x) (sym (in_deleted ops ws x) ∙ h) in
    let all : length (kept ++ created) ≡ length after = same-length (kept ++ created) after (append-distinct kept created kept_once created_once fresh) (live-distinct (ops ++ ordered_writes ops ws)) (written-keys ops ws) in
    let hits : length hit ≡ length deleted =
    same-length hit deleted (filter-distinct (contains_key deleted) (live_keys ops) (live-distinct ops)) deleted_once (λ x. contains-filter (contains_key deleted) (live_keys ops) x ∙ inside (contains_key (live_keys ops) x) (contains_key deleted x) (lives x)) in
    let whole : length hit + length kept ≡ length (live_keys ops) = filter-length (contains_key deleted) (live_keys ops) in
    omega (arith, length-append kept created, length-map (live ops) (λ (e : Live). e.key), length-map (live (ops ++ ordered_writes ops ws)) (λ (e : Live). e.key))
  where
    inside : (a b : Bool) → (b ≡ true → a ≡ true) → (a && b) ≡ b
    inside true b h = refl
    inside false false h = refl
    inside false true h = h refl

-- as many are made as there are keys, if each key makes one
length-full : {X Y : Type 0} (f : X → Option Y) (xs : List X) → Each (λ x. is_some (f x) ≡ true) xs → length (filter_map f xs) ≡ length xs
length-full f [] h = refl
length-full f (x ∷ xs) h = cases (f x) h.0 (length-full f xs h.1)
  where
    cases : (o : Option _) → is_some o ≡ true → length (filter_map f xs) ≡ length xs → length (cons_option o (filter_map f xs)) ≡ suc (length xs)
    cases None some later = absurd (cc)
    cases (Some y) some later = ap suc later

Each-key : (P : Bytes → Type 0) (keys : List Bytes) → ((x : Bytes) → Has keys x → P x) → Each P keys
Each-key P [] h = tt
Each-key P (k ∷ ks) h = (h k (Has-first k ks), Each-key P ks (λ x at. h x (Has-later k ks x at)))

given-some : (q : Option Live → Bool) (o : Option Write) (l : Option Live) (key : Bytes) → picked is_some q o l ≡ true → is_some (option_map (λ value. update key value None) (option_and_then (λ w. w.value) o)) ≡ true
given-some q None l key h = absurd (cc)
given-some q (Some w) l key h = cases w.value (and-true (is_some w.value) (q l) h).0
  where
    cases : (v : Option Bytes) → is_some v ≡ true → is_some (option_map (λ value. update key value None) v) ≡ true
    cases None h = absurd (cc)
    cases (Some x) h = refl

-- ordered writes make inactive: a delete itself and the update before it, and each update that is written anew
pub ordered-inactive : (ops : List Operation) (ws : List Write) → let last = last_writes ws in
    made_inactive ops (ordered_writes ops ws) ≡ 2 * length (deleted_keys (live ops) last) + length (updated_keys (live ops) last) + length (relinked_keys (live ops) last)
ordered-inactive ops ws =
    let last = last_writes ws in
    let deleted = deleted_keys (live ops) last in
    let updated = updated_keys (live ops) last in
    let created = created_keys (live ops) last in
    let again = relinked_keys (live ops) last in
    let ds = map delete deleted in
    let us = filter_map (put_of last) updated in
    let cs = filter_map (put_of last) created in
    let bs = filter_map (rewritten (live ops)) again in
    let u : length us ≡ length updated =
    length-full (put_of last) updated (Each-key (λ x. is_some (put_of last x) ≡ true) updated (λ x at. given-some is_some (write_of last x) (live_of (live ops) x) x (sym (in_updated ops ws x) ∙ at))) in
    let c : length cs ≡ length created =
    length-full (put_of last) created (Each-key (λ x. is_some (put_of last x) ≡ true) created (λ x at. given-some is_none (write_of last x) (live_of (live ops) x) x (sym (in_created ops ws x) ∙ at))) in
    let b : length bs ≡ length again =
    length-full (rewritten (live ops)) again (Each-key (λ x. is_some (rewritten (live ops) x) ≡ true) again (λ x at.
    let before = (and-true (contains_key (before_them ops ws) x) (not (contains_key updated x)) (sym (in_relinked ops ws x) ∙ at)).0 in
    let lives = (and-true (contains_key (live_keys ops) x) (not (contains_key deleted x)) (sym (in_kept ops ws x) ∙ before_them-kept ops ws x before)).0 in
    ap is_some (rewritten-some (live ops) x lives).1)) in
    let all : length (ordered_writes ops ws) ≡ length (ds ++ us ++ cs ++ bs) = length-map (ds ++ us ++ cs ++ bs) (linked (without deleted (live_keys ops) ++ created)) in
    omega (arith, ordered-count ops ws, all, u, c, b, length-map deleted delete, length-append (ds ++ us ++ cs) bs, length-append (ds ++ us) cs, length-append ds us)
