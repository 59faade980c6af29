-- Places and bits of operations, and what one more operation makes of them.
use Rattle.std.proofs.Common.{◌≡◌, ℕ, suc, ◌+◌, ◌-◌, ◌≤◌, Bool, true, false, cond, List, [], ◌∷◌, ◌++◌, length, map, set, refl, ap, ap₂, sym, ◌∙◌, subst, Option, Some, None, arith, ◌||◌, append-nil, length-append}
use Rattle.std.specs.Prelude.{not, filter, option_map, bytes_eq, is_some, if◌then◌else◌, IfSome}
use Rattle.std.specs.Bool.{then_some}
use Rattle.std.specs.List.{cons_option, AllByRecursion as Each}
use Rattle.std.proofs.lemmas.List.{map-append}
use Rattle.std.proofs.lemmas.List.Folds.{list_any-append}
use Rattle.qm_model.specs.Operations.{Bytes, Operation, update, delete, commit}
use Rattle.qm_model.specs.Live.{Live, live_from, touches, touched}
use Rattle.qm_model.proofs.Pushes.{live_from-push, live_from-within, Within}
use Rattle.qm_operations.specs.Parts.{key_of, is_update}
use Rattle.qm_index.specs.Places.{Places, AreApart, place_of, without, moved}
use Rattle.qm_index.proofs.Basics.{bytes-turned}
use Rattle.qm_index.proofs.Placing.{place_of-cons, without-cons, without-other, without-none}
use Rattle.qm_model.proofs.Maps.{same_key}
use Rattle.qm_build.specs.Building.{places_from, live_bits, cleared, counted_after}

abbrev pub pairs : List Live → Places
pairs es = map (λ e. (e.key, e.location)) es

-- Places.

pairs-without : (key : Bytes) (es : List Live) → pairs (filter (λ e. not (bytes_eq key e.key)) es) ≡ without key (pairs es)
pairs-without key [] = refl
pairs-without key (e ∷ es) =
    ap (λ t. pairs (cond (not t) (e ∷ filter (λ u. not (bytes_eq key u.key)) es) (filter (λ u. not (bytes_eq key u.key)) es))) (bytes-turned key e.key) ∙ by (bytes_eq e.key key) (pairs-without key es)
  where
    by : (t : Bool) → pairs (filter (λ (u : Live). not (bytes_eq key u.key)) es) ≡ without key (pairs es) → pairs (cond (not t) (e ∷ filter (λ (u : Live). not (bytes_eq key u.key)) es) (filter (λ (u : Live). not (bytes_eq key u.key)) es)) ≡ cond (not t) ((e.key, e.location) ∷ without key (pairs es)) (without key (pairs es))
    by true later = later
    by false later = ap (λ ps. (e.key, e.location) ∷ ps) later

all-kept : (es : List Live) → filter (λ e. true) es ≡ es
all-kept [] = refl
all-kept (e ∷ es) = ap (λ us. e ∷ us) (all-kept es)

-- where an operation leaves its key
abbrev pub left_at : Operation → ℕ → Option ℕ
left_at op at = then_some (is_update op) at

pub places-push : (first : ℕ) (ops : List Operation) (op : Operation) (key : Bytes) → key_of op ≡ Some key → places_from first (ops ++ op ∷ []) ≡ moved (places_from first ops) key (left_at op (first + length ops))
places-push first ops (update k v n) key is =
    let same : k ≡ key = cc in
    ap pairs (live_from-push first ops (update k v n))
    ∙ map-append (λ (e : Live). (e.key, e.location)) (filter (λ e. not (bytes_eq k e.key)) (live_from first ops)) (record { location = first + length ops; key = k; value = v; next = n } ∷ [])
    ∙ ap (λ ps. ps ++ (k, first + length ops) ∷ []) (pairs-without k (live_from first ops))
    ∙ ap (λ x. without x (places_from first ops) ++ (x, first + length ops) ∷ []) same
places-push first ops (delete k) key is =
    let same : k ≡ key = cc in
    ap pairs (live_from-push first ops (delete k))
    ∙ ap pairs (append-nil (filter (λ e. not (bytes_eq k e.key)) (live_from first ops)))
    ∙ pairs-without k (live_from first ops)
    ∙ ap (λ x. without x (places_from first ops)) same
places-push first ops (commit m f) key is = cc

pub places-commit : (first : ℕ) (ops : List Operation) (op : Operation) → key_of op ≡ None → places_from first (ops ++ op ∷ []) ≡ places_from first ops
places-commit first ops (update k v n) none = cc
places-commit first ops (delete k) none = cc
places-commit first ops (commit m f) none = ap pairs (live_from-push first ops (commit m f) ∙ append-nil (filter (λ e. true) (live_from first ops)) ∙ all-kept (live_from first ops))

-- How many there are.

length-taken : (key : Bytes) (at : ℕ) (ps : Places) → AreApart ps → place_of ps key ≡ Some at → suc (length (without key ps)) ≡ length ps
length-taken key at [] apart h = cc
length-taken key at (p ∷ ps) apart h = by (bytes_eq p.0 key) refl (sym (place_of-cons p ps key) ∙ h) (length-taken key at ps apart.1)
  where
    by : (t : Bool) → bytes_eq p.0 key ≡ t → cond (bytes_eq p.0 key) (Some p.1) (place_of ps key) ≡ Some at → (place_of ps key ≡ Some at → suc (length (without key ps)) ≡ length ps) → suc (length (without key (p ∷ ps))) ≡ length (p ∷ ps)
    by true is found later = ap (λ us. suc (length us)) (without-cons key p ps true is ∙ without-other key ps (subst (λ k. Each (λ u. bytes_eq u.0 k ≡ false) ps) (same_key p.0 key is) apart.0))
    by false is found later = ap (λ us. suc (length us)) (without-cons key p ps false is) ∙ ap suc (later (sym (ap (λ b. cond b (Some p.1) (place_of ps key)) is) ∙ found))

pub length-moved : (ps : Places) (key : Bytes) (before : Option ℕ) (op : Operation) (at : ℕ) → AreApart ps → place_of ps key ≡ before → counted_after (length ps) before (is_update op) ≡ length (moved ps key (left_at op at))
length-moved ps key before op at apart stood = by (is_update op) before stood
  where
    by : (t : Bool) (before : Option ℕ) → place_of ps key ≡ before → counted_after (length ps) before t ≡ length (moved ps key (then_some t at))
    by true None stood = let long = length-append (without key ps) ((key, at) ∷ []) in let same = ap length (without-none key ps stood) in omega (arith, long, same)
    by false None stood = ap length (sym (without-none key ps stood))
    by true (Some b) stood = let long = length-append (without key ps) ((key, at) ∷ []) in let one = length-taken key b ps apart stood in omega (arith, long, one)
    by false (Some b) stood = let one = length-taken key b ps apart stood in omega (arith, one)

-- Bits.

-- a key that stands is touched, and stands at one of the operations
none-touched : (key : Bytes) (first : ℕ) (ops : List Operation) → touched key ops ≡ false → place_of (places_from first ops) key ≡ None
none-touched key first [] none = refl
none-touched key first (update k v n ∷ rest) none = by (bytes_eq k key) refl (touched k rest) (touched key rest) refl none (none-touched key (suc first) rest)
  where
    by : (t : Bool) → bytes_eq k key ≡ t → (u w : Bool) → touched key rest ≡ w → (t || w) ≡ false → (touched key rest ≡ false → place_of (places_from (suc first) rest) key ≡ None)
        → place_of (pairs (cons_option (if u then None else Some (record { location = first; key = k; value = v; next = n })) (live_from (suc first) rest))) key ≡ None
    by true is u w rest_is none later = cc
    by false is true w rest_is none later = later (rest_is ∙ none)
    by false is false w rest_is none later = place_of-cons (k, first) (places_from (suc first) rest) key ∙ ap (λ t. cond t (Some first) (place_of (places_from (suc first) rest) key)) is ∙ later (rest_is ∙ none)
none-touched key first (delete k ∷ rest) none = by (bytes_eq k key) none (none-touched key (suc first) rest)
  where
    by : (t : Bool) → (t || touched key rest) ≡ false → (touched key rest ≡ false → place_of (places_from (suc first) rest) key ≡ None) → place_of (places_from (suc first) rest) key ≡ None
    by true none later = cc
    by false none later = later none
none-touched key first (commit m f ∷ rest) none = none-touched key (suc first) rest none

-- each stands at one of the operations
places-within : (first n : ℕ) (es : List Live) (key : Bytes) → Each (Within first n) es → IfSome (place_of (pairs es) key) (λ at. first ≤ at)
places-within first n [] key within = tt
places-within first n (e ∷ es) key within = subst (λ o. IfSome o (λ at. first ≤ at)) (sym (place_of-cons (e.key, e.location) (pairs es) key)) (by (bytes_eq e.key key) (places-within first n es key within.1))
  where
    by : (t : Bool) → IfSome (place_of (pairs es) key) (λ at. first ≤ at) → IfSome (cond t (Some e.location) (place_of (pairs es) key)) (λ at. first ≤ at)
    by true later = (within.0).0
    by false later = later

places-from : (first : ℕ) (ops : List Operation) (key : Bytes) → IfSome (place_of (places_from first ops) key) (λ at. first ≤ at)
places-from first ops key = places-within first (length ops) (live_from first ops) key (live_from-within first ops)

-- counted from the first operation
abbrev pub offset : ℕ → Option ℕ → Option ℕ
offset first place = option_map (λ at. at - first) place

-- one operation before the others
offset-later : (b : Bool) (bits : List Bool) (first : ℕ) (place : Option ℕ) → IfSome place (λ at. suc first ≤ at) → cleared (b ∷ bits) (offset first place) ≡ b ∷ cleared bits (offset (suc first) place)
offset-later b bits first None from = refl
offset-later b bits first (Some at) from = let next : at - first ≡ suc (at - suc first) = omega (arith, from) in ap (λ i. set (b ∷ bits) i false) next

last-bit : (op : Operation) → live_bits (op ∷ []) ≡ is_update op ∷ []
last-bit (update k v n) = refl
last-bit (delete k) = refl
last-bit (commit m f) = refl

touches-own : (op : Operation) (key k : Bytes) → key_of op ≡ Some key → touches k op ≡ bytes_eq key k
touches-own (update x v n) key k is = let same : x ≡ key = cc in ap (λ y. bytes_eq y k) same
touches-own (delete x) key k is = let same : x ≡ key = cc in ap (λ y. bytes_eq y k) same
touches-own (commit m f) key k is = cc

or-false : (t : Bool) → (t || false) ≡ t
or-false true = refl
or-false false = refl

abbrev update_at : ℕ → Bytes → Bytes → Option Bytes → Live
update_at i k v n = record { location = i; key = k; value = v; next = n }

pub bits-push : (first : ℕ) (ops : List Operation) (op : Operation) (key : Bytes) → key_of op ≡ Some key → live_bits (ops ++ op ∷ []) ≡ cleared (live_bits ops) (offset first (place_of (places_from first ops) key)) ++ is_update op ∷ []
bits-push first [] op key is = last-bit op
bits-push first (update k v n ∷ rest) op key is =
    ap (λ t. is_some {T = Live} (if t then None else Some (update_at 0 k v n)) ∷ live_bits (rest ++ op ∷ []))
    (list_any-append (touches k) rest (op ∷ []) ∙ ap (λ t. touched k rest || t) (or-false (touches k op) ∙ touches-own op key k is ∙ bytes-turned key k))
    ∙ ap (λ bs. is_some {T = Live} (if (touched k rest || bytes_eq k key) then None else Some (update_at 0 k v n)) ∷ bs) (bits-push (suc first) rest op key is)
    ∙ by (touched k rest) refl (bytes_eq k key) refl
  where
    by : (t : Bool) → touched k rest ≡ t → (u : Bool) → bytes_eq k key ≡ u
        → is_some {T = Live} (if (t || u) then None else Some (update_at 0 k v n)) ∷ (cleared (live_bits rest) (offset (suc first) (place_of (places_from (suc first) rest) key)) ++ is_update op ∷ [])
        ≡ cleared (is_some {T = Live} (if t then None else Some (update_at 0 k v n)) ∷ live_bits rest) (offset first (place_of (pairs (cons_option (if t then None else Some (update_at first k v n)) (live_from (suc first) rest))) key)) ++ is_update op ∷ []
    by true again u same = ap (λ bs. bs ++ is_update op ∷ []) (sym (offset-later false (live_bits rest) first (place_of (places_from (suc first) rest) key) (places-from (suc first) rest key)))
    by false again true same =
        let none = none-touched key (suc first) rest (ap (λ x. touched x rest) (sym (same_key k key same)) ∙ again) in
        let here : offset first (place_of ((k, first) ∷ places_from (suc first) rest) key) ≡ Some (first - first) = ap (offset first) (place_of-cons (k, first) (places_from (suc first) rest) key ∙ ap (λ t. cond t (Some first) (place_of (places_from (suc first) rest) key)) same) in
        let start : first - first ≡ 0 = omega arith in
        ap (λ o. false ∷ (cleared (live_bits rest) (offset (suc first) o) ++ is_update op ∷ [])) none
        ∙ ap (λ o. cleared (true ∷ live_bits rest) o ++ is_update op ∷ []) (sym (here ∙ ap Some start))
    by false again false same =
        let there : place_of ((k, first) ∷ places_from (suc first) rest) key ≡ place_of (places_from (suc first) rest) key = place_of-cons (k, first) (places_from (suc first) rest) key ∙ ap (λ t. cond t (Some first) (place_of (places_from (suc first) rest) key)) same in
        ap (λ bs. bs ++ is_update op ∷ []) (sym (ap (λ o. cleared (true ∷ live_bits rest) (offset first o)) there ∙ offset-later true (live_bits rest) first (place_of (places_from (suc first) rest) key) (places-from (suc first) rest key)))
bits-push first (delete k ∷ rest) op key is =
    ap (λ bs. false ∷ bs) (bits-push (suc first) rest op key is)
    ∙ ap (λ bs. bs ++ is_update op ∷ []) (sym (offset-later false (live_bits rest) first (place_of (places_from (suc first) rest) key) (places-from (suc first) rest key)))
bits-push first (commit m f ∷ rest) op key is =
    ap (λ bs. false ∷ bs) (bits-push (suc first) rest op key is)
    ∙ ap (λ bs. bs ++ is_update op ∷ []) (sym (offset-later false (live_bits rest) first (place_of (places_from (suc first) rest) key) (places-from (suc first) rest key)))

pub bits-commit : (ops : List Operation) (op : Operation) → key_of op ≡ None → live_bits (ops ++ op ∷ []) ≡ live_bits ops ++ false ∷ []
bits-commit ops (update k v n) none = cc
bits-commit ops (delete k) none = cc
bits-commit [] (commit m f) none = refl
bits-commit (update k v n ∷ rest) (commit m f) none =
    ap₂ (λ t bs. is_some {T = Live} (if t then None else Some (record { location = 0; key = k; value = v; next = n })) ∷ bs) (list_any-append (touches k) rest (commit m f ∷ []) ∙ or-false (touched k rest)) (bits-commit rest (commit m f) none)
bits-commit (delete k ∷ rest) (commit m f) none = ap (λ bs. false ∷ bs) (bits-commit rest (commit m f) none)
bits-commit (commit m g ∷ rest) (commit n f) none = ap (λ bs. false ∷ bs) (bits-commit rest (commit n f) none)
