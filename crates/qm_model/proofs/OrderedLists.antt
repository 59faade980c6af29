-- More operations at the end of a list, whose updates are linked: live updates, values, and the keys of writes.
use Rattle.std.proofs.Common.{◌≡◌, ℕ, suc, ◌+◌, Bool, true, false, cond, List, [], ◌∷◌, ◌++◌, length, map, refl, ap, sym, ◌∙◌, Option, Some, None, ◌||◌, ◌&&◌, inl, inr, arith, subst}
use Rattle.std.specs.Prelude.{not, filter, filter_map, fold, option_map, option_and_then, is_some, if◌then◌else◌, bytes_eq}
use Rattle.std.specs.List.{cons_option, AllByRecursion as Each}
use Rattle.std.specs.Option.{option_or}
use Rattle.std.specs.Cmp.Lexicographic.{slice_cmp}
use Rattle.std.specs.Ordering.{nat_cmp, is_eq}
use Rattle.std.specs.declared.cmp.Ordering.TheVariants.{Less}
use Rattle.std.proofs.lemmas.List.Folds.{list_any-append}
use Rattle.qm_model.specs.Operations.{Bytes, Operation, update, delete, commit}
use Rattle.qm_model.specs.Live.{Live, live, live_from, live_of, live_keys, touches, touched, value_of}
use Rattle.qm_model.specs.Keys.{successor, contains_key, once}
use Rattle.qm_model.specs.Writes.{Write, write_of}
use Rattle.qm_model.specs.Ordered.{linked, rewritten, put_of}
use Rattle.qm_model.proofs.LastWrites.{bytes_apart, Rising}
use Rattle.qm_model.proofs.Maps.{after, after_some, fold-cons, same_key}
use Rattle.qm_model.proofs.KeyOrder.{Has, Has-first, Has-later, Has-either, or-left, or-right, apart}

-- facts of each

pub Each-all : {X : Type 0} (P Q : X → Type 0) → ((x : X) → P x → Q x) → (xs : List X) → Each P xs → Each Q xs
Each-all P Q f [] h = tt
Each-all P Q f (x ∷ xs) h = (f x h.0, Each-all P Q f xs h.1)

pub Each-both : {X : Type 0} (P Q R : X → Type 0) → ((x : X) → P x → Q x → R x) → (xs : List X) → Each P xs → Each Q xs → Each R xs
Each-both P Q R f [] h k = tt
Each-both P Q R f (x ∷ xs) h k = (f x h.0 k.0, Each-both P Q R f xs h.1 k.1)

pub Each-append : {X : Type 0} (P : X → Type 0) (xs ys : List X) → Each P xs → Each P ys → Each P (xs ++ ys)
Each-append P [] ys h k = k
Each-append P (x ∷ xs) ys h k = (h.0, Each-append P xs ys h.1 k)

pub Each-front : {X : Type 0} (P : X → Type 0) (xs ys : List X) → Each P (xs ++ ys) → Each P xs
Each-front P [] ys h = tt
Each-front P (x ∷ xs) ys h = (h.0, Each-front P xs ys h.1)

pub Each-filter : {X : Type 0} (P : X → Type 0) (t : X → Bool) (xs : List X) → Each (λ x. t x ≡ true → P x) xs → Each P (filter t xs)
Each-filter P t [] h = tt
Each-filter P t (x ∷ xs) h = cases (t x) refl (Each-filter P t xs h.1)
  where
    cases : (b : Bool) → t x ≡ b → Each P (filter t xs) → Each P (cond b (x ∷ filter t xs) (filter t xs))
    cases true e later = (h.0 e, later)
    cases false e later = later

pub Each-from_filter : {X : Type 0} (P : X → Type 0) (t : X → Bool) (xs : List X) → Each P (filter t xs) → Each (λ x. t x ≡ true → P x) xs
Each-from_filter P t [] h = tt
Each-from_filter P t (x ∷ xs) h = cases (t x) refl h (Each-from_filter P t xs)
  where
    cases : (b : Bool) → t x ≡ b → Each P (cond b (x ∷ filter t xs) (filter t xs)) → (Each P (filter t xs) → Each (λ x. t x ≡ true → P x) xs) → Each (λ x. t x ≡ true → P x) (x ∷ xs)
    cases true e k later = (λ _. k.0, later k.1)
    cases false e k later = (λ yes. absurd (apart (t x) yes e), later k)

-- the live updates of a list with more at its end: those that it does not touch, and its own

append_update : (a b : Bool) (e : Live) (test : Live → Bool) (xs tail : List Live) → test e ≡ not b →
    cons_option (if a || b then None else Some e) (filter test xs ++ tail) ≡ filter test (cons_option (if a then None else Some e) xs) ++ tail
append_update true b e test xs tail h = refl
append_update false true e test xs tail h = ap (λ t. cond t (e ∷ filter test xs) (filter test xs) ++ tail) (sym h)
append_update false false e test xs tail h = ap (λ t. cond t (e ∷ filter test xs) (filter test xs) ++ tail) (sym h)

pub live_from-append : (i : ℕ) (ops made : List Operation) →
    live_from i (ops ++ made) ≡ filter (λ e. not (touched e.key made)) (live_from i ops) ++ live_from (i + length ops) made
live_from-append i [] made =
    let same : i ≡ i + 0 = omega arith in
    ap (λ j. live_from j made) same
live_from-append i (update k v n ∷ rest) made =
    let e : Live = record { location = i; key = k; value = v; next = n } in
    let test : Live → Bool = λ x. not (touched x.key made) in
    let next : suc i + length rest ≡ i + suc (length rest) = omega arith in
    ap (λ t. cons_option (if t then None else Some e) (live_from (suc i) (rest ++ made))) (list_any-append (touches k) rest made)
    ∙ ap (cons_option (if touched k rest || touched k made then None else Some e)) (live_from-append (suc i) rest made)
    ∙ append_update (touched k rest) (touched k made) e test (live_from (suc i) rest) (live_from (suc i + length rest) made) refl
    ∙ ap (λ j. filter test (cons_option (if touched k rest then None else Some e) (live_from (suc i) rest)) ++ live_from j made) next
live_from-append i (delete k ∷ rest) made =
    let next : suc i + length rest ≡ i + suc (length rest) = omega arith in
    live_from-append (suc i) rest made ∙ ap (λ j. filter (λ e. not (touched e.key made)) (live_from (suc i) rest) ++ live_from j made) next
live_from-append i (commit m f ∷ rest) made =
    let next : suc i + length rest ≡ i + suc (length rest) = omega arith in
    live_from-append (suc i) rest made ∙ ap (λ j. filter (λ e. not (touched e.key made)) (live_from (suc i) rest) ++ live_from j made) next

-- what holds of each live update of the longer list
pub Each-live-append : (P : Live → Type 0) (ops made : List Operation) → Each (λ e. touched e.key made ≡ false → P e) (live ops) → Each P (live_from (0 + length ops) made) → Each P (live (ops ++ made))
Each-live-append P ops made old new =
    subst (Each P) (sym (live_from-append 0 ops made))
    (Each-append P (filter (λ e. not (touched e.key made)) (live ops)) (live_from (0 + length ops) made)
    (Each-filter P (λ e. not (touched e.key made)) (live ops) (Each-all (λ e. touched e.key made ≡ false → P e) (λ e. not (touched e.key made) ≡ true → P e) (λ e h is. h (not-false (touched e.key made) is)) (live ops) old)) new)
  where
    not-false : (a : Bool) → not a ≡ true → a ≡ false
    not-false false p = refl
    not-false true p = cc

pub Each-live-old : (P : Live → Type 0) (ops made : List Operation) → Each P (live (ops ++ made)) → Each (λ e. touched e.key made ≡ false → P e) (live ops)
Each-live-old P ops made h =
    Each-all (λ e. not (touched e.key made) ≡ true → P e) (λ e. touched e.key made ≡ false → P e) (λ e k is. k (ap not is)) (live ops)
    (Each-from_filter P (λ e. not (touched e.key made)) (live ops)
    (Each-front P (filter (λ e. not (touched e.key made)) (live ops)) (live_from (0 + length ops) made) (subst (Each P) (live_from-append 0 ops made) h)))

-- linked updates

touches-linked : (keys : List Bytes) (key : Bytes) (op : Operation) → touches key (linked keys op) ≡ touches key op
touches-linked keys key (update k v n) = refl
touches-linked keys key (delete k) = refl
touches-linked keys key (commit m f) = refl

after-linked : (keys : List Bytes) (key : Bytes) (b : Option Bytes) (op : Operation) → after key b (linked keys op) ≡ after key b op
after-linked keys key b (update k v n) = refl
after-linked keys key b (delete k) = refl
after-linked keys key b (commit m f) = refl

pub touched-linked : (keys : List Bytes) (key : Bytes) (ops : List Operation) → touched key (map (linked keys) ops) ≡ touched key ops
touched-linked keys key [] = refl
touched-linked keys key (op ∷ ops) = ap (λ t. t || touched key (map (linked keys) ops)) (touches-linked keys key op) ∙ ap (λ t. touches key op || t) (touched-linked keys key ops)

pub fold-linked : (keys : List Bytes) (key : Bytes) (b : Option Bytes) (ops : List Operation) → fold (after key) b (map (linked keys) ops) ≡ fold (after key) b ops
fold-linked keys key b [] = refl
fold-linked keys key b (op ∷ ops) = ap (λ c. fold (after key) c (map (linked keys) ops)) (after-linked keys key b op) ∙ fold-linked keys key (after key b op) ops

if_live : (P : Live → Type 0) (b : Bool) (e : Live) (es : List Live) → P e → Each P es → Each P (cons_option (if b then None else Some e) es)
if_live P true e es here later = later
if_live P false e es here later = (here, later)

-- each names its successor
pub live-linked : (keys : List Bytes) (i : ℕ) (ops : List Operation) → Each (λ e. e.next ≡ successor keys e.key) (live_from i (map (linked keys) ops))
live-linked keys i [] = tt
live-linked keys i (update k v n ∷ rest) =
    if_live (λ e. e.next ≡ successor keys e.key) (touched k (map (linked keys) rest)) (record { location = i; key = k; value = v; next = successor keys k }) (live_from (suc i) (map (linked keys) rest)) refl (live-linked keys (suc i) rest)
live-linked keys i (delete k ∷ rest) = live-linked keys (suc i) rest
live-linked keys i (commit m f ∷ rest) = live-linked keys (suc i) rest

-- the live keys

pub live-contains : (es : List Live) (key : Bytes) → contains_key (map (λ e. e.key) es) key ≡ is_some (live_of es key)
live-contains [] key = refl
live-contains (e ∷ es) key = cases (bytes_eq e.key key) (live-contains es key)
  where
    cases : (t : Bool) → contains_key (map (λ (e : Live). e.key) es) key ≡ is_some (live_of es key) → (t || contains_key (map (λ (e : Live). e.key) es) key) ≡ is_some (cond t (Some e) (live_of es key))
    cases true h = refl
    cases false h = h

pub some-map : {X Y : Type 0} (f : X → Y) (o : Option X) → is_some (option_map f o) ≡ is_some o
some-map f None = refl
some-map f (Some x) = refl

pub live-value : (ops : List Operation) (key : Bytes) → contains_key (live_keys ops) key ≡ is_some (value_of ops key)
live-value ops key = live-contains (live ops) key ∙ sym (some-map (λ (e : Live). e.value) (live_of (live ops) key))

pub Each-has : (es : List Live) → Each (λ e. Has (map (λ e. e.key) es) e.key) es
Each-has [] = tt
Each-has (e ∷ es) = (
  Has-first e.key (map (λ (e : Live). e.key) es),
  Each-all (λ x. Has (map (λ (e : Live). e.key) es) x.key) (λ x. Has (e.key ∷ map (λ (e : Live). e.key) es) x.key) (λ x h. Has-later e.key (map (λ (e : Live). e.key) es) x.key h) es (Each-has es),
)

-- the values that operations of keys leave

or-twice : (o b : Option Bytes) (t : Bool) → (if t then option_or o (option_or o b) else option_or o b) ≡ option_or o b
or-twice None b true = refl
or-twice None b false = refl
or-twice (Some x) b true = refl
or-twice (Some x) b false = refl

pub fold-made : (make : Bytes → Option Operation) (value : Bytes → Option Bytes) (key : Bytes)
    → ((x : Bytes) (b : Option Bytes) → after_some key b (make x) ≡ (if bytes_eq x key then option_or (value x) b else b))
    → (xs : List Bytes) (b : Option Bytes) → fold (after key) b (filter_map make xs) ≡ (if contains_key xs key then option_or (value key) b else b)
fold-made make value key h [] b = refl
fold-made make value key h (x ∷ xs) b =
    fold-cons key b (make x) (filter_map make xs) ∙ ap (λ c. fold (after key) c (filter_map make xs)) (h x b) ∙ cases (bytes_eq x key) refl (fold-made make value key h xs)
  where
    cases : (t : Bool) → bytes_eq x key ≡ t → ((c : Option Bytes) → fold (after key) c (filter_map make xs) ≡ (if contains_key xs key then option_or (value key) c else c)) →
        fold (after key) (if t then option_or (value x) b else b) (filter_map make xs) ≡ (if t || contains_key xs key then option_or (value key) b else b)
    cases true at later =
        ap (λ k. fold (after key) (option_or (value k) b) (filter_map make xs)) (same_key x key at) ∙ later (option_or (value key) b) ∙ or-twice (value key) b (contains_key xs key)
    cases false at later = later b

pub fold-deletes : (key : Bytes) (xs : List Bytes) (b : Option Bytes) → fold (after key) b (map delete xs) ≡ (if contains_key xs key then None else b)
fold-deletes key [] b = refl
fold-deletes key (x ∷ xs) b = cases (bytes_eq x key) (fold-deletes key xs)
  where
    cases : (t : Bool) → ((c : Option Bytes) → fold (after key) c (map delete xs) ≡ (if contains_key xs key then None else c)) → fold (after key) (if t then None else b) (map delete xs) ≡ (if t || contains_key xs key then None else b)
    cases true later = later None ∙ sym (none (contains_key xs key))
      where
        none : (t : Bool) → ◌≡◌ {A = Option Bytes} None (if t then None else None)
        none true = refl
        none false = refl
    cases false later = later b

unset : (t : Bool) (b : Option Bytes) → b ≡ (if t then b else b)
unset true b = refl
unset false b = refl

-- the value that the writes give a key
abbrev pub given : List Write → Bytes → Option Bytes
given ws key = option_and_then (λ w. w.value) (write_of ws key)

pub after-put : (ws : List Write) (key x : Bytes) (b : Option Bytes) → after_some key b (put_of ws x) ≡ (if bytes_eq x key then option_or (given ws x) b else b)
after-put ws key x b = cases (given ws x)
  where
    cases : (v : Option Bytes) → after_some key b (option_map (λ value. update x value None) v) ≡ (if bytes_eq x key then option_or v b else b)
    cases None = unset (bytes_eq x key) b
    cases (Some v) = refl

pub after-rewritten : (es : List Live) (key x : Bytes) (b : Option Bytes) → after_some key b (rewritten es x) ≡ (if bytes_eq x key then option_or (option_map (λ e. e.value) (live_of es x)) b else b)
after-rewritten es key x b = cases (live_of es x)
  where
    cases : (o : Option Live) → after_some key b (option_map (λ e. update x e.value None) o) ≡ (if bytes_eq x key then option_or (option_map (λ e. e.value) o) b else b)
    cases None = unset (bytes_eq x key) b
    cases (Some e) = refl

-- what operations of keys touch

pub touched-deletes : (key : Bytes) (xs : List Bytes) → touched key (map delete xs) ≡ contains_key xs key
touched-deletes key [] = refl
touched-deletes key (x ∷ xs) = ap (λ t. bytes_eq x key || t) (touched-deletes key xs)

pub touched-by : (make : Bytes → Option Operation) (key : Bytes) (op : Operation) → make key ≡ Some op → touches key op ≡ true → (xs : List Bytes) → Has xs key → touched key (filter_map make xs) ≡ true
touched-by make key op is hit [] h = absurd (cc)
touched-by make key op is hit (x ∷ xs) h = elim (Has-either x xs key h) [
  | inl e ↦ subst (λ k. touched key (cons_option (make k) (filter_map make xs)) ≡ true) (sym e) (subst (λ o. touched key (cons_option o (filter_map make xs)) ≡ true) (sym is) (or-left (touches key op) (touched key (filter_map make xs)) hit))
  | inr e ↦ later (make x) (touched-by make key op is hit xs e)
]
  where
    later : (o : Option Operation) → touched key (filter_map make xs) ≡ true → touched key (cons_option o (filter_map make xs)) ≡ true
    later None h = h
    later (Some p) h = or-right (touches key p) (touched key (filter_map make xs)) h

-- keys of writes, each of which has one

abbrev pub Single : List Write → Type 0
Single [] = Unit {0}
Single (w ∷ ws) = Each (λ u. bytes_eq u.key w.key ≡ false) ws × Single ws

pub Rising-single : (ws : List Write) → Rising ws → Single ws
Rising-single [] h = tt
Rising-single (w ∷ ws) h =
    (Each-all (λ u. slice_cmp nat_cmp w.key u.key ≡ Less) (λ u. bytes_eq u.key w.key ≡ false) (λ u e. bytes_apart u.key w.key (ap is_eq e)) ws h.0, Rising-single ws h.1)

pub write_of-none : (key : Bytes) (ws : List Write) → Each (λ u. bytes_eq u.key key ≡ false) ws → write_of ws key ≡ None
write_of-none key [] h = refl
write_of-none key (u ∷ us) h = ap (λ t. cond t (Some u) (write_of us key)) h.0 ∙ write_of-none key us h.1

-- a test of a key's write and of whether it is live
abbrev pub picked : (Option Bytes → Bool) → (Option Live → Bool) → Option Write → Option Live → Bool
picked p q None l = false
picked p q (Some w) l = p w.value && q l

pub contains-picked : (p : Option Bytes → Bool) (q : Option Live → Bool) (es : List Live) (ws : List Write) (key : Bytes) → Single ws →
    contains_key (map (λ w. w.key) (filter (λ w. p w.value && q (live_of es w.key)) ws)) key ≡ picked p q (write_of ws key) (live_of es key)
contains-picked p q es [] key single = refl
contains-picked p q es (w ∷ ws) key single = cases (p w.value && q (live_of es w.key)) (bytes_eq w.key key) refl refl (contains-picked p q es ws key single.1)
  where
    rest : List Bytes
    rest = map (λ (w : Write). w.key) (filter (λ w. p w.value && q (live_of es w.key)) ws)

    cases : (t u : Bool) → (p w.value && q (live_of es w.key)) ≡ t → bytes_eq w.key key ≡ u →
        contains_key (map (λ w. w.key) (filter (λ w. p w.value && q (live_of es w.key)) ws)) key ≡ picked p q (write_of ws key) (live_of es key) →
        contains_key (map (λ w. w.key) (cond t (w ∷ filter (λ w. p w.value && q (live_of es w.key)) ws) (filter (λ w. p w.value && q (live_of es w.key)) ws))) key
        ≡ picked p q (cond u (Some w) (write_of ws key)) (live_of es key)
    cases true true at is later =
        or-left (bytes_eq w.key key) (contains_key (map (λ w. w.key) (filter (λ w. p w.value && q (live_of es w.key)) ws)) key) is ∙ sym (ap (λ k. p w.value && q (live_of es k)) (sym (same_key w.key key is)) ∙ at)
    cases true false at is later = ap (λ b. b || contains_key (map (λ w. w.key) (filter (λ w. p w.value && q (live_of es w.key)) ws)) key) is ∙ later
    cases false true at is later =
        let none : write_of ws key ≡ None = ap (write_of ws) (sym (same_key w.key key is)) ∙ write_of-none w.key ws single.0 in
        later ∙ ap (λ o. picked p q o (live_of es key)) none ∙ sym (ap (λ k. p w.value && q (live_of es k)) (sym (same_key w.key key is)) ∙ at)
    cases false false at is later = later

-- keys once, and keys found from keys

once-from : (key : Bytes) (keys seen : List Bytes) → contains_key (fold (λ seen k. if contains_key seen k then seen else seen ++ k ∷ []) seen keys) key ≡ (contains_key seen key || contains_key keys key)
once-from key [] seen = or-none (contains_key seen key)
  where
    or-none : (a : Bool) → a ≡ (a || false)
    or-none true = refl
    or-none false = refl
once-from key (x ∷ xs) seen = cases (contains_key seen x) refl (once-from key xs)
  where
    step : List Bytes → Bytes → List Bytes
    step = λ seen k. if contains_key seen k then seen else seen ++ k ∷ []

    seen_too : (a b c : Bool) → (b ≡ true → a ≡ true) → (a || c) ≡ (a || (b || c))
    seen_too true b c h = refl
    seen_too false true c h = let no : false ≡ true = h refl in cc
    seen_too false false c h = refl

    regroup : (a b c : Bool) → ((a || (b || false)) || c) ≡ (a || (b || c))
    regroup true b c = refl
    regroup false true c = refl
    regroup false false c = refl

    cases : (t : Bool) → contains_key seen x ≡ t →
        ((s : List Bytes) → contains_key (fold (λ seen k. if contains_key seen k then seen else seen ++ k ∷ []) s xs) key ≡ (contains_key s key || contains_key xs key)) →
        contains_key (fold (λ seen k. if contains_key seen k then seen else seen ++ k ∷ []) (if t then seen else seen ++ x ∷ []) xs) key ≡ (contains_key seen key || (bytes_eq x key || contains_key xs key))
    cases true at later = later seen ∙ seen_too (contains_key seen key) (bytes_eq x key) (contains_key xs key) (λ is. ap (contains_key seen) (sym (same_key x key is)) ∙ at)
    cases false at later =
        later (seen ++ x ∷ []) ∙ ap (λ b. b || contains_key xs key) (list_any-append (λ k. bytes_eq k key) seen (x ∷ [])) ∙ regroup (contains_key seen key) (bytes_eq x key) (contains_key xs key)

pub contains-once : (keys : List Bytes) (key : Bytes) → contains_key (once keys) key ≡ contains_key keys key
contains-once keys key = once-from key keys []

pub Has-found : (f : Bytes → Option Bytes) (xs : List Bytes) (x y : Bytes) → Has xs x → f x ≡ Some y → Has (filter_map f xs) y
Has-found f [] x y h e = absurd (cc)
Has-found f (z ∷ xs) x y h e = elim (Has-either z xs x h) [
  | inl same ↦ subst (λ o. Has (cons_option o (filter_map f xs)) y) (sym (ap f same ∙ e)) (Has-first y (filter_map f xs))
  | inr at ↦ later (f z) (Has-found f xs x y at e)
]
  where
    later : (o : Option Bytes) → Has (filter_map f xs) y → Has (cons_option o (filter_map f xs)) y
    later None h = h
    later (Some k) h = Has-later k (filter_map f xs) y h

pub Has-within : (f : Bytes → Option Bytes) (keys : List Bytes) → ((x y : Bytes) → f x ≡ Some y → Has keys y) → (xs : List Bytes) (y : Bytes) → Has (filter_map f xs) y → Has keys y
Has-within f keys into [] y h = absurd (cc)
Has-within f keys into (x ∷ xs) y h = cases (f x) refl h (Has-within f keys into xs y)
  where
    cases : (o : Option Bytes) → f x ≡ o → Has (cons_option o (filter_map f xs)) y → (Has (filter_map f xs) y → Has keys y) → Has keys y
    cases None is h later = later h
    cases (Some k) is h later = elim (Has-either k (filter_map f xs) y h) [ inl e ↦ subst (Has keys) e (into x k is) | inr e ↦ later e ]
