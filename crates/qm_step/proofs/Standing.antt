-- The live updates of a list: what stands at their locations, and which one is a key's.
use Rattle.std.proofs.Common.{◌≡◌, ℕ, suc, ◌+◌, Bool, true, false, cond, List, [], ◌∷◌, refl, ap, sym, ◌∙◌, Option, Some, None, arith, ◌||◌, true≢false}
use Rattle.std.specs.Prelude.{Contains, IfSome, bytes_eq, if◌then◌else◌}
use Rattle.std.specs.List.{cons_option, AllByRecursion as Each}
use Rattle.std.proofs.lemmas.List.Elements.{All-contains, All-from_recursion}
use Rattle.qm_model.specs.Operations.{Bytes, Operation, update, delete, commit}
use Rattle.qm_model.specs.Live.{Live, live, live_at, live_from, live_of, touches, touched}
use Rattle.qm_model.proofs.LastWrites.{bytes_same}
use Rattle.qm_model.proofs.Maps.{same_key}
use Rattle.qm_model.proofs.Pushes.{Each-weaker}
use Rattle.qm_step.specs.Changes.{said_by, update_at}
use Rattle.qm_operations.specs.Parts.{is_update}
use Rattle.qm_index.proofs.Basics.{or-later}

Each-option : {X : Type 0} (P : X → Type 0) (o : Option X) (xs : List X) → IfSome o P → Each P xs → Each P (cons_option o xs)
Each-option P None xs here later = later
Each-option P (Some x) xs here later = (here, later)

-- a live update from location i on says what stands at its location
Says : ℕ → List Operation → Live → Type 0
Says i ops e = (j : ℕ) × (e.location ≡ i + j) × (update_at ops j ≡ Some (update e.key e.value e.next))

says_here : (i : ℕ) (op : Operation) (rest : List Operation) → IfSome (live_at i op rest) (Says i (op ∷ rest))
unfolding Says
says_here i (update k v n) rest = cases (touched k rest)
  where
    cases : (t : Bool) → IfSome {T = Live} (if t then None else Some (record { location = i; key = k; value = v; next = n })) (Says i (update k v n ∷ rest))
    cases true = tt
    cases false = (0, omega arith, refl)
says_here i (delete k) rest = tt
says_here i (commit m f) rest = tt

says_later : (i : ℕ) (op : Operation) (rest : List Operation) (e : Live) → Says (suc i) rest e → Says i (op ∷ rest) e
unfolding Says
says_later i op rest e h = let at = h.1 in (suc h.0, omega (arith, at), h.2)

says : (i : ℕ) (ops : List Operation) → Each (Says i ops) (live_from i ops)
says i [] = tt
says i (op ∷ rest) =
    Each-option (Says i (op ∷ rest)) (live_at i op rest) (live_from (suc i) rest) (says_here i op rest)
    (Each-weaker (Says (suc i) rest) (Says i (op ∷ rest)) (says_later i op rest) (live_from (suc i) rest) (says (suc i) rest))

-- a live update stands at its location, of a list that begins at location i
pub stands-from : (i : ℕ) (ops : List Operation) (e : Live) → Contains (live_from i ops) e → (j : ℕ) × (e.location ≡ i + j) × (update_at ops j ≡ Some (update e.key e.value e.next))
unfolding Says
stands-from i ops e within = All-contains (Says i ops) (live_from i ops) e (All-from_recursion (Says i ops) (live_from i ops) (says i ops)) within

-- an update is the operation that it says
pub said-update : (op : Operation) → is_update op ≡ true → said_by op ≡ Some op
said-update (update k v n) h = refl
said-update (delete k) h = cc
said-update (commit m f) h = cc

-- a live update stands at its location
pub live-stands : (ops : List Operation) (e : Live) → Contains (live ops) e → update_at ops e.location ≡ Some (update e.key e.value e.next)
unfolding Says
live-stands ops e within =
    let h = All-contains (Says 0 ops) (live ops) e (All-from_recursion (Says 0 ops) (live ops) (says 0 ops)) within in
    let place = h.1 in
    let at : e.location ≡ h.0 = omega (arith, place) in
    ap (update_at ops) at ∙ h.2

-- its key is updated
Touched : List Operation → Live → Type 0
Touched ops e = touched e.key ops ≡ true

touched_here : (i : ℕ) (op : Operation) (rest : List Operation) → IfSome (live_at i op rest) (Touched (op ∷ rest))
unfolding Touched
touched_here i (update k v n) rest = cases (touched k rest)
  where
    cases : (t : Bool) → IfSome {T = Live} (if t then None else Some (record { location = i; key = k; value = v; next = n })) (Touched (update k v n ∷ rest))
    cases true = tt
    cases false = ap (λ b. b || touched k rest) (bytes_same k)
touched_here i (delete k) rest = tt
touched_here i (commit m f) rest = tt

touched_all : (i : ℕ) (ops : List Operation) → Each (Touched ops) (live_from i ops)
unfolding Touched
touched_all i [] = tt
touched_all i (op ∷ rest) =
    Each-option (Touched (op ∷ rest)) (live_at i op rest) (live_from (suc i) rest) (touched_here i op rest)
    (Each-weaker (Touched rest) (Touched (op ∷ rest)) (λ e h. or-later (touches e.key op) (touched e.key rest) h) (live_from (suc i) rest) (touched_all (suc i) rest))

-- each key is that of one live update
abbrev pub AreApart : List Live → Type 0
AreApart [] = Unit {0}
AreApart (e ∷ es) = Each (λ u. bytes_eq e.key u.key ≡ false) es × AreApart es

untouched_apart : (k : Bytes) (rest : List Operation) (es : List Live) → touched k rest ≡ false → Each (λ e. touched e.key rest ≡ true) es → Each (λ u. bytes_eq k u.key ≡ false) es
untouched_apart k rest [] not all = tt
untouched_apart k rest (e ∷ es) not all = (by (bytes_eq k e.key) refl, untouched_apart k rest es not all.1)
  where
    by : (t : Bool) → bytes_eq k e.key ≡ t → bytes_eq k e.key ≡ false
    by false is = is
    by true is = absurd (true≢false (sym all.0 ∙ ap (λ key. touched key rest) (sym (same_key k e.key is)) ∙ not))

pub live-apart : (i : ℕ) (ops : List Operation) → AreApart (live_from i ops)
unfolding Touched
live-apart i [] = tt
live-apart i (update k v n ∷ rest) = cases (touched k rest) refl (live-apart (suc i) rest)
  where
    cases : (t : Bool) → touched k rest ≡ t → AreApart (live_from (suc i) rest) → AreApart (cons_option (if t then None else Some (record { location = i; key = k; value = v; next = n })) (live_from (suc i) rest))
    cases true is later = later
    cases false is later = (untouched_apart k rest (live_from (suc i) rest) is (touched_all (suc i) rest), later)
live-apart i (delete k ∷ rest) = live-apart (suc i) rest
live-apart i (commit m f ∷ rest) = live-apart (suc i) rest

-- among entries of which each has its own key, an entry is that of its key
abbrev OfKey : List Live → Live → Type 0
OfKey es e = live_of es e.key ≡ Some e

of_later : (e : Live) (es : List Live) (us : List Live) → Each (λ u. bytes_eq e.key u.key ≡ false) us → Each (OfKey es) us → Each (OfKey (e ∷ es)) us
of_later e es [] apart own = tt
of_later e es (u ∷ us) apart own = (ap (λ t. cond t (Some e) (live_of es u.key)) apart.0 ∙ own.0, of_later e es us apart.1 own.1)

of_keys : (es : List Live) → AreApart es → Each (OfKey es) es
of_keys [] apart = tt
of_keys (e ∷ es) apart = (ap (λ t. cond t (Some e) (live_of es e.key)) (bytes_same e.key), of_later e es es apart.0 (of_keys es apart.1))

pub apart-of_key : (es : List Live) (e : Live) → AreApart es → Contains es e → live_of es e.key ≡ Some e
apart-of_key es e apart within = All-contains (OfKey es) es e (All-from_recursion (OfKey es) es (of_keys es apart)) within

pub live-of_key : (ops : List Operation) (e : Live) → Contains (live ops) e → live_of (live ops) e.key ≡ Some e
live-of_key ops e within = apart-of_key (live ops) e (live-apart 0 ops) within

-- the entry of a key is among them, and has the key
pub of_key-within : (es : List Live) (key : Bytes) (e : Live) → live_of es key ≡ Some e → Contains es e × (e.key ≡ key)
of_key-within [] key e h = cc
of_key-within (u ∷ es) key e h = cases (bytes_eq u.key key) refl h (of_key-within es key e)
  where
    cases : (t : Bool) → bytes_eq u.key key ≡ t → cond t (Some u) (live_of es key) ≡ Some e → (live_of es key ≡ Some e → Contains es e × (e.key ≡ key)) → Contains (u ∷ es) e × (e.key ≡ key)
    cases true is found next = let same : u ≡ e = cc in ((0, omega arith, same), ap (λ (x : Live). x.key) (sym same) ∙ same_key u.key key is)
    cases false is found next = let later = next found in let place = (later.0).1 in ((suc (later.0).0, omega (arith, place), (later.0).2), later.1)
