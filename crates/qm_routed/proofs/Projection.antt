-- What is rebuilt of the operations of some keys is the part of these keys of what is rebuilt of all.
use Rattle.std.proofs.Common.{◌≡◌, ◌⊎◌, inl, inr, ℕ, suc, ◌+◌, Bool, true, false, cond, List, [], ◌∷◌, ◌++◌, length, map, refl, ap, ap₂, sym, ◌∙◌, subst, Option, Some, None, arith, ◌||◌, append-nil, true≢false}
use Rattle.std.specs.Prelude.{All, sum_by, not, filter, option_to_list, bytes_eq, ◌==◌, IsPermutation, if◌then◌else◌}
use Rattle.std.specs.Bool.{then_some}
use Rattle.std.specs.List.{cons_option}
use Rattle.std.proofs.lemmas.List.{map-append}
use Rattle.std.proofs.lemmas.List.Folds.{list_any-append}
use Rattle.std.proofs.lemmas.List.Sorted.{IsPermutation-refl}
use Rattle.std.proofs.lemmas.List.Sums.{sum_by-cons}
use Rattle.std.proofs.lemmas.List.Elements.{All-head, All-tail}
use Rattle.qm_model.specs.Operations.{Bytes, Operation, update, delete, commit}
use Rattle.qm_model.specs.Live.{Live, live_at, live_from, touches, touched}
use Rattle.qm_model.proofs.Maps.{same_key}
use Rattle.qm_operations.specs.Parts.{key_of, is_update}
use Rattle.qm_index.specs.Buckets.{bucket_at}
use Rattle.qm_index.specs.Places.{Places, HasPlaces, without, moved}
use Rattle.qm_index.proofs.Basics.{bytes-turned}
use Rattle.qm_routed.specs.Routed.{Routed, located, live_routed, pairs, places_routed, routed, tick, HasPartAt, HasNoneAt, IsOfParts}

abbrev pub ops_of : Routed → List Operation
ops_of rs = map (λ r. r.1) rs

-- each operation of a list at its location
pub ops-located : (i : ℕ) (ops : List Operation) → ops_of (located i ops) ≡ ops
ops-located i [] = refl
ops-located i (op ∷ ops) = ap (λ l. op ∷ l) (ops-located (suc i) ops)

pub live-located : (i : ℕ) (ops : List Operation) → live_routed (located i ops) ≡ live_from i ops
live-located i [] = refl
live-located i (op ∷ ops) = ap₂ (λ l es. cons_option (live_at i op l) es) (ops-located (suc i) ops) (live-located (suc i) ops)

-- whether a key is touched is seen by the operations of a part that has it
touched-routed : (own : Bytes → Bool) (key : Bytes) (rs : Routed) → own key ≡ true → touched key (ops_of (routed own rs)) ≡ touched key (ops_of rs)
touched-routed own key [] mine = refl
touched-routed own key ((i, update k v n) ∷ rs) mine = by (own k) refl (touched-routed own key rs mine)
  where
    other : (t : Bool) → bytes_eq k key ≡ t → own k ≡ false → bytes_eq k key ≡ false
    other true is none = absurd (true≢false (sym mine ∙ ap own (sym (same_key k key is)) ∙ none))
    other false is none = is

    by : (t : Bool) → own k ≡ t → touched key (ops_of (routed own rs)) ≡ touched key (ops_of rs) → touched key (ops_of (cond t ((i, update k v n) ∷ routed own rs) (routed own rs))) ≡ (bytes_eq k key || touched key (ops_of rs))
    by true is later = ap (λ b. bytes_eq k key || b) later
    by false is later = later ∙ ap (λ b. b || touched key (ops_of rs)) (sym (other (bytes_eq k key) refl is))
touched-routed own key ((i, delete k) ∷ rs) mine = by (own k) refl (touched-routed own key rs mine)
  where
    other : (t : Bool) → bytes_eq k key ≡ t → own k ≡ false → bytes_eq k key ≡ false
    other true is none = absurd (true≢false (sym mine ∙ ap own (sym (same_key k key is)) ∙ none))
    other false is none = is

    by : (t : Bool) → own k ≡ t → touched key (ops_of (routed own rs)) ≡ touched key (ops_of rs) → touched key (ops_of (cond t ((i, delete k) ∷ routed own rs) (routed own rs))) ≡ (bytes_eq k key || touched key (ops_of rs))
    by true is later = ap (λ b. bytes_eq k key || b) later
    by false is later = later ∙ ap (λ b. b || touched key (ops_of rs)) (sym (other (bytes_eq k key) refl is))
touched-routed own key ((i, commit m f) ∷ rs) mine = touched-routed own key rs mine

-- what is live of the operations of some keys is what is live of all, without the other keys
pub live-routed : (own : Bytes → Bool) (rs : Routed) → live_routed (routed own rs) ≡ filter (λ e. own e.key) (live_routed rs)
live-routed own [] = refl
live-routed own ((i, update k v n) ∷ rs) = by (own k) refl (live-routed own rs)
  where
    entry : Live
    entry = record { location = i; key = k; value = v; next = n }

    kept : (t : Bool) → own k ≡ true → (es : List Live) → cons_option (if t then None else Some entry) (filter (λ e. own e.key) es) ≡ filter (λ e. own e.key) (cons_option (if t then None else Some entry) es)
    kept true is es = refl
    kept false is es = ap (λ b. cond b (entry ∷ filter (λ e. own e.key) es) (filter (λ e. own e.key) es)) (sym is)

    gone : (t : Bool) → own k ≡ false → (es : List Live) → filter (λ e. own e.key) es ≡ filter (λ e. own e.key) (cons_option (if t then None else Some entry) es)
    gone true is es = refl
    gone false is es = ap (λ b. cond b (entry ∷ filter (λ e. own e.key) es) (filter (λ e. own e.key) es)) (sym is)

    by : (t : Bool) → own k ≡ t → live_routed (routed own rs) ≡ filter (λ e. own e.key) (live_routed rs)
        → live_routed (cond t ((i, update k v n) ∷ routed own rs) (routed own rs)) ≡ filter (λ e. own e.key) (cons_option (if touched k (ops_of rs) then None else Some entry) (live_routed rs))
    by true is later = ap₂ (λ b es. cons_option (if b then None else Some entry) es) (touched-routed own k rs is) later ∙ kept (touched k (ops_of rs)) is (live_routed rs)
    by false is later = later ∙ gone (touched k (ops_of rs)) is (live_routed rs)
live-routed own ((i, delete k) ∷ rs) = by (own k) (live-routed own rs)
  where
    by : (t : Bool) → live_routed (routed own rs) ≡ filter (λ e. own e.key) (live_routed rs) → live_routed (cond t ((i, delete k) ∷ routed own rs) (routed own rs)) ≡ filter (λ e. own e.key) (live_routed rs)
    by true later = later
    by false later = later
live-routed own ((i, commit m f) ∷ rs) = live-routed own rs

-- the same of places
pairs-filter : (own : Bytes → Bool) (es : List Live) → pairs (filter (λ e. own e.key) es) ≡ filter (λ p. own p.0) (pairs es)
pairs-filter own [] = refl
pairs-filter own (e ∷ es) = by (own e.key) (pairs-filter own es)
  where
    by : (t : Bool) → pairs (filter (λ (u : Live). own u.key) es) ≡ filter (λ p. own p.0) (pairs es)
        → pairs (cond t (e ∷ filter (λ (u : Live). own u.key) es) (filter (λ (u : Live). own u.key) es)) ≡ cond t ((e.key, e.location) ∷ filter (λ p. own p.0) (pairs es)) (filter (λ p. own p.0) (pairs es))
    by true later = ap (λ ps. (e.key, e.location) ∷ ps) later
    by false later = later

pub places-routed : (own : Bytes → Bool) (rs : Routed) → places_routed (routed own rs) ≡ filter (λ p. own p.0) (places_routed rs)
places-routed own rs = ap pairs (live-routed own rs) ∙ pairs-filter own (live_routed rs)

-- Indices.

filter-narrow : (index_key : Bytes → ℕ) (own : ℕ → Bool) (k : ℕ) (ps : Places) → own k ≡ true
    → filter (λ p. index_key p.0 == k) (filter (λ p. own (index_key p.0)) ps) ≡ filter (λ p. index_key p.0 == k) ps
filter-narrow index_key own k [] mine = refl
filter-narrow index_key own k (p ∷ ps) mine = by (own (index_key p.0)) refl (index_key p.0 == k) refl (filter-narrow index_key own k ps mine)
  where
    at : Places → Places
    at qs = filter (λ q. index_key q.0 == k) qs

    mine_only : Places
    mine_only = filter (λ q. own (index_key q.0)) ps

    by : (t : Bool) → own (index_key p.0) ≡ t → (u : Bool) → (index_key p.0 == k) ≡ u → at mine_only ≡ at ps → at (cond t (p ∷ mine_only) mine_only) ≡ cond u (p ∷ at ps) (at ps)
    by true is true here later = ap (λ b. cond b (p ∷ at mine_only) (at mine_only)) here ∙ ap (λ qs. p ∷ qs) later
    by true is false here later = ap (λ b. cond b (p ∷ at mine_only) (at mine_only)) here ∙ later
    by false is true here later = let same : index_key p.0 ≡ k = grind (arith, here) in absurd (true≢false (sym mine ∙ ap own (sym same) ∙ is))
    by false is false here later = later

-- what some part, which owns an index key, has of places; or nobody has any with that index key
abbrev pub PartAt : (Bytes → ℕ) → List (ℕ × List ℕ) → Places → ℕ → Type 0
PartAt index_key entries ps k =
    ((own : ℕ → Bool) × (part : List (ℕ × List ℕ)) × (own k ≡ true) × HasPlaces index_key part (filter (λ p. own (index_key p.0)) ps) × (bucket_at entries k ≡ bucket_at part k))
    ⊎ ((filter (λ p. index_key p.0 == k) ps ≡ []) × (bucket_at entries k ≡ []))

-- an index of which each bucket is that of some part that owns it has the places of all
pub union : (index_key : Bytes → ℕ) (entries : List (ℕ × List ℕ)) (ps : Places) → ((k : ℕ) → PartAt index_key entries ps k) → HasPlaces index_key entries ps
union index_key entries ps parts k = by (parts k)
  where
    by : PartAt index_key entries ps k → IsPermutation (map (λ (p : Bytes × ℕ). p.1) (filter (λ p. index_key p.0 == k) ps)) (bucket_at entries k)
    by (inl part) =
        subst (λ b. IsPermutation (map (λ p. p.1) (filter (λ p. index_key p.0 == k) ps)) b) (sym part.4)
        (subst (λ qs. IsPermutation (map (λ p. p.1) qs) (bucket_at part.1 k)) (filter-narrow index_key part.0 k ps part.2) (part.3 k))
    by (inr none) =
        subst (λ b. IsPermutation (map (λ p. p.1) (filter (λ p. index_key p.0 == k) ps)) b) (sym none.1)
        (subst (λ qs. IsPermutation (map (λ (p : Bytes × ℕ). p.1) qs) []) (sym none.0) (IsPermutation-refl []))

-- parts that were rebuilt of the operations of their keys alone make the index of the whole list
pub rebuilt : (index_key : Bytes → ℕ) (entries : List (ℕ × List ℕ)) (floor : ℕ) (ops : List Operation) → IsOfParts index_key entries floor ops → HasPlaces index_key entries (pairs (live_from floor ops))
rebuilt index_key entries floor ops parts = union index_key entries (pairs (live_from floor ops)) (λ k. by k (parts k))
  where
    all : places_routed (located floor ops) ≡ pairs (live_from floor ops)
    all = ap pairs (live-located floor ops)

    by : (k : ℕ) → HasPartAt index_key entries floor ops k ⊎ HasNoneAt index_key entries floor ops k → PartAt index_key entries (pairs (live_from floor ops)) k
    by k (inl h) = inl (
      h.own,
      h.part,
      h.owned,
      subst (HasPlaces index_key h.part) (places-routed (λ key. h.own (index_key key)) (located floor ops) ∙ ap (λ ps. filter (λ p. h.own (index_key p.0)) ps) all) h.rebuilt,
      h.same,
    )
    by k (inr h) = inr (h.none, h.empty)

-- Counts.

counted-head : (owns : List (ℕ → Bool)) (index_key : Bytes → ℕ) (p : Bytes × ℕ) (ps : Places)
    → sum_by (λ own. length (filter (λ q. own (index_key q.0)) (p ∷ ps))) owns ≡ sum_by (λ own. tick (own (index_key p.0))) owns + sum_by (λ own. length (filter (λ q. own (index_key q.0)) ps)) owns
counted-head [] index_key p ps = refl
counted-head (own ∷ owns) index_key p ps =
    let all = sum_by-cons (λ (o : ℕ → Bool). length (filter (λ q. o (index_key q.0)) (p ∷ ps))) own owns in
    let first = sum_by-cons (λ (o : ℕ → Bool). tick (o (index_key p.0))) own owns in
    let rest = sum_by-cons (λ (o : ℕ → Bool). length (filter (λ q. o (index_key q.0)) ps)) own owns in
    let later = counted-head owns index_key p ps in
    let here = by (own (index_key p.0)) in
    omega (arith, all, first, rest, later, here)
  where
    mine : Places
    mine = filter (λ q. own (index_key q.0)) ps

    by : (t : Bool) → length (cond t (p ∷ mine) mine) ≡ tick t + length mine
    by true = omega arith
    by false = omega arith

-- if each index key of a place is in one part, the parts have as many places as there are
pub counted : (owns : List (ℕ → Bool)) (index_key : Bytes → ℕ) (ps : Places) → All (λ p. sum_by (λ own. tick (own (index_key p.0))) owns ≡ 1) ps
    → sum_by (λ own. length (filter (λ p. own (index_key p.0)) ps)) owns ≡ length ps
counted owns index_key [] one = none owns
  where
    none : (owns : List (ℕ → Bool)) → sum_by (λ own. 0) owns ≡ 0
    none [] = refl
    none (own ∷ owns) = let later = none owns in let all = sum_by-cons (λ (o : ℕ → Bool). 0) own owns in omega (arith, later, all)
counted owns index_key (p ∷ ps) one =
    let first = All-head (λ (q : Bytes × ℕ). sum_by (λ own. tick (own (index_key q.0))) owns ≡ 1) p ps one in
    let later = counted owns index_key ps (All-tail (λ (q : Bytes × ℕ). sum_by (λ own. tick (own (index_key q.0))) owns ≡ 1) p ps one) in
    let head = counted-head owns index_key p ps in
    omega (arith, first, later, head)

-- One more operation.

cons_option-nil : {X : Type 0} (o : Option X) → cons_option o [] ≡ option_to_list o
cons_option-nil None = refl
cons_option-nil (Some x) = refl

-- an update that is touched in front (a) or by the last operation (b)
push_update : (a b : Bool) (e : Live) (test : Live → Bool) (xs tail : List Live) → test e ≡ not b →
    cons_option (if a || (b || false) then None else Some e) (filter test xs ++ tail) ≡ filter test (cons_option (if a then None else Some e) xs) ++ tail
push_update true b e test xs tail h = refl
push_update false true e test xs tail h = ap (λ t. cond t (e ∷ filter test xs) (filter test xs) ++ tail) (sym h)
push_update false false e test xs tail h = ap (λ t. cond t (e ∷ filter test xs) (filter test xs) ++ tail) (sym h)

-- what a worker's live updates become by its next operation: those that it does not touch, and itself if it is an update
pub live-push : (rs : Routed) (at : ℕ) (op : Operation) →
    live_routed (rs ++ (at, op) ∷ []) ≡ filter (λ e. not (touches e.key op)) (live_routed rs) ++ option_to_list (live_at at op [])
live-push [] at op = cons_option-nil (live_at at op [])
live-push ((i, update k v n) ∷ rs) at op =
    let e : Live = record { location = i; key = k; value = v; next = n } in
    let test : Live → Bool = λ x. not (touches x.key op) in
    ap (λ l. cons_option (if touched k l then None else Some e) (live_routed (rs ++ (at, op) ∷ []))) (map-append (λ r. r.1) rs ((at, op) ∷ []))
    ∙ ap (λ t. cons_option (if t then None else Some e) (live_routed (rs ++ (at, op) ∷ []))) (list_any-append (touches k) (ops_of rs) (op ∷ []))
    ∙ ap (cons_option (if touched k (ops_of rs) || (touches k op || false) then None else Some e)) (live-push rs at op)
    ∙ push_update (touched k (ops_of rs)) (touches k op) e test (live_routed rs) (option_to_list (live_at at op [])) refl
live-push ((i, delete k) ∷ rs) at op = live-push rs at op
live-push ((i, commit m f) ∷ rs) at op = live-push rs at op

pairs-without : (key : Bytes) (es : List Live) → pairs (filter (λ e. not (bytes_eq key e.key)) es) ≡ without key (pairs es)
pairs-without key [] = refl
pairs-without key (e ∷ es) =
    ap (λ t. pairs (cond (not t) (e ∷ filter (λ u. not (bytes_eq key u.key)) es) (filter (λ u. not (bytes_eq key u.key)) es))) (bytes-turned key e.key) ∙ by (bytes_eq e.key key) (pairs-without key es)
  where
    by : (t : Bool) → pairs (filter (λ (u : Live). not (bytes_eq key u.key)) es) ≡ without key (pairs es) → pairs (cond (not t) (e ∷ filter (λ (u : Live). not (bytes_eq key u.key)) es) (filter (λ (u : Live). not (bytes_eq key u.key)) es)) ≡ cond (not t) ((e.key, e.location) ∷ without key (pairs es)) (without key (pairs es))
    by true later = later
    by false later = ap (λ ps. (e.key, e.location) ∷ ps) later

-- a worker's next operation moves its key, as one of a whole list does
pub places-push : (rs : Routed) (at : ℕ) (op : Operation) (key : Bytes) → key_of op ≡ Some key → places_routed (rs ++ (at, op) ∷ []) ≡ moved (places_routed rs) key (then_some (is_update op) at)
places-push rs at (update k v n) key is =
    let same : k ≡ key = cc in
    ap pairs (live-push rs at (update k v n))
    ∙ map-append (λ (e : Live). (e.key, e.location)) (filter (λ e. not (bytes_eq k e.key)) (live_routed rs)) (record { location = at; key = k; value = v; next = n } ∷ [])
    ∙ ap (λ ps. ps ++ (k, at) ∷ []) (pairs-without k (live_routed rs))
    ∙ ap (λ x. without x (places_routed rs) ++ (x, at) ∷ []) same
places-push rs at (delete k) key is =
    let same : k ≡ key = cc in
    ap pairs (live-push rs at (delete k))
    ∙ ap pairs (append-nil (filter (λ e. not (bytes_eq k e.key)) (live_routed rs)))
    ∙ pairs-without k (live_routed rs)
    ∙ ap (λ x. without x (places_routed rs)) same
places-push rs at (commit m f) key is = cc
