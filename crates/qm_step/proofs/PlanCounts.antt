-- How many keys are live after operations, and after what a walk decided.
use Rattle.std.proofs.Common.{◌≡◌, ℕ, ◌+◌, ◌-◌, Bool, true, false, true≢false, cond, refl, List, [], ◌∷◌, ◌++◌, length, map, count_by, ap, sym, ◌∙◌, Option, Some, None, arith, ◌||◌, append_assoc, append-nil, length-append}
use Rattle.std.specs.Prelude.{not, filter, bytes_eq, is_some, is_none}
use Rattle.std.specs.List.{AllByRecursion as Each, IsDistinct}
use Rattle.std.proofs.lemmas.List.Sums.{sum_by-cons}
use Rattle.std.proofs.lemmas.List.Elements.{recursion_from_All}
use Rattle.qm_operations.specs.Parts.{is_update, key_of}
use Rattle.qm_model.specs.Operations.{Bytes, Operation, update, delete, commit}
use Rattle.qm_model.specs.Live.{Live, live, live_from, live_keys, live_of, touches, touched, value_of}
use Rattle.qm_model.specs.Writes.{Write, operation_of}
use Rattle.qm_model.specs.Keys.{contains_key}
use Rattle.qm_model.specs.Step.{unordered}
use Rattle.qm_model.proofs.LastWrites.{bytes_same}
use Rattle.qm_model.proofs.Maps.{value_of-append, fold-untouched}
use Rattle.qm_model.proofs.KeyOrder.{Has}
use Rattle.qm_model.proofs.OrderedLists.{Each-both, Single, live-contains, live-value}
use Rattle.qm_step.specs.Kinds.{CountsMoves}
use Rattle.qm_step.specs.Touches.{Touch, IsKeyed, Once, operations_of}
use Rattle.qm_step.proofs.Appends.{live-append, live_of-append}
use Rattle.qm_index.proofs.Basics.{bytes-turned, or-later}
use Rattle.qm_step.proofs.PlanWrites.{touches-operation, all-kept, live-once, one-dropped}
use Rattle.qm_step.proofs.Standing.{AreApart, live-apart}

-- an update of a live key changes no count, and a delete of one leaves one less
one-decided : (list : List Operation) (d : Write) → Has (live_keys list) d.key → length (live (list ++ operation_of d ∷ [])) + cond (is_none d.value) 1 0 ≡ length (live list)
one-decided list d alive = by d.value
  where
    rest : List Live
    rest = filter (λ (e : Live). not (bytes_eq d.key e.key || false)) (live list)

    dropped : length rest + 1 ≡ length (live list)
    dropped = let one = one-dropped d.key (live list) (live-apart 0 list) (sym (live-contains (live list) d.key) ∙ alive) in omega arith

    by : (value : Option Bytes) → length (live (list ++ operation_of (record { key = d.key; value = value }) ∷ [])) + cond (is_none value) 1 0 ≡ length (live list)
    by None =
        let op = operation_of (record { key = d.key; value = None }) in
        let parts = ap length (live-append 0 list (op ∷ [])) in
        let sizes = length-append rest (live_from (0 + length list) (op ∷ [])) in
        let one = dropped in
        omega (arith, parts, sizes, one)
    by (Some v) =
        let op = operation_of (record { key = d.key; value = Some v }) in
        let parts = ap length (live-append 0 list (op ∷ [])) in
        let sizes = length-append rest (live_from (0 + length list) (op ∷ [])) in
        let one = dropped in
        omega (arith, parts, sizes, one)

-- a key that is live stays so after what is decided of another
stays-live : (list : List Operation) (d : Write) (key : Bytes) → bytes_eq key d.key ≡ false → Has (live_keys list) key → Has (live_keys (list ++ operation_of d ∷ [])) key
stays-live list d key other alive =
    let op = operation_of d in
    let untouched : touched key (op ∷ []) ≡ false = ap (λ t. t || false) (touches-operation d key ∙ bytes-turned d.key key ∙ other) in
    live-value (list ++ op ∷ []) key ∙ ap is_some (value_of-append list (op ∷ []) key ∙ fold-untouched key (value_of list key) (op ∷ []) untouched) ∙ sym (live-value list key) ∙ alive

decided-counts : (list : List Operation) (ds : List Write) → Single ds → Each (λ d. Has (live_keys list) d.key) ds →
    length (live (list ++ map operation_of ds)) + count_by (λ d. is_none d.value) ds ≡ length (live list)
decided-counts list [] single alive = let same = ap (λ ops. length (live ops)) (append-nil list) in omega (arith, same)
decided-counts list (d ∷ ds) single alive =
    let op = operation_of d in
    let still = Each-both (λ u. bytes_eq u.key d.key ≡ false) (λ u. Has (live_keys list) u.key) (λ u. Has (live_keys (list ++ op ∷ [])) u.key) (λ u other here. stays-live list d u.key other here) ds single.0 alive.1 in
    let later = decided-counts (list ++ op ∷ []) ds single.1 still in
    let one = one-decided list d alive.0 in
    let all = ap (λ ops. length (live ops)) (append_assoc list (op ∷ []) (map operation_of ds)) in
    let sum = sum_by-cons (λ (u : Write). cond (is_none u.value) 1 0) d ds in
    omega (arith, later, one, all, sum)

-- an entry less for each key that an operation touches, if it has one
kept-apart : (k : Bytes) (es : List Live) → live_of es k ≡ None → Each (λ u. bytes_eq k u.key ≡ false) es
kept-apart k [] h = tt
kept-apart k (u ∷ us) h = by (bytes_eq u.key k) refl h (kept-apart k us)
  where
    by : (t : Bool) → bytes_eq u.key k ≡ t → cond t (Some u) (live_of us k) ≡ None → (live_of us k ≡ None → Each (λ u. bytes_eq k u.key ≡ false) us) → Each (λ u. bytes_eq k u.key ≡ false) (u ∷ us)
    by true at h later = cc
    by false at h later = (bytes-turned k u.key ∙ at, later h)

kept-length : (k : Bytes) (es : List Live) → AreApart es → (s : Bool) → s ≡ is_some (live_of es k) → length (filter (λ (u : Live). not (bytes_eq k u.key || false)) es) + cond s 1 0 ≡ length es
kept-length k es apart true some = let one = one-dropped k es apart (sym some) in omega (arith, one)
kept-length k es apart false none = by (live_of es k) refl none
  where
    by : (o : Option Live) → live_of es k ≡ o → false ≡ is_some o → length (filter (λ (u : Live). not (bytes_eq k u.key || false)) es) + 0 ≡ length es
    by None is h = let all = all-kept k es (kept-apart k es is) in omega (arith, all)
    by (Some e) is h = absurd (true≢false (sym h))

-- an operation is of a key that is live in this list if one stood before it
abbrev pub Stood : List Operation → Touch → Type 0
Stood list t = (key : Bytes) → touches key t.operation ≡ true → is_some t.before ≡ is_some (live_of (live list) key)

one-made : (list : List Operation) (op : Operation) (s : Bool) → is_some (key_of op) ≡ true → ((key : Bytes) → touches key op ≡ true → s ≡ is_some (live_of (live list) key)) →
    length (live (list ++ op ∷ [])) + cond s 1 0 ≡ length (live list) + cond (is_update op) 1 0
one-made list (update k v n) s keyed stood =
    let op = update k v n in
    let rest = filter (λ (e : Live). not (bytes_eq k e.key || false)) (live list) in
    let parts = ap length (live-append 0 list (op ∷ [])) in
    let sizes = length-append rest (live_from (0 + length list) (op ∷ [])) in
    let one = kept-length k (live list) (live-apart 0 list) s (stood k (bytes_same k)) in
    omega (arith, parts, sizes, one)
one-made list (delete k) s keyed stood =
    let op = delete k in
    let rest = filter (λ (e : Live). not (bytes_eq k e.key || false)) (live list) in
    let parts = ap length (live-append 0 list (op ∷ [])) in
    let sizes = length-append rest (live_from (0 + length list) (op ∷ [])) in
    let one = kept-length k (live list) (live-apart 0 list) s (stood k (bytes_same k)) in
    omega (arith, parts, sizes, one)
one-made list (commit m f) s keyed stood = cc

-- how many keys are live after operations, of each key one at most
pub count-made : (list : List Operation) (made : List Touch) → Each IsKeyed made → Each (Stood list) made → Once (operations_of made) →
    length (live (list ++ operations_of made)) + count_by (λ t. is_some t.before) made ≡ length (live list) + count_by (λ t. is_update t.operation) made
count-made list [] keyed stood once = let same = ap (λ ops. length (live ops)) (append-nil list) in omega (arith, same)
count-made list (t ∷ ts) keyed stood once =
    let op = t.operation in
    let one = one-made list op (is_some t.before) keyed.0 stood.0 in
    let later = count-made (list ++ op ∷ []) ts keyed.1 (still ts stood.1 (λ key here. here)) once.1 in
    let all = ap (λ ops. length (live ops)) (append_assoc list (op ∷ []) (operations_of ts)) in
    let befores = sum_by-cons (λ (u : Touch). cond (is_some u.before) 1 0) t ts in
    let updates = sum_by-cons (λ (u : Touch). cond (is_update u.operation) 1 0) t ts in
    omega (arith, one, later, all, befores, updates)
  where
    away : (key : Bytes) → touched key (operations_of ts) ≡ true → (h : Bool) → touches key t.operation ≡ h → h ≡ false
    away key later true here = absurd (true≢false (sym later ∙ once.0 key here))
    away key later false here = refl

    -- a key of a later one is live after this one if it was before it
    still : (us : List Touch) → Each (Stood list) us → ((key : Bytes) → touched key (operations_of us) ≡ true → touched key (operations_of ts) ≡ true) → Each (Stood (list ++ t.operation ∷ [])) us
    still [] stood within = tt
    still (u ∷ us) stood within = (
      λ key here.
          let free = away key (within key (ap (λ b. b || touched key (operations_of us)) here)) (touches key t.operation) refl in
          stood.0 key here ∙ ap is_some (sym (live_of-append list (t.operation ∷ []) key (ap (λ b. b || false) free))),
      still us stood.1 (λ key here. within key (or-later (touches key u.operation) (touched key (operations_of us)) here)),
    )

count-updates : (ts : List Touch) → count_by (λ t. is_update t.operation) ts ≡ count_by is_update (operations_of ts)
count-updates [] = refl
count-updates (t ∷ ts) =
    sum_by-cons (λ (t : Touch). cond (is_update t.operation) 1 0) t ts ∙ ap (λ n. cond (is_update t.operation) 1 0 + n) (count-updates ts)
    ∙ sym (sum_by-cons (λ op. cond (is_update op) 1 0) t.operation (operations_of ts))

-- the same, without those that stood and with those that are updates
pub count-behind : (list : List Operation) (made : List Touch) → Each IsKeyed made → Each (Stood list) made → Once (operations_of made) → (before behind : ℕ) → before ≡ length (live list) →
    behind ≡ before - count_by (λ t. is_some t.before) made + count_by (λ t. is_update t.operation) made → behind ≡ length (live (list ++ operations_of made))
count-behind list made keyed stood once before behind all count =
    let ops = operations_of made in
    let kept = filter (λ (e : Live). not (touched e.key ops)) (live list) in
    let sum = count-made list made keyed stood once in
    let parts = ap length (live-append 0 list ops) in
    let sizes = length-append kept (live_from (0 + length list) ops) in
    let new = live-once (0 + length list) ops once in
    let shown = count-updates made in
    omega (arith, sum, parts, sizes, new, shown, all, count)

single-keys : (d : Write) (us : List Write) → Each (λ k. bytes_eq d.key k ≡ false) (map (λ (u : Write). u.key) us) → Each (λ u. bytes_eq u.key d.key ≡ false) us
single-keys d [] h = tt
single-keys d (u ∷ us) h = (bytes-turned u.key d.key ∙ h.0, single-keys d us h.1)

-- decisions of different keys
pub singles : (us : List Write) → IsDistinct bytes_eq (map (λ (u : Write). u.key) us) → Single us
unfolding IsDistinct
singles [] h = tt
singles (u ∷ us) h = (single-keys u us h.0, singles us h.1)

-- in an unordered database
pub counts-unordered : CountsMoves unordered.moves
counts-unordered list ds single alive = decided-counts list ds (singles ds single) (recursion_from_All (λ (d : Write). contains_key (live_keys list) d.key ≡ true) ds alive)
