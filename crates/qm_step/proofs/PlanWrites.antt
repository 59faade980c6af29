-- Which keys the operations of writes touch: each once.
use Rattle.std.proofs.Common.{◌≡◌, ℕ, zero, suc, ◌+◌, Bool, true, false, cond, List, [], ◌∷◌, ◌++◌, length, drop, count_by, refl, ap, ap₂, sym, ◌∙◌, subst, Option, Some, None, arith, ◌||◌, ◌&&◌, true≢false}
use Rattle.std.specs.Prelude.{not, filter, filter_map, option_map, option_and_then, bytes_eq, is_some, if◌then◌else◌}
use Rattle.std.specs.List.{cons_option, list_any, AllByRecursion as Each}
use Rattle.std.specs.Cmp.Lexicographic.{slice_cmp}
use Rattle.std.specs.Ordering.{nat_cmp, is_lt}
use Rattle.std.specs.declared.cmp.Ordering.TheVariants.{Less}
use Rattle.std.proofs.lemmas.List.Folds.{list_any-append}
use Rattle.std.proofs.lemmas.List.Sums.{sum_by-cons}
use Rattle.qm_operations.specs.Parts.{is_update}
use Rattle.qm_model.specs.Operations.{Bytes, Operation, update, delete, commit}
use Rattle.qm_model.specs.Live.{Live, live, live_from, live_of, touches, touched}
use Rattle.qm_model.specs.Writes.{Write, write_of, last_writes, operation_of, rewrite_of, create_of, unordered_writes}
use Rattle.qm_model.proofs.LastWrites.{bytes_same, write_of-key, Rising, last_writes-Rising}
use Rattle.qm_model.proofs.Maps.{same_key}
use Rattle.qm_step.specs.Changes.{update_at}
use Rattle.qm_step.specs.Touches.{Once}
use Rattle.qm_step.proofs.PlanReads.{unless_touched}
use Rattle.qm_step.proofs.Standing.{AreApart, live-apart}
use Rattle.qm_index.proofs.Basics.{bytes-turned, or-later}
use Rattle.qm_chain.proofs.KeyOrder.{apart, eq_back}

and-false : (a : Bool) → (a && false) ≡ false
and-false true = refl
and-false false = refl

-- an operation of a write touches its key alone
pub touches-operation : (w : Write) (key : Bytes) → touches key (operation_of w) ≡ bytes_eq w.key key
touches-operation w key = by w.value
  where
    by : (value : Option Bytes) → touches key (operation_of (record { key = w.key; value = value })) ≡ bytes_eq w.key key
    by None = refl
    by (Some v) = refl

-- the writes to live keys touch the keys that are live and written
pub touched-rewrites : (ws : List Write) (key : Bytes) (es : List Live) → touched key (filter_map (rewrite_of ws) es) ≡ (is_some (live_of es key) && is_some (write_of ws key))
touched-rewrites ws key [] = refl
touched-rewrites ws key (e ∷ es) = by (bytes_eq e.key key) (write_of ws e.key) refl refl (touched-rewrites ws key es)
  where
    by : (t : Bool) (o : Option Write) → bytes_eq e.key key ≡ t → write_of ws e.key ≡ o → touched key (filter_map (rewrite_of ws) es) ≡ (is_some (live_of es key) && is_some (write_of ws key)) →
        touched key (cons_option (option_map operation_of o) (filter_map (rewrite_of ws) es)) ≡ (is_some (cond t (Some e) (live_of es key)) && is_some (write_of ws key))
    by true None at is later =
        let none : is_some (write_of ws key) ≡ false = ap is_some (ap (write_of ws) (sym (same_key e.key key at)) ∙ is) in
        later ∙ ap (λ b. is_some (live_of es key) && b) none ∙ and-false (is_some (live_of es key)) ∙ sym none
    by false None at is later = later
    by true (Some w) at is later =
        let one : is_some (write_of ws key) ≡ true = ap is_some (ap (write_of ws) (sym (same_key e.key key at)) ∙ is) in
        let here : touches key (operation_of w) ≡ true = touches-operation w key ∙ ap (λ k. bytes_eq k key) (write_of-key ws e.key w is) ∙ at in
        ap (λ b. b || touched key (filter_map (rewrite_of ws) es)) here ∙ sym one
    by false (Some w) at is later =
        let here : touches key (operation_of w) ≡ false = touches-operation w key ∙ ap (λ k. bytes_eq k key) (write_of-key ws e.key w is) ∙ at in
        ap (λ b. b || touched key (filter_map (rewrite_of ws) es)) here ∙ later

-- the write gives the key a value
abbrev pub gives : Bytes → Write → Bool
gives key w = bytes_eq w.key key && is_some w.value

-- the creates touch the keys that are not live and get a value
pub touched-creates : (es : List Live) (key : Bytes) (ws : List Write) → touched key (filter_map (create_of es) ws) ≡ (not (is_some (live_of es key)) && list_any (gives key) ws)
touched-creates es key [] = sym (and-false (not (is_some (live_of es key))))
touched-creates es key (w ∷ ws) =
    by (is_some (live_of es w.key)) (bytes_eq w.key key) (is_some (live_of es key)) w.value refl (λ at. ap (λ k. is_some (live_of es k)) (same_key w.key key at)) (touched-creates es key ws)
  where
    more : List Operation
    more = filter_map (create_of es) ws

    by : (l t all : Bool) (value : Option Bytes) → bytes_eq w.key key ≡ t → (t ≡ true → l ≡ all) → touched key more ≡ (not all && list_any (gives key) ws) →
        touched key (cons_option (if l then None else option_map (λ v. update w.key v None) value) more) ≡ (not all && ((t && is_some value) || list_any (gives key) ws))
    by true false all value at same later = later
    by false false all None at same later = later
    by false false all (Some v) at same later = ap (λ b. b || touched key more) at ∙ later
    by true true true value at same later = later
    by true true false value at same later = absurd (true≢false (same refl))
    by false true true value at same later = absurd (true≢false (sym (same refl)))
    by false true false None at same later = later
    by false true false (Some v) at same later = ap (λ b. b || touched key more) at

-- so is each of two lists that touch no key both
pub once-append : (xs ys : List Operation) → Once xs → Once ys → ((key : Bytes) → touched key xs ≡ true → touched key ys ≡ false) → Once (xs ++ ys)
once-append [] ys first second apart = second
once-append (x ∷ xs) ys first second apart = (
  λ key here. list_any-append (touches key) xs ys ∙ ap₂ (λ a b. a || b) (first.0 key here) (apart key (ap (λ b. b || touched key xs) here)),
  once-append xs ys first.1 second (λ key later. apart key (or-later (touches key x) (touched key xs) later)),
)

-- no entry has a key that is apart from all
apart-none : (key : Bytes) (es : List Live) → Each (λ u. bytes_eq key u.key ≡ false) es → live_of es key ≡ None
apart-none key [] h = refl
apart-none key (e ∷ es) h = ap (λ t. cond t (Some e) (live_of es key)) (bytes-turned e.key key ∙ h.0) ∙ apart-none key es h.1

once-rewrites : (ws : List Write) (es : List Live) → AreApart es → Once (filter_map (rewrite_of ws) es)
once-rewrites ws [] apart = tt
once-rewrites ws (e ∷ es) apart = by (write_of ws e.key) refl (once-rewrites ws es apart.1)
  where
    by : (o : Option Write) → write_of ws e.key ≡ o → Once (filter_map (rewrite_of ws) es) → Once (cons_option (option_map operation_of o) (filter_map (rewrite_of ws) es))
    by None is later = later
    by (Some w) is later = (
      λ key here.
          let same : e.key ≡ key = sym (write_of-key ws e.key w is) ∙ same_key w.key key (sym (touches-operation w key) ∙ here) in
          touched-rewrites ws key es ∙ ap (λ o. is_some {T = Live} o && is_some (write_of ws key)) (ap (live_of es) (sym same) ∙ apart-none e.key es apart.0),
      later,
    )

none-given : (key : Bytes) (ws : List Write) → Each (λ u. slice_cmp nat_cmp key u.key ≡ Less) ws → list_any (gives key) ws ≡ false
none-given key [] h = refl
none-given key (w ∷ ws) h = ap₂ (λ a b. (a && is_some w.value) || b) (eq_back key w.key (apart key w.key (ap is_lt h.0))) (none-given key ws h.1)

once-creates : (es : List Live) (ws : List Write) → Rising ws → Once (filter_map (create_of es) ws)
once-creates es [] rising = tt
once-creates es (w ∷ ws) rising = by (is_some (live_of es w.key)) w.value (once-creates es ws rising.1)
  where
    by : (l : Bool) (value : Option Bytes) → Once (filter_map (create_of es) ws) → Once (cons_option (if l then None else option_map (λ v. update w.key v None) value) (filter_map (create_of es) ws))
    by true value later = later
    by false None later = later
    by false (Some v) later = (
      λ key here.
          touched-creates es key ws
          ∙ ap (λ b. not (is_some (live_of es key)) && b) (ap (λ k. list_any (gives k) ws) (sym (same_key w.key key here)) ∙ none-given w.key ws rising.0)
          ∙ and-false (not (is_some (live_of es key))),
      later,
    )

module _ (base : List Operation) (ws : List Write) where
  abbrev last : List Write
  last = last_writes ws

  abbrev rewrites : List Operation
  rewrites = filter_map (rewrite_of last) (live base)

  abbrev creates : List Operation
  creates = filter_map (create_of (live base)) last

  pub once-writes : Once (unordered_writes base ws)
  once-writes = once-append rewrites creates (once-rewrites last (live base) (live-apart 0 base)) (once-creates (live base) last (last_writes-Rising ws)) (λ key here.
      touched-creates (live base) key last ∙ ap (λ b. not b && list_any (gives key) last) (both (is_some (live_of (live base) key)) (is_some (write_of last key)) (sym (touched-rewrites last key (live base)) ∙ here)))
    where
      both : (a b : Bool) → (a && b) ≡ true → a ≡ true
      both true b h = refl
      both false b h = h

-- a list that touches each key once has a live update for each update
pub live-once : (i : ℕ) (ops : List Operation) → Once ops → length (live_from i ops) ≡ count_by is_update ops
live-once i [] once = refl
live-once i (update k v n ∷ rest) once =
    let e : Live = record { location = i; key = k; value = v; next = n } in
    let one : suc (count_by is_update rest) ≡ 1 + count_by is_update rest = omega arith in
    ap (λ t. length (cons_option (if t then None else Some e) (live_from (suc i) rest))) (once.0 k (bytes_same k))
    ∙ ap suc (live-once (suc i) rest once.1) ∙ one ∙ sym (sum_by-cons (λ op. cond (is_update op) 1 0) (update k v n) rest)
live-once i (delete k ∷ rest) once =
    let none : count_by is_update rest ≡ 0 + count_by is_update rest = omega arith in
    live-once (suc i) rest once.1 ∙ none ∙ sym (sum_by-cons (λ op. cond (is_update op) 1 0) (delete k) rest)
live-once i (commit m f ∷ rest) once =
    let none : count_by is_update rest ≡ 0 + count_by is_update rest = omega arith in
    live-once (suc i) rest once.1 ∙ none ∙ sym (sum_by-cons (λ op. cond (is_update op) 1 0) (commit m f) rest)

-- and each of its updates is live
pub said-once : (ops : List Operation) (i : ℕ) → Once ops → option_and_then (unless_touched (drop (i + 1) ops)) (update_at ops i) ≡ update_at ops i
said-once [] i once = refl
said-once (update k v n ∷ rest) zero once = ap (λ t. if t then None else Some (update k v n)) (once.0 k (bytes_same k))
said-once (delete k ∷ rest) zero once = refl
said-once (commit m f ∷ rest) zero once = refl
said-once (op ∷ rest) (suc i) once =
    let next : suc i + 1 ≡ suc (i + 1) = omega arith in
    ap (λ n. option_and_then (unless_touched (drop n (op ∷ rest))) (update_at rest i)) next ∙ said-once rest i once.1

-- no entry goes, or one, if those of a key are dropped
pub all-kept : (k : Bytes) (es : List Live) → Each (λ u. bytes_eq k u.key ≡ false) es → length (filter (λ u. not (bytes_eq k u.key || false)) es) ≡ length es
all-kept k [] h = refl
all-kept k (e ∷ es) h = ap (λ t. length (cond (not (t || false)) (e ∷ filter (λ u. not (bytes_eq k u.key || false)) es) (filter (λ u. not (bytes_eq k u.key || false)) es))) h.0 ∙ ap suc (all-kept k es h.1)

pub one-dropped : (k : Bytes) (es : List Live) → AreApart es → is_some (live_of es k) ≡ true → suc (length (filter (λ u. not (bytes_eq k u.key || false)) es)) ≡ length es
one-dropped k [] apart h = absurd (true≢false (sym h))
one-dropped k (e ∷ es) apart h = by (bytes_eq e.key k) refl h (one-dropped k es apart.1)
  where
    rest : List Live
    rest = filter (λ u. not (bytes_eq k u.key || false)) es

    by : (t : Bool) → bytes_eq e.key k ≡ t → is_some (cond t (Some e) (live_of es k)) ≡ true → (is_some (live_of es k) ≡ true → suc (length rest) ≡ length es) → suc (length (cond (not (bytes_eq k e.key || false)) (e ∷ rest) rest)) ≡ suc (length es)
    by true at h later =
        ap (λ t. suc (length (cond (not (t || false)) (e ∷ rest) rest))) (bytes-turned k e.key ∙ at)
        ∙ ap suc (all-kept k es (subst (λ x. Each (λ u. bytes_eq x u.key ≡ false) es) (same_key e.key k at) apart.0))
    by false at h later =
        ap (λ t. suc (length (cond (not (t || false)) (e ∷ rest) rest))) (bytes-turned k e.key ∙ at) ∙ ap suc (later h)
