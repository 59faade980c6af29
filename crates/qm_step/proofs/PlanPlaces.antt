-- The writes to live keys by location, and where the keys of a step's operations stood before.
use Rattle.std.proofs.Common.{◌≡◌, ℕ, suc, ◌<◌, Bool, true, false, cond, List, [], ◌∷◌, ◌++◌, length, map, refl, ap, ap₂, sym, ◌∙◌, subst, Option, Some, None, arith, Ordering, Less, Equal, Greater, true≢false}
use Rattle.std.specs.Prelude.{◌==◌, nat_lt, filter_map, option_map, bytes_eq, is_some, if◌then◌else◌, All, Contains}
use Rattle.std.specs.Option.{option_or}
use Rattle.std.specs.BTreeMap.{insert_entry}
use Rattle.std.specs.List.{cons_option, AllByRecursion as Each}
use Rattle.std.specs.Ordering.{nat_cmp, match_ordering}
use Rattle.std.proofs.lemmas.List.{map-append}
use Rattle.std.proofs.lemmas.List.Folds.{find-append}
use Rattle.std.proofs.lemmas.List.Elements.{All-append, All-from_recursion, recursion_from_All, All-contains_itself}
use Rattle.qm_model.specs.Operations.{Bytes, Operation, update, delete, commit}
use Rattle.qm_model.specs.Live.{Live, live, live_from, live_of, touched}
use Rattle.qm_operations.specs.Parts.{key_of}
use Rattle.qm_model.specs.Step.{unordered}
use Rattle.qm_model.specs.Writes.{Write, write_of, last_writes, operation_of, rewrite_of, create_of, unordered_writes}
use Rattle.qm_model.proofs.LastWrites.{bytes_same, write_of-key}
use Rattle.qm_model.proofs.Maps.{same_key}
use Rattle.qm_model.proofs.Pushes.{Within, live_from-within, Each-weaker}
use Rattle.qm_step.specs.Changes.{place_in}
use Rattle.qm_step.specs.Kinds.{AreWritten}
use Rattle.qm_step.specs.Touches.{Touch, operations_of, IsFrom, IsKeyed, Once, rewrite_here, moved_touch, new_touch, written_touches}
use Rattle.qm_step.proofs.PlanWrites.{once-writes, touches-operation}
use Rattle.qm_step.proofs.Standing.{AreApart, live-of_key}
use Rattle.qm_index.proofs.Basics.{bytes-turned, or-none}

-- entries ascend by location
abbrev pub Rises : List Live → Type 0
Rises [] = Unit {0}
Rises (e ∷ es) = Each (λ u. e.location < u.location) es × Rises es

pub live-rises : (i : ℕ) (ops : List Operation) → Rises (live_from i ops)
live-rises i [] = tt
live-rises i (update k v n ∷ rest) = cases (touched k rest) (live-rises (suc i) rest)
  where
    e : Live
    e = record { location = i; key = k; value = v; next = n }

    cases : (t : Bool) → Rises (live_from (suc i) rest) → Rises (cons_option (if t then None else Some (record { location = i; key = k; value = v; next = n })) (live_from (suc i) rest))
    cases true later = later
    cases false later = (Each-weaker (Within (suc i) (length rest)) (λ u. i < u.location) (λ u h. let low = h.0 in omega arith) (live_from (suc i) rest) (live_from-within (suc i) rest), later)
live-rises i (delete k ∷ rest) = live-rises (suc i) rest
live-rises i (commit m f ∷ rest) = live-rises (suc i) rest

write_of-push : (ws : List Write) (w : Write) (key : Bytes) → write_of (ws ++ w ∷ []) key ≡ option_or (write_of ws key) (cond (bytes_eq w.key key) (Some w) None)
write_of-push ws w key = find-append (λ (u : Write). bytes_eq u.key key) ws (w ∷ [])

-- a write to another key does nothing to an entry
other-key : (ws : List Write) (w : Write) (e : Live) → bytes_eq w.key e.key ≡ false → rewrite_here (ws ++ w ∷ []) e ≡ rewrite_here ws e
other-key ws w e apart =
    ap (λ o. option_map (λ (op : Operation). (e.location, op)) (option_map operation_of o))
    (write_of-push ws w e.key ∙ ap (λ t. option_or (write_of ws e.key) (cond t (Some w) None)) apart ∙ or-none (write_of ws e.key))

others : (ws : List Write) (w : Write) (es : List Live) → Each (λ u. bytes_eq w.key u.key ≡ false) es → filter_map (rewrite_here (ws ++ w ∷ [])) es ≡ filter_map (rewrite_here ws) es
others ws w [] h = refl
others ws w (e ∷ es) h = ap₂ (λ o xs. cons_option o xs) (other-key ws w e h.0) (others ws w es h.1)

nat-less : (a b : ℕ) → a < b → nat_cmp a b ≡ Less
nat-less a b h = by (nat_lt a b) refl
  where
    by : (t : Bool) → nat_lt a b ≡ t → cond t Less (cond (a == b) Equal Greater) ≡ Less
    by true is = refl
    by false is = grind (arith, h, is)

nat-greater : (a b : ℕ) → b < a → nat_cmp a b ≡ Greater
nat-greater a b h = grind (arith, h)

-- a place below all comes first
first-in : (ws : List Write) (l : ℕ) (op : Operation) (es : List Live) → Each (λ u. l < u.location) es → insert_entry nat_cmp (filter_map (rewrite_here ws) es) l op ≡ (l, op) ∷ filter_map (rewrite_here ws) es
first-in ws l op [] h = refl
first-in ws l op (e ∷ es) h = by (rewrite_of ws e) (first-in ws l op es h.1)
  where
    rest : List (ℕ × Operation)
    rest = filter_map (rewrite_here ws) es

    by : (o : Option Operation) → insert_entry nat_cmp rest l op ≡ (l, op) ∷ rest →
        insert_entry nat_cmp (cons_option (option_map (λ (op : Operation). (e.location, op)) o) rest) l op ≡ (l, op) ∷ cons_option (option_map (λ (op : Operation). (e.location, op)) o) rest
    by None later = later
    by (Some x) later = ap (λ o. match_ordering o ((l, op) ∷ (e.location, x) ∷ rest) ((e.location, op) ∷ rest) ((e.location, x) ∷ insert_entry nat_cmp rest l op)) (nat-less l e.location h.0)

location-in : (es : List Live) (key : Bytes) (e : Live) (l : ℕ) → live_of es key ≡ Some e → Each (λ u. l < u.location) es → l < e.location
location-in [] key e l is h = cc
location-in (u ∷ es) key e l is h = by (bytes_eq u.key key) is (λ found. location-in es key e l found h.1)
  where
    by : (t : Bool) → cond t (Some u) (live_of es key) ≡ Some e → (live_of es key ≡ Some e → l < e.location) → l < e.location
    by true found later = let same : u ≡ e = cc in subst (λ (x : Live). l < x.location) same h.0
    by false found later = later found

-- one more write, of a key that is live and had none: it goes to its place by location
pub one-more : (ws : List Write) (w : Write) (es : List Live) (e : Live) → AreApart es → Rises es → write_of ws w.key ≡ None → live_of es w.key ≡ Some e →
    insert_entry nat_cmp (filter_map (rewrite_here ws) es) e.location (operation_of w) ≡ filter_map (rewrite_here (ws ++ w ∷ [])) es
one-more ws w [] e apart rises none is = cc
one-more ws w (u ∷ es) e apart rises none is = by (bytes_eq u.key w.key) refl is (one-more ws w es e apart.1 rises.1 none)
  where
    rest : List (ℕ × Operation)
    rest = filter_map (rewrite_here ws) es

    all : List Write
    all = ws ++ w ∷ []

    by : (t : Bool) → bytes_eq u.key w.key ≡ t → cond t (Some u) (live_of es w.key) ≡ Some e → (live_of es w.key ≡ Some e → insert_entry nat_cmp rest e.location (operation_of w) ≡ filter_map (rewrite_here all) es) →
        insert_entry nat_cmp (cons_option (rewrite_here ws u) rest) e.location (operation_of w) ≡ cons_option (rewrite_here all u) (filter_map (rewrite_here all) es)
    by true at found later =
        let same : u ≡ e = cc in
        let key : u.key ≡ w.key = same_key u.key w.key at in
        let place : u.location ≡ e.location = ap (λ (x : Live). x.location) same in
        let old : rewrite_here ws u ≡ None = ap (λ o. option_map (λ (op : Operation). (u.location, op)) (option_map operation_of o)) (ap (write_of ws) key ∙ none) in
        let new : rewrite_here all u ≡ Some (u.location, operation_of w) =
        ap (λ o. option_map (λ (op : Operation). (u.location, op)) (option_map operation_of o))
        (ap (write_of all) key ∙ write_of-push ws w w.key ∙ ap₂ (λ o t. option_or o (cond t (Some w) None)) none (bytes_same w.key)) in
        ap₂ (λ o n. insert_entry nat_cmp (cons_option o rest) n (operation_of w)) old (sym place)
        ∙ first-in ws u.location (operation_of w) es rises.0
        ∙ ap (λ xs. (u.location, operation_of w) ∷ xs) (sym (others ws w es (subst (λ k. Each (λ x. bytes_eq k x.key ≡ false) es) key apart.0)))
        ∙ ap (λ o. cons_option o (filter_map (rewrite_here all) es)) (sym new)
    by false at found later =
        ap (λ o. insert_entry nat_cmp (cons_option o rest) e.location (operation_of w)) (sym same)
        ∙ either (rewrite_here all u) refl
      where
        same : rewrite_here all u ≡ rewrite_here ws u
        same = other-key ws w u (bytes-turned w.key u.key ∙ at)

        above : u.location < e.location
        above = location-in es w.key e u.location found rises.0

        either : (o : Option (ℕ × Operation)) → rewrite_here all u ≡ o → insert_entry nat_cmp (cons_option o rest) e.location (operation_of w) ≡ cons_option o (filter_map (rewrite_here all) es)
        either None here = later found
        either (Some x) here =
            let place : x.0 ≡ u.location = placed_at (rewrite_of all u) x here in
            ap (λ o. match_ordering o ((e.location, operation_of w) ∷ x ∷ rest) ((x.0, operation_of w) ∷ rest) (x ∷ insert_entry nat_cmp rest e.location (operation_of w)))
            (ap (nat_cmp e.location) place ∙ nat-greater e.location u.location above)
            ∙ ap (λ xs. x ∷ xs) (later found)
          where
            placed_at : (o : Option Operation) (x : ℕ × Operation) → option_map (λ (op : Operation). (u.location, op)) o ≡ Some x → x.0 ≡ u.location
            placed_at None x h = cc
            placed_at (Some op) x h = let same : (u.location, op) ≡ x = cc in sym (ap (λ (p : ℕ × Operation). p.0) same)

-- a write of a key that is not live goes nowhere
pub none-more : (ws : List Write) (w : Write) (es : List Live) → live_of es w.key ≡ None → filter_map (rewrite_here ws) es ≡ filter_map (rewrite_here (ws ++ w ∷ [])) es
none-more ws w es none = sym (others ws w es (apart es none))
  where
    apart : (es : List Live) → live_of es w.key ≡ None → Each (λ u. bytes_eq w.key u.key ≡ false) es
    apart [] h = tt
    apart (u ∷ es) h = by (bytes_eq u.key w.key) refl h (apart es)
      where
        by : (t : Bool) → bytes_eq u.key w.key ≡ t → cond t (Some u) (live_of es w.key) ≡ None → (live_of es w.key ≡ None → Each (λ u. bytes_eq w.key u.key ≡ false) es) → Each (λ u. bytes_eq w.key u.key ≡ false) (u ∷ es)
        by true at h later = cc
        by false at h later = (bytes-turned w.key u.key ∙ at, later h)

-- entries that are shown by f
pub insert-shown : {X Y : Type 0} (f : X → Y) (es : List (ℕ × X)) (k : ℕ) (x : X) → map (λ e. (e.0, f e.1)) (insert_entry nat_cmp es k x) ≡ insert_entry nat_cmp (map (λ e. (e.0, f e.1)) es) k (f x)
insert-shown f [] k x = refl
insert-shown f (e ∷ es) k x = by (nat_cmp k e.0) (insert-shown f es k x)
  where
    by : (o : Ordering) → map (λ e. (e.0, f e.1)) (insert_entry nat_cmp es k x) ≡ insert_entry nat_cmp (map (λ e. (e.0, f e.1)) es) k (f x) →
        map (λ e. (e.0, f e.1)) (match_ordering o ((k, x) ∷ e ∷ es) ((e.0, x) ∷ es) (e ∷ insert_entry nat_cmp es k x)) ≡
        match_ordering o ((k, f x) ∷ (e.0, f e.1) ∷ map (λ e. (e.0, f e.1)) es) ((e.0, f x) ∷ map (λ e. (e.0, f e.1)) es) ((e.0, f e.1) ∷ insert_entry nat_cmp (map (λ e. (e.0, f e.1)) es) k (f x))
    by Less later = refl
    by Equal later = refl
    by Greater later = ap (λ xs. (e.0, f e.1) ∷ xs) later

rewrites-operations : (ws : List Write) (es : List Live) → operations_of (map moved_touch (filter_map (rewrite_here ws) es)) ≡ filter_map (rewrite_of ws) es
rewrites-operations ws [] = refl
rewrites-operations ws (e ∷ es) = by (rewrite_of ws e) (rewrites-operations ws es)
  where
    by : (o : Option Operation) → operations_of (map moved_touch (filter_map (rewrite_here ws) es)) ≡ filter_map (rewrite_of ws) es →
        operations_of (map moved_touch (cons_option (option_map (λ (op : Operation). (e.location, op)) o) (filter_map (rewrite_here ws) es))) ≡ cons_option o (filter_map (rewrite_of ws) es)
    by None later = later
    by (Some op) later = ap (λ xs. op ∷ xs) later

creates-operations : (ops : List Operation) → operations_of (map new_touch ops) ≡ ops
creates-operations [] = refl
creates-operations (op ∷ ops) = ap (λ xs. op ∷ xs) (creates-operations ops)

written-operations : (base : List Operation) (ws : List Write) → operations_of (written_touches base (last_writes ws)) ≡ unordered_writes base ws
written-operations base ws =
    map-append (λ (t : Touch). t.operation) (map moved_touch (filter_map (rewrite_here (last_writes ws)) (live base))) (map new_touch (filter_map (create_of (live base)) (last_writes ws)))
    ∙ ap₂ (λ a b. a ++ b) (rewrites-operations (last_writes ws) (live base)) (creates-operations (filter_map (create_of (live base)) (last_writes ws)))

some-place : (base : List Operation) (key : Bytes) (e : Live) → live_of (live base) key ≡ Some e → place_in base key ≡ Some e.location
some-place base key e h = ap (λ o. option_map (λ (p : ℕ × Bytes). p.0) (option_map (λ (e : Live). (e.location, e.value)) o)) h

no-place : (base : List Operation) (key : Bytes) → is_some (live_of (live base) key) ≡ false → None ≡ place_in base key
no-place base key h = by (live_of (live base) key) h
  where
    by : (o : Option Live) → is_some o ≡ false → ◌≡◌ {A = Option ℕ} None (option_map (λ (p : ℕ × Bytes). p.0) (option_map (λ (e : Live). (e.location, e.value)) o))
    by None h = refl
    by (Some e) h = absurd (true≢false h)

-- each is from the base list
written-from : (base : List Operation) (ws : List Write) → All (IsFrom base) (written_touches base ws)
written-from base ws =
    All-append (IsFrom base) (map moved_touch (filter_map (rewrite_here ws) (live base))) (map new_touch (filter_map (create_of (live base)) ws))
    (All-from_recursion (IsFrom base) _ (moved (live base) (recursion_from_All (Contains (live base)) (live base) (All-contains_itself (live base)))))
    (All-from_recursion (IsFrom base) _ (new ws))
  where
    moved : (es : List Live) → Each (Contains (live base)) es → Each (IsFrom base) (map moved_touch (filter_map (rewrite_here ws) es))
    moved [] h = tt
    moved (e ∷ es) h = by (write_of ws e.key) refl (moved es h.1)
      where
        by : (o : Option Write) → write_of ws e.key ≡ o → Each (IsFrom base) (map moved_touch (filter_map (rewrite_here ws) es)) →
            Each (IsFrom base) (map moved_touch (cons_option (option_map (λ (op : Operation). (e.location, op)) (option_map operation_of o)) (filter_map (rewrite_here ws) es)))
        by None is later = later
        by (Some w) is later = (
          λ key here.
              let same : e.key ≡ key = sym (write_of-key ws e.key w is) ∙ same_key w.key key (sym (touches-operation w key) ∙ here) in
              sym (ap (place_in base) (sym same) ∙ some-place base e.key e (live-of_key base e h.0)),
          later,
        )

    new : (us : List Write) → Each (IsFrom base) (map new_touch (filter_map (create_of (live base)) us))
    new [] = tt
    new (u ∷ us) = by (is_some (live_of (live base) u.key)) refl u.value (new us)
      where
        by : (l : Bool) → is_some (live_of (live base) u.key) ≡ l → (value : Option Bytes) → Each (IsFrom base) (map new_touch (filter_map (create_of (live base)) us)) →
            Each (IsFrom base) (map new_touch (cons_option (if l then None else option_map (λ v. update u.key v None) value) (filter_map (create_of (live base)) us)))
        by true is value later = later
        by false is None later = later
        by false is (Some v) later = (λ key here. no-place base key (ap (λ k. is_some (live_of (live base) k)) (sym (same_key u.key key here)) ∙ is), later)

-- each is of a key
written-keyed : (base : List Operation) (ws : List Write) → All IsKeyed (written_touches base ws)
written-keyed base ws =
    All-append IsKeyed (map moved_touch (filter_map (rewrite_here ws) (live base))) (map new_touch (filter_map (create_of (live base)) ws)) (All-from_recursion IsKeyed _ (moved (live base))) (All-from_recursion IsKeyed _ (new ws))
  where
    one : (w : Write) (value : Option Bytes) → is_some (key_of (operation_of (record { key = w.key; value = value }))) ≡ true
    one w None = refl
    one w (Some v) = refl

    moved : (es : List Live) → Each IsKeyed (map moved_touch (filter_map (rewrite_here ws) es))
    moved [] = tt
    moved (e ∷ es) = by (write_of ws e.key) (moved es)
      where
        by : (o : Option Write) → Each IsKeyed (map moved_touch (filter_map (rewrite_here ws) es)) → Each IsKeyed (map moved_touch (cons_option (option_map (λ (op : Operation). (e.location, op)) (option_map operation_of o)) (filter_map (rewrite_here ws) es)))
        by None later = later
        by (Some w) later = (one w w.value, later)

    new : (us : List Write) → Each IsKeyed (map new_touch (filter_map (create_of (live base)) us))
    new [] = tt
    new (u ∷ us) = by (is_some (live_of (live base) u.key)) u.value (new us)
      where
        by : (l : Bool) (value : Option Bytes) → Each IsKeyed (map new_touch (filter_map (create_of (live base)) us)) → Each IsKeyed (map new_touch (cons_option (if l then None else option_map (λ v. update u.key v None) value) (filter_map (create_of (live base)) us)))
        by true value later = later
        by false None later = later
        by false (Some v) later = (refl, later)

-- what an unordered database appends for writes
pub written-unordered : (base : List Operation) (ws : List Write) (touches : List Touch) → touches ≡ written_touches base (last_writes ws) → AreWritten unordered base ws touches
written-unordered base ws touches is = subst (AreWritten unordered base ws) (sym is) (record {
  operations = written-operations base ws;
  from = written-from base (last_writes ws);
  keyed = written-keyed base (last_writes ws);
  once = subst Once (sym (written-operations base ws)) (once-writes base ws);
})
