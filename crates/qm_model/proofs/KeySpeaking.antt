-- What a yes on the proof of an operation, a key, an absence or an operations root says of a list.
use Rattle.std.proofs.Common.{◌≡◌, ◌⊎◌, ℕ, zero, suc, ◌+◌, ◌-◌, ◌*◌, ◌/◌, ◌^◌, ◌≤◌, Bool, true, false, List, [], ◌∷◌, ◌++◌, length, map, take, drop, arith, ap, ap₂, sym, ◌∙◌, refl, Option, Some, None, All, Contains, get_or, ⊎_elim, inl, inr, subst, append_assoc, ◌%◌}
use Rattle.std.specs.Prelude.{◌&&◌, ◌||◌, not, bytes_eq, option_map, if◌then◌else◌, slice_get, filter, fold, is_some}
use Rattle.std.specs.List.{cons_option, AllByRecursion as Each}
use Rattle.std.specs.Option.{option_or}
use Rattle.std.specs.Cmp.Lexicographic.{slice_cmp}
use Rattle.std.specs.declared.cmp.Ordering.{Ordering}
use Rattle.std.specs.declared.cmp.Ordering.TheVariants.{Less, Equal, Greater}
use Rattle.std.specs.Ordering.{nat_cmp, is_lt, is_gt, ordering_reverse}
use Rattle.std.proofs.lemmas.Cmp.{nat_list_cmp_total, upto}
use Rattle.std.proofs.lemmas.Bool.{true≢false}
use Rattle.std.proofs.lemmas.Nat.{pow_pos, mod_below, div-add-mod'}
use Rattle.qm_model.specs.Operations.{Bytes, Operation, update, delete, commit}
use Rattle.qm_model.specs.Forms.{Form, IsOf, spelling}
use Rattle.qm_model.specs.Live.{Live, touches, touched, live_at, live_from, live, live_of, live_keys, value_of, floor_after}
use Rattle.qm_model.specs.Keys.{key_lt, lesser, least, successor}
use Rattle.qm_model.specs.Ordered.{IsRing}
use Rattle.qm_model.specs.Step.{IsGood}
use Rattle.qm_model.specs.Trees.{Shape, leaf, ops_root}
use Rattle.qm_model.specs.Families.{Births, IsFamily, HasPeaks}
use Rattle.qm_model.specs.Proofs.{Collides}
use Rattle.qm_model.specs.Bits.{is_active, bits, has_bit}
use Rattle.qm_model.specs.Grafted.{chunk_size, chunk_of, pending_part, partial_part, canonical_input, grafted_root, pending_digest, partial_digest, partial_of, canonical}
use Rattle.qm_model.specs.RangeProofs.{OperationProof, spanned, emptied, Witness, touched_chunks, chunks_from, in_span, operation_verdict, operation_inputs, key_verdict, key_inputs, exclusion_verdict, exclusion_inputs, witness_input, witness_verdict, canonical_inputs, IsSized, RangeSays, OperationSays, KeySays, AbsenceSays}
use Rattle.qm_model.proofs.Forms.{spelling-once}
use Rattle.qm_model.proofs.LastWrites.{bytes_same}
use Rattle.qm_model.proofs.Maps.{same_key}
use Rattle.qm_model.proofs.Chains.{Contains-first}
use Rattle.qm_model.proofs.Proving.{true_or_false}
use Rattle.qm_model.proofs.Speaking.{parted, both_true, same_input, each_of}
use Rattle.qm_model.proofs.BitLemmas.{bit_of, chunk_bit, chunk_span}
use Rattle.qm_model.proofs.RangeSpeaking.{range_speaks}

-- The live update at an active location.

-- where an update stands, the list touches its key
touched_by : (ops : List Operation) (i : ℕ) (k v : Bytes) (n : Option Bytes) → slice_get ops i ≡ Some (update k v n) → touched k ops ≡ true
touched_by [] i k v n at = cc
touched_by (x ∷ ops) zero k v n at =
    let same : x ≡ update k v n = cc in
    ap (λ o. touches k o || touched k ops) same ∙ ap (λ t. t || touched k ops) (bytes_same k)
touched_by (x ∷ ops) (suc i) k v n at = ap (λ t. touches k x || t) (touched_by ops i k v n at) ∙ last (touches k x)
  where
    last : (t : Bool) → (t || true) ≡ true
    last true = refl
    last false = refl

-- an update that nothing after it touches is the live update of its key
pub live_found : (start : ℕ) (ops : List Operation) (i : ℕ) (k v : Bytes) (n : Option Bytes) → slice_get ops i ≡ Some (update k v n) → touched k (drop (suc i) ops) ≡ false
    → live_of (live_from start ops) k ≡ Some (record { location = start + i; key = k; value = v; next = n })
live_found start [] i k v n at none = cc
live_found start (x ∷ ops) zero k v n at none =
    let same : x ≡ update k v n = cc in
    let e : Live = record { location = start; key = k; value = v; next = n } in
    let here : start ≡ start + 0 = omega arith in
    ap (λ o. live_of (cons_option (live_at start o ops) (live_from (suc start) ops)) k) same
    ∙ ap (λ t. live_of (cons_option (if t then None else Some e) (live_from (suc start) ops)) k) none
    ∙ ap (λ t. if t then Some e else live_of (live_from (suc start) ops) k) (bytes_same k)
    ∙ ap (λ j. Some (record { location = j; key = k; value = v; next = n })) here
live_found start (x ∷ ops) (suc i) k v n at none =
    let next : suc start + i ≡ start + suc i = omega arith in
    skip x ∙ live_found (suc start) ops i k v n at none ∙ ap (λ j. Some (record { location = j; key = k; value = v; next = n })) next
  where
    skip : (x : Operation) → live_of (cons_option (live_at start x ops) (live_from (suc start) ops)) k ≡ live_of (live_from (suc start) ops) k
    skip (update l w m) = ⊎_elim
        (λ (yes : touched l ops ≡ true). ap (λ t. live_of (cons_option (if t then None else Some (record { location = start; key = l; value = w; next = m })) (live_from (suc start) ops)) k) yes)
        (λ (is_live : touched l ops ≡ false).
        let e : Live = record { location = start; key = l; value = w; next = m } in
        let other : bytes_eq l k ≡ false = ⊎_elim
        (λ (same : bytes_eq l k ≡ true). absurd (true≢false (sym (touched_by ops i k v n at) ∙ ap (λ j. touched j ops) (sym (same_key l k same)) ∙ is_live)))
        (λ (differ : bytes_eq l k ≡ false). differ) (true_or_false (bytes_eq l k)) in
        ap (λ t. live_of (cons_option (if t then None else Some e) (live_from (suc start) ops)) k) is_live
        ∙ ap (λ t. if t then Some e else live_of (live_from (suc start) ops) k) other)
        (true_or_false (touched l ops))
    skip (delete l) = refl
    skip (commit m f) = refl

-- Places of lists.

first_at : (xs : List Bytes) (i : ℕ) (x : Bytes) → take 1 (drop i xs) ≡ x ∷ [] → slice_get xs i ≡ Some x
first_at [] zero x e = cc
first_at [] (suc i) x e = cc
first_at (y ∷ xs) zero x e = let same : y ≡ x = cc in ap Some same
first_at (y ∷ xs) (suc i) x e = first_at xs i x e

set_at : (bs : List Bool) (i : ℕ) → get_or bs i false ≡ true → slice_get bs i ≡ Some true
set_at [] i e = absurd (true≢false (sym e))
set_at (b ∷ bs) zero e = ap Some e
set_at (b ∷ bs) (suc i) e = set_at bs i e

each_there : (P : Operation → Type 0) (ops : List Operation) → Each P ops → (i : ℕ) (op : Operation) → slice_get ops i ≡ Some op → P op
each_there P [] all i op at = cc
each_there P (x ∷ ops) all zero op at = let same : x ≡ op = cc in subst P same all.0
each_there P (x ∷ ops) all (suc i) op at = each_there P ops all.1 i op at

spelled_at : (form : Form) (ops : List Operation) (i : ℕ) (item : Bytes) → slice_get (map (spelling form) ops) i ≡ Some item → (op : Operation) × (slice_get ops i ≡ Some op) × (spelling form op ≡ item)
spelled_at form [] i item at = cc
spelled_at form (x ∷ ops) zero item at = let same : spelling form x ≡ item = cc in (x, refl, same)
spelled_at form (x ∷ ops) (suc i) item at = spelled_at form ops i item at

-- an operation that stands at an active location, by the claim of its spelling
claimed_at : (form : Form) (ops : List Operation) (i : ℕ) (op : Operation) → All (IsOf form) ops → IsOf form op → OperationSays form ops i (spelling form op) → (slice_get ops i ≡ Some op) × (is_active op (drop (suc i) ops) ≡ true)
claimed_at form ops i op fit short says =
    let found = spelled_at form ops i (spelling form op) says.0 in
    let same = spelling-once form found.0 op (each_there (IsOf form) ops (each_of (IsOf form) ops fit) i found.0 found.1) short found.2 in
    let at : slice_get ops i ≡ Some op = found.1 ∙ ap Some same in
    let bit : Some (is_active op (drop (suc i) ops)) ≡ Some true = sym (bit_of ops i op at) ∙ says.1 in
    (at, cc)

-- an active update is its key's live update
active_live : (ops : List Operation) (i : ℕ) (k v : Bytes) (n : Option Bytes) → slice_get ops i ≡ Some (update k v n) → is_active (update k v n) (drop (suc i) ops) ≡ true → KeySays ops i k v n
active_live ops i k v n at active = live_found 0 ops i k v n at (untouched (drop (suc i) ops) active) ∙ (let here : 0 + i ≡ i = omega arith in ap (λ j. Some (record { location = j; key = k; value = v; next = n })) here)
  where
    untouched : (rest : List Operation) → is_active (update k v n) rest ≡ true → touched k rest ≡ false
    untouched [] active = refl
    untouched (x ∷ rest) active = ⊎_elim
        (λ (yes : touched k (x ∷ rest) ≡ true). absurd (true≢false (sym active ∙ ap (λ t. is_some {T = Live} (if t then None else Some (record { location = 0; key = k; value = v; next = n }))) yes)))
        (λ (none : touched k (x ∷ rest) ≡ false). none)
        (true_or_false (touched k (x ∷ rest)))

-- an active commit is the last operation, and its floor is the list's
active_commit : (ops : List Operation) (d i : ℕ) (m : Option Bytes) (f : ℕ) → slice_get ops i ≡ Some (commit m f) → is_active (commit m f) (drop (suc i) ops) ≡ true → (floor_after d ops ≡ f) × (suc i ≡ length ops)
active_commit [] d i m f at active = cc
active_commit (x ∷ []) d zero m f at active = let same : x ≡ commit m f = cc in (ap (λ o. floor_after d (o ∷ [])) same, refl)
active_commit (x ∷ y ∷ ops) d zero m f at active = absurd (true≢false (sym active))
active_commit (update k v n ∷ ops) d (suc i) m f at active = let rest = active_commit ops d i m f at active in (rest.0, omega (arith, rest.1))
active_commit (delete k ∷ ops) d (suc i) m f at active = let rest = active_commit ops d i m f at active in (rest.0, omega (arith, rest.1))
active_commit (commit n h ∷ ops) d (suc i) m f at active = let rest = active_commit ops h i m f at active in (rest.0, omega (arith, rest.1))

-- Order of keys.

gt_back : (o : Ordering) → is_gt (ordering_reverse o) ≡ is_lt o
gt_back Less = refl
gt_back Equal = refl
gt_back Greater = refl

lt_not_gt : (o : Ordering) → is_lt o ≡ true → is_gt o ≡ false
lt_not_gt Less e = refl
lt_not_gt Equal e = refl
lt_not_gt Greater e = absurd (true≢false (sym e))

pub gt_is_lt : (a b : Bytes) → is_gt (slice_cmp nat_cmp a b) ≡ key_lt b a
gt_is_lt a b = ap is_gt (nat_list_cmp_total.antisymm a b) ∙ gt_back (slice_cmp nat_cmp b a)

-- no key is above one that is not above it, in steps
pub not_above : (a b c : Bytes) → key_lt b a ≡ false → key_lt c b ≡ false → key_lt c a ≡ false
not_above a b c first second = sym (gt_is_lt a c) ∙ upto nat_list_cmp_total a b c (gt_is_lt a b ∙ first) (gt_is_lt b c ∙ second)

pub not_both : (a b : Bytes) → key_lt a b ≡ true → key_lt b a ≡ false
not_both a b e = sym (gt_is_lt a b) ∙ lt_not_gt (slice_cmp nat_cmp a b) e

pub not_itself : (a : Bytes) → key_lt a a ≡ false
not_itself a = ⊎_elim (λ (yes : key_lt a a ≡ true). not_both a a yes) (λ (none : key_lt a a ≡ false). none) (true_or_false (key_lt a a))

-- the least of keys: none of them is below it
least_of : (k : Bytes) (ks : List Bytes) → (key_lt k (fold lesser k ks) ≡ false) × Each (λ j. key_lt j (fold lesser k ks) ≡ false) ks
least_of k [] = (not_itself k, tt)
least_of k (j ∷ ks) = ⊎_elim
    (λ (below : key_lt j k ≡ true).
    let is : lesser k j ≡ j = ap (λ t. if t then j else k) below in
    let rest = least_of j ks in
    subst (λ m. (key_lt k (fold lesser m ks) ≡ false) × Each (λ j. key_lt j (fold lesser m ks) ≡ false) (j ∷ ks)) (sym is)
    (not_above (fold lesser j ks) j k rest.0 (not_both j k below), (rest.0, rest.1)))
    (λ (above : key_lt j k ≡ false).
    let is : lesser k j ≡ k = ap (λ t. if t then j else k) above in
    let rest = least_of k ks in
    subst (λ m. (key_lt k (fold lesser m ks) ≡ false) × Each (λ j. key_lt j (fold lesser m ks) ≡ false) (j ∷ ks)) (sym is)
    (rest.0, (not_above (fold lesser k ks) k j rest.0 above, rest.1)))
    (true_or_false (key_lt j k))

none_below : (ks : List Bytes) (m : Bytes) → least ks ≡ Some m → Each (λ j. key_lt j m ≡ false) ks
none_below [] m e = tt
none_below (k ∷ ks) m e =
    let same : fold lesser k ks ≡ m = cc in
    let both = least_of k ks in
    subst (λ m. Each (λ j. key_lt j m ≡ false) (k ∷ ks)) same (both.0, both.1)

-- of keys that pass a test the least one does
fold_passes : (p : Bytes → Bool) (k : Bytes) (ks : List Bytes) → p k ≡ true → Each (λ j. p j ≡ true) ks → p (fold lesser k ks) ≡ true
fold_passes p k [] own all = own
fold_passes p k (j ∷ ks) own all = fold_passes p (lesser k j) ks (pick (key_lt j k)) all.1
  where
    pick : (t : Bool) → p (if t then j else k) ≡ true
    pick true = all.0
    pick false = own

pub filter_passes : (p : Bytes → Bool) (ks : List Bytes) → Each (λ j. p j ≡ true) (filter p ks)
filter_passes p [] = tt
filter_passes p (k ∷ ks) = ⊎_elim
    (λ (yes : p k ≡ true). subst (λ t. Each (λ j. p j ≡ true) (if t then k ∷ filter p ks else filter p ks)) (sym yes) (yes, filter_passes p ks))
    (λ (none : p k ≡ false). subst (λ t. Each (λ j. p j ≡ true) (if t then k ∷ filter p ks else filter p ks)) (sym none) (filter_passes p ks))
    (true_or_false (p k))

least_passes : (p : Bytes → Bool) (ks : List Bytes) (m : Bytes) → least (filter p ks) ≡ Some m → p m ≡ true
least_passes p ks m e = at (filter p ks) (filter_passes p ks) e
  where
    at : (js : List Bytes) → Each (λ j. p j ≡ true) js → least js ≡ Some m → p m ≡ true
    at [] all e = cc
    at (j ∷ js) all e = let same : fold lesser j js ≡ m = cc in subst (λ m. p m ≡ true) same (fold_passes p j js all.0 all.1)

-- what holds of each key that passes a test, at a key
pub filter_at : (P : Bytes → Type 0) (p : Bytes → Bool) (ks : List Bytes) → Each P (filter p ks) → Each (λ k. p k ≡ true → P k) ks
filter_at P p [] all = tt
filter_at P p (k ∷ ks) all = ⊎_elim
    (λ (yes : p k ≡ true). let both = subst (λ t. Each P (if t then k ∷ filter p ks else filter p ks)) yes all in ((λ _. both.0), filter_at P p ks both.1))
    (λ (none : p k ≡ false). let rest = subst (λ t. Each P (if t then k ∷ filter p ks else filter p ks)) none all in ((λ passes. absurd (true≢false (sym passes ∙ none))), filter_at P p ks rest))
    (true_or_false (p k))

least_none : (ks : List Bytes) → least ks ≡ None → ks ≡ []
least_none [] e = refl
least_none (k ∷ ks) e = cc

-- no key lies in the span of a key up to its successor
pub span_empty : (keys : List Bytes) (key next : Bytes) → successor keys key ≡ Some next → Each (λ x. in_span key next x ≡ false) keys
span_empty keys key next is = at (least (filter (key_lt key) keys)) refl
  where
    weaker : (P R : Bytes → Type 0) → ((x : Bytes) → P x → R x) → (xs : List Bytes) → Each P xs → Each R xs
    weaker P R f [] all = tt
    weaker P R f (x ∷ xs) all = (f x all.0, weaker P R f xs all.1)

    two : (P R : Bytes → Type 0) (xs : List Bytes) → Each P xs → Each R xs → Each (λ x. P x × R x) xs
    two P R [] ps rs = tt
    two P R (x ∷ xs) ps rs = ((ps.0, rs.0), two P R xs ps.1 rs.1)

    at : (o : Option Bytes) → least (filter (key_lt key) keys) ≡ o → Each (λ x. in_span key next x ≡ false) keys
    at (Some m) e =
        let same : m ≡ next = let whole : option_or (Some m) (least keys) ≡ Some next = ap (λ o. option_or o (least keys)) (sym e) ∙ is in cc in
        let found = e ∙ ap Some same in
        let above = least_passes (key_lt key) keys next found in
        let below = filter_at (λ x. key_lt x next ≡ false) (key_lt key) keys (none_below (filter (key_lt key) keys) next found) in
        weaker (λ x. key_lt key x ≡ true → key_lt x next ≡ false) (λ x. in_span key next x ≡ false) (λ x less. ap (λ t. if t then key_lt key x && key_lt x next else key_lt key x || key_lt x next) above ∙ ⊎_elim
        (λ (past : key_lt key x ≡ true). ap₂ (λ s t. s && t) past (less past))
        (λ (before : key_lt key x ≡ false). ap (λ s. s && key_lt x next) before) (true_or_false (key_lt key x))) keys below
    at None e =
        let none = least_none (filter (key_lt key) keys) e in
        let found : least keys ≡ Some next = ap (λ o. option_or o (least keys)) (sym e) ∙ is in
        let low = none_below keys next found in
        let high = filter_at (λ x. ⊥) (key_lt key) keys (subst (λ ks. Each (λ x. ⊥) ks) (sym none) tt) in
        let never : key_lt key next ≡ false = ⊎_elim (λ (yes : key_lt key next ≡ true). absurd (least_high keys found high yes)) (λ (no_is : key_lt key next ≡ false). no_is) (true_or_false (key_lt key next)) in
        weaker (λ x. (key_lt x next ≡ false) × (key_lt key x ≡ true → ⊥)) (λ x. in_span key next x ≡ false) (λ x both. ap (λ t. if t then key_lt key x && key_lt x next else key_lt key x || key_lt x next) never ∙ ⊎_elim
        (λ (past : key_lt key x ≡ true). absurd (both.1 past))
        (λ (before : key_lt key x ≡ false). ap₂ (λ s t. s || t) before both.0) (true_or_false (key_lt key x))) keys (two (λ x. key_lt x next ≡ false) (λ x. key_lt key x ≡ true → ⊥) keys low high)
      where
        least_high : (ks : List Bytes) → least ks ≡ Some next → Each (λ x. key_lt key x ≡ true → ⊥) ks → key_lt key next ≡ true → ⊥
        least_high [] found high less = cc
        least_high (k ∷ ks) found high less =
            let same : fold lesser k ks ≡ next = cc in
            let flip : (x : Bytes) → (key_lt key x ≡ true → ⊥) → not (key_lt key x) ≡ true = λ x never. flipped (key_lt key x) never in
            let last = fold_passes (λ x. not (key_lt key x)) k ks (flip k high.0) (weaker (λ x. key_lt key x ≡ true → ⊥) (λ x. not (key_lt key x) ≡ true) flip ks high.1) in
            true≢false (sym (subst (λ m. not (key_lt key m) ≡ true) same last) ∙ ap not less)
          where
            flipped : (t : Bool) → (t ≡ true → ⊥) → not t ≡ true
            flipped true never = absurd (never refl)
            flipped false never = refl

-- if each key of the live updates is out of a span, so is a key that has a value
live_out : (P : Bytes → Type 0) (es : List Live) (x : Bytes) → Each P (map (λ e. e.key) es) → (option_map (λ e. e.value) (live_of es x) ≡ None) ⊎ P x
live_out P [] x all = inl refl
live_out P (e ∷ es) x all = ⊎_elim
    (λ (yes : bytes_eq e.key x ≡ true). inr (subst P (same_key e.key x yes) all.0))
    (λ (none : bytes_eq e.key x ≡ false). ⊎_elim
    (λ (rest : option_map (λ e. e.value) (live_of es x) ≡ None). inl (ap (λ t. option_map (λ (e : Live). e.value) (if t then Some e else live_of es x)) none ∙ rest))
    (λ (found : P x). inr found)
    (live_out P es x all.1))
    (true_or_false (bytes_eq e.key x))

-- the live update that is found is one of them
pub found_there : (P : Live → Type 0) (es : List Live) (k : Bytes) (e : Live) → Each P es → live_of es k ≡ Some e → P e
found_there P [] k e all at = cc
found_there P (f ∷ es) k e all at = ⊎_elim
    (λ (yes : bytes_eq f.key k ≡ true). let same : Some f ≡ Some e = sym (ap (λ t. if t then Some f else live_of es k) yes) ∙ at in let is : f ≡ e = cc in subst P is all.0)
    (λ (none : bytes_eq f.key k ≡ false). found_there P es k e all.1 (sym (ap (λ t. if t then Some f else live_of es k) none) ∙ at))
    (true_or_false (bytes_eq f.key k))

-- a key that an active update's span has between its ends is not live
pub spanned_absent : (ops : List Operation) (location : ℕ) (key value next x : Bytes) → IsRing ops → KeySays ops location key value (Some next) → in_span key next x ≡ true → value_of ops x ≡ None
spanned_absent ops location key value next x ring says within =
    let linked : Some next ≡ successor (live_keys ops) key =
    found_there (λ e. e.next ≡ successor (live_keys ops) e.key) (live ops) key (record { location = location; key = key; value = value; next = Some next }) (each_of (λ e. e.next ≡ successor (live_keys ops) e.key) (live ops) ring) says in
    ⊎_elim (λ (none : value_of ops x ≡ None). none) (λ (out : in_span key next x ≡ false). absurd (true≢false (sym within ∙ out)))
    (live_out (λ x. in_span key next x ≡ false) (live ops) x (span_empty (live_keys ops) key next (sym linked)))

-- What a yes says.
module _ (hash : Bytes → Bytes) (size : ℕ) (sized : (m : Bytes) → length (hash m) ≡ size) (shape : Shape) (births : Births) (family : IsFamily shape births) (peaked : HasPeaks shape) (leaf_born : (k : ℕ) → shape.birth (leaf k) ≡ suc k)
    (prompt : (h i : ℕ) → shape.birth (record { height = h; index = i }) ≤ suc (suc i) * 2 ^ h) (g : ℕ) (enough : 3 ≤ g) (form : Form) (ops : List Operation) (few : length ops ≤ 2 ^ 62) where
  abbrev rooted : List Bytes
  rooted = canonical_inputs hash shape g form ops

  -- the operation stands there, and is active
  pub operation_speaks : (proof : OperationProof) (item : Bytes) → IsSized size g proof.range (proof.chunk ∷ []) → operation_verdict hash shape g proof item (canonical hash shape g form ops) ≡ true
      → OperationSays form ops proof.location item ⊎ Collides hash (operation_inputs hash shape g proof item) rooted
  operation_speaks proof item own e =
      let i = proof.location in
      let tests = both_true (has_bit proof.chunk (i % 2 ^ g)) _ e in
      ⊎_elim
      (λ (says : RangeSays g form ops (item ∷ []) i (proof.chunk ∷ [])).
      let span = chunk_span g enough in
      let low = mod_below i (2 ^ g) (pow_pos g) in
      let one : touched_chunks g i (i + 1) ≡ 1 = let same : i + 1 - 1 ≡ i = omega arith in ap (λ j. suc (j / 2 ^ g) - i / 2 ^ g) same ∙ omega arith in
      let chunks : proof.chunk ∷ [] ≡ chunk_of g ops (i / 2 ^ g) ∷ [] = says.1 ∙ ap (chunks_from (chunk_of g ops) (i / 2 ^ g)) one in
      let is : proof.chunk ≡ chunk_of g ops (i / 2 ^ g) = cc in
      let place : i / 2 ^ g * (8 * chunk_size g) + i % 2 ^ g ≡ i = ap (λ w. i / 2 ^ g * w + i % 2 ^ g) span ∙ div-add-mod' i (2 ^ g) in
      let bit : get_or (bits ops) i false ≡ true = ap (λ j. get_or (bits ops) j false) (sym place)
      ∙ sym (chunk_bit (chunk_size g) (bits ops) (i / 2 ^ g) (i % 2 ^ g) (omega arith)) ∙ ap (λ c. has_bit c (i % 2 ^ g)) (sym is) ∙ tests.0 in
      inl (first_at (map (spelling form) ops) i item says.0, set_at (bits ops) i bit))
      (λ clash. inr clash)
      (range_speaks hash size sized shape births family peaked leaf_born prompt g form ops few (item ∷ []) i (proof.chunk ∷ []) proof.range own tests.1)

  -- of a list whose operations can be spelled
  module _ (fit : All (IsOf form) ops) where
    -- the key has the value, and in an ordered database the next key
    pub key_speaks : (proof : OperationProof) (key value : Bytes) (next : Option Bytes) → IsOf form (update key value next) → IsSized size g proof.range (proof.chunk ∷ []) → key_verdict hash shape g form proof key value next (canonical hash shape g form ops) ≡ true
        → KeySays ops proof.location key value next ⊎ Collides hash (key_inputs hash shape g form proof key value next) rooted
    key_speaks proof key value next short own e = ⊎_elim
        (λ (says : OperationSays form ops proof.location (spelling form (update key value next))).
        let at = claimed_at form ops proof.location (update key value next) fit short says in inl (active_live ops proof.location key value next at.0 at.1))
        (λ clash. inr clash)
        (operation_speaks proof (spelling form (update key value next)) own e)

    -- the map says the same
    pub key_speaks_of_the_map : (proof : OperationProof) (key value : Bytes) (next : Option Bytes) → IsOf form (update key value next) → IsSized size g proof.range (proof.chunk ∷ []) → key_verdict hash shape g form proof key value next (canonical hash shape g form ops) ≡ true
        → (value_of ops key ≡ Some value) ⊎ Collides hash (key_inputs hash shape g form proof key value next) rooted
    key_speaks_of_the_map proof key value next short own e = ⊎_elim
        (λ (says : KeySays ops proof.location key value next). inl (ap (option_map (λ (e : Live). e.value)) says)) (λ clash. inr clash)
        (key_speaks proof key value next short own e)

    -- a key in an active update's span has no value
    pub spanned_speaks : (proof : OperationProof) (key value next x : Bytes) → IsRing ops → IsOf form (update key value (Some next)) → IsSized size g proof.range (proof.chunk ∷ []) → exclusion_verdict hash shape g form (spanned proof key value next) x (canonical hash shape g form ops) ≡ true
        → AbsenceSays ops x ⊎ Collides hash (exclusion_inputs hash shape g form (spanned proof key value next)) rooted
    spanned_speaks proof key value next x ring short own e =
        let first = both_true (not (bytes_eq key x)) _ e in
        let second = both_true (in_span key next x) _ first.1 in
        ⊎_elim (λ (says : KeySays ops proof.location key value (Some next)). inl (spanned_absent ops proof.location key value next x ring says second.0)) (λ clash. inr clash)
        (key_speaks proof key value (Some next) short own second.1)

    -- no key has a value if the commit is active at its own floor
    pub emptied_speaks : (proof : OperationProof) (meta : Option Bytes) (x : Bytes) → IsGood ops → IsOf form (commit meta proof.location) → IsSized size g proof.range (proof.chunk ∷ []) → exclusion_verdict hash shape g form (emptied proof meta) x (canonical hash shape g form ops) ≡ true
        → AbsenceSays ops x ⊎ Collides hash (exclusion_inputs hash shape g form (emptied proof meta)) rooted
    emptied_speaks proof meta x good short own e = ⊎_elim
        (λ (says : OperationSays form ops proof.location (spelling form (commit meta proof.location))).
        let at = claimed_at form ops proof.location (commit meta proof.location) fit short says in
        let ends = active_commit ops 0 proof.location meta proof.location at.0 at.1 in
        let none : live ops ≡ [] = good.empty_floor.1 (ap suc ends.0 ∙ ends.1) in
        inl (ap (λ es. option_map (λ (e : Live). e.value) (live_of es x)) none))
        (λ clash. inr clash)
        (operation_speaks proof (spelling form (commit meta proof.location)) own e)

  -- the operations root is the list's
  pub witness_speaks : (w : Witness) (root : Bytes) → length root ≡ size → witness_verdict hash shape g w root (canonical hash shape g form ops) ≡ true
      → (root ≡ ops_root hash shape form ops) ⊎ Collides hash (witness_input hash shape g w root ∷ []) rooted
  witness_speaks w root long e =
      let theirs = ops_root hash shape form ops in
      let mine = canonical_input root w.grafted_root w.pending w.partial in
      let other = canonical_input theirs (grafted_root hash shape g form ops) (pending_digest hash shape g ops) (partial_of hash shape g (length ops) (partial_digest hash shape g ops)) in
      let my_rest = w.grafted_root ++ (pending_part w.pending ++ partial_part w.partial) in
      let their_rest = grafted_root hash shape g form ops ++ (pending_part (pending_digest hash shape g ops) ++ partial_part (partial_of hash shape g (length ops) (partial_digest hash shape g ops))) in
      ⊎_elim
      (λ (equal : mine ≡ other).
      let grouped : root ++ my_rest ≡ theirs ++ their_rest = sym (group root w.grafted_root (pending_part w.pending) (partial_part w.partial)) ∙ equal
      ∙ group theirs (grafted_root hash shape g form ops) (pending_part (pending_digest hash shape g ops)) (partial_part (partial_of hash shape g (length ops) (partial_digest hash shape g ops))) in
      inl (parted root theirs my_rest their_rest (long ∙ sym (ops_root_sized)) grouped).0)
      (λ clash. inr clash)
      (same_input hash size sized (Contains (witness_input hash shape g w root ∷ [])) (Contains rooted) mine other (Contains-first mine []) (Contains-first other _) (same_key (hash mine) (canonical hash shape g form ops) e))
    where
      group : (o r p q : Bytes) → o ++ r ++ p ++ q ≡ o ++ (r ++ (p ++ q))
      group o r p q = append_assoc (o ++ r) p q ∙ append_assoc o r (p ++ q)

      ops_root_sized : length (ops_root hash shape form ops) ≡ size
      ops_root_sized = sized _
