-- The proofs that a current database makes verify.
use Rattle.std.proofs.Common.{◌≡◌, ◌⊎◌, ℕ, zero, suc, ◌+◌, ◌-◌, ◌*◌, ◌/◌, ◌%◌, ◌^◌, ◌<◌, ◌≤◌, Bool, true, false, List, [], ◌∷◌, length, map, take, drop, arith, ap, ap₂, sym, ◌∙◌, refl, Option, None, Some, get_or, ⊎_elim, inl, inr, subst}
use Rattle.std.specs.Prelude.{◌&&◌, ◌||◌, not, bytes_eq, option_and_then, unwrap_or, if◌then◌else◌, slice_get, filter, fold, is_some}
use Rattle.std.specs.List.{cons_option, AllByRecursion as Each}
use Rattle.std.specs.Option.{option_or}
use Rattle.std.specs.Cmp.Lexicographic.{slice_cmp}
use Rattle.std.specs.declared.cmp.Ordering.{Ordering}
use Rattle.std.specs.declared.cmp.Ordering.TheVariants.{Less, Equal, Greater}
use Rattle.std.specs.Ordering.{nat_cmp, is_lt, is_gt, is_eq}
use Rattle.std.proofs.lemmas.Map.Text.{is_eq-slice_cmp}
use Rattle.std.proofs.lemmas.Bool.{true≢false}
use Rattle.std.proofs.lemmas.List.{drop_all}
use Rattle.std.proofs.lemmas.Option.{slice_get_within, get_or_from_slice_get}
use Rattle.std.proofs.lemmas.Nat.{pow_pos, mod_below, div-add-mod'}
use Rattle.qm_model.specs.Operations.{Bytes, Operation, update, delete, commit, IsCommitEnded}
use Rattle.qm_model.specs.Forms.{Form, spelling}
use Rattle.qm_model.specs.Live.{Live, touched, live_from, live, live_of, live_keys, floor, floor_after, metadata_after, last_metadata}
use Rattle.qm_model.specs.Keys.{key_lt, lesser, greater, least, greatest, successor, predecessor}
use Rattle.qm_model.specs.Trees.{Shape}
use Rattle.qm_model.specs.Bits.{is_last, is_active, bits, has_bit}
use Rattle.qm_model.specs.Grafted.{chunk_size, chunk_of, canonical}
use Rattle.qm_model.specs.RangeProofs.{in_span, touched_chunks, chunks_from, chunks_of, range_proof, operation_proof, operation_verdict, exclusion_verdict, range_verdict}
use Rattle.qm_model.specs.Checks.{exclusion_by, held_check, absent_check, range_check, witness_check}
use Rattle.qm_model.specs.Ordered.{IsRing}
use Rattle.qm_model.specs.Step.{IsGood}
use Rattle.qm_model.proofs.LastWrites.{bytes_same}
use Rattle.qm_model.proofs.Maps.{same_key}
use Rattle.qm_model.proofs.Proving.{true_or_false}
use Rattle.qm_model.proofs.Speaking.{each_of}
use Rattle.qm_model.proofs.BitLemmas.{bit_of, chunk_bit, chunk_span}
use Rattle.qm_model.proofs.RangeProving.{range_verified}
use Rattle.qm_model.proofs.KeySpeaking.{found_there, not_itself, not_both, not_above, gt_is_lt, filter_passes, filter_at}

-- a live update stands where it says, and nothing after it touches its key
abbrev pub Stands : ℕ → List Operation → Live → Type 0
Stands start ops e = (i : ℕ) × (e.location ≡ start + i) × (slice_get ops i ≡ Some (update e.key e.value e.next)) × (touched e.key (drop (suc i) ops) ≡ false)

each_weaker : (P R : Live → Type 0) → ((e : Live) → P e → R e) → (es : List Live) → Each P es → Each R es
each_weaker P R f [] all = tt
each_weaker P R f (e ∷ es) all = (f e all.0, each_weaker P R f es all.1)

later : (start : ℕ) (op : Operation) (ops : List Operation) → Each (Stands (suc start) ops) (live_from (suc start) ops) → Each (Stands start (op ∷ ops)) (live_from (suc start) ops)
later start op ops all = each_weaker (Stands (suc start) ops) (Stands start (op ∷ ops)) (λ e s. (suc s.0, (let next : suc start + s.0 ≡ start + suc s.0 = omega arith in s.1 ∙ next), s.2, s.3)) (live_from (suc start) ops) all

live_stand : (start : ℕ) (ops : List Operation) → Each (Stands start ops) (live_from start ops)
live_stand start [] = tt
live_stand start (update k v n ∷ ops) =
    let rest = later start (update k v n) ops (live_stand (suc start) ops) in
    let e : Live = record { location = start; key = k; value = v; next = n } in
    let here : start ≡ start + 0 = omega arith in
    ⊎_elim
    (λ (yes : touched k ops ≡ true). subst (λ t. Each (Stands start (update k v n ∷ ops)) (cons_option (if t then None else Some e) (live_from (suc start) ops))) (sym yes) rest)
    (λ (none : touched k ops ≡ false). subst (λ t. Each (Stands start (update k v n ∷ ops)) (cons_option (if t then None else Some e) (live_from (suc start) ops))) (sym none) ((0, here, refl, none), rest))
    (true_or_false (touched k ops))
live_stand start (delete k ∷ ops) = later start (delete k) ops (live_stand (suc start) ops)
live_stand start (commit m f ∷ ops) = later start (commit m f) ops (live_stand (suc start) ops)

-- an update that nothing after it touches is active
pub update_active : (ops : List Operation) (i : ℕ) (k v : Bytes) (n : Option Bytes) → slice_get ops i ≡ Some (update k v n) → touched k (drop (suc i) ops) ≡ false → slice_get (bits ops) i ≡ Some true
update_active ops i k v n at none =
    bit_of ops i (update k v n) at
    ∙ ap (λ t. Some (is_last (drop (suc i) ops) || is_some {T = Live} (if t then None else Some (record { location = 0; key = k; value = v; next = n })))) none
    ∙ ap Some (last (is_last (drop (suc i) ops)))
  where
    last : (t : Bool) → (t || true) ≡ true
    last true = refl
    last false = refl

one_item : (form : Form) (ops : List Operation) (i : ℕ) (op : Operation) → slice_get ops i ≡ Some op → take 1 (drop i (map (spelling form) ops)) ≡ spelling form op ∷ []
one_item form [] i op at = cc
one_item form (x ∷ ops) zero op at = let same : x ≡ op = cc in ap (λ o. spelling form o ∷ []) same
one_item form (x ∷ ops) (suc i) op at = one_item form ops i op at

-- Absences.

-- what holds of each key holds of the one that is folded out of them
fold_has : (P : Bytes → Type 0) (pick : Bytes → Bytes → Bytes) → ((a b : Bytes) → (pick a b ≡ a) ⊎ (pick a b ≡ b)) → (k : Bytes) (ks : List Bytes) → P k → Each P ks → P (fold pick k ks)
fold_has P pick one k [] own all = own
fold_has P pick one k (j ∷ ks) own all = fold_has P pick one (pick k j) ks (⊎_elim (λ (same : pick k j ≡ k). subst P (sym same) own) (λ (same : pick k j ≡ j). subst P (sym same) all.0) (one k j)) all.1

lesser_one : (a b : Bytes) → (lesser a b ≡ a) ⊎ (lesser a b ≡ b)
lesser_one a b = ⊎_elim (λ (yes : key_lt b a ≡ true). inr (ap (λ t. if t then b else a) yes)) (λ (none : key_lt b a ≡ false). inl (ap (λ t. if t then b else a) none)) (true_or_false (key_lt b a))

greater_one : (a b : Bytes) → (greater a b ≡ a) ⊎ (greater a b ≡ b)
greater_one a b = ⊎_elim (λ (yes : key_lt a b ≡ true). inr (ap (λ t. if t then b else a) yes)) (λ (none : key_lt a b ≡ false). inl (ap (λ t. if t then b else a) none)) (true_or_false (key_lt a b))

least_has : (P : Bytes → Type 0) (ks : List Bytes) (m : Bytes) → Each P ks → least ks ≡ Some m → P m
least_has P [] m all e = cc
least_has P (k ∷ ks) m all e = let same : fold lesser k ks ≡ m = cc in subst P same (fold_has P lesser lesser_one k ks all.0 all.1)

greatest_has : (P : Bytes → Type 0) (ks : List Bytes) (m : Bytes) → Each P ks → greatest ks ≡ Some m → P m
greatest_has P [] m all e = cc
greatest_has P (k ∷ ks) m all e = let same : fold greater k ks ≡ m = cc in subst P same (fold_has P greater greater_one k ks all.0 all.1)

greatest_none : (ks : List Bytes) → greatest ks ≡ None → ks ≡ []
greatest_none [] e = refl
greatest_none (k ∷ ks) e = cc

-- none of them is above the greatest
greatest_of : (k : Bytes) (ks : List Bytes) → (key_lt (fold greater k ks) k ≡ false) × Each (λ j. key_lt (fold greater k ks) j ≡ false) ks
greatest_of k [] = (not_itself k, tt)
greatest_of k (j ∷ ks) = ⊎_elim
    (λ (above : key_lt k j ≡ true).
    let is : greater k j ≡ j = ap (λ t. if t then j else k) above in
    let rest = greatest_of j ks in
    subst (λ m. (key_lt (fold greater m ks) k ≡ false) × Each (λ j. key_lt (fold greater m ks) j ≡ false) (j ∷ ks)) (sym is)
    (not_above k j (fold greater j ks) (not_both k j above) rest.0, (rest.0, rest.1)))
    (λ (below : key_lt k j ≡ false).
    let is : greater k j ≡ k = ap (λ t. if t then j else k) below in
    let rest = greatest_of k ks in
    subst (λ m. (key_lt (fold greater m ks) k ≡ false) × Each (λ j. key_lt (fold greater m ks) j ≡ false) (j ∷ ks)) (sym is)
    (rest.0, (not_above j k (fold greater k ks) below rest.0, rest.1)))
    (true_or_false (key_lt k j))

none_above : (ks : List Bytes) (m : Bytes) → greatest ks ≡ Some m → Each (λ j. key_lt m j ≡ false) ks
none_above [] m e = tt
none_above (k ∷ ks) m e = let same : fold greater k ks ≡ m = cc in subst (λ m. Each (λ j. key_lt m j ≡ false) (k ∷ ks)) same (let both = greatest_of k ks in (both.0, both.1))

-- a filtered key is one of the keys
filter_all : (P : Bytes → Type 0) (p : Bytes → Bool) (ks : List Bytes) → Each P ks → Each P (filter p ks)
filter_all P p [] all = tt
filter_all P p (k ∷ ks) all = ⊎_elim
    (λ (yes : p k ≡ true). subst (λ t. Each P (if t then k ∷ filter p ks else filter p ks)) (sym yes) (all.0, filter_all P p ks all.1))
    (λ (none : p k ≡ false). subst (λ t. Each P (if t then k ∷ filter p ks else filter p ks)) (sym none) (filter_all P p ks all.1))
    (true_or_false (p k))

-- the neighbours of a key are keys
around_has : (P : Bytes → Type 0) (some all : List Bytes) (pick : List Bytes → Option Bytes) → ((ks : List Bytes) (m : Bytes) → Each P ks → pick ks ≡ Some m → P m) → Each P some → Each P all → (m : Bytes) → option_or (pick some) (pick all) ≡ Some m → P m
around_has P some all pick has first rest m e = at (pick some) refl
  where
    at : (o : Option Bytes) → pick some ≡ o → P m
    at None is = has all m rest (sym (ap (λ o. option_or o (pick all)) is) ∙ e)
    at (Some k) is = let same : Some k ≡ Some m = sym (ap (λ o. option_or o (pick all)) is) ∙ e in has some m first (is ∙ same)

pub successor_has : (P : Bytes → Type 0) (keys : List Bytes) (key next : Bytes) → Each P keys → successor keys key ≡ Some next → P next
successor_has P keys key next all = around_has P (filter (λ k. key_lt key k) keys) keys least (least_has P) (filter_all P (λ k. key_lt key k) keys all) all next

pub predecessor_has : (P : Bytes → Type 0) (keys : List Bytes) (x key : Bytes) → Each P keys → predecessor keys x ≡ Some key → P key
predecessor_has P keys x key all = around_has P (filter (λ k. key_lt k x) keys) keys greatest (greatest_has P) (filter_all P (λ k. key_lt k x) keys all) all key

-- two keys of which none is below the other are equal
between : (a b : Bytes) → key_lt a b ≡ false → bytes_eq a b ≡ false → key_lt b a ≡ true
between a b below apart = at (slice_cmp nat_cmp a b) refl below
  where
    at : (o : Ordering) → slice_cmp nat_cmp a b ≡ o → is_lt o ≡ false → key_lt b a ≡ true
    at Less e below = absurd (true≢false below)
    at Equal e below = absurd (true≢false (sym (ap is_eq e) ∙ is_eq-slice_cmp a b ∙ apart))
    at Greater e below = sym (gt_is_lt a b) ∙ ap is_gt e

-- a key that is none of the keys lies in the span of the key before it
pub span_around_has : (keys : List Bytes) (x key next : Bytes) → Each (λ k. bytes_eq k x ≡ false) keys → predecessor keys x ≡ Some key → successor keys key ≡ Some next → in_span key next x ≡ true
span_around_has keys x key next apart before after = at (greatest (filter (λ k. key_lt k x) keys)) refl
  where
    next_apart : bytes_eq next x ≡ false
    next_apart = successor_has (λ k. bytes_eq k x ≡ false) keys key next apart after

    span : Bool → Bool
    span t = if t then key_lt key x && key_lt x next else key_lt key x || key_lt x next

    second : (t : Bool) → (t || true) ≡ true
    second true = refl
    second false = refl

    at : (o : Option Bytes) → greatest (filter (λ k. key_lt k x) keys) ≡ o → in_span key next x ≡ true
    at (Some m) e =
        let same : m ≡ key = let whole : option_or (Some m) (greatest keys) ≡ Some key = ap (λ o. option_or o (greatest keys)) (sym e) ∙ before in cc in
        let found = e ∙ ap Some same in
        let low : key_lt key x ≡ true = greatest_has (λ k. key_lt k x ≡ true) (filter (λ k. key_lt k x) keys) key (filter_passes (λ k. key_lt k x) keys) found in
        let most = filter_at (λ k. key_lt key k ≡ false) (λ k. key_lt k x) keys (none_above (filter (λ k. key_lt k x) keys) key found) in
        let next_most = successor_has (λ k. key_lt k x ≡ true → key_lt key k ≡ false) keys key next most after in
        ⊎_elim
        (λ (up : key_lt key next ≡ true).
        let not_under : key_lt next x ≡ false = ⊎_elim (λ (under : key_lt next x ≡ true). absurd (true≢false (sym up ∙ next_most under))) (λ (none : key_lt next x ≡ false). none) (true_or_false (key_lt next x)) in
        ap (λ t. if t then key_lt key x && key_lt x next else key_lt key x || key_lt x next) up ∙ ap₂ (λ s t. s && t) low (between next x not_under next_apart))
        (λ (down : key_lt key next ≡ false). ap (λ t. if t then key_lt key x && key_lt x next else key_lt key x || key_lt x next) down ∙ ap (λ s. s || key_lt x next) low)
        (true_or_false (key_lt key next))
    at None e =
        let none = greatest_none (filter (λ k. key_lt k x) keys) e in
        let found : greatest keys ≡ Some key = ap (λ o. option_or o (greatest keys)) (sym e) ∙ before in
        let down : key_lt key next ≡ false = successor_has (λ k. key_lt key k ≡ false) keys key next (none_above keys key found) after in
        let never = successor_has (λ k. key_lt k x ≡ true → ⊥) keys key next (filter_at (λ k. ⊥) (λ k. key_lt k x) keys (subst (λ ks. Each (λ k. ⊥) ks) (sym none) tt)) after in
        let not_under : key_lt next x ≡ false = ⊎_elim (λ (under : key_lt next x ≡ true). absurd (never under)) (λ (none : key_lt next x ≡ false). none) (true_or_false (key_lt next x)) in
        ap (λ t. if t then key_lt key x && key_lt x next else key_lt key x || key_lt x next) down ∙ ap (λ t. key_lt key x || t) (between next x not_under next_apart) ∙ second (key_lt key x)

-- the last operation of a commit-ended list
pub last_commit : (ops : List Operation) (d : Option Bytes) (f : ℕ) → IsCommitEnded ops → slice_get ops (length ops - 1) ≡ Some (commit (metadata_after d ops) (floor_after f ops))
last_commit [] d f ended = absurd ended
last_commit (update k v n ∷ []) d f ended = absurd ended
last_commit (delete k ∷ []) d f ended = absurd ended
last_commit (commit m h ∷ []) d f ended = refl
last_commit (update k v n ∷ y ∷ ops) d f ended = let here : length (update k v n ∷ y ∷ ops) - 1 ≡ suc (length (y ∷ ops) - 1) = omega arith in ap (slice_get (update k v n ∷ y ∷ ops)) here ∙ last_commit (y ∷ ops) d f ended
last_commit (delete k ∷ y ∷ ops) d f ended = let here : length (delete k ∷ y ∷ ops) - 1 ≡ suc (length (y ∷ ops) - 1) = omega arith in ap (slice_get (delete k ∷ y ∷ ops)) here ∙ last_commit (y ∷ ops) d f ended
last_commit (commit m h ∷ y ∷ ops) d f ended = let here : length (commit m h ∷ y ∷ ops) - 1 ≡ suc (length (y ∷ ops) - 1) = omega arith in ap (slice_get (commit m h ∷ y ∷ ops)) here ∙ last_commit (y ∷ ops) m h ended

module _ (hash : Bytes → Bytes) (shape : Shape) (g : ℕ) (enough : 3 ≤ g) (form : Form) (ops : List Operation) (few : length ops ≤ 2 ^ 62) where
  -- the proof of an operation that stands at an active location verifies
  pub operation_verified : (i : ℕ) (op : Operation) → slice_get ops i ≡ Some op → slice_get (bits ops) i ≡ Some true → operation_verdict hash shape g (operation_proof hash shape g form ops i) (spelling form op) (canonical hash shape g form ops) ≡ true
  operation_verified i op at active =
      let within = slice_get_within ops i op at in
      let chunk = chunk_of g ops (i / 2 ^ g) in
      let span = chunk_span g enough in
      let low = mod_below i (2 ^ g) (pow_pos g) in
      let place : i / 2 ^ g * (8 * chunk_size g) + i % 2 ^ g ≡ i = ap (λ w. i / 2 ^ g * w + i % 2 ^ g) span ∙ div-add-mod' i (2 ^ g) in
      let bit : has_bit chunk (i % 2 ^ g) ≡ true = chunk_bit (chunk_size g) (bits ops) (i / 2 ^ g) (i % 2 ^ g) (omega arith)
      ∙ ap (λ j. get_or (bits ops) j false) place ∙ get_or_from_slice_get (bits ops) i true false active in
      let one : suc i - i ≡ 1 = omega arith in
      let items : take (suc i - i) (drop i (map (spelling form) ops)) ≡ spelling form op ∷ [] = ap (λ n. take n (drop i (map (spelling form) ops))) one ∙ one_item form ops i op at in
      let count : touched_chunks g i (suc i) ≡ 1 = let same : suc i - 1 ≡ i = omega arith in ap (λ j. suc (j / 2 ^ g) - i / 2 ^ g) same ∙ omega arith in
      let chunks : chunks_of g ops i (suc i) ≡ chunk ∷ [] = ap (chunks_from (chunk_of g ops) (i / 2 ^ g)) count in
      let range : range_verdict hash shape g (spelling form op ∷ []) i (chunk ∷ []) (range_proof hash shape g form ops i (suc i)) (canonical hash shape g form ops) ≡ true =
      ap₂ (λ is cs. range_verdict hash shape g is i cs (range_proof hash shape g form ops i (suc i)) (canonical hash shape g form ops)) (sym items) (sym chunks)
      ∙ range_verified hash shape g form ops i (suc i) (omega arith) (omega arith) few in
      ap₂ (λ s t. s && t) bit range

  -- the proof of a live update verifies
  pub held_verified : (key : Bytes) (e : Live) → live_of (live ops) key ≡ Some e → held_check hash shape g form ops e ≡ true
  held_verified key e found =
      let s = found_there (Stands 0 ops) (live ops) key e (live_stand 0 ops) found in
      let here : 0 + s.0 ≡ s.0 = omega arith in
      let at : s.0 ≡ e.location = sym here ∙ sym s.1 in
      operation_verified e.location (update e.key e.value e.next) (ap (slice_get ops) (sym at) ∙ s.2) (ap (slice_get (bits ops)) (sym at) ∙ update_active ops s.0 e.key e.value e.next s.2 s.3)

  -- so does the proof of operations with their chunks, and the witness of the operations root
  pub range_checked : (a b : ℕ) → a < b → b ≤ length ops → (range_check hash shape g form ops a b).1 ≡ true
  range_checked a b some within = range_verified hash shape g form ops a b some within few

  pub witness_verified : witness_check hash shape g form ops ≡ true
  witness_verified = bytes_same (canonical hash shape g form ops)

  -- the proof that a key is absent from an ordered database verifies
  module _ (good : IsGood ops) (ring : IsRing ops) (x : Bytes) (absent : live_of (live ops) x ≡ None) where
    emptied_verified : live ops ≡ [] → exclusion_verdict hash shape g form (exclusion_by hash shape g form ops None) x (canonical hash shape g form ops) ≡ true
    emptied_verified none =
        let last = length ops - 1 in
        let end : suc (floor ops) ≡ length ops = good.empty_floor.0 none in
        let here : floor ops ≡ last = omega arith in
        let at = last_commit ops None 0 good.commit_ended in
        let past : drop (suc last) ops ≡ [] = drop_all (suc last) ops (omega arith) in
        let set : slice_get (bits ops) last ≡ Some true =
        bit_of ops last (commit (last_metadata ops) (floor ops)) at ∙ ap (λ rest. Some (is_active (commit (last_metadata ops) (floor ops)) rest)) past in
        ap (λ f. operation_verdict hash shape g (operation_proof hash shape g form ops last) (spelling form (commit (last_metadata ops) f)) (canonical hash shape g form ops)) (sym here)
        ∙ operation_verified last (commit (last_metadata ops) (floor ops)) at set

    apart : Each (λ k. bytes_eq k x ≡ false) (live_keys ops)
    apart = out (live ops) absent
      where
        out : (es : List Live) → live_of es x ≡ None → Each (λ k. bytes_eq k x ≡ false) (map (λ e. e.key) es)
        out [] none = tt
        out (e ∷ es) none = ⊎_elim
            (λ (same : bytes_eq e.key x ≡ true). let some : Some e ≡ None = sym (ap (λ t. if t then Some e else live_of es x) same) ∙ none in absurd (no_some e some))
            (λ (differ : bytes_eq e.key x ≡ false). (differ, out es (sym (ap (λ t. if t then Some e else live_of es x) differ) ∙ none)))
            (true_or_false (bytes_eq e.key x))
          where
            no_some : (e : Live) → Some e ≡ None → ⊥
            no_some e is = cc

    spanned_verified : (e : Live) (key : Bytes) → predecessor (live_keys ops) x ≡ Some key → live_of (live ops) key ≡ Some e → exclusion_verdict hash shape g form (exclusion_by hash shape g form ops (Some e)) x (canonical hash shape g form ops) ≡ true
    spanned_verified e key before found = by_next e.next refl
      where
        key_is : e.key ≡ key
        key_is = same_key e.key key (found_key (live ops) found)
          where
            found_key : (es : List Live) → live_of es key ≡ Some e → bytes_eq e.key key ≡ true
            found_key [] at = cc
            found_key (f ∷ es) at = ⊎_elim
                (λ (same : bytes_eq f.key key ≡ true). let some : Some f ≡ Some e = sym (ap (λ t. if t then Some f else live_of es key) same) ∙ at in let is : f ≡ e = cc in subst (λ (e : Live). bytes_eq e.key key ≡ true) is same)
                (λ (differ : bytes_eq f.key key ≡ false). found_key es (sym (ap (λ t. if t then Some f else live_of es key) differ) ∙ at))
                (true_or_false (bytes_eq f.key key))

        linked : e.next ≡ successor (live_keys ops) key
        linked = found_there (λ e. e.next ≡ successor (live_keys ops) e.key) (live ops) key e (each_of (λ e. e.next ≡ successor (live_keys ops) e.key) (live ops) ring) found ∙ ap (successor (live_keys ops)) key_is

        key_apart : bytes_eq key x ≡ false
        key_apart = predecessor_has (λ k. bytes_eq k x ≡ false) (live_keys ops) x key apart before

        held : held_check hash shape g form ops e ≡ true
        held = held_verified key e found

        -- a key that has a neighbour before it has one after it
        some_keys : (ks : List Bytes) → predecessor ks x ≡ Some key → successor ks key ≡ None → ⊥
        some_keys [] first last = cc
        some_keys (k ∷ ks) first last = at (least (filter (λ j. key_lt key j) (k ∷ ks))) refl
          where
            at : (o : Option Bytes) → least (filter (λ j. key_lt key j) (k ∷ ks)) ≡ o → ⊥
            at None is = let none : least (k ∷ ks) ≡ None = ap (λ o. option_or o (least (k ∷ ks))) (sym is) ∙ last in cc
            at (Some m) is = let none : Some m ≡ None = ap (λ o. option_or o (least (k ∷ ks))) (sym is) ∙ last in cc

        by_next : (o : Option Bytes) → e.next ≡ o → exclusion_verdict hash shape g form (exclusion_by hash shape g form ops (Some e)) x (canonical hash shape g form ops) ≡ true
        by_next None is = absurd (some_keys (live_keys ops) before (sym linked ∙ is))
        by_next (Some next) is =
            let span : in_span e.key next x ≡ true = ap (λ k. in_span k next x) key_is ∙ span_around_has (live_keys ops) x key next apart before (sym linked ∙ is) in
            let other : not (bytes_eq e.key x) ≡ true = ap (λ k. not (bytes_eq k x)) key_is ∙ ap not key_apart in
            let own : operation_verdict hash shape g (operation_proof hash shape g form ops e.location) (spelling form (update e.key e.value (Some next))) (canonical hash shape g form ops) ≡ true =
            ap (λ n. operation_verdict hash shape g (operation_proof hash shape g form ops e.location) (spelling form (update e.key e.value n)) (canonical hash shape g form ops)) (sym is) ∙ held in
            ap (λ n. not (bytes_eq e.key x) && (in_span e.key (unwrap_or n []) x && operation_verdict hash shape g (operation_proof hash shape g form ops e.location) (spelling form (update e.key e.value (Some (unwrap_or n [])))) (canonical hash shape g form ops))) is
            ∙ ap₂ (λ s t. s && t) other (ap₂ (λ s t. s && t) span own)

    pub absent_verified : (absent_check hash shape g form ops x).1 ≡ true
    absent_verified = at (predecessor (live_keys ops) x) refl
      where
        there : (es : List Live) → Each (λ k. (e : Live) × (live_of es k ≡ Some e)) (map (λ e. e.key) es)
        there [] = tt
        there (e ∷ es) = ((e, ap (λ t. if t then Some e else live_of es e.key) (bytes_same e.key)), more es (map (λ e. e.key) es) (there es))
          where
            more : (es : List Live) (ks : List Bytes) → Each (λ k. (f : Live) × (live_of es k ≡ Some f)) ks → Each (λ k. (f : Live) × (live_of (e ∷ es) k ≡ Some f)) ks
            more es [] all = tt
            more es (k ∷ ks) all = (
              ⊎_elim
                  (λ (same : bytes_eq e.key k ≡ true). (e, ap (λ t. if t then Some e else live_of es k) same))
                  (λ (differ : bytes_eq e.key k ≡ false). (all.0.0, ap (λ t. if t then Some e else live_of es k) differ ∙ all.0.1))
                  (true_or_false (bytes_eq e.key k)),
              more es ks all.1,
            )

        no_keys : (es : List Live) → greatest (map (λ e. e.key) es) ≡ None → es ≡ []
        no_keys [] none = refl
        no_keys (e ∷ es) none = cc

        rest_none : (o : Option Bytes) (all : Option Bytes) → option_or o all ≡ None → all ≡ None
        rest_none None all e = e
        rest_none (Some k) all e = cc

        at : (o : Option Bytes) → predecessor (live_keys ops) x ≡ o → (absent_check hash shape g form ops x).1 ≡ true
        at None is =
            ap (λ o. exclusion_verdict hash shape g form (exclusion_by hash shape g form ops (option_and_then (live_of (live ops)) o)) x (canonical hash shape g form ops)) is
            ∙ emptied_verified (no_keys (live ops) (rest_none (greatest (filter (λ k. key_lt k x) (live_keys ops))) (greatest (live_keys ops)) is))
        at (Some key) is =
            let found = predecessor_has (λ k. (e : Live) × (live_of (live ops) k ≡ Some e)) (live_keys ops) x key (there (live ops)) is in
            ap (λ o. exclusion_verdict hash shape g form (exclusion_by hash shape g form ops (option_and_then (live_of (live ops)) o)) x (canonical hash shape g form ops)) is
            ∙ ap (λ o. exclusion_verdict hash shape g form (exclusion_by hash shape g form ops o) x (canonical hash shape g form ops)) found.1
            ∙ spanned_verified found.0 key is found.1
