-- What holds of chunks, of the two families under them, and of the boundary.
use Rattle.std.proofs.Common.{get_or, ◌≡◌, ◌≢◌, ℕ, zero, suc, ◌+◌, ◌-◌, ◌*◌, ◌/◌, ◌^◌, ◌<◌, ◌≤◌, Bool, true, false, List, [], ◌∷◌, length, map, drop, arith, ap, ap₂, sym, ◌∙◌, refl, Option, None, Some, ⊎_elim, subst, le_refl}
use Rattle.std.specs.Prelude.{◌||◌, ◌==◌, if◌then◌else◌, slice_get, is_some, nat_lt, nat_le}
use Rattle.std.specs.List.{list_any, cons_option}
use Rattle.std.specs.Option.{option_map_or}
use Rattle.std.proofs.Math.Nat.{pow-suc}
use Rattle.std.proofs.lemmas.Bool.{cases_lt}
use Rattle.std.proofs.lemmas.Bool.Decides.{nat_tests}
use Rattle.std.proofs.lemmas.List.Folds.{list_any-append}
use Rattle.std.proofs.lemmas.Nat.{pow-add, pow_pos, div-add-mod', mul-le}
use Rattle.qm_model.specs.Operations.{Bytes, Operation, update, delete, commit}
use Rattle.qm_model.specs.Live.{Live, touched, live_at, live_from, live, active}
use Rattle.qm_model.specs.Trees.{Node, Shape, end_of, node_digest, digest}
use Rattle.qm_model.specs.Mmr.{mmr}
use Rattle.qm_model.specs.Mmb.{mmb}
use Rattle.qm_model.specs.Mmb as delayed
use Rattle.qm_model.specs.Bits.{is_last, bits}
use Rattle.qm_model.specs.Grafted.{chunk_node, unborn_before, pending_chunk, grafted_chunks, raised, grafted_shape, chunk_values, value_over, pair_absorption_threshold, needed_size, prunable_chunks, sync_boundary}
use Rattle.qm_model.proofs.Proving.{true_or_false, less_true, less_tells}
use Rattle.qm_model.proofs.Speaking.{at_most}
use Rattle.qm_model.proofs.BitLemmas.{bit_of}
use Rattle.qm_model.proofs.RangeProving.{quotient_most}
use Rattle.qm_model.proofs.RangeSpeaking.{quotient_is}

-- Births.

-- a node is born by when the leaves of a neighbour are there
pub mmr_prompt : (h i : ℕ) → mmr.birth (record { height = h; index = i }) ≤ suc (suc i) * 2 ^ h
mmr_prompt h i = mul-le (suc i) (2 ^ h) (suc (suc i)) (2 ^ h) (omega arith) (le_refl (2 ^ h))

pub mmb_prompt : (h i : ℕ) → mmb.birth (record { height = h; index = i }) ≤ suc (suc i) * 2 ^ h
mmb_prompt zero i = omega arith
mmb_prompt (suc h) i = let wide = pow-suc 2 h in let same : suc h - 1 ≡ h = omega arith in let half : 2 ^ (suc h - 1) ≡ 2 ^ h = ap (λ k. 2 ^ k) same in
    let high : suc (suc i) * 2 ^ suc h ≡ suc i * 2 ^ suc h + 2 ^ suc h = omega arith in
    subst (λ b. (if b then suc i * 2 ^ suc h else suc i * 2 ^ suc h + 2 ^ (suc h - 1) - 1) ≤ suc (suc i) * 2 ^ suc h) (sym (not_zero h)) (omega arith)
  where
    not_zero : (h : ℕ) → (suc h == 0) ≡ false
    not_zero h = grind (arith, nat_tests)

-- of a family whose nodes are, a complete chunk that is not yet grafted is the pending one
pub pending_is : (shape : Shape) (g n c : ℕ) → shape.birth (chunk_node g c) ≤ suc (suc c) * 2 ^ g → suc c * 2 ^ g ≤ n → n < shape.birth (chunk_node g c) → pending_chunk shape g n ≡ Some c
pending_is shape g n c soon whole unborn =
    ap (unborn_before shape g n) (quotient_is n (2 ^ g) (suc c) (pow_pos g) whole (omega arith)) ∙ ap (λ t. if t then Some c else None) (less_true n (shape.birth (chunk_node g c)) unborn)

-- the pending chunk is complete and not yet grafted
pub pending_tells : (shape : Shape) (g n c : ℕ) → pending_chunk shape g n ≡ Some c → (suc c * 2 ^ g ≤ n) × (n < shape.birth (chunk_node g c))
pending_tells shape g n c e = at (n / 2 ^ g) refl e
  where
    at : (k : ℕ) → n / 2 ^ g ≡ k → unborn_before shape g n k ≡ Some c → (suc c * 2 ^ g ≤ n) × (n < shape.birth (chunk_node g c))
    at zero is e = cc
    at (suc k) is e = ⊎_elim
        (λ (early : nat_lt n (shape.birth (chunk_node g k)) ≡ true).
        let some : Some k ≡ Some c = sym (ap (λ t. if t then Some k else None) early) ∙ e in
        let same : k ≡ c = cc in
        let split = div-add-mod' n (2 ^ g) in
        let count : n / 2 ^ g * 2 ^ g ≡ suc c * 2 ^ g = ap (λ z. z * 2 ^ g) (is ∙ ap suc same) in
        (omega arith, subst (λ j. n < shape.birth (chunk_node g j)) same (less_tells n (shape.birth (chunk_node g k)) early)))
        (λ (late : nat_lt n (shape.birth (chunk_node g k)) ≡ false). let none : None ≡ Some c = sym (ap (λ t. if t then Some k else None) late) ∙ e in cc)
        (true_or_false (nat_lt n (shape.birth (chunk_node g k))))

-- in mountain ranges no chunk is
pub mmr_never_pending : (g n : ℕ) → pending_chunk mmr g n ≡ None
mmr_never_pending g n = at (pending_chunk mmr g n) refl
  where
    at : (o : Option ℕ) → pending_chunk mmr g n ≡ o → pending_chunk mmr g n ≡ None
    at None e = e
    at (Some c) e = let tells = pending_tells mmr g n c e in let whole = tells.0 in let unborn = tells.1 in absurd (omega arith)

-- Thresholds and the boundary.

pub mmr_no_threshold : (g c : ℕ) → pair_absorption_threshold mmr g c ≡ None
mmr_no_threshold g zero = refl
mmr_no_threshold g (suc c) = ap (λ t. if t then None else Some (suc (c / 2) * 2 ^ suc g)) (same (suc (c / 2) * 2 ^ suc g))
  where
    same : (n : ℕ) → (n == n) ≡ true
    same n = grind (arith, nat_tests)

pub mmb_threshold : (g c : ℕ) → 0 < g → pair_absorption_threshold mmb g (suc c) ≡ Some (suc (c / 2) * 2 ^ suc g + 2 ^ g - 1)
mmb_threshold g c some =
    let x : Node = record { height = suc g; index = c / 2 } in
    let half : suc g - 1 ≡ g = omega arith in
    let wide : 2 ^ g ≡ 2 ^ (g - 1) * 2 = let split : g ≡ suc (g - 1) = omega arith in ap (λ k. 2 ^ k) split ∙ pow-suc 2 (g - 1) in
    let birth : delayed.birth x ≡ end_of x + 2 ^ g - 1 = ap (λ t. if t then end_of x else end_of x + 2 ^ (suc g - 1) - 1) (not_zero g) ∙ ap (λ k. end_of x + 2 ^ k - 1) half in
    let positive = pow_pos (g - 1) in
    let later : (delayed.birth x == end_of x) ≡ false = differ (delayed.birth x) (end_of x) (omega arith) in
    ap (λ t. if t then None else Some (delayed.birth x)) later ∙ ap Some birth
  where
    not_zero : (h : ℕ) → (suc h == 0) ≡ false
    not_zero h = grind (arith, nat_tests)

    differ : (m n : ℕ) → n < m → (m == n) ≡ false
    differ m n lt = grind (arith, nat_tests)

-- no more chunks go than are asked
pub prunable_most : (shape : Shape) (g n c : ℕ) → prunable_chunks shape g n c ≤ c
prunable_most shape g n zero = omega arith
prunable_most shape g n (suc c) =
    let rest = prunable_most shape g n c in
    ⊎_elim (λ (yes : nat_le (needed_size shape g (suc c)) n ≡ true). subst (λ t. (if t then suc c else prunable_chunks shape g n c) ≤ suc c) (sym yes) (omega arith))
    (λ (none : nat_le (needed_size shape g (suc c)) n ≡ false). subst (λ t. (if t then suc c else prunable_chunks shape g n c) ≤ suc c) (sym none) (omega arith))
    (true_or_false (nat_le (needed_size shape g (suc c)) n))

-- the boundary is not above the floor
pub boundary_most : (shape : Shape) (g floor n : ℕ) → sync_boundary shape g floor n ≤ floor
boundary_most shape g floor n =
    let most = prunable_most shape g n (floor / 2 ^ g) in
    let split = div-add-mod' floor (2 ^ g) in
    let low : prunable_chunks shape g n (floor / 2 ^ g) * 2 ^ g ≤ floor / 2 ^ g * 2 ^ g = mul-le (prunable_chunks shape g n (floor / 2 ^ g)) (2 ^ g) (floor / 2 ^ g) (2 ^ g) most (le_refl (2 ^ g)) in
    omega arith

-- if chunks go, the size is needed
pub prunable_needed : (shape : Shape) (g n c : ℕ) → 0 < prunable_chunks shape g n c → needed_size shape g (prunable_chunks shape g n c) ≤ n
prunable_needed shape g n zero some = absurd (omega arith)
prunable_needed shape g n (suc c) some = ⊎_elim
    (λ (yes : nat_le (needed_size shape g (suc c)) n ≡ true). subst (λ k. needed_size shape g k ≤ n) (sym (ap (λ t. if t then suc c else prunable_chunks shape g n c) yes)) (at_most (needed_size shape g (suc c)) n yes))
    (λ (none : nat_le (needed_size shape g (suc c)) n ≡ false).
    let is : prunable_chunks shape g n (suc c) ≡ prunable_chunks shape g n c = ap (λ t. if t then suc c else prunable_chunks shape g n c) none in
    subst (λ k. needed_size shape g k ≤ n) (sym is) (prunable_needed shape g n c (subst (λ k. 0 < k) is some)))
    (true_or_false (nat_le (needed_size shape g (suc c)) n))

-- Bits are the active locations.

-- a live update stands where its operation does
abbrev At : ℕ → Option Live → Type 0
At start o = (e : Live) → o ≡ Some e → e.location ≡ start

stands : (start : ℕ) (op : Operation) (ops : List Operation) → At start (live_at start op ops)
stands start (update k v n) ops = ⊎_elim
    (λ (yes : touched k ops ≡ true). λ e is. let none : ◌≡◌ {A = Option Live} None (Some e) = sym (ap (λ t. if t then None else Some (record { location = start; key = k; value = v; next = n })) yes) ∙ is in cc)
    (λ (none : touched k ops ≡ false). λ e is. let some : ◌≡◌ {A = Option Live} (Some (record { location = start; key = k; value = v; next = n })) (Some e) = sym (ap (λ t. if t then None else Some (record { location = start; key = k; value = v; next = n })) none) ∙ is in
    let same : record { location = start; key = k; value = v; next = n } ≡ e = cc in ap (λ (x : Live). x.location) (sym same))
    (true_or_false (touched k ops))
stands start (delete k) ops = λ e is. cc
stands start (commit m f) ops = λ e is. cc

live_anywhere : (start : ℕ) (op : Operation) (ops : List Operation) → is_some (live_at start op ops) ≡ is_some (live_at 0 op ops)
live_anywhere start (update k v n) ops = at (touched k ops)
  where
    at : (t : Bool) → is_some {T = Live} (if t then None else Some (record { location = start; key = k; value = v; next = n })) ≡ is_some {T = Live} (if t then None else Some (record { location = 0; key = k; value = v; next = n }))
    at true = refl
    at false = refl
live_anywhere start (delete k) ops = refl
live_anywhere start (commit m f) ops = refl

differ : (m n : ℕ) → m ≢ n → (m == n) ≡ false
differ m n apart = grind (arith, nat_tests)

equal : (m n : ℕ) → m ≡ n → (m == n) ≡ true
equal m n same = grind (arith, nat_tests)

abbrev there : ℕ → List Live → Bool
there j es = list_any (λ k. k == j) (map (λ e. e.location) es)

-- one more at the front, which stands elsewhere, or here
there_other : (start j : ℕ) (o : Option Live) (es : List Live) → At start o → start ≢ j → there j (cons_option o es) ≡ there j es
there_other start j None es at apart = refl
there_other start j (Some e) es at apart = ap (λ t. t || there j es) (differ e.location j (λ same. apart (sym (at e refl) ∙ same)))

there_here : (start : ℕ) (o : Option Live) (es : List Live) → At start o → there start es ≡ false → there start (cons_option o es) ≡ is_some o
there_here start None es at none = none
there_here start (Some e) es at none = ap (λ t. t || there start es) (equal e.location start (at e refl))

-- no live update of a list stands before it
none_before : (start j : ℕ) (ops : List Operation) → j < start → there j (live_from start ops) ≡ false
none_before start j [] lt = refl
none_before start j (op ∷ ops) lt = there_other start j (live_at start op ops) (live_from (suc start) ops) (stands start op ops) (λ same. omega arith) ∙ none_before (suc start) j ops (omega arith)

live_bit : (start : ℕ) (ops : List Operation) (i : ℕ) (op : Operation) → slice_get ops i ≡ Some op → there (start + i) (live_from start ops) ≡ is_some (live_at 0 op (drop (suc i) ops))
live_bit start [] i op at = cc
live_bit start (x ∷ ops) zero op at =
    let same : x ≡ op = cc in
    let here : start + 0 ≡ start = omega arith in
    ap (λ j. there j (live_from start (x ∷ ops))) here
    ∙ there_here start (live_at start x ops) (live_from (suc start) ops) (stands start x ops) (none_before (suc start) start ops (omega arith))
    ∙ live_anywhere start x ops ∙ ap (λ o. is_some (live_at 0 o ops)) same
live_bit start (x ∷ ops) (suc i) op at =
    let next : start + suc i ≡ suc start + i = omega arith in
    there_other start (start + suc i) (live_at start x ops) (live_from (suc start) ops) (stands start x ops) (λ same. omega arith)
    ∙ ap (λ j. there j (live_from (suc start) ops)) next ∙ live_bit (suc start) ops i op at

last_bit : (ops : List Operation) (i : ℕ) (op : Operation) → slice_get ops i ≡ Some op → is_last (drop (suc i) ops) ≡ (length ops - 1 == i)
last_bit [] i op at = cc
last_bit (x ∷ []) zero op at = refl
last_bit (x ∷ y ∷ ops) zero op at = sym (differ (length (x ∷ y ∷ ops) - 1) 0 (λ same. omega arith))
last_bit (x ∷ []) (suc i) op at = cc
last_bit (x ∷ y ∷ ops) (suc i) op at = last_bit (y ∷ ops) i op at ∙ same (length ops + 1 - 1) (length ops + 2 - 1) (omega arith) (omega arith)
  where
    same : (m n : ℕ) → length (y ∷ ops) - 1 ≡ m → n ≡ suc m → (length (y ∷ ops) - 1 == i) ≡ (length (x ∷ y ∷ ops) - 1 == suc i)
    same m n e f = grind (arith, nat_tests)

-- a location's bit is set exactly if it is among the active ones
pub bit_is_active : (ops : List Operation) (i : ℕ) (op : Operation) → slice_get ops i ≡ Some op → slice_get (bits ops) i ≡ Some (list_any (λ k. k == i) (active ops))
bit_is_active ops i op at =
    bit_of ops i op at ∙ ap Some (
    ap₂ (λ s t. s || t) (last_bit ops i op at) (sym (live_bit 0 ops i op at) ∙ (let here : 0 + i ≡ i = omega arith in ap (λ j. there j (live ops)) here))
    ∙ turned (length ops - 1 == i) (there i (live ops))
    ∙ sym (list_any-append (λ k. k == i) (map (λ e. e.location) (live ops)) ((length ops - 1) ∷ [])))
  where
    turned : (s t : Bool) → (s || t) ≡ (t || (s || false))
    turned true true = refl
    turned true false = refl
    turned false true = refl
    turned false false = refl

-- The grafted tree.

-- a chunk is grafted exactly from the birth of its node on
pub grafted_born : (shape : Shape) (g n i : ℕ) → ((c : ℕ) → shape.birth (chunk_node g c) ≤ suc (suc c) * 2 ^ g) → suc i ≤ grafted_chunks shape g n → shape.birth (chunk_node g i) ≤ n
grafted_born shape g n i prompt low = at (pending_chunk shape g n) refl (n / 2 ^ g) refl
  where
    soon : shape.birth (chunk_node g i) ≤ suc (suc i) * 2 ^ g
    soon = prompt i

    at : (o : Option ℕ) → pending_chunk shape g n ≡ o → (k : ℕ) → n / 2 ^ g ≡ k → shape.birth (chunk_node g i) ≤ n
    at (Some c) e k is =
        let tells = pending_tells shape g n c e in
        let most : suc i ≤ c = subst (λ o. suc i ≤ option_map_or (λ c. c) o (n / 2 ^ g)) e low in
        let more : suc (suc i) * 2 ^ g ≤ suc c * 2 ^ g = mul-le (suc (suc i)) (2 ^ g) (suc c) (2 ^ g) (omega arith) (le_refl (2 ^ g)) in
        omega (arith, tells.0)
    at None e zero is = let most : suc i ≤ n / 2 ^ g = subst (λ o. suc i ≤ option_map_or (λ c. c) o (n / 2 ^ g)) e low in absurd (omega arith)
    at None e (suc k) is =
        let most : suc i ≤ n / 2 ^ g = subst (λ o. suc i ≤ option_map_or (λ c. c) o (n / 2 ^ g)) e low in
        let split = div-add-mod' n (2 ^ g) in
        let whole : n / 2 ^ g * 2 ^ g ≡ suc k * 2 ^ g = ap (λ z. z * 2 ^ g) is in
        ⊎_elim
        (λ (before : i < k).
        let more : suc (suc i) * 2 ^ g ≤ suc k * 2 ^ g = mul-le (suc (suc i)) (2 ^ g) (suc k) (2 ^ g) (omega arith) (le_refl (2 ^ g)) in omega arith)
        (λ (last : k ≤ i).
        let same : i ≡ k = omega arith in
        let none : unborn_before shape g n (suc k) ≡ None = ap (unborn_before shape g n) (sym is) ∙ e in
        subst (λ j. shape.birth (chunk_node g j) ≤ n) (sym same) (born k none))
        (cases_lt i k)
      where
        born : (k : ℕ) → unborn_before shape g n (suc k) ≡ None → shape.birth (chunk_node g k) ≤ n
        born k none = ⊎_elim
            (λ (early : nat_lt n (shape.birth (chunk_node g k)) ≡ true). let some : Some k ≡ None = sym (ap (λ t. if t then Some k else None) early) ∙ none in cc)
            (λ (late : nat_lt n (shape.birth (chunk_node g k)) ≡ false). not_less n (shape.birth (chunk_node g k)) late)
            (true_or_false (nat_lt n (shape.birth (chunk_node g k))))
          where
            not_less : (a b : ℕ) → nat_lt a b ≡ false → b ≤ a
            not_less a b e = grind (arith, nat_tests)

pub born_grafted : (shape : Shape) (g n i : ℕ) → suc i * 2 ^ g ≤ shape.birth (chunk_node g i) → shape.birth (chunk_node g i) ≤ n → suc i ≤ grafted_chunks shape g n
born_grafted shape g n i inside born = at (pending_chunk shape g n) refl
  where
    count : suc i ≤ n / 2 ^ g
    count = quotient_most n (2 ^ g) (suc i) (pow_pos g) (omega arith)

    at : (o : Option ℕ) → pending_chunk shape g n ≡ o → suc i ≤ option_map_or (λ c. c) (pending_chunk shape g n) (n / 2 ^ g)
    at None e = subst (λ o. suc i ≤ option_map_or (λ c. c) o (n / 2 ^ g)) (sym e) count
    at (Some c) e =
        let tells = pending_tells shape g n c e in
        let whole = tells.0 in
        let unborn = tells.1 in
        let last = pending_last (n / 2 ^ g) e in
        let apart : i ≢ c = λ same. let born_there : shape.birth (chunk_node g c) ≤ n = subst (λ j. shape.birth (chunk_node g j) ≤ n) same born in omega arith in
        subst (λ o. suc i ≤ option_map_or (λ c. c) o (n / 2 ^ g)) (sym e) (below apart (omega (arith, count, last)))
      where
        below : i ≢ c → i ≤ c → suc i ≤ c
        below apart most = grind arith

        pending_last : (k : ℕ) → unborn_before shape g n k ≡ Some c → k ≡ suc c
        pending_last zero e = cc
        pending_last (suc k) e = ⊎_elim
            (λ (early : nat_lt n (shape.birth (chunk_node g k)) ≡ true). let some : Some k ≡ Some c = sym (ap (λ t. if t then Some k else None) early) ∙ e in let same : k ≡ c = cc in ap suc same)
            (λ (late : nat_lt n (shape.birth (chunk_node g k)) ≡ false). let none : None ≡ Some c = sym (ap (λ t. if t then Some k else None) late) ∙ e in cc)
            (true_or_false (nat_lt n (shape.birth (chunk_node g k))))

-- births in the delayed family
pub mmb_leaf_born : (i : ℕ) → mmb.birth (record { height = 0; index = i }) ≡ suc i * 2 ^ 0
mmb_leaf_born i = refl

pub mmb_inner_born : (h i : ℕ) → mmb.birth (record { height = suc h; index = i }) ≡ suc i * 2 ^ suc h + 2 ^ h - 1
mmb_inner_born h i =
    let same : suc h - 1 ≡ h = omega arith in
    ap (λ t. if t then suc i * 2 ^ suc h else suc i * 2 ^ suc h + 2 ^ (suc h - 1) - 1) (differ (suc h) 0 (λ e. omega arith)) ∙ ap (λ k. suc i * 2 ^ suc h + 2 ^ k - 1) same

chunk_born : (g : ℕ) → 0 < g → (i : ℕ) → mmb.birth (chunk_node g i) ≡ suc i * 2 ^ g + 2 ^ (g - 1) - 1
chunk_born zero some i = absurd (omega arith)
chunk_born (suc h) some i = mmb_inner_born h i ∙ (let same : h ≡ suc h - 1 = omega arith in ap (λ k. suc i * 2 ^ suc h + 2 ^ k - 1) same)

half_below : (g : ℕ) → 2 ^ (g - 1) ≤ 2 ^ g
half_below zero = omega arith
half_below (suc h) = let same : suc h - 1 ≡ h = omega arith in let half : 2 ^ (suc h - 1) ≡ 2 ^ h = ap (λ k. 2 ^ k) same in let wide = pow-suc 2 h in omega arith

raised_born : (g k i : ℕ) → mmb.birth (raised g (record { height = suc k; index = i })) ≡ suc i * (2 ^ suc k * 2 ^ g) + 2 ^ k * 2 ^ g - 1
raised_born g k i =
    let up : suc k + g ≡ suc (k + g) = omega arith in
    ap (λ h. mmb.birth (record { height = h; index = i })) up ∙ mmb_inner_born (k + g) i
    ∙ ap₂ (λ x y. suc i * x + y - 1) (ap (λ h. 2 ^ h) (sym up) ∙ pow-add 2 (suc k) g) (pow-add 2 k g)

-- if a node over chunks is born in the operations tree, what it stands for is born in the grafted tree
pub mmb_lowered_born : (g n k i : ℕ) → 0 < g → mmb.birth (raised g (record { height = k; index = i })) ≤ n → mmb.birth (record { height = k; index = i }) ≤ grafted_chunks mmb g n
mmb_lowered_born g n zero i some born =
    let at : 0 + g ≡ g = omega arith in
    let own = subst (λ h. mmb.birth (record { height = h; index = i }) ≤ n) at born in
    let is = chunk_born g some i in
    let positive = pow_pos (g - 1) in
    let grafted = born_grafted mmb g n i (omega arith) own in omega arith
mmb_lowered_born g n (suc k) i some born =
    let m = mmb.birth (record { height = suc k; index = i }) in
    let is : m ≡ suc i * 2 ^ suc k + 2 ^ k - 1 = mmb_inner_born k i in
    let raised_is = raised_born g k i in
    let positive = pow_pos k in
    let wide = pow-suc 2 k in
    let next : suc m ≡ suc i * 2 ^ suc k + 2 ^ k = omega arith in
    let scaled : suc m * 2 ^ g ≡ (suc i * 2 ^ suc k + 2 ^ k) * 2 ^ g = ap (λ z. z * 2 ^ g) next in
    let last : suc (m - 1) ≡ m = omega arith in
    let chunk = chunk_born g some (m - 1) in
    let end : suc (m - 1) * 2 ^ g ≡ m * 2 ^ g = ap (λ z. z * 2 ^ g) last in
    let half = half_below g in
    let half_some = pow_pos (g - 1) in
    let grafted = born_grafted mmb g n (m - 1) (omega arith) (omega arith) in omega arith

-- if c chunks may go, each node of the grafted tree over the first c chunks stands for one that is born in the operations tree
pub mmb_absorbed : (g n c k i : ℕ) → 0 < g → 0 < c → needed_size mmb g c ≤ n → mmb.birth (record { height = k; index = i }) ≤ c → mmb.birth (raised g (record { height = k; index = i })) ≤ n
mmb_absorbed g n zero k i some more needed born = absurd (omega arith)
mmb_absorbed g n (suc c) k i some more needed born = at k born
  where
    enough : suc (c / 2) * 2 ^ suc g + 2 ^ g - 1 ≤ n
    enough = subst (λ o. option_map_or (λ n. n) o (mmb.birth (chunk_node g (suc c - 1))) ≤ n) (mmb_threshold g c some) needed

    -- the pair ends after the chunks
    past : suc c * 2 ^ g ≤ suc (c / 2) * 2 ^ suc g
    past =
        let wide = pow-suc 2 g in
        let scaled : suc (c / 2) * 2 ^ suc g ≡ suc (c / 2) * (2 ^ g * 2) = ap (λ z. suc (c / 2) * z) wide in
        let low : suc c * 2 ^ g ≤ (suc (c / 2) * 2) * 2 ^ g = mul-le (suc c) (2 ^ g) (suc (c / 2) * 2) (2 ^ g) (omega arith) (le_refl (2 ^ g)) in
        omega arith

    at : (k : ℕ) → mmb.birth (record { height = k; index = i }) ≤ suc c → mmb.birth (raised g (record { height = k; index = i })) ≤ n
    at zero born =
        let zero_is : 0 + g ≡ g = omega arith in
        let is = chunk_born g some i in
        let half = half_below g in
        let low : suc i * 2 ^ g ≤ suc c * 2 ^ g = mul-le (suc i) (2 ^ g) (suc c) (2 ^ g) (omega arith) (le_refl (2 ^ g)) in
        let end = enough in
        let behind = past in
        subst (λ h. mmb.birth (record { height = h; index = i }) ≤ n) (sym zero_is) (omega arith)
    at (suc k) born =
        let is = mmb_inner_born k i in
        let raised_is = raised_born g k i in
        let positive = pow_pos k in
        let low : (suc i * 2 ^ suc k + 2 ^ k) * 2 ^ g ≤ suc (suc c) * 2 ^ g = mul-le (suc i * 2 ^ suc k + 2 ^ k) (2 ^ g) (suc (suc c)) (2 ^ g) (omega arith) (le_refl (2 ^ g)) in
        let end = enough in
        let behind = past in
        omega arith

-- so no more chunks go than are grafted
pub mmb_prunable_grafted : (g n c : ℕ) → 0 < g → 0 < c → needed_size mmb g c ≤ n → c ≤ grafted_chunks mmb g n
mmb_prunable_grafted g n zero some more needed = absurd (omega arith)
mmb_prunable_grafted g n (suc c) some more needed =
    let born = mmb_absorbed g n (suc c) 0 c some more needed (omega arith) in
    let at : 0 + g ≡ g = omega arith in
    let own = subst (λ h. mmb.birth (record { height = h; index = c }) ≤ n) at born in
    let is = chunk_born g some c in
    let positive = pow_pos (g - 1) in
    born_grafted mmb g n c (omega arith) own

-- The values over chunks are the digests of the grafted tree.
module _ (hash : Bytes → Bytes) (shape : Shape) (g : ℕ) (leaves : List Bytes) (chunks : ℕ → Bytes) where
  pub length-chunk_values : (c k : ℕ) → length (chunk_values hash shape g leaves chunks c k) ≡ k
  length-chunk_values c zero = refl
  length-chunk_values c (suc k) = let rest = length-chunk_values (suc c) k in omega arith

  pub chunk_value_at : (c k j : ℕ) (d : Bytes) → j < k → get_or (chunk_values hash shape g leaves chunks c k) j d ≡ value_over hash shape g leaves chunks zero (c + j)
  chunk_value_at c zero j d lt = absurd (omega arith)
  chunk_value_at c (suc k) zero d lt = let same : c ≡ c + 0 = omega arith in ap (value_over hash shape g leaves chunks zero) same
  chunk_value_at c (suc k) (suc j) d lt = let same : suc c + j ≡ c + suc j = omega arith in chunk_value_at (suc c) k j d (omega arith) ∙ ap (value_over hash shape g leaves chunks zero) same

  pub value_is_digest : (count k i : ℕ) → suc i * 2 ^ k ≤ count → digest hash (grafted_shape shape g) (chunk_values hash shape g leaves chunks 0 count) k i ≡ value_over hash shape g leaves chunks k i
  value_is_digest count zero i within = let same : 0 + i ≡ i = omega arith in chunk_value_at 0 count i [] (omega arith) ∙ ap (value_over hash shape g leaves chunks zero) same
  value_is_digest count (suc k) i within =
      let wide : suc i * 2 ^ suc k ≡ suc i * (2 ^ k * 2) = ap (λ z. suc i * z) (pow-suc 2 k) in
      ap₂ (node_digest hash (shape.number (record { height = suc k + g; index = i }))) (value_is_digest count k (2 * i) (omega arith)) (value_is_digest count k (2 * i + 1) (omega arith))
