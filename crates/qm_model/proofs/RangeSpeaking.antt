-- A yes on a range proof speaks of the list whose canonical root it is given, or two different inputs have equal hashes.
use Rattle.std.proofs.Common.{◌≡◌, ◌⊎◌, ℕ, zero, suc, ◌+◌, ◌-◌, ◌*◌, ◌/◌, ◌^◌, ◌<◌, ◌≤◌, Bool, true, false, List, [], ◌∷◌, ◌++◌, length, map, take, drop, arith, ap, sym, ◌∙◌, refl, Option, Some, None, Contains, get_or, ⊎_elim, inl, inr, subst, le_refl, append_assoc, ◌%◌}
use Rattle.std.specs.Prelude.{max, min, nat_le, nat_lt, ◌&&◌, ◌==◌, bytes_eq, option_map, option_and_then, flat_map, if◌then◌else◌, IfSome}
use Rattle.std.specs.List.{AllByRecursion as Each}
use Rattle.std.proofs.Math.Nat.{pow-suc}
use Rattle.std.proofs.lemmas.Bool.{cases_lt, true≢false}
use Rattle.std.proofs.lemmas.Bool.Decides.{nat_tests}
use Rattle.std.proofs.lemmas.List.{length-map, length-append, length-drop, length-take-le, get_or-drop, get_or-take, same_lists}
use Rattle.std.proofs.lemmas.List.Sums.{count_by-le-length}
use Rattle.std.proofs.lemmas.Nat.{pow-add, pow_pos, mod_below, div-add-mod', mul-le}
use Rattle.qm_model.specs.Operations.{Bytes, Operation, eight_bytes}
use Rattle.qm_model.specs.Forms.{Form, spelling}
use Rattle.qm_model.specs.Live.{floor}
use Rattle.qm_model.specs.Trees.{Node, Shape, end_of, leaf, peaks, node_digest, digest, digest_of, fold_inactive, fold_right, root_of, leaves_from, ops_root, inactive_peaks}
use Rattle.qm_model.specs.Families.{Births, IsFamily, HasPeaks, over}
use Rattle.qm_model.specs.Proofs.{Taken, meets, taken, item_leaves, rebuilt, if_taken, if_rebuilt, Collides, node_inputs, inactive_inputs, right_inputs, bag_inputs, root_inputs, rebuilt_inputs}
use Rattle.qm_model.specs.Bits.{bits, partial_chunk}
use Rattle.qm_model.specs.Grafted.{chunk_size, chunk_node, chunk_of, chunk_start, unborn_before, pending_chunk, grafted_inactive, pending_part, partial_part, canonical_input, value_over, grafted_value, grafted_root, pending_digest, partial_digest, partial_of, canonical}
use Rattle.qm_model.specs.RangeProofs.{RangeProof, touched_chunks, chunks_of, rebuilt_over, rebuilt_value, rebuilt_values, agrees, rebuilt_canonical, has_canonical, range_verdict, over_inputs, value_inputs, values_inputs, claimed_input, range_inputs, grafted_over_inputs, grafted_node_inputs, grafted_root_inputs, chunk_input, canonical_inputs, IsSized, RangeSays}
use Rattle.qm_model.proofs.Maps.{same_key}
use Rattle.qm_model.proofs.Proving.{true_or_false, less_true, less_tells, operations_leaves, length-item_leaves}
use Rattle.qm_model.proofs.RangeProving.{length-chunks_from, chunk_at, quotient_least, quotient_most}
use Rattle.qm_model.proofs.BitLemmas.{length-packed}
use Rattle.qm_model.proofs.Speaking.{each_of, each_split, each_self, each_at, get_or_default, parted, length-eight, same_number, numbered, mapped, chained, both_true, at_most, Clash, same_input, bag_speaks, taken_sized, rebuilt_sized, digest_sized, Stand, node_speaks, peaks_end, peaks_few, covered}

module _ (hash : Bytes → Bytes) (size : ℕ) (sized : (m : Bytes) → length (hash m) ≡ size) (P Q : Bytes → Type 0) (shape : Shape) (g : ℕ) (list items : List Bytes) (a : ℕ) (given : List Bytes) (chunks : ℕ → Bytes)
    (whole : (c : ℕ) → a / 2 ^ g ≤ c → c < a / 2 ^ g + length given → length (get_or given (c - a / 2 ^ g) []) ≡ length (chunks c))
    (meeting : (c : ℕ) → a / 2 ^ g ≤ c → c < a / 2 ^ g + length given → meets a (a + length items) (chunk_node g c) ≡ true)
    (back : (c : ℕ) → meets a (a + length items) (chunk_node g c) ≡ true → (a / 2 ^ g ≤ c) × (c < a / 2 ^ g + length given)) where
  abbrev Clashes : Type 0
  Clashes = Clash hash size sized P Q

  abbrev Long : Bytes → Type 0
  Long d = length d ≡ size

  abbrev leaves : List Bytes
  leaves = item_leaves hash shape 0 list

  abbrev value : ℕ → ℕ → Bytes
  value = value_over hash shape g leaves chunks

  -- the claimed items and chunks of a node so many levels above a chunk's are the list's
  abbrev Items : ℕ → ℕ → Type 0
  Items k i = (l : ℕ) → a ≤ l → l < a + length items → i * (2 ^ k * 2 ^ g) ≤ l → l < suc i * (2 ^ k * 2 ^ g) → get_or items (l - a) [] ≡ get_or list l []

  abbrev Chunks : ℕ → ℕ → Type 0
  Chunks k i = (c : ℕ) → a / 2 ^ g ≤ c → c < a / 2 ^ g + length given → i * 2 ^ k ≤ c → c < suc i * 2 ^ k → get_or given (c - a / 2 ^ g) [] ≡ chunks c

  abbrev Both : ℕ → ℕ → Type 0
  Both k i = Items k i × Chunks k i

  -- a node that has none of the claimed leaves
  over_apart : (k i : ℕ) → meets a (a + length items) (record { height = k + g; index = i }) ≡ false → Both k i
  over_apart k i none =
      let power : 2 ^ (k + g) ≡ 2 ^ k * 2 ^ g = pow-add 2 k g in
      let low : i * 2 ^ (k + g) ≡ i * (2 ^ k * 2 ^ g) = ap (λ z. i * z) power in
      let high : suc i * 2 ^ (k + g) ≡ suc i * (2 ^ k * 2 ^ g) = ap (λ z. suc i * z) power in (
        (λ l from to start end.
            let yes = less_true (max a (i * 2 ^ (k + g))) (min (a + length items) (suc i * 2 ^ (k + g))) (omega arith) in
            absurd (true≢false (sym yes ∙ none))),
        (λ c from to start end.
            let inside = less_tells (max a (c * 2 ^ g)) (min (a + length items) (suc c * 2 ^ g)) (meeting c from to) in
            let first : i * 2 ^ k * 2 ^ g ≤ c * 2 ^ g = mul-le (i * 2 ^ k) (2 ^ g) c (2 ^ g) start (le_refl (2 ^ g)) in
            let last : suc c * 2 ^ g ≤ suc i * 2 ^ k * 2 ^ g = mul-le (suc c) (2 ^ g) (suc i * 2 ^ k) (2 ^ g) (omega arith) (le_refl (2 ^ g)) in
            let yes = less_true (max a (i * 2 ^ (k + g))) (min (a + length items) (suc i * 2 ^ (k + g))) (omega arith) in
            absurd (true≢false (sym yes ∙ none))),
      )

  -- a node that has some of them, by its halves
  record OverHalves (k i : ℕ) (ds : List Bytes) (t : Bytes × List Bytes) : Type 0 where
    pub left : Bytes × List Bytes
    pub right : Bytes × List Bytes
    pub is_left : rebuilt_over hash shape g items a given k (2 * i) ds ≡ Some left
    pub is_right : rebuilt_over hash shape g items a given k (2 * i + 1) left.1 ≡ Some right
    pub is : (node_digest hash (shape.number (record { height = suc k + g; index = i })) left.0 right.0, right.1) ≡ t

  over_halves : (k i : ℕ) (ds : List Bytes) (t : Bytes × List Bytes) → meets a (a + length items) (record { height = suc k + g; index = i }) ≡ true → rebuilt_over hash shape g items a given (suc k) i ds ≡ Some t → OverHalves k i ds t
  over_halves k i ds t does e =
      let x : Node = record { height = suc k + g; index = i } in
      let join : Bytes × List Bytes → Taken = λ l. option_map (λ r. (node_digest hash (shape.number x) l.0 r.0, r.1)) (rebuilt_over hash shape g items a given k (2 * i + 1) l.1) in
      let met = sym (ap (λ b. if b then option_and_then join (rebuilt_over hash shape g items a given k (2 * i) ds) else taken ds) does) ∙ e in
      let l = chained join (rebuilt_over hash shape g items a given k (2 * i) ds) t met in
      let r = mapped (λ r. (node_digest hash (shape.number x) l.0.0 r.0, r.1)) (rebuilt_over hash shape g items a given k (2 * i + 1) l.0.1) t l.2 in
      record { left = l.0; right = r.0; is_left = l.1; is_right = r.1; is = r.2 }

  -- a chunk's node that has some of them, by its plain digest
  record Under (i : ℕ) (ds : List Bytes) (t : Bytes × List Bytes) : Type 0 where
    pub plain : Bytes × List Bytes
    pub is_plain : rebuilt hash shape items a g i ds ≡ Some plain
    pub is : (hash (get_or given (i - a / 2 ^ g) [] ++ plain.0), plain.1) ≡ t

  under : (i : ℕ) (ds : List Bytes) (t : Bytes × List Bytes) → meets a (a + length items) (chunk_node g i) ≡ true → rebuilt_over hash shape g items a given zero i ds ≡ Some t → Under i ds t
  under i ds t does e =
      let wrap : Bytes × List Bytes → Bytes × List Bytes = λ t. (hash (get_or given (i - a / 2 ^ g) [] ++ t.0), t.1) in
      let met = sym (ap (λ b. if b then option_map wrap (rebuilt hash shape items a g i ds) else taken ds) does) ∙ e in
      let u = mapped wrap (rebuilt hash shape items a g i ds) t met in
      record { plain = u.0; is_plain = u.1; is = u.2 }

  over_sized : (k i : ℕ) (ds : List Bytes) (t : Bytes × List Bytes) → rebuilt_over hash shape g items a given k i ds ≡ Some t → Each Long ds → Long t.0 × Each Long t.1
  over_sized zero i ds t e own = ⊎_elim
      (λ (yes : meets a (a + length items) (chunk_node g i) ≡ true).
      let u = under i ds t yes e in
      let below = rebuilt_sized hash size sized P Q shape list items a g i ds u.plain u.is_plain own in
      subst (λ (u : Bytes × List Bytes). Long u.0 × Each Long u.1) u.is (sized (get_or given (i - a / 2 ^ g) [] ++ u.plain.0), below.1))
      (λ (none : meets a (a + length items) (chunk_node g i) ≡ false).
      let wrap : Bytes × List Bytes → Bytes × List Bytes = λ t. (hash (get_or given (i - a / 2 ^ g) [] ++ t.0), t.1) in
      taken_sized hash size sized P Q shape list items a ds t (sym (ap (λ b. if b then option_map wrap (rebuilt hash shape items a g i ds) else taken ds) none) ∙ e) own)
      (true_or_false (meets a (a + length items) (chunk_node g i)))
  over_sized (suc k) i ds t e own =
      let x : Node = record { height = suc k + g; index = i } in
      let join : Bytes × List Bytes → Taken = λ l. option_map (λ r. (node_digest hash (shape.number x) l.0 r.0, r.1)) (rebuilt_over hash shape g items a given k (2 * i + 1) l.1) in
      ⊎_elim
      (λ (yes : meets a (a + length items) x ≡ true).
      let two = over_halves k i ds t yes e in
      let left = over_sized k (2 * i) ds two.left two.is_left own in
      let right = over_sized k (2 * i + 1) two.left.1 two.right two.is_right left.1 in
      subst (λ (u : Bytes × List Bytes). Long u.0 × Each Long u.1) two.is (sized (eight_bytes (shape.number x) ++ two.left.0 ++ two.right.0), right.1))
      (λ (none : meets a (a + length items) x ≡ false). taken_sized hash size sized P Q shape list items a ds t (sym (ap (λ b. if b then option_and_then join (rebuilt_over hash shape g items a given k (2 * i) ds) else taken ds) none) ∙ e) own)
      (true_or_false (meets a (a + length items) x))

  value_sized : (k i : ℕ) → Long (value k i)
  value_sized zero i = sized (chunks i ++ digest hash shape leaves g i)
  value_sized (suc k) i = sized (eight_bytes (shape.number (record { height = suc k + g; index = i })) ++ value k (2 * i) ++ value k (2 * i + 1))

  -- a node that has its value over the list has the list's items and chunks, or inputs clash
  over_speaks : (k i : ℕ) (ds : List Bytes) (t : Bytes × List Bytes) → rebuilt_over hash shape g items a given k i ds ≡ Some t → t.0 ≡ value k i → Each Long ds →
      Each P (over_inputs hash shape g items a given k i ds) → Each Q (grafted_over_inputs hash shape g list chunks k i) → suc i * (2 ^ k * 2 ^ g) ≤ length list → Both k i ⊎ Clashes
  over_speaks zero i ds t e same own ps qs within =
      let mine = get_or given (i - a / 2 ^ g) [] in
      let theirs = digest hash shape leaves g i in
      let below = rebuilt_inputs hash shape items a g i ds in
      let own_input = if_taken (λ t. (mine ++ t.0) ∷ []) (rebuilt hash shape items a g i ds) in
      ⊎_elim
      (λ (yes : meets a (a + length items) (chunk_node g i) ≡ true).
      let u = under i ds t yes e in
      let here = back i yes in
      let all = subst (λ b. Each P (if b then below ++ own_input else [])) yes ps in
      let split = each_split P below own_input all in
      let input = subst (λ o. Each P (if_taken (λ t. (mine ++ t.0) ∷ []) o)) u.is_plain split.1 in
      let digests : hash (mine ++ u.plain.0) ≡ hash (chunks i ++ theirs) = ap (λ (u : Bytes × List Bytes). u.0) u.is ∙ same in
      ⊎_elim
      (λ (equal : mine ++ u.plain.0 ≡ chunks i ++ theirs).
      let parts = parted mine (chunks i) u.plain.0 theirs (whole i here.0 here.1) equal in
      ⊎_elim
      (λ (stands : Stand hash size sized P Q shape list items a g i). inl (
        (λ l from to start end. stands l from to (omega arith) (omega arith)),
        (λ c from to start end. let at : c ≡ i = omega arith in ap (λ j. get_or given (j - a / 2 ^ g) []) at ∙ parts.0 ∙ ap chunks (sym at)),
      ))
      (λ (clash : Clashes). inr clash)
      (node_speaks hash size sized P Q shape list items a g i ds u.plain u.is_plain parts.1 own split.0 qs.1 (omega arith)))
      (λ (clash : Clashes). inr clash)
      (same_input hash size sized P Q (mine ++ u.plain.0) (chunks i ++ theirs) input.0 qs.0 digests))
      (λ (none : meets a (a + length items) (chunk_node g i) ≡ false).
      let at : 0 + g ≡ g = omega arith in
      inl (over_apart zero i (subst (λ h. meets a (a + length items) (record { height = h; index = i }) ≡ false) (sym at) none)))
      (true_or_false (meets a (a + length items) (chunk_node g i)))
  over_speaks (suc k) i ds t e same own ps qs within =
      let x : Node = record { height = suc k + g; index = i } in
      let place = eight_bytes (shape.number x) in
      let half = value k in
      let wide : 2 ^ suc k * 2 ^ g ≡ 2 ^ k * 2 ^ g * 2 = ap (λ z. z * 2 ^ g) (pow-suc 2 k) ∙ omega arith in
      let wide_at : suc i * (2 ^ suc k * 2 ^ g) ≡ suc i * (2 ^ k * 2 ^ g * 2) = ap (λ z. suc i * z) wide in
      let low_at : i * (2 ^ suc k * 2 ^ g) ≡ i * (2 ^ k * 2 ^ g * 2) = ap (λ z. i * z) wide in
      let wide_chunks : suc i * 2 ^ suc k ≡ suc i * (2 ^ k * 2) = ap (λ z. suc i * z) (pow-suc 2 k) in
      let low_chunks : i * 2 ^ suc k ≡ i * (2 ^ k * 2) = ap (λ z. i * z) (pow-suc 2 k) in
      let others = each_split Q (grafted_over_inputs hash shape g list chunks k (2 * i)) (grafted_over_inputs hash shape g list chunks k (2 * i + 1)) qs.1 in
      ⊎_elim
      (λ (yes : meets a (a + length items) x ≡ true).
      let two = over_halves k i ds t yes e in
      let left = two.left in
      let right = two.right in
      let own_input : Bytes × List Bytes → List Bytes = λ l. if_taken (λ r. (place ++ l.0 ++ r.0) ∷ []) (rebuilt_over hash shape g items a given k (2 * i + 1) l.1) in
      let behind : Bytes × List Bytes → List Bytes = λ l. over_inputs hash shape g items a given k (2 * i + 1) l.1 ++ own_input l in
      let all = subst (λ b. Each P (if b then over_inputs hash shape g items a given k (2 * i) ds ++ if_taken behind (rebuilt_over hash shape g items a given k (2 * i) ds) else [])) yes ps in
      let first = each_split P (over_inputs hash shape g items a given k (2 * i) ds) (if_taken behind (rebuilt_over hash shape g items a given k (2 * i) ds)) all in
      let second = each_split P (over_inputs hash shape g items a given k (2 * i + 1) left.1) (own_input left) (subst (λ o. Each P (if_taken behind o)) two.is_left first.1) in
      let input = subst (λ o. Each P (if_taken (λ r. (place ++ left.0 ++ r.0) ∷ []) o)) two.is_right second.1 in
      let left_long = over_sized k (2 * i) ds left two.is_left own in
      let digests : hash (place ++ left.0 ++ right.0) ≡ hash (place ++ half (2 * i) ++ half (2 * i + 1)) = ap (λ (u : Bytes × List Bytes). u.0) two.is ∙ same in
      ⊎_elim
      (λ (equal : place ++ left.0 ++ right.0 ≡ place ++ half (2 * i) ++ half (2 * i + 1)).
      let long : length (place ++ left.0) ≡ length (place ++ half (2 * i)) = omega (arith, length-append place left.0, length-append place (half (2 * i)), left_long.0, value_sized k (2 * i)) in
      let rest = parted (place ++ left.0) (place ++ half (2 * i)) right.0 (half (2 * i + 1)) long equal in
      let parts : (left.0 ≡ half (2 * i)) × (right.0 ≡ half (2 * i + 1)) = (numbered (shape.number x) left.0 (half (2 * i)) rest.0, rest.1) in
      ⊎_elim
      (λ (left_says : Both k (2 * i)). ⊎_elim
      (λ (right_says : Both k (2 * i + 1)). inl (
        (λ l from to start end. ⊎_elim
            (λ (early : l < suc (2 * i) * (2 ^ k * 2 ^ g)). left_says.0 l from to (omega arith) early)
            (λ (late : suc (2 * i) * (2 ^ k * 2 ^ g) ≤ l). right_says.0 l from to (omega arith) (omega arith))
            (cases_lt l (suc (2 * i) * (2 ^ k * 2 ^ g)))),
        (λ c from to start end. ⊎_elim
            (λ (early : c < suc (2 * i) * 2 ^ k). left_says.1 c from to (omega arith) early)
            (λ (late : suc (2 * i) * 2 ^ k ≤ c). right_says.1 c from to (omega arith) (omega arith))
            (cases_lt c (suc (2 * i) * 2 ^ k))),
      ))
      (λ (clash : Clashes). inr clash)
      (over_speaks k (2 * i + 1) left.1 right two.is_right parts.1 left_long.1 second.0 others.1 (omega arith)))
      (λ (clash : Clashes). inr clash)
      (over_speaks k (2 * i) ds left two.is_left parts.0 own first.0 others.0 (omega arith)))
      (λ (clash : Clashes). inr clash)
      (same_input hash size sized P Q (place ++ left.0 ++ right.0) (place ++ half (2 * i) ++ half (2 * i + 1)) input.0 qs.0 digests))
      (λ (none : meets a (a + length items) x ≡ false). inl (over_apart (suc k) i none))
      (true_or_false (meets a (a + length items) x))

  -- what a peak says: its claimed items are the list's, and so are its chunks, if it is as high as a chunk's node
  abbrev Says : Node → Type 0
  Says p = Stand hash size sized P Q shape list items a p.height p.index × (g ≤ p.height → Chunks (p.height - g) p.index)

  not_less : (m n : ℕ) → nat_lt m n ≡ false → n ≤ m
  not_less m n e = grind (arith, nat_tests)

  peak_sized : (p : Node) (ds : List Bytes) (t : Bytes × List Bytes) → rebuilt_value hash shape g items a given p ds ≡ Some t → Each Long ds → Long t.0 × Each Long t.1
  peak_sized p ds t e own =
      let pick : Bool → Taken = λ b. if b then rebuilt hash shape items a p.height p.index ds else rebuilt_over hash shape g items a given (p.height - g) p.index ds in
      ⊎_elim
      (λ (yes : nat_lt p.height g ≡ true). rebuilt_sized hash size sized P Q shape list items a p.height p.index ds t (sym (ap pick yes) ∙ e) own)
      (λ (none : nat_lt p.height g ≡ false). over_sized (p.height - g) p.index ds t (sym (ap pick none) ∙ e) own)
      (true_or_false (nat_lt p.height g))

  peak_speaks : (p : Node) (ds : List Bytes) (t : Bytes × List Bytes) → rebuilt_value hash shape g items a given p ds ≡ Some t → t.0 ≡ grafted_value hash shape g leaves chunks p → Each Long ds →
      Each P (value_inputs hash shape g items a given p ds) → Each Q (grafted_node_inputs hash shape g list chunks p) → end_of p ≤ length list → Says p ⊎ Clashes
  peak_speaks p ds t e same own ps qs within =
      let pick : Bool → Taken = λ b. if b then rebuilt hash shape items a p.height p.index ds else rebuilt_over hash shape g items a given (p.height - g) p.index ds in
      let mine : Bool → List Bytes = λ b. if b then rebuilt_inputs hash shape items a p.height p.index ds else over_inputs hash shape g items a given (p.height - g) p.index ds in
      let theirs : Bool → List Bytes = λ b. if b then node_inputs hash shape list p.height p.index else grafted_over_inputs hash shape g list chunks (p.height - g) p.index in
      let worth : Bool → Bytes = λ b. if b then digest hash shape leaves p.height p.index else value (p.height - g) p.index in
      ⊎_elim
      (λ (yes : nat_lt p.height g ≡ true).
      let low = less_tells p.height g yes in
      ⊎_elim
      (λ (stands : Stand hash size sized P Q shape list items a p.height p.index). inl (stands, (λ high. absurd (omega arith))))
      (λ (clash : Clashes). inr clash)
      (node_speaks hash size sized P Q shape list items a p.height p.index ds t (sym (ap pick yes) ∙ e) (same ∙ ap worth yes) own
      (subst (λ b. Each P (mine b)) yes ps) (subst (λ b. Each Q (theirs b)) yes qs) within))
      (λ (none : nat_lt p.height g ≡ false).
      let high = not_less p.height g none in
      let split : p.height - g + g ≡ p.height = omega arith in
      let power : 2 ^ (p.height - g) * 2 ^ g ≡ 2 ^ p.height = sym (pow-add 2 (p.height - g) g) ∙ ap (λ h. 2 ^ h) split in
      let last : suc p.index * (2 ^ (p.height - g) * 2 ^ g) ≡ suc p.index * 2 ^ p.height = ap (λ z. suc p.index * z) power in
      let first : p.index * (2 ^ (p.height - g) * 2 ^ g) ≡ p.index * 2 ^ p.height = ap (λ z. p.index * z) power in
      ⊎_elim
      (λ (both : Both (p.height - g) p.index). inl ((λ l from to start end. both.0 l from to (omega arith) (omega arith)), (λ _. both.1)))
      (λ (clash : Clashes). inr clash)
      (over_speaks (p.height - g) p.index ds t (sym (ap pick none) ∙ e) (same ∙ ap worth none) own
      (subst (λ b. Each P (mine b)) none ps) (subst (λ b. Each Q (theirs b)) none qs) (omega arith)))
      (true_or_false (nat_lt p.height g))

  values_row : (ps : List Node) (ds out : List Bytes) → rebuilt_values hash shape g items a given ps ds ≡ Some out → Each Long ds → Each Long out × (length out ≡ length ps)
  values_row [] [] out e own = let same : [] ≡ out = cc in subst (λ (o : List Bytes). Each Long o × (length o ≡ 0)) same (tt, refl)
  values_row [] (d ∷ ds) out e own = cc
  values_row (p ∷ ps) ds out e own =
      let t = chained (λ t. option_map (λ rest. t.0 ∷ rest) (rebuilt_values hash shape g items a given ps t.1)) (rebuilt_value hash shape g items a given p ds) out e in
      let rest = mapped (λ rest. t.0.0 ∷ rest) (rebuilt_values hash shape g items a given ps t.0.1) out t.2 in
      let first = peak_sized p ds t.0 t.1 own in
      let others = values_row ps t.0.1 rest.0 rest.1 first.1 in
      subst (λ (o : List Bytes). Each Long o × (length o ≡ suc (length ps))) rest.2 ((first.0, others.0), omega (arith, others.1))

  grafted_sized : (ps : List Node) → Each (λ p. end_of p ≤ length list) ps → Each Long (map (grafted_value hash shape g leaves chunks) ps)
  grafted_sized [] ends = tt
  grafted_sized (p ∷ ps) ends =
      let worth : Bool → Bytes = λ b. if b then digest hash shape leaves p.height p.index else value (p.height - g) p.index in (
        ⊎_elim
            (λ (yes : nat_lt p.height g ≡ true). ap (λ b. length (worth b)) yes ∙ digest_sized hash size sized P Q shape list items a p.height p.index ends.0)
            (λ (none : nat_lt p.height g ≡ false). ap (λ b. length (worth b)) none ∙ value_sized (p.height - g) p.index)
            (true_or_false (nat_lt p.height g)),
        grafted_sized ps ends.1,
      )

  -- so do peaks
  values_speak : (ps : List Node) (ds out : List Bytes) → rebuilt_values hash shape g items a given ps ds ≡ Some out → out ≡ map (grafted_value hash shape g leaves chunks) ps → Each Long ds →
      Each P (values_inputs hash shape g items a given ps ds) → Each Q (flat_map (grafted_node_inputs hash shape g list chunks) ps) → Each (λ p. end_of p ≤ length list) ps → Each Says ps ⊎ Clashes
  values_speak [] ds out e same own inputs others within = inl tt
  values_speak (p ∷ ps) ds out e same own inputs others within =
      let t = chained (λ t. option_map (λ rest. t.0 ∷ rest) (rebuilt_values hash shape g items a given ps t.1)) (rebuilt_value hash shape g items a given p ds) out e in
      let rest = mapped (λ rest. t.0.0 ∷ rest) (rebuilt_values hash shape g items a given ps t.0.1) out t.2 in
      let both : t.0.0 ∷ rest.0 ≡ grafted_value hash shape g leaves chunks p ∷ map (grafted_value hash shape g leaves chunks) ps = rest.2 ∙ same in
      let head : t.0.0 ≡ grafted_value hash shape g leaves chunks p = cc in
      let tail : rest.0 ≡ map (grafted_value hash shape g leaves chunks) ps = cc in
      let after : Taken → List Bytes = if_taken (λ t. values_inputs hash shape g items a given ps t.1) in
      let mine = each_split P (value_inputs hash shape g items a given p ds) (after (rebuilt_value hash shape g items a given p ds)) inputs in
      let more = subst (λ o. Each P (after o)) t.1 mine.1 in
      let theirs = each_split Q (grafted_node_inputs hash shape g list chunks p) (flat_map (grafted_node_inputs hash shape g list chunks) ps) others in
      let long = peak_sized p ds t.0 t.1 own in
      ⊎_elim
      (λ (says : Says p). ⊎_elim (λ (all : Each Says ps). inl (says, all)) (λ (clash : Clashes). inr clash)
      (values_speak ps t.0.1 rest.0 rest.1 tail long.1 more theirs.1 within.1))
      (λ (clash : Clashes). inr clash)
      (peak_speaks p ds t.0 t.1 head own mine.0 theirs.0 within.0)

  -- Digests of the pending and of the partial chunk.

  -- the claimed chunk is the list's, if it is claimed
  abbrev Claim : Option ℕ → Type 0
  Claim at = (c : ℕ) → at ≡ Some c → a / 2 ^ g ≤ c → c < a / 2 ^ g + length given → get_or given (c - a / 2 ^ g) [] ≡ chunks c

  abbrev own_digest : Option ℕ → Option Bytes
  own_digest at = option_map (λ c. hash (chunks c)) at

  abbrev within_claim : ℕ → Bool
  within_claim c = nat_le (a / 2 ^ g) c && nat_lt c (a / 2 ^ g + length given)

  chunk_speaks : (at : Option ℕ) (d : Option Bytes) → agrees hash shape g items a given at d ≡ true → d ≡ own_digest at →
      Each P (claimed_input hash shape g items a given at) → Each Q (chunk_input hash shape g chunks at) → Claim at ⊎ Clashes
  chunk_speaks None d agree same ps qs = inl (λ c e. cc)
  chunk_speaks (Some c) None agree same ps qs = cc
  chunk_speaks (Some c) (Some d) agree same ps qs =
      let mine = get_or given (c - a / 2 ^ g) [] in
      ⊎_elim
      (λ (here : within_claim c ≡ true).
      let equal : bytes_eq (hash mine) d ≡ true = sym (ap (λ t. if t then bytes_eq (hash mine) d else true) here) ∙ agree in
      let digest : d ≡ hash (chunks c) = cc in
      let input = subst (λ t. Each P (if t then mine ∷ [] else [])) here ps in
      ⊎_elim
      (λ (is : mine ≡ chunks c). inl (λ e at from to. let there : c ≡ e = cc in subst (λ j. get_or given (j - a / 2 ^ g) [] ≡ chunks j) there is))
      (λ (clash : Clashes). inr clash)
      (same_input hash size sized P Q mine (chunks c) input.0 qs.0 (same_key (hash mine) d equal ∙ digest)))
      (λ (none : within_claim c ≡ false). inl (λ e at from to.
      let there : c ≡ e = cc in
      let is_there = tested e from to in absurd (true≢false (sym is_there ∙ ap within_claim (sym there) ∙ none))))
      (true_or_false (within_claim c))
    where
      tested : (e : ℕ) → a / 2 ^ g ≤ e → e < a / 2 ^ g + length given → within_claim e ≡ true
      tested e from to = grind (arith, nat_tests)

  part_long : (at : Option ℕ) (d : Option Bytes) → agrees hash shape g items a given at d ≡ true → IfSome d Long → length (pending_part d) ≡ length (pending_part (own_digest at))
  part_long None None agree own = refl
  part_long None (Some d) agree own = absurd (true≢false (sym agree))
  part_long (Some c) None agree own = absurd (true≢false (sym agree))
  part_long (Some c) (Some d) agree own = own ∙ sym (sized (chunks c))

  part_same : (at : Option ℕ) (d : Option Bytes) → agrees hash shape g items a given at d ≡ true → pending_part d ≡ pending_part (own_digest at) → d ≡ own_digest at
  part_same None None agree e = refl
  part_same None (Some d) agree e = absurd (true≢false (sym agree))
  part_same (Some c) None agree e = absurd (true≢false (sym agree))
  part_same (Some c) (Some d) agree e = ap Some e

  partial_same : (n : ℕ) (at : Option ℕ) (d : Option Bytes) → agrees hash shape g items a given at d ≡ true → partial_part (partial_of hash shape g n d) ≡ partial_part (partial_of hash shape g n (own_digest at)) → d ≡ own_digest at
  partial_same n None None agree e = refl
  partial_same n None (Some d) agree e = absurd (true≢false (sym agree))
  partial_same n (Some c) None agree e = absurd (true≢false (sym agree))
  partial_same n (Some c) (Some d) agree e = ap Some (numbered (n % 2 ^ g) d (hash (chunks c)) e)

-- chunks as long as they are
length-chunk_of : (g : ℕ) (ops : List Operation) (c : ℕ) → length (chunk_of g ops c) ≡ chunk_size g
length-chunk_of g ops c = length-packed (chunk_size g) (drop (c * (8 * chunk_size g)) (bits ops))

-- a quotient by its bounds
pub quotient_is : (n w c : ℕ) → 0 < w → c * w ≤ n → n < suc c * w → n / w ≡ c
quotient_is n w c some from to = let low = quotient_most n w c some from in let high = quotient_least n w c some to in omega arith

-- A family whose nodes are born by when the leaves of a neighbour are there.
module _ (shape : Shape) (births : Births) (family : IsFamily shape births) (peaked : HasPeaks shape) (prompt : (h i : ℕ) → shape.birth (record { height = h; index = i }) ≤ suc (suc i) * 2 ^ h) (n : ℕ) (few : n ≤ 2 ^ 62) where
  -- a node that is born is under a peak
  record Under_peak (m i : ℕ) : Type 0 where
    pub peak : Node
    pub is_peak : Contains (peaks shape n) peak
    pub high : m ≤ peak.height
    pub first : peak.index * 2 ^ (peak.height - m) ≤ i
    pub last : i < suc peak.index * 2 ^ (peak.height - m)

  power : (m : ℕ) → m < 2 ^ m
  power zero = omega arith
  power (suc m) = omega (arith, power m, pow-suc 2 m)

  top : (m i : ℕ) → shape.birth (record { height = m; index = i }) ≤ n → n < shape.birth (over (record { height = m; index = i })) → Under_peak m i
  top m i born past =
      let one : 2 ^ (m - m) ≡ 1 = let none : m - m ≡ 0 = omega arith in ap (λ k. 2 ^ k) none in
      let low : i * 2 ^ (m - m) ≡ i * 1 = ap (λ z. i * z) one in
      let high : suc i * 2 ^ (m - m) ≡ suc i * 1 = ap (λ z. suc i * z) one in
      record { peak = record { height = m; index = i }; is_peak = peaked.all n (record { height = m; index = i }) few born past; high = le_refl m; first = omega arith; last = omega arith }

  climb : (steps m i : ℕ) → n ≤ m + steps → shape.birth (record { height = m; index = i }) ≤ n → Under_peak m i
  climb zero m i enough born =
      let below : 1 * 2 ^ m ≤ suc i * 2 ^ m = mul-le 1 (2 ^ m) (suc i) (2 ^ m) (omega arith) (le_refl (2 ^ m)) in
      absurd (omega (arith, power m, family.inside (record { height = m; index = i })))
  climb (suc steps) m i enough born = ⊎_elim
      (λ (past : n < shape.birth (over (record { height = m; index = i }))). top m i born past)
      (λ (again : shape.birth (over (record { height = m; index = i })) ≤ n).
      let up = climb steps (suc m) (i / 2) (omega arith) again in
      let high = up.high in
      let first = up.first in
      let last = up.last in
      let split : up.peak.height - m ≡ suc (up.peak.height - suc m) = omega arith in
      let wide : 2 ^ (up.peak.height - m) ≡ 2 ^ (up.peak.height - suc m) * 2 = ap (λ k. 2 ^ k) split ∙ pow-suc 2 (up.peak.height - suc m) in
      let low_is : up.peak.index * 2 ^ (up.peak.height - m) ≡ up.peak.index * (2 ^ (up.peak.height - suc m) * 2) = ap (λ z. up.peak.index * z) wide in
      let high_is : suc up.peak.index * 2 ^ (up.peak.height - m) ≡ suc up.peak.index * (2 ^ (up.peak.height - suc m) * 2) = ap (λ z. suc up.peak.index * z) wide in
      record { peak = up.peak; is_peak = up.is_peak; high = omega arith; first = omega arith; last = omega arith })
      (cases_lt n (shape.birth (over (record { height = m; index = i }))))

  -- a chunk of which a location is there is grafted, or pending, or partial
  abbrev Placed : ℕ → ℕ → Type 0
  Placed g c = Under_peak g c ⊎ ((pending_chunk shape g n ≡ Some c) ⊎ (partial_chunk (2 ^ g) n ≡ Some c))

  placed : (g c : ℕ) → c * 2 ^ g < n → Placed g c
  placed g c some = ⊎_elim
      (λ (unborn : n < shape.birth (chunk_node g c)). inr (⊎_elim
      (λ (part : n < suc c * 2 ^ g). inr (
      let is = quotient_is n (2 ^ g) c (pow_pos g) (omega arith) part in
      let split = div-add-mod' n (2 ^ g) in
      let same : n / 2 ^ g * 2 ^ g ≡ c * 2 ^ g = ap (λ z. z * 2 ^ g) is in
      let rest : n % 2 ^ g == 0 ≡ false = not_zero (n % 2 ^ g) (omega arith) in
      ap (λ t. if t then None else Some (n / 2 ^ g)) rest ∙ ap Some is))
      (λ (whole : suc c * 2 ^ g ≤ n). inl (
      let soon = prompt g c in
      let is = quotient_is n (2 ^ g) (suc c) (pow_pos g) whole (omega arith) in
      ap (unborn_before shape g n) is ∙ ap (λ t. if t then Some c else None) (less_true n (shape.birth (chunk_node g c)) unborn)))
      (cases_lt n (suc c * 2 ^ g))))
      (λ (born : shape.birth (chunk_node g c) ≤ n). inl (climb n g c (omega arith) born))
      (cases_lt n (shape.birth (chunk_node g c)))
    where
      not_zero : (m : ℕ) → 0 < m → m == 0 ≡ false
      not_zero m more = grind (arith, nat_tests)

module _ (hash : Bytes → Bytes) (size : ℕ) (sized : (m : Bytes) → length (hash m) ≡ size) (shape : Shape) (births : Births) (family : IsFamily shape births) (peaked : HasPeaks shape) (leaf_born : (k : ℕ) → shape.birth (leaf k) ≡ suc k)
    (prompt : (h i : ℕ) → shape.birth (record { height = h; index = i }) ≤ suc (suc i) * 2 ^ h) (g : ℕ) (form : Form) (ops : List Operation) (few : length ops ≤ 2 ^ 62) (items : List Bytes) (a : ℕ) (given : List Bytes) (range : RangeProof) (own : IsSized size g range given) where
  abbrev list : List Bytes
  list = map (spelling form) ops

  abbrev chunks : ℕ → Bytes
  chunks = chunk_of g ops

  abbrev checked : Bytes → Type 0
  checked = Contains (range_inputs hash shape g items a given range)

  abbrev rooted : Bytes → Type 0
  rooted = Contains (canonical_inputs hash shape g form ops)

  abbrev Said : Type 0
  Said = RangeSays g form ops items a given ⊎ Collides hash (range_inputs hash shape g items a given range) (canonical_inputs hash shape g form ops)

  -- the numbers of a claim that fit
  module _ (some : 0 < length items) (count : length given ≡ touched_chunks g a (a + length items)) where
    meeting : (c : ℕ) → a / 2 ^ g ≤ c → c < a / 2 ^ g + length given → meets a (a + length items) (chunk_node g c) ≡ true
    meeting c from to =
        let w = 2 ^ g in
        let b = a + length items in
        let positive = pow_pos g in
        let front = div-add-mod' a w in
        let front_low = mod_below a w positive in
        let end = div-add-mod' (b - 1) w in
        let after : suc (a / w) * w ≤ suc c * w = mul-le (suc (a / w)) w (suc c) w (omega arith) (le_refl w) in
        let before : c * w ≤ (b - 1) / w * w = mul-le c w ((b - 1) / w) w (omega arith) (le_refl w) in
        less_true (max a (c * w)) (min b (suc c * w)) (omega arith)

    back : (c : ℕ) → meets a (a + length items) (chunk_node g c) ≡ true → (a / 2 ^ g ≤ c) × (c < a / 2 ^ g + length given)
    back c does =
        let inside = less_tells (max a (c * 2 ^ g)) (min (a + length items) (suc c * 2 ^ g)) does in
        let first = quotient_least a (2 ^ g) c (pow_pos g) (omega arith) in
        let last = quotient_most (a + length items - 1) (2 ^ g) c (pow_pos g) (omega arith) in
        (first, omega arith)

    whole : (c : ℕ) → a / 2 ^ g ≤ c → c < a / 2 ^ g + length given → length (get_or given (c - a / 2 ^ g) []) ≡ length (chunks c)
    whole c from to =
        each_at (λ d. length d ≡ chunk_size g) given (each_of (λ d. length d ≡ chunk_size g) given own.whole_chunks) (c - a / 2 ^ g) [] (omega arith) ∙ sym (length-chunk_of g ops c)

    abbrev Peak : Node → Type 0
    Peak = Says hash size sized checked rooted shape g list items a given chunks whole meeting back

    abbrev Chunk : Option ℕ → Type 0
    Chunk = Claim hash size sized checked rooted shape g list items a given chunks whole meeting back

    -- if each peak's claimed items and chunks are the list's, and so are the pending and the partial chunk, all are
    all_said : a + length items ≤ length ops → Each Peak (peaks shape (length ops)) → Chunk (pending_chunk shape g (length ops)) → Chunk (partial_chunk (2 ^ g) (length ops)) → RangeSays g form ops items a given
    all_said within peak pending partial = (stand, same)
      where
        listed : length list ≡ length ops
        listed = length-map ops (spelling form)

        stand : take (length items) (drop a list) ≡ items
        stand =
            let rest = length-drop a list in
            let size_is = listed in
            let long : length (take (length items) (drop a list)) ≡ length items = length-take-le (length items) (drop a list) (omega arith) in
            same_lists (take (length items) (drop a list)) items long (λ k d lt.
            let there : k < length items = omega arith in
            let under = covered shape births family peaked (length ops) few leaf_born (a + k) (omega arith) in
            let at = each_at Peak (peaks shape (length ops)) peak under.1.0 under.0 under.1.1 in
            let item = (subst Peak under.1.2 at).0 (a + k) (omega arith) (omega arith) under.2 under.3 in
            let behind : a + k - a ≡ k = omega arith in
            get_or-take (length items) (drop a list) k d there ∙ get_or-drop a list k d ∙ get_or_default list (a + k) d [] (omega arith)
            ∙ sym item ∙ ap (λ j. get_or items j []) behind ∙ get_or_default items k [] d there)

        last_chunk : (c : ℕ) → c ≤ (a + length items - 1) / 2 ^ g → c * 2 ^ g < length ops
        last_chunk c low =
            let w = 2 ^ g in
            let split = div-add-mod' (a + length items - 1) w in
            let before : c * w ≤ (a + length items - 1) / w * w = mul-le c w ((a + length items - 1) / w) w low (le_refl w) in
            omega arith

        same : given ≡ chunks_of g ops a (a + length items)
        same = same_lists given (chunks_of g ops a (a + length items)) (count ∙ sym (length-chunks_from chunks (a / 2 ^ g) (touched_chunks g a (a + length items)))) (λ k d lt.
            let c = a / 2 ^ g + k in
            let behind : c - a / 2 ^ g ≡ k = omega arith in
            let is : get_or given (c - a / 2 ^ g) [] ≡ chunks c = ⊎_elim
            (λ (under : Under_peak shape births family peaked prompt (length ops) few g c).
            let at = each_at Peak (peaks shape (length ops)) peak under.is_peak.0 under.peak under.is_peak.1 in
            (subst Peak under.is_peak.2 at).1 under.high c (omega arith) (omega arith) under.first under.last)
            (λ other. ⊎_elim
            (λ (at : pending_chunk shape g (length ops) ≡ Some c). pending c at (omega arith) (omega arith))
            (λ (at : partial_chunk (2 ^ g) (length ops) ≡ Some c). partial c at (omega arith) (omega arith)) other)
            (placed shape births family peaked prompt (length ops) few g c (last_chunk c (omega arith))) in
            get_or_default given k d [] lt ∙ ap (λ j. get_or given j []) (sym behind) ∙ is ∙ sym (chunk_at chunks (a / 2 ^ g) (touched_chunks g a (a + length items)) k d (omega arith)))

    -- Of the values of peaks that the check rebuilt.
    module _ (out : List Bytes) (rows : rebuilt_values hash shape g items a given (peaks shape range.proof.leaves) range.proof.digests ≡ Some out) (within : a + length items ≤ range.proof.leaves) where
      abbrev theirs : List Bytes
      theirs = map (grafted_value hash shape g (item_leaves hash shape 0 list) chunks) (peaks shape (length ops))

      abbrev their_inactive : ℕ
      their_inactive = grafted_inactive shape g ops

      -- if the numbers and the folds are the list's, too
      bagged : range.proof.leaves ≡ length ops → range.proof.inactive ≡ their_inactive →
          fold_right hash (fold_inactive hash (take range.proof.inactive out) ++ drop range.proof.inactive out) ≡ fold_right hash (fold_inactive hash (take their_inactive theirs) ++ drop their_inactive theirs) →
          Each checked (values_inputs hash shape g items a given (peaks shape range.proof.leaves) range.proof.digests) → Each checked (inactive_inputs hash (take range.proof.inactive out) ++ right_inputs hash (fold_inactive hash (take range.proof.inactive out) ++ drop range.proof.inactive out)) →
          Each rooted (bag_inputs hash (length ops) their_inactive theirs ++ flat_map (grafted_node_inputs hash shape g list chunks) (peaks shape (length ops))) →
          Each Peak (peaks shape (length ops)) ⊎ Clash hash size sized checked rooted
      bagged size_is inactive_is fold mine bag others =
          let ps = peaks shape (length ops) in
          let listed : length list ≡ length ops = length-map ops (spelling form) in
          let row : rebuilt_values hash shape g items a given ps range.proof.digests ≡ Some out = ap (λ m. rebuilt_values hash shape g items a given (peaks shape m) range.proof.digests) (sym size_is) ∙ rows in
          let digests = each_of (λ (d : Bytes). length d ≡ size) range.proof.digests own.digests in
          let long = values_row hash size sized checked rooted shape g list items a given chunks whole meeting back ps range.proof.digests out row digests in
          let ends = subst (λ m. Each (λ p. end_of p ≤ m) ps) (sym listed) (peaks_end shape births family peaked (length ops) few) in
          let their_long = grafted_sized hash size sized checked rooted shape g list items a given chunks whole meeting back ps ends in
          let split = each_split rooted (bag_inputs hash (length ops) their_inactive theirs) (flat_map (grafted_node_inputs hash shape g list chunks) ps) others in
          let folds = ap (λ m. fold_right hash (fold_inactive hash (take m out) ++ drop m out)) (sym inactive_is) ∙ fold in
          let my_bag = subst (λ m. Each checked (inactive_inputs hash (take m out) ++ right_inputs hash (fold_inactive hash (take m out) ++ drop m out))) inactive_is bag in
          ⊎_elim
          (λ (equal : out ≡ theirs).
          values_speak hash size sized checked rooted shape g list items a given chunks whole meeting back ps range.proof.digests out row equal digests
          (subst (λ m. Each checked (values_inputs hash shape g items a given (peaks shape m) range.proof.digests)) size_is mine) split.1 ends)
          (λ clash. inr clash)
          (bag_speaks hash size sized checked rooted their_inactive out theirs (long.1 ∙ sym (length-map ps (grafted_value hash shape g (item_leaves hash shape 0 list) chunks))) long.0 their_long my_bag split.0.1 folds)

      abbrev n : ℕ
      n = range.proof.leaves

      abbrev my_rest : Bytes
      my_rest = pending_part range.pending ++ partial_part (partial_of hash shape g n range.partial)

      abbrev their_rest : Bytes
      their_rest = pending_part (pending_digest hash shape g ops) ++ partial_part (partial_of hash shape g (length ops) (partial_digest hash shape g ops))

      -- the pending and the partial chunk, if the rest of the canonical root's input is the list's
      parts_said : n ≡ length ops → my_rest ≡ their_rest → agrees hash shape g items a given (pending_chunk shape g n) range.pending ≡ true → agrees hash shape g items a given (partial_chunk (2 ^ g) n) range.partial ≡ true →
          Each checked (claimed_input hash shape g items a given (pending_chunk shape g n)) → Each checked (claimed_input hash shape g items a given (partial_chunk (2 ^ g) n)) →
          Each rooted (chunk_input hash shape g chunks (pending_chunk shape g (length ops))) → Each rooted (chunk_input hash shape g chunks (partial_chunk (2 ^ g) (length ops))) →
          (Chunk (pending_chunk shape g (length ops)) × Chunk (partial_chunk (2 ^ g) (length ops))) ⊎ Clash hash size sized checked rooted
      parts_said size_is rest pend_agree part_agree my_pend my_part their_pend their_part =
          let pend_at = pending_chunk shape g (length ops) in
          let part_at = partial_chunk (2 ^ g) (length ops) in
          let pend_is : agrees hash shape g items a given pend_at range.pending ≡ true = ap (λ m. agrees hash shape g items a given (pending_chunk shape g m) range.pending) (sym size_is) ∙ pend_agree in
          let part_is : agrees hash shape g items a given part_at range.partial ≡ true = ap (λ m. agrees hash shape g items a given (partial_chunk (2 ^ g) m) range.partial) (sym size_is) ∙ part_agree in
          let long = part_long hash size sized checked rooted shape g list items a given chunks whole meeting back pend_at range.pending pend_is own.pending in
          let same : pending_part range.pending ++ partial_part (partial_of hash shape g (length ops) range.partial) ≡ their_rest =
          ap (λ m. pending_part range.pending ++ partial_part (partial_of hash shape g m range.partial)) (sym size_is) ∙ rest in
          let both = parted (pending_part range.pending) (pending_part (pending_digest hash shape g ops)) (partial_part (partial_of hash shape g (length ops) range.partial)) (partial_part (partial_of hash shape g (length ops) (partial_digest hash shape g ops))) long same in
          let pend_same = part_same hash size sized checked rooted shape g list items a given chunks whole meeting back pend_at range.pending pend_is both.0 in
          let part_same = partial_same hash size sized checked rooted shape g list items a given chunks whole meeting back (length ops) part_at range.partial part_is both.1 in
          ⊎_elim
          (λ (pend : Chunk pend_at). ⊎_elim (λ (part : Chunk part_at). inl (pend, part)) (λ clash. inr clash)
          (chunk_speaks hash size sized checked rooted shape g list items a given chunks whole meeting back part_at range.partial part_is part_same
          (subst (λ m. Each checked (claimed_input hash shape g items a given (partial_chunk (2 ^ g) m))) size_is my_part) their_part))
          (λ clash. inr clash)
          (chunk_speaks hash size sized checked rooted shape g list items a given chunks whole meeting back pend_at range.pending pend_is pend_same
          (subst (λ m. Each checked (claimed_input hash shape g items a given (pending_chunk shape g m))) size_is my_pend) their_pend)

      -- a canonical root that is the list's
      rooted_said : n ≤ 2 ^ 62 → range.proof.inactive ≤ length (peaks shape n) → agrees hash shape g items a given (pending_chunk shape g n) range.pending ≡ true → agrees hash shape g items a given (partial_chunk (2 ^ g) n) range.partial ≡ true →
          rebuilt_canonical hash shape g items a given range out ≡ canonical hash shape g form ops → Said
      rooted_said small low pend_agree part_agree hashes =
          let j = range.proof.inactive in
          let m = length ops in
          let leaves = item_leaves hash shape 0 list in
          let spelt : leaves_from hash shape form 0 ops ≡ leaves = operations_leaves hash shape form 0 ops in
          let count : length leaves ≡ m = length-item_leaves hash shape 0 list ∙ length-map ops (spelling form) in
          let my_root = root_of hash n j out in
          let their_root = grafted_root hash shape g form ops in
          let my_ops = range.ops_root in
          let their_ops = ops_root hash shape form ops in
          let their_is : their_root ≡ root_of hash m their_inactive theirs =
          ap (λ ls. root_of hash (length ls) their_inactive (map (grafted_value hash shape g ls chunks) (peaks shape (length ls)))) spelt
          ∙ ap (λ k. root_of hash k their_inactive (map (grafted_value hash shape g leaves chunks) (peaks shape k))) count in
          let my_fold = fold_right hash (fold_inactive hash (take j out) ++ drop j out) in
          let their_fold = fold_right hash (fold_inactive hash (take their_inactive theirs) ++ drop their_inactive theirs) in
          let mine = each_self (range_inputs hash shape g items a given range) in
          let pend_at = claimed_input hash shape g items a given (pending_chunk shape g n) in
          let part_at = claimed_input hash shape g items a given (partial_chunk (2 ^ g) n) in
          let values = values_inputs hash shape g items a given (peaks shape n) range.proof.digests in
          let bag : List Bytes → List Bytes = λ values. canonical_input my_ops (root_of hash n j values) range.pending (partial_of hash shape g n range.partial) ∷ bag_inputs hash n j values in
          let o = rebuilt_values hash shape g items a given (peaks shape n) range.proof.digests in
          let mine_one = each_split checked pend_at (part_at ++ (values ++ if_rebuilt bag o)) mine in
          let mine_two = each_split checked part_at (values ++ if_rebuilt bag o) mine_one.1 in
          let mine_three = each_split checked values (if_rebuilt bag o) mine_two.1 in
          let my_bag = subst (λ o. Each checked (if_rebuilt bag o)) rows mine_three.1 in
          let others = each_self (canonical_inputs hash shape g form ops) in
          let their_pend = chunk_input hash shape g chunks (pending_chunk shape g m) in
          let their_part = chunk_input hash shape g chunks (partial_chunk (2 ^ g) m) in
          let grafted = grafted_root_inputs hash shape g list chunks their_inactive in
          let plain = root_inputs hash shape list (inactive_peaks shape m (floor ops)) in
          let others_one = each_split rooted their_pend (their_part ++ (grafted ++ plain)) others.1 in
          let others_two = each_split rooted their_part (grafted ++ plain) others_one.1 in
          let others_three = each_split rooted grafted plain others_two.1 in
          let their_grafted = subst (λ k. Each rooted (bag_inputs hash k their_inactive (map (grafted_value hash shape g leaves chunks) (peaks shape k)) ++ flat_map (grafted_node_inputs hash shape g list chunks) (peaks shape k))) count others_three.0 in
          let mine_few = peaks_few shape births family peaked n small in
          let their_few = peaks_few shape births family peaked m few in
          let their_low : their_inactive ≤ length (peaks shape m) = count_by-le-length (λ p. nat_le (end_of p) (chunk_start g (floor ops))) (peaks shape m) in
          ⊎_elim
          (λ (equal : my_ops ++ my_root ++ pending_part range.pending ++ partial_part (partial_of hash shape g n range.partial) ≡ their_ops ++ their_root ++ pending_part (pending_digest hash shape g ops) ++ partial_part (partial_of hash shape g m (partial_digest hash shape g ops))).
          let grouped : (my_ops ++ my_root) ++ my_rest ≡ (their_ops ++ their_root) ++ their_rest =
          sym (append_assoc (my_ops ++ my_root) (pending_part range.pending) (partial_part (partial_of hash shape g n range.partial))) ∙ equal
          ∙ append_assoc (their_ops ++ their_root) (pending_part (pending_digest hash shape g ops)) (partial_part (partial_of hash shape g m (partial_digest hash shape g ops))) in
          let ops_long : length my_ops ≡ length their_ops = own.ops_root ∙ sym (sized (eight_bytes (length (leaves_from hash shape form 0 ops)) ++ eight_bytes (inactive_peaks shape m (floor ops)) ++ fold_right hash (fold_inactive hash (take (inactive_peaks shape m (floor ops)) (map (digest_of hash shape (leaves_from hash shape form 0 ops)) (peaks shape (length (leaves_from hash shape form 0 ops))))) ++ drop (inactive_peaks shape m (floor ops)) (map (digest_of hash shape (leaves_from hash shape form 0 ops)) (peaks shape (length (leaves_from hash shape form 0 ops))))))) in
          let roots_long : length (my_ops ++ my_root) ≡ length (their_ops ++ their_root) =
          omega (arith, length-append my_ops my_root, length-append their_ops their_root, ops_long, sized (eight_bytes n ++ eight_bytes j ++ my_fold), ap length their_is ∙ sized (eight_bytes m ++ eight_bytes their_inactive ++ their_fold)) in
          let parts = parted (my_ops ++ my_root) (their_ops ++ their_root) my_rest their_rest roots_long grouped in
          let roots = parted my_ops their_ops my_root their_root ops_long parts.0 in
          ⊎_elim
          (λ (inner : eight_bytes n ++ eight_bytes j ++ my_fold ≡ eight_bytes m ++ eight_bytes their_inactive ++ their_fold).
          let long : length (eight_bytes n ++ eight_bytes j) ≡ length (eight_bytes m ++ eight_bytes their_inactive) =
          omega (arith, length-append (eight_bytes n) (eight_bytes j), length-append (eight_bytes m) (eight_bytes their_inactive), length-eight n, length-eight j, length-eight m, length-eight their_inactive) in
          let halves = parted (eight_bytes n ++ eight_bytes j) (eight_bytes m ++ eight_bytes their_inactive) my_fold their_fold long inner in
          let numbers = parted (eight_bytes n) (eight_bytes m) (eight_bytes j) (eight_bytes their_inactive) (length-eight n ∙ sym (length-eight m)) halves.0 in
          let size_is : n ≡ m = same_number n m (omega arith) (omega arith) numbers.0 in
          let inactive_is : j ≡ their_inactive = same_number j their_inactive (omega arith) (omega arith) numbers.1 in
          ⊎_elim
          (λ (peak : Each Peak (peaks shape m)). ⊎_elim
          (λ (chunk : Chunk (pending_chunk shape g m) × Chunk (partial_chunk (2 ^ g) m)). inl (all_said (omega arith) peak chunk.0 chunk.1))
          (λ clash. inr clash)
          (parts_said size_is parts.1 pend_agree part_agree mine_one.0 mine_two.0 others_one.0 others_two.0))
          (λ clash. inr clash)
          (bagged size_is inactive_is halves.1 mine_three.0 my_bag.1.1 their_grafted))
          (λ clash. inr clash)
          (same_input hash size sized checked rooted (eight_bytes n ++ eight_bytes j ++ my_fold) (eight_bytes m ++ eight_bytes their_inactive ++ their_fold) my_bag.1.0 their_grafted.0 (roots.1 ∙ their_is)))
          (λ clash. inr clash)
          (same_input hash size sized checked rooted (canonical_input my_ops my_root range.pending (partial_of hash shape g n range.partial)) (canonical_input their_ops their_root (pending_digest hash shape g ops) (partial_of hash shape g m (partial_digest hash shape g ops))) my_bag.0 others.0 hashes)

  -- a yes on a range proof
  pub range_speaks : range_verdict hash shape g items a given range (canonical hash shape g form ops) ≡ true → Said
  range_speaks e =
      let n = range.proof.leaves in
      let j = range.proof.inactive in
      let first = both_true (nat_le n (2 ^ 62)) _ e in
      let second = both_true (nat_lt 0 (length items)) _ first.1 in
      let third = both_true (nat_le (a + length items) n) _ second.1 in
      let fourth = both_true (nat_le j (length (peaks shape n))) _ third.1 in
      let fifth = both_true (length given == touched_chunks g a (a + length items)) _ fourth.1 in
      let sixth = both_true (agrees hash shape g items a given (pending_chunk shape g n) range.pending) _ fifth.1 in
      let seventh = both_true (agrees hash shape g items a given (partial_chunk (2 ^ g) n) range.partial) _ sixth.1 in
      at (rebuilt_values hash shape g items a given (peaks shape n) range.proof.digests) refl (at_most n (2 ^ 62) first.0) (less_tells 0 (length items) second.0) (at_most (a + length items) n third.0) (at_most j (length (peaks shape n)) fourth.0)
      (equal (length given) (touched_chunks g a (a + length items)) fifth.0) sixth.0 seventh.0 seventh.1
    where
      equal : (x y : ℕ) → (x == y) ≡ true → x ≡ y
      equal x y e = grind (arith, nat_tests)

      at : (o : Option (List Bytes)) → rebuilt_values hash shape g items a given (peaks shape range.proof.leaves) range.proof.digests ≡ o → range.proof.leaves ≤ 2 ^ 62 → 0 < length items → a + length items ≤ range.proof.leaves → range.proof.inactive ≤ length (peaks shape range.proof.leaves) →
          length given ≡ touched_chunks g a (a + length items) → agrees hash shape g items a given (pending_chunk shape g range.proof.leaves) range.pending ≡ true → agrees hash shape g items a given (partial_chunk (2 ^ g) range.proof.leaves) range.partial ≡ true →
          has_canonical hash shape g items a given range (canonical hash shape g form ops) o ≡ true → Said
      at None rows small some within low count pending partial last = absurd (true≢false (sym last))
      at (Some out) rows small some within low count pending partial last =
          rooted_said some count out rows within small low pending partial (same_key (rebuilt_canonical hash shape g items a given range out) (canonical hash shape g form ops) last)
