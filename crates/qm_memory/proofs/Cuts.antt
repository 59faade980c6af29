-- Items that lie one after another in one buffer.
use Rattle.std.proofs.Common.{◌≡◌, ◌∙◌, ℕ, zero, suc, ◌+◌, ◌-◌, ◌<◌, ◌≤◌, List, [], ◌∷◌, ◌++◌, length, map, take, drop, get_or, refl, sym, ap, ap₂, subst, arith, Some}
use Rattle.std.specs.Prelude.{All, slice_get, slice_range}
use Rattle.std.proofs.lemmas.List.{length-append, length-drop, length-take, drop-append-le, drop-drop, take-append-le, take-append-drop, get_or-drop}
use Rattle.std.proofs.lemmas.Slice.{between_to_end}
use Rattle.std.proofs.Math.Seq.{drop-append_seam}
use Rattle.qm_memory.specs.Mem.{cut, AreEnds}

-- the last place is not before the first
pub ends-order : (from : ℕ) (ends : List ℕ) (last : ℕ) → AreEnds from ends last → from ≤ last
ends-order from [] last are = omega (arith, are)
ends-order from (to ∷ ends) last are = omega (arith, are.0, ends-order to ends last are.1)

-- ends that go on from the last place
pub ends-append : (from : ℕ) (ends : List ℕ) (last : ℕ) (later : List ℕ) (end : ℕ) → AreEnds from ends last → AreEnds last later end → AreEnds from (ends ++ later) end
ends-append from [] last later end are more = subst (λ n. AreEnds n later end) (sym are) more
ends-append from (to ∷ ends) last later end are more = (are.0, ends-append to ends last later end are.1 more)

-- each end is within the places, and not before the one ahead of it
pub ends-item : (from : ℕ) (ends : List ℕ) (last i : ℕ) → AreEnds from ends last → i < length ends → (get_or (from ∷ ends) i 0 ≤ get_or ends i 0) × (get_or ends i 0 ≤ last)
ends-item from [] last i are within = absurd (omega (arith, within))
ends-item from (to ∷ ends) last zero are within = (are.0, ends-order to ends last are.1)
ends-item from (to ∷ ends) last (suc i) are within = ends-item to ends last i are.1 (omega (arith, within))

-- there are as many items as ends
pub length-cut : (from : ℕ) (ends bytes : List ℕ) → length (cut from ends bytes) ≡ length ends
length-cut from [] bytes = refl
length-cut from (to ∷ ends) bytes = ap suc (length-cut to ends bytes)

-- an item is what lies between two ends
pub cut-item : (from : ℕ) (ends bytes : List ℕ) (i : ℕ) → i < length ends → slice_get (cut from ends bytes) i ≡ Some (slice_range bytes (get_or (from ∷ ends) i 0) (get_or ends i 0))
cut-item from [] bytes i within = absurd (omega (arith, within))
cut-item from (to ∷ ends) bytes zero within = refl
cut-item from (to ∷ ends) bytes (suc i) within = cut-item to ends bytes i (omega (arith, within))

-- more ends give more items
pub cut-append : (from : ℕ) (ends : List ℕ) (last : ℕ) (later bytes : List ℕ) → AreEnds from ends last → cut from (ends ++ later) bytes ≡ cut from ends bytes ++ cut last later bytes
cut-append from [] last later bytes are = ap (λ n. cut n later bytes) are
cut-append from (to ∷ ends) last later bytes are = ap (λ xs. slice_range bytes from to ∷ xs) (cut-append to ends last later bytes are.1)

-- bytes after the last end change no item
pub cut-longer : (from : ℕ) (ends bytes more : List ℕ) (last : ℕ) → AreEnds from ends last → last ≤ length bytes → cut from ends (bytes ++ more) ≡ cut from ends bytes
cut-longer from [] bytes more last are within = refl
cut-longer from (to ∷ ends) bytes more last are within =
    let order : to ≤ last = ends-order to ends last are.1 in
    let begins : from ≤ length bytes = omega (arith, order, within, are.0) in
    let ends-there : to - from ≤ length (drop from bytes) = omega (arith, order, within, are.0, length-drop from bytes) in
    ap₂ (λ x xs. x ∷ xs)
    (ap (take (to - from)) (drop-append-le from bytes more begins) ∙ take-append-le (to - from) (drop from bytes) more ends-there)
    (cut-longer to ends bytes more last are.1 within)

-- one item more
pub ends-push : (from : ℕ) (ends bytes item : List ℕ) → AreEnds from ends (length bytes) → AreEnds from (ends ++ length (bytes ++ item) ∷ []) (length (bytes ++ item))
ends-push from ends bytes item are =
    ends-append from ends (length bytes) (length (bytes ++ item) ∷ []) (length (bytes ++ item)) are (omega (arith, length-append bytes item), refl)

pub cut-push : (from : ℕ) (ends bytes item : List ℕ) → AreEnds from ends (length bytes) → cut from (ends ++ length (bytes ++ item) ∷ []) (bytes ++ item) ≡ cut from ends bytes ++ item ∷ []
cut-push from ends bytes item are =
    cut-append from ends (length bytes) (length (bytes ++ item) ∷ []) (bytes ++ item) are
    ∙ ap₂ (λ xs x. xs ++ x ∷ []) (cut-longer from ends bytes item (length bytes) are (omega arith))
    (between_to_end (bytes ++ item) (length bytes) (length (bytes ++ item)) (omega arith) ∙ drop-append_seam bytes item)

-- the item of a list that is cut is what lies between its ends
pub item-between : (ends bytes : List ℕ) (items : List (List ℕ)) (i start end : ℕ) → AreEnds 0 ends (length bytes) → cut 0 ends bytes ≡ items → i < length items → start ≡ get_or (0 ∷ ends) i 0 → end ≡ get_or ends i 0
    → (start ≤ end) × (end ≤ length bytes) × (slice_get items i ≡ Some (slice_range bytes start end))
item-between ends bytes items i start end are is within starts ends-at =
    let there : i < length ends = omega (arith, within, ap length is, length-cut 0 ends bytes) in
    let range = ends-item 0 ends (length bytes) i are there in (
      omega (arith, range.0, starts, ends-at),
      omega (arith, range.1, ends-at),
      ap (λ xs. slice_get xs i) (sym is) ∙ cut-item 0 ends bytes i there ∙ ap₂ (λ a b. Some (slice_range bytes a b)) (sym starts) (sym ends-at),
    )

-- the first ends lead to the place where they end
pub ends-take : (from : ℕ) (ends : List ℕ) (last n : ℕ) → AreEnds from ends last → n ≤ length ends → AreEnds from (take n ends) (get_or (from ∷ ends) n 0)
ends-take from ends last zero are within = refl
ends-take from [] last (suc n) are within = absurd (omega (arith, within))
ends-take from (to ∷ ends) last (suc n) are within = (are.0, ends-take to ends last n are.1 (omega (arith, within)))

-- and the others lead from there to the last
pub ends-drop : (from : ℕ) (ends : List ℕ) (last n : ℕ) → AreEnds from ends last → n ≤ length ends → AreEnds (get_or (from ∷ ends) n 0) (drop n ends) last
ends-drop from ends last zero are within = are
ends-drop from [] last (suc n) are within = absurd (omega (arith, within))
ends-drop from (to ∷ ends) last (suc n) are within = ends-drop to ends last n are.1 (omega (arith, within))

-- no end is before the place that the ends rise from
pub ends-past : (from : ℕ) (ends : List ℕ) (last : ℕ) → AreEnds from ends last → All (λ end. from ≤ end) ends
ends-past from [] last are k d within = absurd (omega (arith, within))
ends-past from (to ∷ ends) last are zero d within = are.0
ends-past from (to ∷ ends) last are (suc k) d within = omega (arith, are.0, ends-past to ends last are.1 k d (omega (arith, within)))

-- the first ends give the first items
pub cut-take : (from : ℕ) (ends bytes : List ℕ) (n : ℕ) → cut from (take n ends) bytes ≡ take n (cut from ends bytes)
cut-take from ends bytes zero = refl
cut-take from [] bytes (suc n) = refl
cut-take from (to ∷ ends) bytes (suc n) = ap (λ xs. slice_range bytes from to ∷ xs) (cut-take to ends bytes n)

-- and the others the others
pub cut-drop : (from : ℕ) (ends bytes : List ℕ) (n : ℕ) → cut (get_or (from ∷ ends) n 0) (drop n ends) bytes ≡ drop n (cut from ends bytes)
cut-drop from ends bytes zero = refl
cut-drop from [] bytes (suc n) = refl
cut-drop from (to ∷ ends) bytes (suc n) = cut-drop to ends bytes n

-- ends that move down together
pub ends-down : (down from : ℕ) (ends : List ℕ) (last : ℕ) → AreEnds from ends last → AreEnds (from - down) (map (λ end. end - down) ends) (last - down)
ends-down down from [] last are = ap (λ n. n - down) are
ends-down down from (to ∷ ends) last are = (omega (arith, are.0), ends-down down to ends last are.1)

-- give the same items, if the bytes move with them
pub cut-down : (down from : ℕ) (ends bytes : List ℕ) (last : ℕ) → down ≤ from → AreEnds from ends last → cut (from - down) (map (λ end. end - down) ends) (drop down bytes) ≡ cut from ends bytes
cut-down down from [] bytes last below are = refl
cut-down down from (to ∷ ends) bytes last below are =
    let count : (to - down) - (from - down) ≡ to - from = omega (arith, below, are.0) in
    let place : down + (from - down) ≡ from = omega (arith, below) in
    ap₂ (λ x xs. x ∷ xs)
    (ap₂ (λ n xs. take n xs) count (drop-drop (from - down) down bytes ∙ ap (λ n. drop n bytes) place))
    (cut-down down to ends bytes last (omega (arith, below, are.0)) are.1)

-- there are ends for the first items
pub ends-count : (ends bytes : List ℕ) (items : List (List ℕ)) (n : ℕ) → cut 0 ends bytes ≡ items → n ≤ length items → n ≤ length ends
ends-count ends bytes items n is within = omega (arith, within, ap length is, length-cut 0 ends bytes)

-- where these end is within the bytes
pub first-end : (ends bytes : List ℕ) (items : List (List ℕ)) (n end : ℕ) → AreEnds 0 ends (length bytes) → cut 0 ends bytes ≡ items → n ≤ length items → end ≡ get_or (0 ∷ ends) n 0 → end ≤ length bytes
first-end ends bytes items n end are is within at =
    let there : n ≤ length ends = ends-count ends bytes items n is within in
    omega (arith, at, ends-order (get_or (0 ∷ ends) n 0) (drop n ends) (length bytes) (ends-drop 0 ends (length bytes) n are there))

-- the first items, and the bytes up to their end
pub items-take : (ends bytes : List ℕ) (items : List (List ℕ)) (n end : ℕ) → AreEnds 0 ends (length bytes) → cut 0 ends bytes ≡ items → n ≤ length items → end ≡ get_or (0 ∷ ends) n 0
    → AreEnds 0 (take n ends) (length (take end bytes)) × (cut 0 (take n ends) (take end bytes) ≡ take n items)
items-take ends bytes items n end are is within at =
    let there : n ≤ length ends = ends-count ends bytes items n is within in
    let inside : end ≤ length bytes = first-end ends bytes items n end are is within at in
    let count : get_or (0 ∷ ends) n 0 ≡ length (take end bytes) = omega (arith, at, inside, length-take end bytes) in
    let first : AreEnds 0 (take n ends) (length (take end bytes)) = subst (λ k. AreEnds 0 (take n ends) k) count (ends-take 0 ends (length bytes) n are there) in (
      first,
      sym (cut-longer 0 (take n ends) (take end bytes) (drop end bytes) (length (take end bytes)) first (omega arith)) ∙ ap (λ b. cut 0 (take n ends) b) (take-append-drop end bytes)
          ∙ cut-take 0 ends bytes n ∙ ap (λ xs. take n xs) is,
    )

-- the items after the first ones, with the bytes from their end on
pub items-drop : (ends bytes : List ℕ) (items : List (List ℕ)) (n gone : ℕ) → AreEnds 0 ends (length bytes) → cut 0 ends bytes ≡ items → n ≤ length items → gone ≡ get_or (0 ∷ ends) n 0
    → AreEnds 0 (map (λ end. end - gone) (drop n ends)) (length (drop gone bytes)) × (cut 0 (map (λ end. end - gone) (drop n ends)) (drop gone bytes) ≡ drop n items)
items-drop ends bytes items n gone are is within at =
    let there : n ≤ length ends = ends-count ends bytes items n is within in
    let later : AreEnds gone (drop n ends) (length bytes) = subst (λ k. AreEnds k (drop n ends) (length bytes)) (sym at) (ends-drop 0 ends (length bytes) n are there) in
    let none : gone - gone ≡ 0 = omega arith in (
      subst (λ k. AreEnds k (map (λ end. end - gone) (drop n ends)) (length (drop gone bytes))) none
          (subst (λ k. AreEnds (gone - gone) (map (λ end. end - gone) (drop n ends)) k) (sym (length-drop gone bytes)) (ends-down gone gone (drop n ends) (length bytes) later)),
      ap (λ k. cut k (map (λ end. end - gone) (drop n ends)) (drop gone bytes)) (sym none) ∙ cut-down gone gone (drop n ends) bytes (length bytes) (omega arith) later
          ∙ ap (λ k. cut k (drop n ends) bytes) at ∙ cut-drop 0 ends bytes n ∙ ap (λ xs. drop n xs) is,
    )

-- the items after the first ones end where these end, or later
pub ends-behind : (ends bytes : List ℕ) (items : List (List ℕ)) (n gone : ℕ) → AreEnds 0 ends (length bytes) → cut 0 ends bytes ≡ items → n ≤ length items → gone ≡ get_or (0 ∷ ends) n 0 → All (λ end. gone ≤ end) (drop n ends)
ends-behind ends bytes items n gone are is within at =
    let there : n ≤ length ends = ends-count ends bytes items n is within in
    ends-past gone (drop n ends) (length bytes) (subst (λ k. AreEnds k (drop n ends) (length bytes)) (sym at) (ends-drop 0 ends (length bytes) n are there))

-- lists with the same rest have the same next element
pub next-of-rest : (xs ys : List ℕ) (i : ℕ) → drop i xs ≡ drop i ys → get_or xs i 0 ≡ get_or ys i 0
next-of-rest xs ys i same =
    let at : i + 0 ≡ i = omega arith in
    ap (λ k. get_or xs k 0) (sym at) ∙ sym (get_or-drop i xs 0 0) ∙ ap (λ l. get_or l 0 0) same ∙ get_or-drop i ys 0 0 ∙ ap (λ k. get_or ys k 0) at
