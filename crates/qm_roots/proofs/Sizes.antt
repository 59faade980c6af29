-- Sizes of the lists that steps lead through, the newest first.
use Rattle.std.proofs.Common.{◌≡◌, ◌∙◌, ◌<◌, ◌≤◌, ℕ, zero, suc, List, [], ◌∷◌, ◌++◌, length, take, map, get_or, arith, ap, refl, le_refl}
use Rattle.std.proofs.lemmas.List.{get_or-take, length-take-le, length-append, length-map}
use Rattle.qm_bits.specs.Bitmaps.{Bitmap, bit_count}
use Rattle.qm_overlay.specs.Layers.{Overlay}
use Rattle.qm_overlay.proofs.Laying.{count-laid, pruned-laid}
use Rattle.qm_roots.specs.Steps.{laid_over, AreOver}
use Rattle.qm_roots.specs.Kept.{AreFalling}

-- the sizes after steps, and of the list from which the oldest starts
abbrev pub sizes_over : List Overlay → ℕ → List ℕ
sizes_over overlays base = map (λ o. o.count) overlays ++ base ∷ []

pub length-sizes : (overlays : List Overlay) (base : ℕ) → length (sizes_over overlays base) ≡ suc (length overlays)
length-sizes overlays base =
    let both = length-append (map (λ o. o.count) overlays) (base ∷ []) in
    let long = length-map overlays (λ (o : Overlay). o.count) in
    omega (arith, both, long)

falling-tail : (n : ℕ) (sizes : List ℕ) → AreFalling (n ∷ sizes) → AreFalling sizes
falling-tail n sizes falling i j order within = falling (suc i) (suc j) (omega (arith, order)) (omega (arith, within))

pub pruned-over : (size : ℕ) (overlays : List Overlay) (bits : Bitmap) → (laid_over size overlays bits).pruned ≡ bits.pruned
pruned-over size [] bits = refl
pruned-over size (o ∷ os) bits = pruned-laid size o (laid_over size os bits) ∙ pruned-over size os bits

-- the newest steps, over a bitmap of the list that the oldest of them starts from
pub over-sizes : (size : ℕ) (overlays : List Overlay) (base : ℕ) (bits : Bitmap) (k : ℕ) → k ≤ length overlays → AreFalling (sizes_over overlays base) → bit_count size bits ≡ get_or (sizes_over overlays base) k 0
    → AreOver size (take k overlays) bits × (bit_count size (laid_over size (take k overlays) bits) ≡ get_or (sizes_over overlays base) 0 0)
over-sizes size overlays base bits zero within falling same = (tt, same)
over-sizes size [] base bits (suc k) within falling same = absurd (omega (arith, within))
over-sizes size (o ∷ os) base bits (suc k) within falling same =
    let rest = over-sizes size os base bits k (omega (arith, within)) (falling-tail o.count (sizes_over os base) falling) same in
    let less : get_or (sizes_over os base) 0 0 ≤ o.count = falling 0 1 (omega arith) (omega (arith, length-sizes os base)) in
    let first : bit_count size (laid_over size (take k os) bits) ≤ o.count = omega (arith, rest.1, less) in
    ((first, rest.0), count-laid size o (laid_over size (take k os) bits) (omega (arith, first)))

-- the sizes of a child, which keeps the newest steps
pub child-sizes : (overlays : List Overlay) (base k : ℕ) → k ≤ length overlays → sizes_over (take k overlays) (get_or (sizes_over overlays base) k 0) ≡ take (suc k) (sizes_over overlays base)
child-sizes [] base zero within = refl
child-sizes (o ∷ os) base zero within = refl
child-sizes [] base (suc k) within = absurd (omega (arith, within))
child-sizes (o ∷ os) base (suc k) within = ap (λ ns. o.count ∷ ns) (child-sizes os base k (omega (arith, within)))

pub child-falling : (n k : ℕ) (sizes : List ℕ) → k ≤ length sizes → AreFalling sizes → get_or sizes 0 0 ≤ n → AreFalling (n ∷ take k sizes)
child-falling n k sizes within falling least zero zero order low = le_refl n
child-falling n k sizes within falling least zero (suc j) order low =
    let long = length-take-le k sizes within in
    let less : j < k = omega (arith, low, long) in
    let at = get_or-take k sizes j 0 less in
    let down = falling 0 j (omega arith) (omega (arith, less, within)) in
    omega (arith, at, down, least)
child-falling n k sizes within falling least (suc i) zero order low = absurd (omega (arith, order))
child-falling n k sizes within falling least (suc i) (suc j) order low =
    let long = length-take-le k sizes within in
    let less : j < k = omega (arith, low, long) in
    let first = get_or-take k sizes i 0 (omega (arith, order, less)) in
    let second = get_or-take k sizes j 0 less in
    let down = falling i j (omega (arith, order)) (omega (arith, less, within)) in
    omega (arith, first, second, down)
