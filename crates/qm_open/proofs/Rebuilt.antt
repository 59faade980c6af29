-- Bits from a floor on with clear ones below it.
use Rattle.std.proofs.Common.{◌≡◌, ◌∙◌, ◌+◌, ◌-◌, ◌*◌, ◌<◌, ◌≤◌, ℕ, zero, suc, Bool, false, List, [], ◌∷◌, ◌++◌, length, take, drop, replicate, refl, ap, ap₂, sym, arith, append_assoc, append-nil, length-append}
use Rattle.std.specs.Prelude.{slice_index_or}
use Rattle.std.proofs.lemmas.List.{length-replicate, replicate-append-replicate, take_more}
use Rattle.qm_model.specs.Operations.{Operation}
use Rattle.qm_model.specs.Live as lives
use Rattle.qm_model.specs.Step.{IsGood}
use Rattle.qm_model.specs.Bits.{bits}
use Rattle.qm_model.proofs.BitLemmas.{below_clear, length-bits}
use Rattle.qm_bits.specs.Bitmaps.{Bitmap, all_bits, bit_count}

pub clear-below : (size chunks floor : ℕ) (map : Bitmap) → map ≡ record { pruned = chunks; kept = replicate (floor - (chunks * (8 * size) + 0)) false } → chunks * (8 * size) ≤ floor
    → (all_bits size map ≡ replicate floor false ++ []) × (bit_count size map ≡ floor + 0)
clear-below size chunks floor map is low =
    let rest = floor - (chunks * (8 * size) + 0) in
    let whole : chunks * (8 * size) + rest ≡ floor = omega (arith, low) in
    let long = length-replicate rest false in (
      ap (all_bits size) is ∙ replicate-append-replicate (chunks * (8 * size)) rest false ∙ ap (λ n. replicate n false) whole ∙ sym (append-nil (replicate floor false)),
      ap (bit_count size) is ∙ ap (λ n. chunks * (8 * size) + n) long ∙ omega (arith, whole),
    )

pub one-more : (size : ℕ) (old new : Bitmap) (front : List Bool) (bits : List Bool) (at count : ℕ) → new ≡ record { pruned = old.pruned; kept = old.kept ++ slice_index_or bits at false ∷ [] } → at < length bits
    → all_bits size old ≡ front ++ take at bits → bit_count size old ≡ count + at
    → (all_bits size new ≡ front ++ take (at + 1) bits) × (bit_count size new ≡ count + (at + 1))
one-more size old new front bits at count is within before counted =
    let bit = slice_index_or bits at false in
    let long = length-append old.kept (bit ∷ []) in (
      ap (all_bits size) is ∙ sym (append_assoc (replicate (old.pruned * (8 * size)) false) old.kept (bit ∷ [])) ∙ ap (λ bs. bs ++ bit ∷ []) before ∙ append_assoc front (take at bits) (bit ∷ []) ∙ ap (λ bs. front ++ bs) (sym (take_more bits at false within)),
      ap (bit_count size) is ∙ omega (arith, long, counted),
    )

-- bits of which the first are clear
clear-front : (bs : List Bool) (n : ℕ) → n ≤ length bs → ((i : ℕ) → i < n → slice_index_or bs i false ≡ false) → replicate n false ++ drop n bs ≡ bs
clear-front bs zero within clear = refl
clear-front [] (suc n) within clear = absurd (omega (arith, within))
clear-front (b ∷ bs) (suc n) within clear = ap₂ (λ c cs. c ∷ cs) (sym (clear zero (omega arith))) (clear-front bs n (omega (arith, within)) (λ i less. clear (suc i) (omega (arith, less))))

-- a list's bits from its floor on, behind clear ones
pub from-floor : (ops : List Operation) (floor : ℕ) → IsGood ops → floor ≡ lives.floor ops → replicate floor false ++ drop floor (bits ops) ≡ bits ops
from-floor ops floor good is =
    let within = good.floor_within in
    clear-front (bits ops) floor (let long = length-bits ops in omega (arith, is, within, long)) (λ i less. below_clear ops good i (omega (arith, is, less)))
