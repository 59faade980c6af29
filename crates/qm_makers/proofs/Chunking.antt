-- Chunks of locations in a row.
use Rattle.std.proofs.Common.{◌≡◌, ℕ, zero, suc, ◌+◌, ◌-◌, ◌*◌, ◌/◌, ◌^◌, ◌<◌, ◌≤◌, List, [], ◌∷◌, ◌++◌, map, arith, ap, ap₂, sym, ◌∙◌, refl, ⊎_elim}
use Rattle.std.proofs.lemmas.Bool.{cases_lt}
use Rattle.std.proofs.lemmas.Nat.{mod_below, div-add-mod', mul-le}
use Rattle.qm_model.specs.Operations.{Bytes, Operation}
use Rattle.qm_model.specs.Bits.{bits, chunk}
use Rattle.qm_model.specs.Grafted.{chunk_size, chunk_of}
use Rattle.qm_model.specs.RangeProofs.{touched_chunks, chunks_from, chunks_of}
use Rattle.qm_bits.specs.Bitmaps.{Bitmap, all_bits}

-- one chunk more
pub chunks_more : (chunks : ℕ → Bytes) (c k : ℕ) → chunks_from chunks c (suc k) ≡ chunks_from chunks c k ++ chunks (c + k) ∷ []
chunks_more chunks c zero = let same : c ≡ c + 0 = omega arith in ap (λ d. chunks d ∷ []) same
chunks_more chunks c (suc k) = let same : suc c + k ≡ c + suc k = omega arith in ap (λ cs. chunks c ∷ cs) (chunks_more chunks (suc c) k) ∙ ap (λ d. chunks c ∷ (chunks_from chunks (suc c) k ++ chunks d ∷ [])) same

-- chunks of the same bytes
pub chunks_same : (before behind : ℕ → Bytes) → ((c : ℕ) → before c ≡ behind c) → (c k : ℕ) → chunks_from before c k ≡ chunks_from behind c k
chunks_same before behind same c zero = refl
chunks_same before behind same c (suc k) = ap₂ (λ x xs. x ∷ xs) (same c) (chunks_same before behind same (suc c) k)

-- the chunks of bits are those of the list whose bits these are
pub chunk_is : (g size : ℕ) (map : Bitmap) (ops : List Operation) → 2 ^ g ≡ 8 * size → all_bits size map ≡ bits ops → (c : ℕ) → chunk size (all_bits size map) c ≡ chunk_of g ops c
chunk_is g size map ops span same c = let whole : size ≡ chunk_size g = omega (arith, span) in ap₂ (λ k l. chunk k l c) whole same

pub chunks_are : (g size : ℕ) (map : Bitmap) (ops : List Operation) → 2 ^ g ≡ 8 * size → all_bits size map ≡ bits ops → (a b : ℕ) → chunks_from (chunk size (all_bits size map)) (a / 2 ^ g) (touched_chunks g a b) ≡ chunks_of g ops a b
chunks_are g size map ops span same a b = chunks_same (chunk size (all_bits size map)) (chunk_of g ops) (chunk_is g size map ops span same) (a / 2 ^ g) (touched_chunks g a b)

-- the chunk of a location begins at it or before
pub chunk_begins : (w c b : ℕ) → 0 < w → c ≤ (b - 1) / w → 0 < b → c * w < b
chunk_begins w c b some low begun =
    let split = div-add-mod' (b - 1) w in
    let below = mul-le c w ((b - 1) / w) w low (omega arith) in
    omega (arith, split, below, begun)

-- and is none of those that end at or before a place before it
pub chunk_kept : (w p a : ℕ) → 0 < w → p * w ≤ a → p ≤ a / w
chunk_kept w p a some from = ⊎_elim (λ (past : a / w < p).
    let split = div-add-mod' a w in
    let rest = mod_below a w some in
    let wide = mul-le (suc (a / w)) w p w past (omega arith) in
    absurd (omega (arith, split, rest, wide, from)))
    (λ (ok : p ≤ a / w). ok) (cases_lt (a / w) p)

-- the chunks up to one more
pub chunks_next : (chunks : ℕ → Bytes) (first at : ℕ) → first ≤ at → chunks_from chunks first (at - first) ++ chunks at ∷ [] ≡ chunks_from chunks first (at + 1 - first)
chunks_next chunks first at from =
    let next : suc (at - first) ≡ at + 1 - first = omega (arith, from) in
    let here : first + (at - first) ≡ at = omega (arith, from) in
    sym (chunks_more chunks first (at - first) ∙ ap (λ c. chunks_from chunks first (at - first) ++ chunks c ∷ []) here) ∙ ap (chunks_from chunks first) next

-- the chunk of a later location is no earlier one
pub later_chunk : (w a b : ℕ) → 0 < w → a ≤ b → a / w ≤ b / w
later_chunk w a b some from = let split = div-add-mod' a w in chunk_kept w (a / w) b some (omega (arith, split, from))
