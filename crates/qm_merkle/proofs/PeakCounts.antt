-- Digests that were found at positions, one by one.
use Rattle.std.proofs.Common.{◌≡◌, ◌∙◌, ◌<◌, ◌+◌, ℕ, List, [], ◌∷◌, ◌++◌, Option, Some, ap, ap₂, sym, length, map, take, get_or}
use Rattle.std.proofs.lemmas.List.{length-append, length-map, map-append, map_more}
use Rattle.qm_model.specs.Trees.{Shape, peaks, peak_positions}

-- those of peaks are as many as these
pub counted : {D : Type 0} (shape : Shape) (found : ℕ → Option D) (ds : List D) (positions : List ℕ) (n : ℕ) → map Some ds ≡ map found positions → positions ≡ peak_positions shape n → length ds ≡ length (peaks shape n)
counted shape found ds positions n same is =
    sym (length-map ds Some) ∙ ap length same ∙ length-map positions found ∙ ap length is ∙ length-map (peaks shape n) shape.position

-- one more is found
pub one_found : {D : Type 0} (found : ℕ → Option D) (ds next : List D) (d : D) (positions : List ℕ) (i p : ℕ) → i < length positions → p ≡ get_or positions i p → map Some ds ≡ map found (take i positions) → found p ≡ Some d → next ≡ ds ++ d ∷ [] →
    map Some next ≡ map found (take (i + 1) positions)
one_found found ds next d positions i p lt is before at more =
    ap (map Some) more ∙ map-append Some ds (d ∷ []) ∙ ap₂ (λ xs o. xs ++ o ∷ []) before (sym at ∙ ap found is) ∙ sym (map_more found positions i p lt)

-- and there is one more of them
pub one_longer : {D : Type 0} (ds next : List D) (d : D) (i : ℕ) → next ≡ ds ++ d ∷ [] → length ds ≡ i → length next ≡ i + 1
one_longer ds next d i more count = ap length more ∙ length-append ds (d ∷ []) ∙ ap (λ n. n + 1) count
