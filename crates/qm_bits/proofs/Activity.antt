-- What the activity bits of a list say to a walk over it.
use Rattle.std.proofs.Common.{◌≡◌, ℕ, ◌+◌, ◌<◌, ◌≤◌, Bool, true, false, List, ◌∷◌, ◌++◌, take, replicate, arith, ap, ap₂, sym, ◌∙◌, refl, Some}
use Rattle.std.specs.Prelude.{◌==◌, ◌||◌, slice_get}
use Rattle.std.specs.List.{list_any}
use Rattle.std.proofs.lemmas.Bool.{eq-eqb}
use Rattle.std.proofs.lemmas.List.{length-take, length-replicate, get_or-take, get_or-replicate, take-append-drop, ext_get_or}
use Rattle.std.proofs.lemmas.List.Folds.{list_any-append}
use Rattle.std.proofs.lemmas.Option.{get_or_from_slice_get}
use Rattle.qm_model.specs.Operations.{Operation}
use Rattle.qm_model.specs.Live.{floor, active}
use Rattle.qm_model.specs.Step.{IsGood}
use Rattle.qm_model.specs.Bits.{bits}
use Rattle.qm_model.proofs.BitLemmas.{length-bits, below_clear}
use Rattle.qm_model.proofs.GraftedLemmas.{bit_is_active}
use Rattle.qm_bits.specs.Bitmaps.{Bitmap, start, all_bits, IsActivity}
use Rattle.qm_bits.specs.Candidates.{is_candidate, candidates}
use Rattle.qm_bits.proofs.Finding.{candidates_split, candidates_one}

-- pruning forgets no bit of a good list, since the bits below its floor are clear
pub activity_is : (size : ℕ) (map : Bitmap) (ops : List Operation) → IsGood ops → IsActivity size map ops → all_bits size map ≡ bits ops
activity_is size map ops good is =
    let low = is.below in
    let long = length-bits ops in
    let inside = good.floor_within in
    let front = length-take (start size map) (bits ops) in
    let zeros = length-replicate {A = Bool} (start size map) false in
    let same : replicate (start size map) false ≡ take (start size map) (bits ops) =
    ext_get_or false (replicate (start size map) false) (take (start size map) (bits ops)) (omega arith) (λ i lt.
    get_or-replicate (start size map) i false false (omega arith) ∙ sym (get_or-take (start size map) (bits ops) i false (omega arith) ∙ below_clear ops good i (omega arith))) in
    ap₂ (λ xs ys. xs ++ ys) same is.bits_are ∙ take-append-drop (start size map) (bits ops)

-- a location of a list is a candidate exactly if it is active
pub active_is_candidate : (ops : List Operation) (i : ℕ) (op : Operation) → slice_get ops i ≡ Some op → is_candidate (bits ops) i ≡ list_any (λ k. k == i) (active ops)
active_is_candidate ops i op at = get_or_from_slice_get (bits ops) i (list_any (λ k. k == i) (active ops)) true (bit_is_active ops i op at)

-- no candidate is missed
pub candidates_have : (bits : List Bool) (floor tip i : ℕ) → floor ≤ i → i < tip → is_candidate bits i ≡ true → list_any (λ k. k == i) (candidates bits floor tip) ≡ true
candidates_have bits floor tip i from to is =
    ap (list_any (λ k. k == i)) (candidates_split bits floor i tip from (omega arith) ∙ ap (λ xs. candidates bits floor i ++ xs) (candidates_split bits i (i + 1) tip (omega arith) (omega arith) ∙ ap (λ xs. xs ++ candidates bits (i + 1) tip) (candidates_one bits i is)))
    ∙ list_any-append (λ k. k == i) (candidates bits floor i) (i ∷ candidates bits (i + 1) tip)
    ∙ ap (λ t. list_any (λ k. k == i) (candidates bits floor i) || (t || list_any (λ k. k == i) (candidates bits (i + 1) tip))) (eq-eqb i i refl)
    ∙ or_true (list_any (λ k. k == i) (candidates bits floor i))
  where
    or_true : (t : Bool) → (t || true) ≡ true
    or_true true = refl
    or_true false = refl
