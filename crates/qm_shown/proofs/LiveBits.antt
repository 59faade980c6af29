-- The bits of live updates are set, and none of them is pruned.
use Rattle.std.proofs.Common.{◌≡◌, ◌∙◌, ◌<◌, ◌≤◌, ◌+◌, ◌*◌, ℕ, zero, suc, Bool, true, false, List, [], ◌∷◌, ◌++◌, length, get_or, None, Some, arith, ap, sym, refl, subst, ⊎_elim}
use Rattle.std.specs.Prelude.{slice_get, is_some, replicate, ◌||◌, if◌then◌else◌}
use Rattle.std.specs.List.{cons_option, AllByRecursion as Each}
use Rattle.std.proofs.lemmas.Bool.{cases_lt, true≢false}
use Rattle.std.proofs.lemmas.Option.{slice_get_within, get_or_from_slice_get}
use Rattle.qm_model.specs.Operations.{Bytes, Operation, update, delete, commit}
use Rattle.qm_model.specs.Live.{Live, touched, live_from, live, live_of}
use Rattle.qm_model.specs.Bits.{is_last, is_active, bits}
use Rattle.qm_model.proofs.BitLemmas.{length-bits}
use Rattle.qm_model.proofs.Proving.{true_or_false}
use Rattle.qm_model.proofs.KeySpeaking.{found_there}
use Rattle.qm_bits.specs.Bitmaps.{Bitmap, all_bits, start}

-- the bit of a live update's location is set
abbrev IsSet : ℕ → List Operation → Live → Type 0
IsSet first ops e = (i : ℕ) × (e.location ≡ first + i) × (slice_get (bits ops) i ≡ Some true)

each_weaker : (P R : Live → Type 0) → ((e : Live) → P e → R e) → (es : List Live) → Each P es → Each R es
each_weaker P R f [] all = tt
each_weaker P R f (e ∷ es) all = (f e all.0, each_weaker P R f es all.1)

later : (first : ℕ) (op : Operation) (ops : List Operation) → Each (IsSet (suc first) ops) (live_from (suc first) ops) → Each (IsSet first (op ∷ ops)) (live_from (suc first) ops)
later first op ops all = each_weaker (IsSet (suc first) ops) (IsSet first (op ∷ ops)) (λ e s. (suc s.0, (let next : suc first + s.0 ≡ first + suc s.0 = omega arith in s.1 ∙ next), s.2)) (live_from (suc first) ops) all

all_set : (first : ℕ) (ops : List Operation) → Each (IsSet first ops) (live_from first ops)
all_set first [] = tt
all_set first (update k v n ∷ ops) =
    let rest = later first (update k v n) ops (all_set (suc first) ops) in
    let e : Live = record { location = first; key = k; value = v; next = n } in
    let here : first ≡ first + 0 = omega arith in
    ⊎_elim
    (λ (yes : touched k ops ≡ true). subst (λ t. Each (IsSet first (update k v n ∷ ops)) (cons_option (if t then None else Some e) (live_from (suc first) ops))) (sym yes) rest)
    (λ (none : touched k ops ≡ false).
    let set : Some (is_active (update k v n) ops) ≡ Some true =
    ap (λ t. Some (is_last ops || is_some {T = Live} (if t then None else Some (record { location = 0; key = k; value = v; next = n })))) none ∙ ap Some (last (is_last ops)) in
    subst (λ t. Each (IsSet first (update k v n ∷ ops)) (cons_option (if t then None else Some e) (live_from (suc first) ops))) (sym none) ((0, here, set), rest))
    (true_or_false (touched k ops))
  where
    last : (t : Bool) → (t || true) ≡ true
    last true = refl
    last false = refl
all_set first (delete k ∷ ops) = later first (delete k) ops (all_set (suc first) ops)
all_set first (commit m f ∷ ops) = later first (commit m f) ops (all_set (suc first) ops)

pub live-set : (ops : List Operation) (key : Bytes) (e : Live) → live_of (live ops) key ≡ Some e → slice_get (bits ops) e.location ≡ Some true
live-set ops key e found =
    let s = found_there (IsSet 0 ops) (live ops) key e (all_set 0 ops) found in
    let at : e.location ≡ s.0 = s.1 ∙ omega arith in
    ap (slice_get (bits ops)) at ∙ s.2

front : (n i : ℕ) (kept : List Bool) → i < n → get_or (replicate n false ++ kept) i false ≡ false
front zero i kept lt = absurd (omega (arith, lt))
front (suc n) zero kept lt = refl
front (suc n) (suc i) kept lt = front n i kept (omega (arith, lt))

-- a bit that is set is one that is kept, and within the list
pub set-kept : (size : ℕ) (map : Bitmap) (ops : List Operation) (i : ℕ) → all_bits size map ≡ bits ops → slice_get (bits ops) i ≡ Some true → map.pruned * (8 * size) ≤ i
set-kept size map ops i same set = ⊎_elim
    (λ (gone : i < start size map).
    absurd (true≢false (sym (get_or_from_slice_get (bits ops) i true false set) ∙ ap (λ bs. get_or bs i false) (sym same) ∙ front (start size map) i map.kept gone)))
    (λ (ok : start size map ≤ i). ok)
    (cases_lt i (start size map))

pub set-within : (ops : List Operation) (i : ℕ) → slice_get (bits ops) i ≡ Some true → i < length ops
set-within ops i set = omega (arith, slice_get_within (bits ops) i true set, length-bits ops)
