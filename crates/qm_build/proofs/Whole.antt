-- A whole list, from what was built of it from its floor on.
use Rattle.std.proofs.Common.{◌≡◌, ℕ, zero, suc, ◌+◌, ◌-◌, ◌<◌, ◌≤◌, Bool, true, false, cond, List, [], ◌∷◌, ◌++◌, length, take, drop, map, set, refl, ap, sym, ◌∙◌, subst, Some, None, arith}
use Rattle.std.specs.Prelude.{◌==◌, filter, is_some, if◌then◌else◌, IsPermutation}
use Rattle.std.specs.List.{cons_option, AllByRecursion as Each}
use Rattle.std.proofs.lemmas.List.{length-take, length-drop, length-map, take-append-drop, take_all}
use Rattle.std.proofs.lemmas.List.Elements.{recursion_from_All}
use Rattle.std.proofs.lemmas.List.Sorted.{IsPermutation-refl}
use Rattle.qm_model.specs.Operations.{Bytes, Operation}
use Rattle.qm_model.specs.Live.{Live, live, live_at, live_from, touched}
use Rattle.qm_model.specs.Operations.{update, delete, commit}
use Rattle.qm_model.specs.Bits.{bits}
use Rattle.qm_index.specs.Buckets.{bucket_at}
use Rattle.qm_build.specs.Building.{between, live_bits, ArePlaced}
use Rattle.qm_build.specs.Built.{NoneBelow, IsBuilt, IsRebuilt}
use Rattle.qm_build.proofs.Pushing.{pairs}

-- nothing is live before the rest of a list: then all that is live is in the rest
live-behind : (first : ℕ) (front rest : List Operation) → Each (λ e. first + length front ≤ e.location) (live_from first (front ++ rest)) → live_from first (front ++ rest) ≡ live_from (first + length front) rest
live-behind first [] rest none = let same : first ≡ first + 0 = omega arith in ap (λ i. live_from i rest) same
live-behind first (op ∷ front) rest none =
    let next : first + suc (length front) ≡ suc first + length front = omega arith in
    let all : Each (λ e. suc first + length front ≤ e.location) (live_from first (op ∷ front ++ rest)) = subst (λ n. Each (λ e. n ≤ e.location) (live_from first (op ∷ front ++ rest))) next none in
    passed op all (live-behind (suc first) front rest) ∙ ap (λ i. live_from i rest) (sym next)
  where
    passed : (op : Operation) → Each (λ e. suc first + length front ≤ e.location) (live_from first (op ∷ front ++ rest))
        → (Each (λ e. suc first + length front ≤ e.location) (live_from (suc first) (front ++ rest)) → live_from (suc first) (front ++ rest) ≡ live_from (suc first + length front) rest)
        → live_from first (op ∷ front ++ rest) ≡ live_from (suc first + length front) rest
    passed (update k v n) all later = by (touched k (front ++ rest)) all
      where
        by : (t : Bool) → Each (λ e. suc first + length front ≤ e.location) (cons_option (if t then None else Some (record { location = first; key = k; value = v; next = n })) (live_from (suc first) (front ++ rest)))
            → cons_option (if t then None else Some (record { location = first; key = k; value = v; next = n })) (live_from (suc first) (front ++ rest)) ≡ live_from (suc first + length front) rest
        by true all = later all
        by false all = let low = all.0 in absurd (omega (arith, low))
    passed (delete k) all later = later all
    passed (commit m f) all later = later all

pub live-from_floor : (floor : ℕ) (ops : List Operation) → floor ≤ length ops → NoneBelow floor ops → live ops ≡ live_from floor (drop floor ops)
live-from_floor floor ops within none =
    let parts = take-append-drop floor ops in
    let cut = length-take floor ops in
    let front : 0 + length (take floor ops) ≡ floor = omega arith in
    let each = recursion_from_All (λ (e : Live). floor ≤ e.location) (live ops) none in
    let all : Each (λ e. 0 + length (take floor ops) ≤ e.location) (live_from 0 (take floor ops ++ drop floor ops)) = subst (λ list. Each (λ e. 0 + length (take floor ops) ≤ e.location) (live_from 0 list)) (sym parts) (subst (λ n. Each (λ e. n ≤ e.location) (live ops)) (sym front) each) in
    ap live (sym parts) ∙ live-behind 0 (take floor ops) (drop floor ops) all ∙ ap (λ n. live_from n (drop floor ops)) front

-- Bits.

bits-drop : (n : ℕ) (ops : List Operation) → bits (drop n ops) ≡ drop n (bits ops)
bits-drop zero ops = refl
bits-drop (suc n) [] = refl
bits-drop (suc n) (op ∷ ops) = bits-drop n ops

-- with that of the last operation they are the list's
bits-last : (ops : List Operation) → 0 < length ops → set (live_bits ops) (length ops - 1) true ≡ bits ops
bits-last [] some = absurd (omega (arith, some))
bits-last (op ∷ []) some = refl
bits-last (op ∷ next ∷ rest) some =
    let there : length (op ∷ next ∷ rest) - 1 ≡ suc (length (next ∷ rest) - 1) = omega arith in
    ap (λ i. set (live_bits (op ∷ next ∷ rest)) i true) there ∙ ap (λ bs. is_some (live_at 0 op (next ∷ rest)) ∷ bs) (bits-last (next ∷ rest) (omega arith))

-- The locations of an index key.

pairs-locations : (index_key : Bytes → ℕ) (k : ℕ) (es : List Live) → map (λ p. p.1) (filter (λ p. index_key p.0 == k) (pairs es)) ≡ map (λ e. e.location) (filter (λ e. index_key e.key == k) es)
pairs-locations index_key k [] = refl
pairs-locations index_key k (e ∷ es) = by (index_key e.key == k) (pairs-locations index_key k es)
  where
    by : (t : Bool) → map (λ (p : Bytes × ℕ). p.1) (filter (λ p. index_key p.0 == k) (pairs es)) ≡ map (λ (e : Live). e.location) (filter (λ e. index_key e.key == k) es)
        → map (λ (p : Bytes × ℕ). p.1) (cond t ((e.key, e.location) ∷ filter (λ p. index_key p.0 == k) (pairs es)) (filter (λ p. index_key p.0 == k) (pairs es)))
        ≡ map (λ (e : Live). e.location) (cond t (e ∷ filter (λ e. index_key e.key == k) es) (filter (λ e. index_key e.key == k) es))
    by true later = ap (λ ls. e.location ∷ ls) later
    by false later = later

-- nothing is placed of no operation
pub placed-none : (index_key : Bytes → ℕ) (entries : List (ℕ × List ℕ)) (floor : ℕ) (ops : List Operation) → entries ≡ [] → ArePlaced index_key entries 0 [] floor (between floor floor ops)
placed-none index_key entries floor ops empty =
    let zero_is : floor - floor ≡ 0 = omega arith in
    let none : [] ≡ between floor floor ops = ap (λ n. take n (drop floor ops)) (sym zero_is) in
    subst (ArePlaced index_key entries 0 [] floor) none
    (subst (λ es. ArePlaced index_key es 0 [] floor []) (sym empty) (record { indexed = λ k. IsPermutation-refl []; apart = tt; counted = refl; marked = refl }))

-- once the last operation is placed
pub built : (index_key : Bytes → ℕ) (entries : List (ℕ × List ℕ)) (live_keys : ℕ) (activity : List Bool) (floor size : ℕ) (ops : List Operation) → floor < size → size ≡ length ops → NoneBelow floor ops
    → ArePlaced index_key entries live_keys activity floor (between floor size ops) → IsBuilt index_key entries live_keys (set activity (size - floor - 1) true) floor ops
built index_key entries live_keys activity floor size ops low all none placed =
    let left = length-drop floor ops in
    let whole : between floor size ops ≡ drop floor ops = take_all (size - floor) (drop floor ops) (omega arith) in
    let are = subst (ArePlaced index_key entries live_keys activity floor) whole placed in
    let alive = live-from_floor floor ops (omega arith) none in
    let last : size - floor - 1 ≡ length (drop floor ops) - 1 = omega arith in
    record {
      indexed = λ k. subst (λ ls. IsPermutation ls (bucket_at entries k)) (pairs-locations index_key k (live_from floor (drop floor ops)) ∙ ap (λ es. map (λ (e : Live). e.location) (filter (λ e. index_key e.key == k) es)) (sym alive)) (are.indexed k);
      counted = are.counted ∙ length-map (live_from floor (drop floor ops)) (λ (e : Live). (e.key, e.location)) ∙ ap length (sym alive);
      active = ap (λ bs. set bs (size - floor - 1) true) are.marked ∙ ap (λ i. set (live_bits (drop floor ops)) i true) last ∙ bits-last (drop floor ops) (omega arith) ∙ bits-drop floor ops;
    }

-- the same of what stands from the floor on alone
pub rebuilt : (index_key : Bytes → ℕ) (entries : List (ℕ × List ℕ)) (live_keys : ℕ) (activity : List Bool) (floor size : ℕ) (ops : List Operation) → floor < size → size ≡ length ops
    → ArePlaced index_key entries live_keys activity floor (between floor size ops) → IsRebuilt index_key entries live_keys (set activity (size - floor - 1) true) floor (drop floor ops)
rebuilt index_key entries live_keys activity floor size ops low all placed =
    let left = length-drop floor ops in
    let whole : between floor size ops ≡ drop floor ops = take_all (size - floor) (drop floor ops) (omega arith) in
    let are = subst (ArePlaced index_key entries live_keys activity floor) whole placed in
    let last : size - floor - 1 ≡ length (drop floor ops) - 1 = omega arith in
    record {
      indexed = are.indexed;
      counted = are.counted;
      active = ap (λ bs. set bs (size - floor - 1) true) are.marked ∙ ap (λ i. set (live_bits (drop floor ops)) i true) last ∙ bits-last (drop floor ops) (omega arith);
    }
