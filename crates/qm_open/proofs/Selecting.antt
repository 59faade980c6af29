-- The last commit of items, looked for from the end.
use Rattle.std.proofs.Common.{◌≡◌, ◌∙◌, ◌≤◌, ◌+◌, ◌-◌, ℕ, zero, suc, List, [], ◌∷◌, ◌++◌, length, take, take_all, arith, ap, sym, Option, Some, None}
use Rattle.std.specs.Prelude.{min, option_map, option_and_then, slice_get}
use Rattle.std.specs.Option.{option_or}
use Rattle.std.proofs.lemmas.List.{length-map, length-take-le, take_min}
use Rattle.std.proofs.lemmas.Option.{slice_get-map, slice_get_within}
use Rattle.qm_model.specs.Operations.{Bytes, Operation}
use Rattle.qm_model.specs.Forms.{Form, decoded}
use Rattle.qm_model.specs.Refusals.{commit_floor}
use Rattle.qm_model.specs.Opening.{Selected, commit_at, last_commit}
use Rattle.qm_model.specs.StoreModel.{Stored, end_of}
use Rattle.qm_open.specs.Selecting.{kept_items, up_to}

take-next : {X : Type 0} (k : ℕ) (xs : List X) (x : X) → slice_get xs k ≡ Some x → take (suc k) xs ≡ take k xs ++ x ∷ []
take-next k [] x is = cc
take-next zero (y ∷ xs) x is = let same : y ≡ x = cc in ap (λ z. z ∷ []) same
take-next (suc k) (y ∷ xs) x is = ap (λ l. y ∷ l) (take-next k xs x is)

-- the last of items is a commit, or it is passed
last-end : (i : ℕ) (before : Option Selected) (items : List (Option Operation)) (x : Option Operation) → last_commit i before (items ++ x ∷ []) ≡ option_or (commit_at (i + length items) x) (last_commit i before items)
last-end i before [] x = ap (λ n. option_or (commit_at n x) before) (omega arith)
last-end i before (y ∷ items) x =
    last-end (suc i) (option_or (commit_at i y) before) items x ∙ ap (λ n. option_or (commit_at n x) (last_commit (suc i) (option_or (commit_at i y) before) items)) (omega arith)

-- the items up to a bound are so many of them
pub all-below : (form : Form) (s : Stored) (bound : Option ℕ) (start end top : ℕ) → s.start ≡ start → end_of s ≡ end → start ≤ end → top ≡ (elim bound as (λ b. ℕ) [ None ↦ end | Some b ↦ min b end ]) → up_to bound s (kept_items form s) ≡ take (top - s.start) (kept_items form s)
all-below form s None start end top first last order is = sym (take_all (top - s.start) (kept_items form s) (omega (arith, length-map s.items (decoded form), first, last, order, is)))
all-below form s (Some b) start end top first last order is =
    let long = length-map s.items (decoded form) in
    sym (take_min (b - s.start) (kept_items form s)) ∙ ap (λ n. take n (kept_items form s)) (omega (arith, long, first, last, order, is))

-- one item more
step : (form : Form) (s : Stored) (at : ℕ) (bs : Bytes) → s.start ≤ at → slice_get s.items (at - s.start) ≡ Some bs
    → last_commit s.start None (take (suc at - s.start) (kept_items form s)) ≡ option_or (commit_at at (decoded form bs)) (last_commit s.start None (take (at - s.start) (kept_items form s)))
step form s at bs low is =
    let items = kept_items form s in
    let there : slice_get items (at - s.start) ≡ Some (decoded form bs) = slice_get-map (decoded form) s.items (at - s.start) ∙ ap (option_map (decoded form)) is in
    let inside = slice_get_within items (at - s.start) (decoded form bs) there in
    let long = length-take-le (at - s.start) items (omega (arith, inside)) in
    let up : suc at - s.start ≡ suc (at - s.start) = omega (arith, low) in
    let place : s.start + length (take (at - s.start) items) ≡ at = omega (arith, long, low) in
    ap (λ n. last_commit s.start None (take n items)) up ∙ ap (last_commit s.start None) (take-next (at - s.start) items (decoded form bs) there)
    ∙ last-end s.start None (take (at - s.start) items) (decoded form bs) ∙ ap (λ n. option_or (commit_at n (decoded form bs)) (last_commit s.start None (take (at - s.start) items))) place

-- it is no commit
pub passed : (form : Form) (s : Stored) (at : ℕ) (bs : Bytes) → s.start ≤ at → slice_get s.items (at - s.start) ≡ Some bs → None ≡ option_and_then commit_floor (decoded form bs)
    → last_commit s.start None (take (suc at - s.start) (kept_items form s)) ≡ last_commit s.start None (take (at - s.start) (kept_items form s))
passed form s at bs low is none = step form s at bs low is ∙ ap (λ o. option_or (option_map (λ f. record { size = suc at; floor = f }) o) (last_commit s.start None (take (at - s.start) (kept_items form s)))) (sym none)

-- it is the last one
pub found : (form : Form) (s : Stored) (at : ℕ) (bs : Bytes) (floor : ℕ) → s.start ≤ at → slice_get s.items (at - s.start) ≡ Some bs → Some floor ≡ option_and_then commit_floor (decoded form bs)
    → last_commit s.start None (take (suc at - s.start) (kept_items form s)) ≡ Some (record { size = suc at; floor = floor })
found form s at bs floor low is some = step form s at bs low is ∙ ap (λ o. option_or (option_map (λ f. record { size = suc at; floor = f }) o) (last_commit s.start None (take (at - s.start) (kept_items form s)))) (sym some)

pub nothing-below : (form : Form) (s : Stored) → last_commit s.start None (take (s.start - s.start) (kept_items form s)) ≡ None
nothing-below form s = let none : s.start - s.start ≡ zero = omega arith in ap (λ n. last_commit s.start None (take n (kept_items form s))) none
