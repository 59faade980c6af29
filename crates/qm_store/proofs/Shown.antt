-- What a log shows: the digests of nodes, and items in a row.
use Rattle.std.proofs.Common.{◌≡◌, ℕ, zero, suc, ◌+◌, ◌-◌, ◌<◌, ◌≤◌, List, [], ◌∷◌, ◌++◌, length, map, take, drop, arith, ap, ap₂, sym, ◌∙◌, refl, subst, Option, Some, None, IfSome, ⊎_elim, All, Contains, get_or}
use Rattle.std.specs.Prelude.{slice_get, is_none, cond}
use Rattle.std.proofs.lemmas.List.{map-append, take-take, drop-take, drop-drop}
use Rattle.qm_base.specs.declared.error.Error.{Error}
use Rattle.qm_base.specs.declared.error.Error.TheVariants as errors
use Rattle.qm_model.specs.Operations.{Bytes}
use Rattle.qm_model.specs.Trees.{Shape, Node, digest_of}
use Rattle.qm_model.specs.Families.{Births, IsFamily, HasPeaks}
use Rattle.qm_merkle.specs.Mems.{Kept, IsWhole, Stands}
use Rattle.qm_merkle.specs.Batches.{Batch, all_layers, IsHistory, AreThere}
use Rattle.qm_proofs.specs.Proofs.{first_lacked, over_at, Tells}
use Rattle.qm_merkle.proofs.Putting.{history-count}
use Rattle.qm_merkle.proofs.Histories.{seen}
use Rattle.qm_merkle.proofs.Pruning.{slice_get-drop}
use Rattle.qm_proofs.proofs.Telling.{layers_tell}
use Rattle.qm_proofs.proofs.Keeping.{read_there}
use Rattle.qm_store.specs.Log.{IsLacked}

-- digests that are told of nodes are the list's
pub told_row : {D : Type 0} (shape : Shape) (bytes : D → Bytes) (hash : Bytes → Bytes) (at : ℕ → Option D) (list : List Bytes) → Tells shape bytes hash at list → (xs : List Node) (ds : List D) →
    map Some ds ≡ map at (map shape.position xs) → All (λ x. shape.birth x ≤ length list) xs → map bytes ds ≡ map (digest_of hash shape list) xs
told_row shape bytes hash at list tells [] [] same born = refl
told_row shape bytes hash at list tells [] (d ∷ ds) same born = cc
told_row shape bytes hash at list tells (x ∷ xs) [] same born = cc
told_row shape bytes hash at list tells (x ∷ xs) (d ∷ ds) same born =
    let head : Some d ≡ at (shape.position x) = cc in
    let tail : map Some ds ≡ map at (map shape.position xs) = cc in
    let is : bytes d ≡ digest_of hash shape list x = subst (λ o. IfSome o (λ d. bytes d ≡ digest_of hash shape list x)) (sym head) (tells x (born 0 x (omega arith))) in
    ap₂ (λ y ys. y ∷ ys) is (told_row shape bytes hash at list tells xs ds tail (λ k e lt. born (suc k) e (omega arith)))

-- if no digest is lacked, only memory is
pub only_memory : {D : Type 0} (at : ℕ → Option D) (positions : List ℕ) (error : Error) → first_lacked at positions ≡ None → IsLacked at positions error → error ≡ errors.Memory
only_memory at positions error none = ⊎_elim (λ (memory : error ≡ errors.Memory). memory)
    (λ (lack : (p : ℕ) × (first_lacked at positions ≡ Some p) × (error ≡ _)). absurd (apart (first_lacked at positions) lack.0 none lack.1))
  where
    apart : (o : Option ℕ) (p : ℕ) → o ≡ None → o ≡ Some p → ⊥
    apart None p e1 e2 = cc
    apart (Some q) p e1 e2 = cc

-- the first position without a digest, after those that were read
pub lacked_at : {D : Type 0} (at : ℕ → Option D) (ps : List ℕ) (ds : List D) (k p : ℕ) → map Some ds ≡ map at (take k ps) → k < length ps → p ≡ get_or ps k p → at p ≡ None → first_lacked at ps ≡ Some p
lacked_at at [] ds k p same lt is none = absurd (omega arith)
lacked_at at (q ∷ ps) ds zero p same lt is none =
    ap (λ o. cond (is_none o) (Some q) (first_lacked at ps)) (ap at (sym is) ∙ none) ∙ ap Some (sym is)
lacked_at at (q ∷ ps) [] (suc k) p same lt is none = cc
lacked_at at (q ∷ ps) (d ∷ ds) (suc k) p same lt is none =
    let head : Some d ≡ at q = cc in
    let tail : map Some ds ≡ map at (take k ps) = cc in
    ap (λ o. cond (is_none o) (Some q) (first_lacked at ps)) (sym head) ∙ lacked_at at ps ds k p tail (omega arith) is none

-- a batch over a tree that stands for one of its lists
module _ (shape : Shape) (births : Births) (family : IsFamily shape births) (peaked : HasPeaks shape) {D : Type 0} (bytes : D → Bytes) (hash : Bytes → Bytes) (tree : Kept D) (batch : Batch D)
    (list new : List Bytes) (lists : List (List Bytes)) (stands : Stands shape bytes hash tree list) (history : IsHistory shape bytes hash (all_layers batch) (new ∷ lists)) (found : Contains (new ∷ lists) list) where
  pub over_count : batch.newest.tree.leaves ≡ length new
  over_count = history-count shape births family peaked bytes hash batch.newest batch.older new lists history

  -- what they have is told of the newest list
  pub over_tells : Tells shape bytes hash (over_at shape batch tree) new
  over_tells = layers_tell shape births family peaked bytes hash tree (all_layers batch) list new lists history found stands

  -- and each node of it is there, if the node over it was not there at the kept start
  pub over_there : IsWhole shape tree → AreThere shape (all_layers batch) tree batch.newest.tree.leaves
  over_there whole =
      subst (AreThere shape (all_layers batch) tree) (sym over_count)
      (read_there shape births family peaked tree bytes hash (all_layers batch) new (seen shape births family bytes hash peaked tree (all_layers batch) list new lists whole history found stands))

-- a part of what a store has is that part of the list
pub part_read : (xs list : List Bytes) (s start m : ℕ) → s ≤ start → start + m ≤ length list → take (length list - s) xs ≡ drop s list → take m (drop (start - s) xs) ≡ take m (drop start list)
part_read xs list s start m from within same =
    let k = start - s in
    let place : s + k ≡ start = omega arith in
    sym (drop-take k m xs) ∙ ap (drop k) (sym (take-take (k + m) (length list - s) xs (omega arith)))
    ∙ drop-take k m (take (length list - s) xs) ∙ ap (λ l. take m (drop k l)) same ∙ ap (take m) (drop-drop k s list ∙ ap (λ j. drop j list) place)

slice_get-take : (n k : ℕ) (xs : List Bytes) → k < n → slice_get (take n xs) k ≡ slice_get xs k
slice_get-take zero k xs lt = absurd (omega arith)
slice_get-take (suc n) k [] lt = refl
slice_get-take (suc n) zero (x ∷ xs) lt = refl
slice_get-take (suc n) (suc k) (x ∷ xs) lt = slice_get-take n k xs (omega arith)

-- an item of what a store has is that of the list
pub item_read : (xs list : List Bytes) (s at : ℕ) (item : Bytes) → s ≤ at → at < length list → take (length list - s) xs ≡ drop s list → slice_get xs (at - s) ≡ Some item → slice_get list at ≡ Some item
item_read xs list s at item from within same is =
    let place : s + (at - s) ≡ at = omega arith in
    ap (slice_get list) (sym place) ∙ sym (slice_get-drop s list (at - s)) ∙ ap (λ l. slice_get l (at - s)) (sym same)
    ∙ slice_get-take (length list - s) (at - s) xs (omega (arith, from, within)) ∙ is

-- the next item that is read
pub item-next : {V : Type 0} (value : V → Bytes) (from start at : ℕ) (made : List V) (v : V) (items : List Bytes) → from ≤ start → start ≤ at →
    map value made ≡ take (at - start) (drop (start - from) items) → slice_get items (at - from) ≡ Some (value v) → map value (made ++ v ∷ []) ≡ take (at + 1 - start) (drop (start - from) items)
item-next value from start at made v items low le so_far is =
    let next : suc (at - start) ≡ at + 1 - start = omega arith in
    let place : (start - from) + (at - start) ≡ at - from = omega arith in
    map-append value made (v ∷ []) ∙ ap (λ l. l ++ value v ∷ []) so_far
    ∙ sym (take_next (at - start) (drop (start - from) items) (value v) (slice_get-drop (start - from) items (at - start) ∙ ap (slice_get items) place ∙ is))
    ∙ ap (λ j. take j (drop (start - from) items)) next
  where
    take_next : (k : ℕ) (xs : List Bytes) (x : Bytes) → slice_get xs k ≡ Some x → take (suc k) xs ≡ take k xs ++ x ∷ []
    take_next k [] x is = cc
    take_next zero (y ∷ xs) x is = let same : y ≡ x = cc in ap (λ z. z ∷ []) same
    take_next (suc k) (y ∷ xs) x is = ap (λ l. y ∷ l) (take_next k xs x is)
