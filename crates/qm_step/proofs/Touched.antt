-- Operations with where their keys stand.
use Rattle.std.proofs.Common.{◌≡◌, true, List, [], ◌∷◌, map, refl, ap, ap₂, ◌∙◌, Option, None, Some}
use Rattle.std.specs.Prelude.{option_and_then, All}
use Rattle.std.specs.List.{AllByRecursion as Each}
use Rattle.std.proofs.lemmas.List.Elements.{recursion_from_All}
use Rattle.qm_operations.specs.Parts.{key_of}
use Rattle.qm_model.specs.Operations.{Bytes, Operation, update, delete, commit}
use Rattle.qm_model.specs.Live.{touches}
use Rattle.qm_model.specs.Writes.{operation_of}
use Rattle.qm_model.proofs.Maps.{same_key}
use Rattle.qm_step.specs.Changes.{place_in}
use Rattle.qm_step.specs.Going.{Decided, write_for, touch_for, IsDecided}
use Rattle.qm_step.specs.Rings.{touch_in}
use Rattle.qm_step.specs.Touches.{IsFrom, operations_of}

-- an operation touches its key alone
pub own-key : (op : Operation) (key : Bytes) → touches key op ≡ true → key_of op ≡ Some key
own-key (update k v n) key h = ap (λ k. Some k) (same_key k key h)
own-key (delete k) key h = ap (λ k. Some k) (same_key k key h)
own-key (commit m f) key h = cc

-- operations, each with where its key stands, are of a step from there
pub touched-from : (base : List Operation) (ops : List Operation) → Each (IsFrom base) (map (touch_in base) ops)
touched-from base [] = tt
touched-from base (op ∷ ops) = (λ key hit. ap (option_and_then (place_in base)) (own-key op key hit), touched-from base ops)

pub touched-operations : (base ops : List Operation) → operations_of (map (touch_in base) ops) ≡ ops
touched-operations base [] = refl
touched-operations base (op ∷ ops) = ap (λ xs. op ∷ xs) (touched-operations base ops)

-- the operation of a decision in an unordered database, with where its key stands
decided-touch : (base list : List Operation) (d : Decided) → IsDecided base list d → touch_for d ≡ touch_in base (operation_of (write_for d))
decided-touch base list d is = ap (λ b. record { operation = operation_of (write_for d); before = b }) (is.before ∙ by d.value)
  where
    by : (value : Option Bytes) → place_in base d.key ≡ option_and_then (place_in base) (key_of (operation_of (record { key = d.key; value = value })))
    by None = refl
    by (Some v) = refl

pub decided-touches : (base list : List Operation) (ds : List Decided) → All (IsDecided base list) ds → map touch_for ds ≡ map (touch_in base) (map operation_of (map write_for ds))
decided-touches base list ds are = by ds (recursion_from_All (IsDecided base list) ds are)
  where
    by : (us : List Decided) → Each (IsDecided base list) us → map touch_for us ≡ map (touch_in base) (map operation_of (map write_for us))
    by [] h = refl
    by (u ∷ us) h = ap₂ (λ t ts. t ∷ ts) (decided-touch base list u h.0) (by us h.1)
