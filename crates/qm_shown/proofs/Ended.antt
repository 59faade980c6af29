-- A whole list ends with a commit: of the proofs of its operations only the start can be refused.
use Rattle.std.proofs.Common.{◌≡◌, ◌∙◌, ◌<◌, ◌≤◌, ◌/◌, ◌^◌, ℕ, zero, suc, Bool, List, [], ◌∷◌, length, Option, None, Some, arith, ap, sym, refl, le_refl}
use Rattle.std.specs.Prelude.{nat_lt, if◌then◌else◌}
use Rattle.std.proofs.lemmas.Bool.{lt-ltb, le-ltb}
use Rattle.qm_model.specs.Operations.{Operation, update, delete, commit, IsCommitEnded}
use Rattle.qm_model.specs.Live.{floor, floor_after}
use Rattle.qm_model.specs.Step.{IsGood}
use Rattle.qm_model.specs.Refused.{Refused, Merkle, Journal, RangeOutOfBounds, OperationPruned, ItemPruned}
use Rattle.qm_model.specs.Refusals.{floor_before, last_refusal, item_refusal, proof_refusal, range_refusal}
use Rattle.qm_build.proofs.Telling.{offered-there}

-- its last operation is the commit of its floor
last_floor : (g : ℕ) (list : List Operation) → IsCommitEnded list → floor_before list (length list) ≡ Some (floor_after g list)
last_floor g [] ended = absurd ended
last_floor g (commit m f ∷ []) ended = refl
last_floor g (update k v n ∷ []) ended = absurd ended
last_floor g (delete k ∷ []) ended = absurd ended
last_floor g (update k v n ∷ next ∷ rest) ended = last_floor g (next ∷ rest) ended
last_floor g (delete k ∷ next ∷ rest) ended = last_floor g (next ∷ rest) ended
last_floor g (commit m f ∷ next ∷ rest) ended = last_floor f (next ∷ rest) ended

last_kept : (kept n : ℕ) → kept < n → last_refusal kept n ≡ None
last_kept kept zero lt = absurd (omega (arith, lt))
last_kept kept (suc i) lt = ap (λ b. if b then Some (Journal (ItemPruned i)) else None) (le-ltb i kept (omega (arith, lt)))

pub whole-offered : (kept : ℕ) (list : List Operation) (start : ℕ) → IsGood list → start < length list → kept ≤ start → proof_refusal kept list (length list) start ≡ None
whole-offered kept list start good before from =
    offered-there kept list (length list) start (floor list) (le_refl (length list)) (last_kept kept (length list) (omega (arith, before, from))) (omega (arith, before)) (sym (last_floor 0 list good.commit_ended)) good.floor_within before from

-- why there is no proof from a location on
module _ (g chunks kept : ℕ) (list : List Operation) (start : ℕ) where
  abbrev within : Bool → Option Refused
  within b = if b then (if nat_lt (start / 2 ^ g) chunks then Some (OperationPruned start) else item_refusal kept start) else Some (Merkle (RangeOutOfBounds start))

  abbrev behind : Bool → Option Refused
  behind b = if b then Some (OperationPruned start) else item_refusal kept start

  pub refused-past : length list ≤ start → range_refusal g chunks kept list start ≡ Some (Merkle (RangeOutOfBounds start))
  refused-past past = ap within (le-ltb start (length list) past)

  pub refused-chunk : start < length list → start / 2 ^ g < chunks → range_refusal g chunks kept list start ≡ Some (OperationPruned start)
  refused-chunk before gone = ap within (lt-ltb start (length list) before) ∙ ap behind (lt-ltb (start / 2 ^ g) chunks gone)

  pub refused-item : start < length list → chunks ≤ start / 2 ^ g → start < kept → range_refusal g chunks kept list start ≡ Some (Journal (ItemPruned start))
  refused-item before there gone = ap within (lt-ltb start (length list) before) ∙ ap behind (le-ltb (start / 2 ^ g) chunks there) ∙ ap (λ b. if b then Some (Journal (ItemPruned start)) else None) (lt-ltb start kept gone)

  pub offered-from : start < length list → chunks ≤ start / 2 ^ g → kept ≤ start → range_refusal g chunks kept list start ≡ None
  offered-from before there from = ap within (lt-ltb start (length list) before) ∙ ap behind (le-ltb (start / 2 ^ g) chunks there) ∙ ap (λ b. if b then Some (Journal (ItemPruned start)) else None) (le-ltb start kept from)
