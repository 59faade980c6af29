-- What the activity bits of a list say of the live updates of a longer one.
use Rattle.std.proofs.Common.{◌≡◌, ℕ, zero, suc, Bool, true, false, List, [], ◌∷◌, ◌++◌, drop, refl, ap, ◌∙◌, Some, None, add-one}
use Rattle.std.specs.Prelude.{slice_get, is_some, option_map, option_and_then, if◌then◌else◌, ◌||◌}
use Rattle.std.proofs.lemmas.List.Folds.{list_any-append}
use Rattle.qm_model.specs.Operations.{Operation, update, delete, commit}
use Rattle.qm_model.specs.Live.{Live, live_at, touches, touched}
use Rattle.qm_model.specs.Bits.{is_last, is_active, bits}
use Rattle.qm_model.proofs.KeyOrder.{or-false}
use Rattle.qm_bits.specs.Candidates.{is_candidate}
use Rattle.qm_step.specs.Changes.{update_from}
use Rattle.qm_step.specs.Touches.{live_update_at}

-- an operation that is not active stays so
dead_here : (start : ℕ) (op : Operation) (rest more : List Operation) → is_active op rest ≡ false → live_at start op (rest ++ more) ≡ None
dead_here start (update k v n) rest more is = by (touched k rest) refl (or-false (is_last rest) (is_some (live_at 0 (update k v n) rest)) is).1
  where
    by : (t : Bool) → touched k rest ≡ t → is_some {T = Live} (if t then None else Some (record { location = 0; key = k; value = v; next = n })) ≡ false → live_at start (update k v n) (rest ++ more) ≡ None
    by true again none = ap (λ t. if t then None else Some (record { location = start; key = k; value = v; next = n })) (list_any-append (touches k) rest more ∙ ap (λ t. t || touched k more) again)
    by false again none = cc
dead_here start (delete k) rest more is = refl
dead_here start (commit m f) rest more is = refl

dead_from : (start : ℕ) (lent more : List Operation) (i : ℕ) → is_candidate (bits lent) i ≡ false
    → option_and_then (λ op. option_map update_from (live_at start op (drop (suc i) (lent ++ more)))) (slice_get (lent ++ more) i) ≡ None
dead_from start [] more i is = cc
dead_from start (op ∷ rest) more zero is = ap (option_map update_from) (dead_here start op rest more is)
dead_from start (op ∷ rest) more (suc i) is = dead_from start rest more i is

-- no live update stands where a beginning of the list has a clear bit
pub dead_unless_candidate : (lent more : List Operation) (i : ℕ) → is_candidate (bits lent) i ≡ false → live_update_at (lent ++ more) i ≡ None
dead_unless_candidate lent more i is =
    ap (λ n. option_and_then (λ op. option_map update_from (live_at i op (drop n (lent ++ more)))) (slice_get (lent ++ more) i)) (add-one i) ∙ dead_from i lent more i is
