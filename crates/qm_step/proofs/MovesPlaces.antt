-- Where the key of a live update stood before the operations of writes.
use Rattle.std.proofs.Common.{◌≡◌, ℕ, ◌-◌, ◌≤◌, ◌<◌, Bool, true, false, List, ◌++◌, length, map, refl, ap, sym, ◌∙◌, subst, Option, Some, None, arith}
use Rattle.std.specs.Prelude.{All, slice_get, nat_lt, option_map, option_and_then, if◌then◌else◌}
use Rattle.std.proofs.lemmas.Bool.Decides.{nat_tests}
use Rattle.std.proofs.lemmas.Option.{same_Some, slice_get-map, slice_get_within, get_or_from_slice_get}
use Rattle.qm_model.specs.Operations.{Bytes, Operation, update}
use Rattle.qm_model.specs.Live.{Live, live, live_from, live_of, touches, touched}
use Rattle.qm_model.proofs.LastWrites.{bytes_same}
use Rattle.qm_step.specs.Changes.{place_in}
use Rattle.qm_step.specs.Moves.{place_before}
use Rattle.qm_step.specs.Touches.{Touch, IsFrom, operations_of}
use Rattle.qm_step.proofs.Appends.{live_of-append, own-live}
use Rattle.qm_step.proofs.PlanReads.{update-here}
use Rattle.qm_step.proofs.Standing.{of_key-within, stands-from}

below : (a b : ℕ) → a < b → nat_lt a b ≡ true
below a b h = grind (arith, nat_tests, h)

not_below : (a b : ℕ) → b ≤ a → nat_lt a b ≡ false
not_below a b h = grind (arith, nat_tests, h)

-- a place in the base list, one of an operation after it, and one after all
pub placed-low : (size : ℕ) (made : List Touch) (at : ℕ) → at < size → Some at ≡ place_before size made at
placed-low size made at low = ap (λ t. if t then Some at else option_and_then (λ (t : Touch). t.before) (slice_get made (at - size))) (sym (below at size low))

module _ {A : Type 0} (view : A → Touch) (size : ℕ) (made : List A) (at : ℕ) (high : size ≤ at) where
  placed-at : (o : Option Touch) → slice_get (map view made) (at - size) ≡ o → option_and_then (λ (t : Touch). t.before) o ≡ place_before size (map view made) at
  placed-at o is =
      ap (option_and_then (λ (t : Touch). t.before)) (sym is)
      ∙ ap (λ t. if t then Some at else option_and_then (λ (t : Touch). t.before) (slice_get (map view made) (at - size))) (sym (not_below at size high))

  pub placed-behind : (t : A) → slice_get made (at - size) ≡ Some t → (view t).before ≡ place_before size (map view made) at
  placed-behind t is = placed-at (Some (view t)) (slice_get-map view made (at - size) ∙ ap (option_map view) is)

  pub placed-past : slice_get made (at - size) ≡ None → None ≡ place_before size (map view made) at
  placed-past is = placed-at None (slice_get-map view made (at - size) ∙ ap (option_map view) is)

module _ (list : List Operation) (made : List Touch) (from : All (IsFrom list) made) (key : Bytes) (e : Live) (is : live_of (live (list ++ operations_of made)) key ≡ Some e) where
  pub place-is : (size : ℕ) → size ≡ length list → place_before size made e.location ≡ place_in list key
  place-is size long = by (touched key (operations_of made)) refl
    where
      there : (t : Touch) → slice_get made (e.location - size) ≡ Some t → t.operation ≡ update e.key e.value e.next → e.key ≡ key → option_and_then (λ (t : Touch). t.before) (slice_get made (e.location - size)) ≡ place_in list key
      there t at says own =
          let here : IsFrom list t = subst (IsFrom list) (get_or_from_slice_get made (e.location - size) t t at) (from (e.location - size) t (slice_get_within made (e.location - size) t at)) in
          ap (option_and_then (λ (t : Touch). t.before)) at ∙ here key (ap (touches key) says ∙ ap (touches key) (ap (λ k. update k e.value e.next) own) ∙ bytes_same key)

      one : (o : Option Touch) → slice_get made (e.location - size) ≡ o → option_map (λ (t : Touch). t.operation) o ≡ Some (update e.key e.value e.next) → e.key ≡ key → option_and_then (λ (t : Touch). t.before) (slice_get made (e.location - size)) ≡ place_in list key
      one None at says own = cc
      one (Some t) at says own = there t at (same_Some t.operation (update e.key e.value e.next) says) own

      by : (t : Bool) → touched key (operations_of made) ≡ t → place_before size made e.location ≡ place_in list key
      by false none =
          let old : live_of (live list) key ≡ Some e = sym (live_of-append list (operations_of made) key none) ∙ is in
          let within = of_key-within (live list) key e old in
          let stands = stands-from 0 list e within.0 in
          let place = stands.1 in
          let inside = slice_get_within list stands.0 (update e.key e.value e.next) (update-here list stands.0 (update e.key e.value e.next) stands.2) in
          ap (λ t. if t then Some e.location else option_and_then (λ (t : Touch). t.before) (slice_get made (e.location - size))) (below e.location size (omega (arith, place, inside, long)))
          ∙ sym (ap (λ o. option_map (λ (p : ℕ × Bytes). p.0) (option_map (λ (e : Live). (e.location, e.value)) o)) old)
      by true own =
          let new : live_of (live_from (length list) (operations_of made)) key ≡ Some e = sym (own-live list (operations_of made) key own) ∙ is in
          let within = of_key-within (live_from (length list) (operations_of made)) key e new in
          let stands = stands-from (length list) (operations_of made) e within.0 in
          let place = stands.1 in
          let at : stands.0 ≡ e.location - size = omega (arith, place, long) in
          ap (λ t. if t then Some e.location else option_and_then (λ (t : Touch). t.before) (slice_get made (e.location - size))) (not_below e.location size (omega (arith, place, long)))
          ∙ one (slice_get made (e.location - size)) refl
          (sym (slice_get-map (λ (t : Touch). t.operation) made (e.location - size)) ∙ ap (slice_get (operations_of made)) (sym at) ∙ update-here (operations_of made) stands.0 (update e.key e.value e.next) stands.2) within.1
