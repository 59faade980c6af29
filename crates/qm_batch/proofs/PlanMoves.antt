-- Live updates of a base list and the operations after it.
use Rattle.std.proofs.Common.{◌≡◌, ℕ, ◌+◌, ◌-◌, ◌≤◌, Bool, true, false, true≢false, List, ◌++◌, length, map, drop, refl, ap, sym, ◌∙◌, subst, Option, Some, None, arith, length-append}
use Rattle.std.specs.Prelude.{option_map, option_and_then, All, slice_get, IfSome, not, if◌then◌else◌}
use Rattle.std.proofs.lemmas.Bool.{eqb-true}
use Rattle.std.proofs.lemmas.List.{length-map}
use Rattle.std.proofs.lemmas.Option.{same_Some, slice_get-map, slice_get_within, get_or_from_slice_get}
use Rattle.qm_model.specs.Operations.{Bytes, Operation, update, delete, commit}
use Rattle.qm_operations.specs.Parts.{key_of}
use Rattle.qm_operations.specs.Parts as parts
use Rattle.qm_model.specs.Live.{Live, live, live_at, live_of, value_of, touches, touched}
use Rattle.qm_step.specs.Changes.{next_in, said_by, update_at, update_from}
use Rattle.qm_step.specs.Touches.{Touch, IsFrom, IsMoveAt, Once, is_there, operations_of, live_update_at}
use Rattle.qm_step.proofs.PlanReads.{behind-said, live_update-update, there-here, unless_touched}
use Rattle.qm_step.proofs.PlanWrites.{said-once}
use Rattle.qm_step.proofs.Standing.{live-stands, of_key-within}

-- a live update is one
pub live_update-is : (list : List Operation) (at : ℕ) (op : Operation) → live_update_at list at ≡ Some op → (e : Live) × (op ≡ update_from e)
live_update-is list at op h = by (slice_get list at) h
  where
    one : (o : Option Live) → option_map update_from o ≡ Some op → (e : Live) × (op ≡ update_from e)
    one None h = cc
    one (Some e) h = (e, sym (same_Some (update_from e) op h))

    by : (o : Option Operation) → option_and_then (λ op. option_map update_from (live_at at op (drop (at + 1) list))) o ≡ Some op → (e : Live) × (op ≡ update_from e)
    by None h = cc
    by (Some x) h = one (live_at at x (drop (at + 1) list)) h

-- and it is the one of its key
live_update-own : (list : List Operation) (at : ℕ) (k v : Bytes) (n : Option Bytes) → live_update_at list at ≡ Some (update k v n) → option_map update_from (live_of (live list) k) ≡ Some (update k v n)
live_update-own list at k v n h = by (update_at list at) refl (sym (live_update-update list at) ∙ h)
  where
    stands : (o : Option Live) → live_of (live list) k ≡ o → is_there (option_map (λ (e : Live). (e.location, e.value)) o) at ≡ true → update_at list at ≡ Some (update k v n) → option_map update_from o ≡ Some (update k v n)
    stands None own there here = absurd (true≢false (sym there))
    stands (Some e) own there here =
        let within = of_key-within (live list) k e own in
        let same : update e.key e.value e.next ≡ update k v n = same_Some (update e.key e.value e.next) (update k v n) (sym (live-stands list e within.0) ∙ ap (update_at list) (eqb-true e.location at there) ∙ here) in
        ap (λ op. Some op) same

    free : (t : Bool) (k2 v2 : Bytes) (n2 : Option Bytes) → ◌≡◌ {A = Option Operation} (if t then None else Some (update k2 v2 n2)) (Some (update k v n)) → (t ≡ false) × (update k2 v2 n2 ≡ update k v n)
    free true k2 v2 n2 h = cc
    free false k2 v2 n2 h = (refl, same_Some (update k2 v2 n2) (update k v n) h)

    by : (o : Option Operation) → update_at list at ≡ o → option_and_then (unless_touched (drop (at + 1) list)) o ≡ Some (update k v n) → option_map update_from (live_of (live list) k) ≡ Some (update k v n)
    by None is h = cc
    by (Some (update k2 v2 n2)) is h =
        let found = free (touched k2 (drop (at + 1) list)) k2 v2 n2 h in
        let here : update_at list at ≡ Some (update k v n) = is ∙ ap (λ op. Some op) found.1 in
        let same : k2 ≡ k = same_Some k2 k (ap key_of found.1) in
        let untouched : touched k (drop (at + 1) list) ≡ false = ap (λ x. touched x (drop (at + 1) list)) (sym same) ∙ found.0 in
        stands (live_of (live list) k) refl (there-here list at k v n here ∙ ap not untouched) here
    by (Some (delete k2)) is h = cc
    by (Some (commit m f)) is h = cc

-- with its next key, and its value
pub live_update-next : (list : List Operation) (at : ℕ) (k v : Bytes) (n : Option Bytes) → live_update_at list at ≡ Some (update k v n) → option_map (λ (e : Live). e.next) (live_of (live list) k) ≡ Some n
live_update-next list at k v n h = by (live_of (live list) k) (live_update-own list at k v n h)
  where
    by : (o : Option Live) → option_map update_from o ≡ Some (update k v n) → option_map (λ (e : Live). e.next) o ≡ Some n
    by None own = cc
    by (Some e) own = ap (λ op. Some (next_in op)) (same_Some (update_from e) (update k v n) own)

pub live_update-value : (list : List Operation) (at : ℕ) (k v : Bytes) (n : Option Bytes) → live_update_at list at ≡ Some (update k v n) → value_of list k ≡ Some v
live_update-value list at k v n h = by (live_of (live list) k) (live_update-own list at k v n h)
  where
    by : (o : Option Live) → option_map update_from o ≡ Some (update k v n) → option_map (λ (e : Live). e.value) o ≡ Some v
    by None own = cc
    by (Some e) own = ap parts.value_of (same_Some (update_from e) (update k v n) own)

-- how long a list with operations after a base list is
pub made-long : {A : Type 0} (f : A → Touch) (base list : List Operation) (made : List A) → base ++ operations_of (map f made) ≡ list → length list ≡ length base + length made
made-long f base list made makes =
    let whole : length (base ++ operations_of (map f made)) ≡ length list = ap length makes in
    omega (arith, whole, length-append base (operations_of (map f made)), length-map made f, length-map (map f made) (λ (t : Touch). t.operation))

touches-said : (op said : Operation) (key : Bytes) → said_by op ≡ Some said → touches key said ≡ touches key op
touches-said (update k v n) said key h = ap (touches key) (sym (same_Some (update k v n) said h))
touches-said (delete k) said key h = cc
touches-said (commit m f) said key h = cc

-- the move of an update among operations after a base list
module _ (base list : List Operation) (made : List Touch) (makes : base ++ operations_of made ≡ list) (once : Once (operations_of made)) (at : ℕ) (past : length base ≤ at) where
  said-there : live_update_at list at ≡ option_and_then said_by (option_map (λ (t : Touch). t.operation) (slice_get made (at - length base)))
  said-there =
      ap (λ ops. live_update_at ops at) (sym makes) ∙ behind-said base (operations_of made) at past ∙ said-once (operations_of made) (at - length base) once
      ∙ ap (option_and_then said_by) (slice_get-map (λ (t : Touch). t.operation) made (at - length base))

  pub again-none : slice_get made (at - length base) ≡ None → IsMoveAt None base list at
  again-none none = record { operation = sym (said-there ∙ ap (λ o. option_and_then said_by (option_map (λ (t : Touch). t.operation) o)) none); from = tt }

  pub again-is : All (IsFrom base) made → (t : Touch) (moved : Option Touch) → slice_get made (at - length base) ≡ Some t → option_map (λ (m : Touch). m.operation) moved ≡ said_by t.operation → IfSome moved (λ m. m.before ≡ t.before) → IsMoveAt moved base list at
  again-is from t moved is operation before = record {
    operation = operation ∙ sym (said-there ∙ ap (λ o. option_and_then said_by (option_map (λ (t : Touch). t.operation) o)) is);
    from = by moved (said_by t.operation) refl operation before;
  }
    where
      here : IsFrom base t
      here = subst (IsFrom base) (get_or_from_slice_get made (at - length base) t t is) (from (at - length base) t (slice_get_within made (at - length base) t is))

      by : (m : Option Touch) (o : Option Operation) → said_by t.operation ≡ o → option_map (λ (m : Touch). m.operation) m ≡ o → IfSome m (λ m. m.before ≡ t.before) → IfSome m (IsFrom base)
      by None o said same kept = tt
      by (Some m) None said same kept = cc
      by (Some m) (Some p) said same kept = λ key hit.
          kept ∙ here key (sym (touches-said t.operation p key said) ∙ ap (touches key) (sym (same_Some m.operation p same)) ∙ hit)

-- what was moved again, as the program has it
module _ {A : Type 0} (f : A → Touch) (moved : Option A) where
  pub shown-operation : option_map (λ (t : Touch). t.operation) (option_map f moved) ≡ option_map (λ a. (f a).operation) moved
  shown-operation = by moved
    where
      by : (m : Option A) → option_map (λ (t : Touch). t.operation) (option_map f m) ≡ option_map (λ a. (f a).operation) m
      by None = refl
      by (Some a) = refl

  pub shown-each : (P : Touch → Type 0) → IfSome moved (λ a. P (f a)) → IfSome (option_map f moved) P
  shown-each P h = by moved h
    where
      by : (m : Option A) → IfSome m (λ a. P (f a)) → IfSome (option_map f m) P
      by None h = tt
      by (Some a) h = h
