-- What more operations of a step do to keys, and lists of changes by key.
use Rattle.std.proofs.Common.{◌≡◌, ℕ, Bool, true, false, cond, List, [], ◌∷◌, ◌++◌, length, drop, map, refl, ap, ap₂, sym, ◌∙◌, Option, Some, None, ◌||◌, append_assoc, append-nil, true≢false}
use Rattle.std.specs.Prelude.{option_map, bytes_eq, if◌then◌else◌}
use Rattle.std.specs.Map.{lookup}
use Rattle.std.specs.Cmp.Lexicographic.{slice_cmp}
use Rattle.std.specs.Ordering.{nat_cmp, is_eq, is_lt}
use Rattle.std.specs.List.{AllByRecursion as Each}
use Rattle.std.specs.List.Sorted.{IsStrictlySortedBy}
use Rattle.std.specs.declared.cmp.Ordering.TheVariants.{Less}
use denote.Ref.{Bor}
use Rattle.std.proofs.lemmas.List.Elements.{All-from_recursion}
use Rattle.qm_chain.specs.Ascending.{IsAscending}
use Rattle.qm_model.specs.Keys.{key_lt}
use Rattle.std.proofs.lemmas.List.{drop_at, take_at}
use Rattle.std.proofs.lemmas.List.Folds.{list_any-append}
use Rattle.std.proofs.lemmas.Map.Text.{is_eq-slice_cmp}
use Rattle.std.proofs.lemmas.Option.{same_Some}
use Rattle.qm_operations.specs.Parts.{is_update, key_of, value_of}
use Rattle.qm_model.specs.Operations.{Bytes, Operation, update, delete, commit}
use Rattle.qm_model.specs.Live.{Live, touches, touched}
use Rattle.qm_model.proofs.Maps.{same_key}
use Rattle.qm_step.specs.Changes.{Change, Changes, change_in, change_of, stands_at, AreChanges, place_in}
use Rattle.qm_step.specs.Touches.{Touch, IsFrom}
use Rattle.qm_step.proofs.Appends.{live_of-append}
use Rattle.qm_step.proofs.PlanLists.{last_of, stands-untouched}
use Rattle.qm_index.proofs.Basics.{bytes-turned}
use Rattle.qm_step.proofs.Entries.{change_in-cons}
use Rattle.std.proofs.Math.Bool.{or-false, or-true}

-- the live update that an operation at this location leaves its key
abbrev pub given_at : ℕ → Operation → Option (ℕ × Bytes)
given_at at (update k v n) = Some (at, v)
given_at at (delete k) = None
given_at at (commit m f) = None

module _ (base own : List Operation) (q : Bytes) where
  abbrev list : List Operation
  list = base ++ own

  own-behind : drop (length base) list ≡ own
  own-behind = drop_at base own (length base) refl

  given-last : (op : Operation) → touches q op ≡ true → stands_at (list ++ op ∷ []) q ≡ given_at (length list) op
  given-last (update k v n) h =
      ap (stands_at (list ++ update k v n ∷ [])) (sym (same_key k q h)) ∙ stands-untouched list k v n [] refl
  given-last (delete k) h = ap (option_map (λ (e : Live). (e.location, e.value))) (last_of list (delete k) [] q h)
  given-last (commit m f) h = absurd (true≢false (sym h))

  more-behind : (op : Operation) → drop (length base) (list ++ op ∷ []) ≡ own ++ op ∷ []
  more-behind op = ap (drop (length base)) (append_assoc base own (op ∷ [])) ∙ drop_at base (own ++ op ∷ []) (length base) refl

  touched-more : (op : Operation) (t : Bool) → touches q op ≡ t → touched q (drop (length base) (list ++ op ∷ [])) ≡ (touched q own || (t || false))
  touched-more op t h = ap (touched q) (more-behind op) ∙ list_any-append (touches q) own (op ∷ []) ∙ ap (λ b. touched q own || (b || false)) h

  -- what a step with one more operation does to a key
  pub change-push : (op : Operation) → change_of base (list ++ op ∷ []) q ≡ (if touches q op then Some (record { now = given_at (length list) op; before = place_in base q }) else change_of base list q)
  change-push op = by (touches q op) refl
    where
      by : (t : Bool) → touches q op ≡ t → change_of base (list ++ op ∷ []) q ≡ (if t then Some (record { now = given_at (length list) op; before = place_in base q }) else change_of base list q)
      by true is =
          ap₂ (λ (b : Bool) (o : Option (ℕ × Bytes)). ◌if◌then◌ b o) (touched-more op true is ∙ or-true (touched q own)) (given-last op is)
        where
          ◌if◌then◌ : Bool → Option (ℕ × Bytes) → Option Change
          ◌if◌then◌ b o = if b then Some (record { now = o; before = place_in base q }) else None
      by false is =
          ap₂ (λ (b : Bool) (o : Option Live). if b then Some (record { now = option_map (λ (e : Live). (e.location, e.value)) o; before = place_in base q }) else None)
          (touched-more op false is ∙ or-false (touched q own) ∙ ap (touched q) (sym own-behind)) (live_of-append list (op ∷ []) q (ap (λ b. b || false) is))

-- a map's answer to a key, shown as a change
module _ {K X : Type 0} (key : K → Bytes) (shown : X → Change) where
  abbrev pub answer : List (K × X) → Bytes → Option Change
  answer es q = option_map shown (lookup (λ k. is_eq (slice_cmp nat_cmp q (key k))) es)

  abbrev pub listed : List (K × X) → Changes
  listed es = map (λ e. (key e.0, shown e.1)) es

  -- it is that of the entries
  pub listed-answer : (es : List (K × X)) (q : Bytes) → change_in (listed es) q ≡ answer es q
  listed-answer [] q = refl
  listed-answer (e ∷ es) q =
      change_in-cons (key e.0) q (shown e.1) (listed es)
      ∙ ap₂ (λ t o. cond t (Some (shown e.1)) o) (bytes-turned (key e.0) q ∙ sym (is_eq-slice_cmp q (key e.0))) (listed-answer es q)
      ∙ by (is_eq (slice_cmp nat_cmp q (key e.0)))
    where
      by : (t : Bool) → cond t (Some (shown e.1)) (answer es q) ≡ option_map shown (cond t (Some e.1) (lookup (λ k. is_eq (slice_cmp nat_cmp q (key k))) es))
      by true = refl
      by false = refl

-- no operation yet, no change
pub no-change : (base : List Operation) (q : Bytes) → None ≡ change_of base base q
no-change base q = sym (ap (λ ops. if touched q ops then Some (record { now = stands_at base q; before = place_in base q }) else None) (ap (drop (length base)) (sym (append-nil base)) ∙ drop_at base [] (length base) refl))

pub are-changes : (changes : Changes) (base own : List Operation) → ((q : Bytes) → change_in changes q ≡ change_of base (base ++ own) q) → AreChanges changes base (base ++ own)
are-changes changes base own each = record { begins = take_at base own (length base) refl; each = each }

-- one more operation of a key, if the answers are those of the step so far
module _ (base own : List Operation) (touch : Touch) (from : IsFrom base touch) (k : Bytes) (only : (q : Bytes) → touches q touch.operation ≡ bytes_eq k q)
    (old new : Bytes → Option Change) (change : Change) (now : change.now ≡ given_at (length (base ++ own)) touch.operation) (before : change.before ≡ touch.before)
    (put : (q : Bytes) → new q ≡ cond (bytes_eq k q) (Some change) (old q)) (so_far : (q : Bytes) → old q ≡ change_of base (base ++ own) q) where
  pub noted-more : (q : Bytes) → new q ≡ change_of base ((base ++ own) ++ touch.operation ∷ []) q
  noted-more q = put q ∙ by (bytes_eq k q) refl ∙ ap (λ t. if t then Some (record { now = given_at (length (base ++ own)) touch.operation; before = place_in base q }) else change_of base (base ++ own) q) (sym (only q)) ∙ sym (change-push base own q touch.operation)
    where
      by : (t : Bool) → bytes_eq k q ≡ t → cond t (Some change) (old q) ≡ (if t then Some (record { now = given_at (length (base ++ own)) touch.operation; before = place_in base q }) else change_of base (base ++ own) q)
      by true is = ap₂ (λ n b. Some (record { now = n; before = b })) now (before ∙ from q (only q ∙ is))
      by false is = so_far q

pub map-put : {X Y : Type 0} (f : X → Y) (b : Bool) (x : X) (o : Option X) → option_map f (cond b (Some x) o) ≡ cond b (Some (f x)) (option_map f o)
map-put f true x o = refl
map-put f false x o = refl

-- a map's answers with one put
pub put-answers : {X : Type 0} (f : X → Change) (old new : Bytes → Option X) (k key : Bytes) (x : X) (change : Change) → f x ≡ change → k ≡ key → ((q : Bytes) → new q ≡ cond (bytes_eq k q) (Some x) (old q)) →
    (q : Bytes) → option_map f (new q) ≡ cond (bytes_eq key q) (Some change) (option_map f (old q))
put-answers f old new k key x change is same put q =
    ap (option_map f) (put q) ∙ map-put f (bytes_eq k q) x (old q) ∙ ap₂ (λ b c. cond (bytes_eq b q) (Some c) (option_map f (old q))) same is

-- an operation with a key and a value is an update
pub update-parts : (op : Operation) (k v : Bytes) → key_of op ≡ Some k → value_of op ≡ Some v → (n : Option Bytes) × (op ≡ update k v n)
update-parts (update key value next) k v of_key of_value = (next, ap₂ (λ a b. update a b next) (same_Some key k of_key) (same_Some value v of_value))
update-parts (delete key) k v of_key of_value = cc
update-parts (commit m f) k v of_key of_value = cc

-- and so is an update with a key
pub update-of : (op : Operation) (k : Bytes) → is_update op ≡ true → key_of op ≡ Some k → (v : Bytes) × (n : Option Bytes) × (op ≡ update k v n)
update-of (update key value next) k is of_key = (value, next, ap (λ a. update a value next) (same_Some key k of_key))
update-of (delete key) k is of_key = cc
update-of (commit m f) k is of_key = cc

-- an update is noted
pub noted-update : (base own : List Operation) (touch : Touch) (k v : Bytes) (n : Option Bytes) (old new : Bytes → Option Change) → touch.operation ≡ update k v n → IsFrom base touch →
    ((q : Bytes) → new q ≡ cond (bytes_eq k q) (Some (record { now = Some (length (base ++ own), v); before = touch.before })) (old q)) → ((q : Bytes) → old q ≡ change_of base (base ++ own) q) →
    (q : Bytes) → new q ≡ change_of base ((base ++ own) ++ touch.operation ∷ []) q
noted-update base own touch k v n old new is from put so_far =
    noted-more base own touch from k (λ q. ap (touches q) is) old new (record { now = Some (length (base ++ own), v); before = touch.before }) (sym (ap (given_at (length (base ++ own))) is)) refl put so_far

-- a delete is noted
pub noted-delete : (base own : List Operation) (touch : Touch) (k : Bytes) (old new : Bytes → Option Change) → touch.operation ≡ delete k → IsFrom base touch →
    ((q : Bytes) → new q ≡ cond (bytes_eq k q) (Some (record { now = None; before = touch.before })) (old q)) → ((q : Bytes) → old q ≡ change_of base (base ++ own) q) →
    (q : Bytes) → new q ≡ change_of base ((base ++ own) ++ touch.operation ∷ []) q
noted-delete base own touch k old new is from put so_far =
    noted-more base own touch from k (λ q. ap (touches q) is) old new (record { now = None; before = touch.before }) (sym (ap (given_at (length (base ++ own))) is)) refl put so_far

-- a commit leaves all as it is
pub noted-commit : (base own : List Operation) (op : Operation) (m : Option Bytes) (f : ℕ) (old : Bytes → Option Change) → op ≡ commit m f → ((q : Bytes) → old q ≡ change_of base (base ++ own) q) →
    (q : Bytes) → old q ≡ change_of base ((base ++ own) ++ op ∷ []) q
noted-commit base own op m f old is so_far q = so_far q ∙ sym (change-push base own q (commit m f)) ∙ ap (λ o. change_of base ((base ++ own) ++ o ∷ []) q) (sym is)

-- keys of a map in order ascend
pub sorted-ascends : (ks : List (Bor Bytes)) → IsStrictlySortedBy (λ x y. slice_cmp nat_cmp x.now y.now) ks → IsAscending (map (λ k. k.now) ks)
unfolding IsStrictlySortedBy
sorted-ascends [] h = tt
sorted-ascends (k ∷ ks) h = (All-from_recursion (λ later. key_lt k.now later ≡ true) (map (λ k. k.now) ks) (above ks h.0), sorted-ascends ks h.1)
  where
    above : (us : List (Bor Bytes)) → Each (λ y. slice_cmp nat_cmp k.now y.now ≡ Less) us → Each (λ later. key_lt k.now later ≡ true) (map (λ k. k.now) us)
    above [] h = tt
    above (u ∷ us) h = (ap is_lt h.0, above us h.1)

-- the changes of a step from a map's answers
pub listed-changes : {X : Type 0} (shown : X → Change) (es : List (Bor Bytes × X)) (changes : Changes) (base own : List Operation) → changes ≡ map (λ e. (e.0.now, shown e.1)) es →
    ((q : Bytes) → option_map shown (lookup (λ k. is_eq (slice_cmp nat_cmp q k.now)) es) ≡ change_of base (base ++ own) q) → AreChanges changes base (base ++ own)
listed-changes shown es changes base own is answers =
    are-changes changes base own (λ q. ap (λ cs. change_in cs q) is ∙ listed-answer (λ (k : Bor Bytes). k.now) shown es q ∙ answers q)
