-- Which live updates of a base list operations replace.
use Rattle.std.proofs.Common.{◌≡◌, ℕ, ◌+◌, ◌<◌, Bool, true, false, cond, List, [], ◌∷◌, length, take, map, get_or, refl, ap, ap₂, sym, ◌∙◌, Option, Some, None, arith, ◌||◌, true≢false}
use Rattle.std.specs.Prelude.{◌==◌, nat_lt, option_map, is_some, All}
use Rattle.std.specs.BTreeSet.{BTreeSet, contains, Updates}
use Rattle.std.specs.List.{list_any, AllByRecursion as Each}
use Rattle.std.specs.Ordering.{nat_cmp, is_eq}
use Rattle.std.proofs.lemmas.Bool.{eqb-true, eq-eqb}
use Rattle.std.proofs.lemmas.List.{map_more}
use Rattle.std.proofs.lemmas.List.Elements.{recursion_from_All}
use Rattle.std.proofs.lemmas.List.Folds.{list_any-append}
use Rattle.std.proofs.lemmas.Option.{same_Some}
use Rattle.std.proofs.Math.Bool.{or-false}
use Rattle.qm_operations.specs.Parts.{key_of, update_key}
use Rattle.qm_model.specs.Operations.{Bytes, Operation, update, delete, commit}
use Rattle.qm_model.specs.Live.{Live, live, live_of, touches, touched}
use Rattle.qm_model.proofs.LastWrites.{bytes_same}
use Rattle.qm_step.specs.Changes.{place_in, update_at}
use Rattle.qm_step.specs.Touches.{Touch, AreReplaced, IsFrom, IsKeyed, is_at, is_replaced, operations_of}
use Rattle.qm_step.proofs.Standing.{live-stands, of_key-within}

nat-equal : (a b : ℕ) → is_eq (nat_cmp a b) ≡ (a == b)
nat-equal a b = by (nat_lt a b) refl (a == b) refl
  where
    by : (l : Bool) → nat_lt a b ≡ l → (t : Bool) → (a == b) ≡ t → is_eq (nat_cmp a b) ≡ t
    by l less t same = grind (arith, less, same)

-- a set of places, with one more
more-placed : (old new : BTreeSet ℕ) (n at : ℕ) → Updates nat_cmp old new n true → contains nat_cmp new at ≡ (contains nat_cmp old at || (n == at))
more-placed old new n at put = put.0 at ∙ ap (λ t. cond t true (contains nat_cmp old at)) (nat-equal n at) ∙ by (contains nat_cmp old at) (n == at)
  where
    by : (a b : Bool) → cond b true a ≡ (a || b)
    by true true = refl
    by true false = refl
    by false true = refl
    by false false = refl

module _ {A : Type 0} (f : A → Touch) (xs : List A) (i : ℕ) (d : A) (within : i < length xs) (here : d ≡ get_or xs i d) where
  one-further : (at : ℕ) → is_replaced (map f (take (i + 1) xs)) at ≡ (is_replaced (map f (take i xs)) at || is_at at (f d).before)
  one-further at =
      let test : Touch → Bool = λ t. is_at at t.before in
      ap (list_any test) (map_more f xs i d within) ∙ list_any-append test (map f (take i xs)) (f (get_or xs i d) ∷ [])
      ∙ ap (λ x. is_replaced (map f (take i xs)) at || (is_at at (f x).before || false)) (sym here)
      ∙ ap (λ b. is_replaced (map f (take i xs)) at || b) (or-false (is_at at (f d).before))

  -- the places of operations, with those of one more
  pub replaced-more : (old new : BTreeSet ℕ) (n : ℕ) → (f d).before ≡ Some n → Updates nat_cmp old new n true → AreReplaced old (map f (take i xs)) → AreReplaced new (map f (take (i + 1) xs))
  replaced-more old new n is put are = λ at.
      more-placed old new n at put ∙ ap (λ b. b || (n == at)) (are at) ∙ ap (λ o. is_replaced (map f (take i xs)) at || is_at at o) (sym is) ∙ sym (one-further at)

  -- one more replaces nothing
  pub replaced-same : (old : BTreeSet ℕ) → (f d).before ≡ None → AreReplaced old (map f (take i xs)) → AreReplaced old (map f (take (i + 1) xs))
  replaced-same old is are = λ at.
      are at ∙ sym (or-false (is_replaced (map f (take i xs)) at)) ∙ ap (λ o. is_replaced (map f (take i xs)) at || is_at at o) (sym is) ∙ sym (one-further at)

-- an operation of a key touches it, and no other
pub touches-own : (op : Operation) (key : Bytes) → key_of op ≡ Some key → touches key op ≡ true
touches-own (update k v n) key h = let same : k ≡ key = same_Some k key h in ap (touches key) (ap (λ x. update x v n) same) ∙ bytes_same key
touches-own (delete k) key h = let same : k ≡ key = same_Some k key h in ap (touches key) (ap delete same) ∙ bytes_same key
touches-own (commit m f) key h = cc

pub key-some : (op : Operation) → is_some (key_of op) ≡ true → (key : Bytes) × (key_of op ≡ Some key)
key-some (update k v n) h = (k, refl)
key-some (delete k) h = (k, refl)
key-some (commit m f) h = cc

-- a key that stands at a location is that of the update there
stands-key : (base : List Operation) (key k v : Bytes) (n : Option Bytes) (at : ℕ) → update_at base at ≡ Some (update k v n) → place_in base key ≡ Some at → key ≡ k
stands-key base key k v n at here is = by (live_of (live base) key) refl is
  where
    by : (o : Option Live) → live_of (live base) key ≡ o → option_map (λ (p : ℕ × Bytes). p.0) (option_map (λ (e : Live). (e.location, e.value)) o) ≡ Some at → key ≡ k
    by None own h = cc
    by (Some e) own h =
        let within = of_key-within (live base) key e own in
        let place : e.location ≡ at = same_Some e.location at h in
        let same : update e.key e.value e.next ≡ update k v n = same_Some (update e.key e.value e.next) (update k v n) (sym (live-stands base e within.0) ∙ ap (update_at base) place ∙ here) in
        sym within.1 ∙ same_Some e.key k (ap update_key same)

-- a key that stands at a location is touched by the operations if they replace its live update there
module _ (base : List Operation) (k v : Bytes) (n : Option Bytes) (at : ℕ) (here : update_at base at ≡ Some (update k v n)) (place : place_in base k ≡ Some at) where
  one-replaced : (t : Touch) → IsFrom base t → IsKeyed t → touches k t.operation ≡ is_at at t.before
  one-replaced t from keyed = by (touches k t.operation) refl t.before refl
    where
      own : (key : Bytes) × (key_of t.operation ≡ Some key)
      own = key-some t.operation keyed

      hits : touches own.0 t.operation ≡ true
      hits = touches-own t.operation own.0 own.1

      missed : (m : ℕ) → touches k t.operation ≡ false → t.before ≡ Some m → (s : Bool) → (m == at) ≡ s → false ≡ s
      missed m miss is false same = refl
      missed m miss is true same =
          let stood : place_in base own.0 ≡ Some at = sym (from own.0 hits) ∙ is ∙ ap (λ i. Some i) (eqb-true m at same) in
          absurd (true≢false (sym hits ∙ ap (λ key. touches key t.operation) (stands-key base own.0 k v n at here stood) ∙ miss))

      by : (h : Bool) → touches k t.operation ≡ h → (o : Option ℕ) → t.before ≡ o → h ≡ is_at at o
      by true hit o is = sym (ap (is_at at) (sym is ∙ from k hit ∙ place) ∙ eq-eqb at at refl)
      by false miss None is = refl
      by false miss (Some m) is = missed m miss is (m == at) refl

  pub touched-replaced : (made : List Touch) → All (IsFrom base) made → All IsKeyed made → touched k (operations_of made) ≡ is_replaced made at
  touched-replaced made from keyed = by made (recursion_from_All (IsFrom base) made from) (recursion_from_All IsKeyed made keyed)
    where
      by : (ts : List Touch) → Each (IsFrom base) ts → Each IsKeyed ts → touched k (operations_of ts) ≡ is_replaced ts at
      by [] from keyed = refl
      by (t ∷ ts) from keyed = ap₂ (λ a b. a || b) (one-replaced t from.0 keyed.0) (by ts from.1 keyed.1)
