-- Which items between two locations spell operations.
use Rattle.std.proofs.Common.{Bool, ◌≡◌, ◌⊎◌, inl, inr, ◌≤◌, ◌<◌, ◌-◌, ◌∙◌, ℕ, ◌+◌, zero, suc, true, false, List, [], ◌∷◌, map, take, drop, arith, refl, ap, subst, Option, Some, None, Result, Ok, Err}
use Rattle.std.specs.Prelude.{IfSome, OnOk, is_none, slice_get, option_and_then}
use Rattle.std.specs.List.{list_any}
use Rattle.qm_model.specs.Forms.{Form, decoded}
use Rattle.qm_model.specs.StoreModel.{Stored}
use Rattle.qm_build.specs.Reads.{operation_at, IsUndecoded, items_within}

-- there is something at this place
abbrev pub IsThere : {A B : Type 0} → (A → Option B) → List A → ℕ → Type 0
IsThere f xs j = is_none (option_and_then f (slice_get xs j)) ≡ false

head-there : {A B : Type 0} (f : A → Option B) (x : A) (rest : List (Option B)) → is_none (f x) ≡ false → list_any is_none rest ≡ false → list_any is_none (f x ∷ rest) ≡ false
head-there f x rest is none = cc

none-lost : {A B : Type 0} (f : A → Option B) (xs : List A) (k n : ℕ) → ((j : ℕ) → k ≤ j → j < n → IsThere f xs j) → list_any is_none (drop k (take n (map f xs))) ≡ false
none-lost f [] zero zero all = refl
none-lost f [] zero (suc n) all = refl
none-lost f [] (suc k) zero all = refl
none-lost f [] (suc k) (suc n) all = refl
none-lost f (x ∷ xs) zero zero all = refl
none-lost f (x ∷ xs) (suc k) zero all = refl
none-lost f (x ∷ xs) zero (suc n) all =
    head-there f x (take n (map f xs)) (all zero (omega arith) (omega arith)) (none-lost f xs zero n (λ j _ less. all (suc j) (omega arith) (omega (arith, less))))
none-lost f (x ∷ xs) (suc k) (suc n) all = none-lost f xs k n (λ j low less. all (suc j) (omega (arith, low)) (omega (arith, less)))

head-lost : {A B : Type 0} (f : A → Option B) (x : A) (rest : List (Option B)) → f x ≡ None → list_any is_none (f x ∷ rest) ≡ true
head-lost f x rest none = cc

tail-lost : {B : Type 0} (y : Option B) (rest : List (Option B)) → list_any is_none rest ≡ true → list_any is_none (y ∷ rest) ≡ true
tail-lost None rest lost = refl
tail-lost (Some y) rest lost = lost

one-lost : {A B : Type 0} (f : A → Option B) (xs : List A) (k n j : ℕ) (x : A) → k ≤ j → j < n → slice_get xs j ≡ Some x → f x ≡ None → list_any is_none (drop k (take n (map f xs))) ≡ true
one-lost f [] k n j x low less here none = cc
one-lost f (y ∷ xs) k zero j x low less here none = absurd (omega (arith, less))
one-lost f (y ∷ xs) zero (suc n) zero x low less here none = let same : y ≡ x = cc in head-lost f y (take n (map f xs)) (ap f same ∙ none)
one-lost f (y ∷ xs) zero (suc n) (suc j) x low less here none = tail-lost (f y) (take n (map f xs)) (one-lost f xs zero n j x (omega arith) (omega (arith, less)) here none)
one-lost f (y ∷ xs) (suc k) (suc n) zero x low less here none = absurd (omega (arith, low))
one-lost f (y ∷ xs) (suc k) (suc n) (suc j) x low less here none = one-lost f xs k n j x (omega (arith, low)) (omega (arith, less)) here none

-- all items from a location up to another spell operations
pub all-decoded : (form : Form) (s : Stored) (from to : ℕ) → s.start ≤ from → ((at : ℕ) → from ≤ at → at < to → is_none (operation_at form s at) ≡ false) → list_any is_none (items_within form s from to) ≡ false
all-decoded form s from to low all =
    none-lost (decoded form) s.items (from - s.start) (to - s.start) (λ j more less.
    let at : j + s.start - s.start ≡ j = omega arith in
    subst (IsThere (decoded form) s.items) at (all (j + s.start) (omega (arith, more, low)) (omega (arith, less, low))))

-- one of them spells none
pub one-undecoded : (form : Form) (s : Stored) (from to at : ℕ) → s.start ≤ from → from ≤ at → at < to → IsUndecoded form s at → list_any is_none (items_within form s from to) ≡ true
one-undecoded form s from to at low more less lost =
    one-lost (decoded form) s.items (from - s.start) (to - s.start) (at - s.start) lost.item (omega (arith, more, low)) (omega (arith, less, more, low)) lost.here lost.none

-- below one more it is below, or there
next-case : (i at : ℕ) → (i < at) ⊎ (i ≡ at) → (suc i < suc at) ⊎ (suc i ≡ suc at)
next-case i at (inl less) = inl (omega (arith, less))
next-case i at (inr same) = inr (ap suc same)

pub below-or-at : (i at : ℕ) → i ≤ at → (i < at) ⊎ (i ≡ at)
below-or-at zero zero low = inr refl
below-or-at zero (suc at) low = inl (omega arith)
below-or-at (suc i) zero low = absurd (omega (arith, low))
below-or-at (suc i) (suc at) low = next-case i at (below-or-at i at (omega (arith, low)))

-- what holds of all that may be told
pub each : {X : Type 0} (o : Option X) {P : X → Type 0} → ((x : X) → P x) → IfSome o P
each None all = tt
each (Some x) all = all x

-- what holds anyway
pub any-ok : {X E : Type 0} (r : Result X E) {P : Type 0} → P → OnOk r P
any-ok (Ok x) p = p
any-ok (Err e) p = tt

-- what is told of a store that kept what another has
pub over : {X : Type 0} (old new : Option X) {P Q R : X → Type 0} → new ≡ old → IfSome new P → IfSome old Q → ((x : X) → P x → Q x → R x) → IfSome old R
over None None same p q then = tt
over (Some x) (Some y) {P} same p q then = let is : y ≡ x = cc in then x (subst P is p) q
over None (Some y) same p q then = tt
over (Some x) None same p q then = cc

-- what follows of what is told
pub then-told : {X : Type 0} (o : Option X) {P Q : X → Type 0} → IfSome o P → ((x : X) → o ≡ Some x → P x → Q x) → IfSome o Q
then-told None p next = tt
then-told (Some x) p next = next x refl p

pub known : {X : Type 0} {R : Type 0} (o : Option X) (x : X) → o ≡ Some x → IfSome o (λ _. R) → R
known None x is r = cc
known (Some y) x is r = r

pub no-two : (b : Bool) → b ≡ false → b ≡ true → ⊥
no-two b clear is_set = cc
