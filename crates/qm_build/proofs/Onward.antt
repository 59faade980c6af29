-- The operations among the items from a location on, and one more.
use Rattle.std.proofs.Common.{◌≡◌, ◌≤◌, ◌-◌, ◌∙◌, ℕ, ◌+◌, zero, suc, List, [], ◌∷◌, ◌++◌, map, take, drop, arith, refl, ap, Option, Some, None}
use Rattle.std.specs.Prelude.{IfSome, slice_get, option_and_then, filter_map}
use Rattle.qm_model.specs.Forms.{Form, decoded}
use Rattle.qm_model.specs.Operations.{Operation}
use Rattle.qm_model.specs.StoreModel.{Stored}
use Rattle.qm_build.specs.Reads.{operation_at, items_within}

none-cut : {A : Type 0} (xs : List A) (k : ℕ) → drop k (take k xs) ≡ []
none-cut [] zero = refl
none-cut [] (suc k) = refl
none-cut (x ∷ xs) zero = refl
none-cut (x ∷ xs) (suc k) = none-cut xs k

-- none up to the first
pub none-within : (form : Form) (s : Stored) (from : ℕ) → items_within form s from from ≡ []
none-within form s from = none-cut (map (decoded form) s.items) (from - s.start)

front-kept : {B : Type 0} (o : Option B) (xs ys : List (Option B)) (op : B) → filter_map (λ item. item) xs ≡ filter_map (λ item. item) ys ++ op ∷ [] → filter_map (λ item. item) (o ∷ xs) ≡ filter_map (λ item. item) (o ∷ ys) ++ op ∷ []
front-kept None xs ys op h = h
front-kept (Some b) xs ys op h = ap (λ zs. b ∷ zs) h

one-cut : {A B : Type 0} (f : A → Option B) (xs : List A) (k n : ℕ) (op : B) → k ≤ n → option_and_then f (slice_get xs n) ≡ Some op →
    filter_map (λ item. item) (drop k (take (suc n) (map f xs))) ≡ filter_map (λ item. item) (drop k (take n (map f xs))) ++ op ∷ []
one-cut f [] k n op low here = cc
one-cut f (x ∷ xs) zero zero op low here = ap (λ o. filter_map (λ item. item) (o ∷ [])) here
one-cut f (x ∷ xs) zero (suc n) op low here = front-kept (f x) (take (suc n) (map f xs)) (take n (map f xs)) op (one-cut f xs zero n op (omega arith) here)
one-cut f (x ∷ xs) (suc k) zero op low here = absurd (omega (arith, low))
one-cut f (x ∷ xs) (suc k) (suc n) op low here = one-cut f xs k n op (omega (arith, low)) here

-- one more up to the next
pub one-within : (form : Form) (s : Stored) (from at : ℕ) (op : Operation) → s.start ≤ from → from ≤ at → operation_at form s at ≡ Some op →
    filter_map (λ item. item) (items_within form s from (at + 1)) ≡ filter_map (λ item. item) (items_within form s from at) ++ op ∷ []
one-within form s from at op first low here =
    let next : at + 1 - s.start ≡ suc (at - s.start) = omega (arith, first, low) in
    ap (λ n. filter_map (λ item. item) (drop (from - s.start) (take n (map (decoded form) s.items)))) next
    ∙ one-cut (decoded form) s.items (from - s.start) (at - s.start) op (omega (arith, low)) here

-- what follows of three things that are told
pub three : {X : Type 0} (o : Option X) {P Q R S : X → Type 0} → IfSome o P → IfSome o Q → IfSome o R → ((x : X) → P x → Q x → R x → S x) → IfSome o S
three None p q r next = tt
three (Some x) p q r next = next x p q r
