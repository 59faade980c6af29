-- Steps of the loops that make moves.
use Rattle.std.proofs.Common.{◌≡◌, ℕ, ◌+◌, ◌<◌, Bool, true, false, List, [], ◌∷◌, ◌++◌, length, map, take, get_or, refl, ap, ap₂, sym, ◌∙◌, Option, Some, None, ◌||◌, ◌&&◌, append_assoc, append-nil}
use Rattle.std.specs.Prelude.{not, filter_map, option_map, option_to_list, is_none, is_some, bytes_eq}
use Rattle.std.specs.List.{cons_option}
use Rattle.std.proofs.lemmas.List.{take_more, map-append}
use Rattle.std.proofs.lemmas.Option.{same_Some}
use Rattle.std.proofs.lemmas.List.Elements.{filter_map-append}
use Rattle.qm_model.specs.Operations.{Bytes, Operation, update}
use Rattle.qm_model.specs.Keys.{contains_key}
use Rattle.qm_index.proofs.Members.{Contains-later}
use Rattle.qm_step.specs.Changes.{AreChanges}
use Rattle.qm_step.specs.Layers.{Layer, LeadOver}
use Rattle.qm_step.specs.Moves.{rewritten_naming, update_naming}

-- one layer more
pub lead-more : (layers : List Layer) (lent list own : List Operation) (newest : Layer) → newest.base ≡ length list → newest.operations ≡ own → AreChanges newest.changes list (list ++ own) → LeadOver layers lent list → LeadOver (newest ∷ layers) lent (list ++ own)
lead-more layers lent list own newest long same changes leads = record {
  older = list ∷ leads.older;
  steps = (record { size = long; list = ap (λ ops. list ++ ops) (sym same); changes = changes }, leads.steps);
  among = Contains-later (list ++ own) (list ∷ leads.older) lent leads.among;
}

-- an option that is none
pub none-is : {A : Type 0} (o : Option A) (r : Bool) → is_some o ≡ not r → r ≡ true → is_none o ≡ true
none-is None r same h = refl
none-is (Some x) true same h = cc
none-is (Some x) false same h = cc

-- the key that an option has
pub named-one : {K : Type 0} (f : K → Bytes) (o : Option K) (next : K) (k x : Bytes) → o ≡ Some next → k ≡ f next → bytes_eq k x ≡ contains_key (option_to_list (option_map f o)) x
named-one f o next k x is key = ap (λ b. bytes_eq b x) key ∙ by (bytes_eq (f next) x) ∙ sym (ap (λ o. contains_key (option_to_list (option_map f o)) x) is)
  where
    by : (t : Bool) → t ≡ (t || false)
    by true = refl
    by false = refl

pub and-all : (b : Bool) → b ≡ (b && true)
and-all true = refl
and-all false = refl

-- what is given of mapped elements
pub given-mapped : {A B C : Type 0} (h : B → Option C) (f : A → B) (xs : List A) → filter_map h (map f xs) ≡ filter_map (λ x. h (f x)) xs
given-mapped h f [] = refl
given-mapped h f (x ∷ xs) = ap (cons_option (h (f x))) (given-mapped h f xs)

pushed : {A Y : Type 0} (f : A → Y) (o : Option A) (ys : List Y) → map f (option_to_list o) ++ ys ≡ cons_option (option_map f o) ys
pushed f None ys = refl
pushed f (Some a) ys = refl

module _ {A B Y : Type 0} (f : A → Y) (h : B → Option Y) (made made' : List A) (o : Option A) (more : made' ≡ made ++ option_to_list o) where
  -- what is given of elements goes from a list that is left to one that is made
  pub drained-some : (rest rest' : List B) (b : B) (all : List Y) → rest ≡ b ∷ rest' → option_map f o ≡ h b → map f made ++ filter_map h rest ≡ all → map f made' ++ filter_map h rest' ≡ all
  drained-some rest rest' b all left same so_far =
      ap (λ xs. map f xs ++ filter_map h rest') more ∙ ap (λ ys. ys ++ filter_map h rest') (map-append f made (option_to_list o)) ∙ append_assoc (map f made) (map f (option_to_list o)) (filter_map h rest')
      ∙ ap (λ ys. map f made ++ ys) (pushed f o (filter_map h rest') ∙ ap (λ p. cons_option p (filter_map h rest')) same) ∙ ap (λ bs. map f made ++ filter_map h bs) (sym left) ∙ so_far

  -- of one more element of a list that is gone over
  pub some-more : (xs : List B) (i : ℕ) (d : B) → i < length xs → d ≡ get_or xs i d → option_map f o ≡ h d → map f made ≡ filter_map h (take i xs) → map f made' ≡ filter_map h (take (i + 1) xs)
  some-more xs i d within here same so_far =
      ap (map f) more ∙ map-append f made (option_to_list o)
      ∙ ap₂ (λ ys zs. ys ++ zs) so_far (sym (append-nil (map f (option_to_list o))) ∙ pushed f o [] ∙ ap (λ p. cons_option p []) (same ∙ ap h here))
      ∙ sym (ap (filter_map h) (take_more xs i d within) ∙ filter_map-append h (take i xs) (get_or xs i d ∷ []))

pub drained-none : {A B Y : Type 0} (f : A → Y) (h : B → Option Y) (made : List A) (rest : List B) (all : List Y) → rest ≡ [] → map f made ++ filter_map h rest ≡ all → map f made ≡ all
drained-none f h made rest all none so_far = sym (append-nil (map f made)) ∙ ap (λ bs. map f made ++ filter_map h bs) (sym none) ∙ so_far

-- one more element of a list that shows what f makes of another's
pub mapped-more : {A X Y : Type 0} (f : A → Y) (view : X → Y) (xs : List A) (i : ℕ) (d : A) (made made' : List X) (x : X) → i < length xs → d ≡ get_or xs i d →
    made' ≡ made ++ x ∷ [] → view x ≡ f d → map view made ≡ map f (take i xs) → map view made' ≡ map f (take (i + 1) xs)
mapped-more f view xs i d made made' x l here pushed shown so_far =
    ap (map view) pushed ∙ map-append view made (x ∷ [])
    ∙ ap₂ (λ ys y. ys ++ y ∷ []) so_far (shown ∙ ap f here)
    ∙ sym (ap (map f) (take_more xs i d l) ∙ map-append f (take i xs) (get_or xs i d ∷ []))

-- one thing more of those that are made of the first elements
pub taken-more : {A Y : Type 0} (f : A → Y) (xs : List A) (i : ℕ) (d : A) (made made' : List Y) (y : Y) → i < length xs → d ≡ get_or xs i d → made' ≡ made ++ y ∷ [] → y ≡ f d → made ≡ map f (take i xs) → made' ≡ map f (take (i + 1) xs)
taken-more f xs i d made made' y l here pushed shown so_far =
    pushed ∙ ap₂ (λ ys z. ys ++ z ∷ []) so_far (shown ∙ ap f here) ∙ sym (ap (map f) (take_more xs i d l) ∙ map-append f (take i xs) (get_or xs i d ∷ []))

-- an update written again, and none if it would name no key
pub rewritten-some : (next : Option Bytes) (key value : Bytes) (said : Operation) (before at : Option ℕ) → Some said ≡ update_naming next key (Some value) → before ≡ at → Some (record { operation = said; before = before }) ≡ rewritten_naming next at key value
rewritten-some None key value said before at is there = cc
rewritten-some (Some n) key value said before at is there = ap₂ (λ op b. Some (record { operation = op; before = b })) (same_Some said (update key value (Some n)) is) there

pub rewritten-none : (next : Option Bytes) (key value : Bytes) (at : Option ℕ) → None ≡ update_naming next key (Some value) → None ≡ rewritten_naming next at key value
rewritten-none None key value at is = refl
rewritten-none (Some n) key value at is = cc
