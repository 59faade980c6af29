-- Operations that the items of a store spell, of a list or not.
use Rattle.std.proofs.Common.{◌≡◌, ◌≤◌, ◌<◌, ◌+◌, ◌-◌, ◌∙◌, ℕ, zero, suc, List, [], ◌∷◌, ◌++◌, length, map, take, drop, refl, ap, sym, subst, arith, Option, Some, None, false, ◌⊎◌, inl, inr}
use Rattle.std.specs.Prelude.{IfSome, is_none, slice_get, option_and_then, option_map, filter_map}
use Rattle.std.proofs.lemmas.List.{length-map, length-append}
use Rattle.std.proofs.lemmas.Option.{same_Some, none-some, slice_get-map, slice_get_within, get_or_from_slice_get}
use Rattle.qm_model.specs.Forms.{Form, IsOf, IsSpelling, decoded, spelling}
use Rattle.qm_model.specs.Operations.{Bytes, Operation, delete}
use Rattle.qm_model.specs.StoreModel.{Stored}
use Rattle.qm_model.specs.Trees.{Shape}
use Rattle.qm_model.proofs.Forms.{IsSpelling-once, decoded-spelling}
use Rattle.qm_store.specs.declared.Store as store
use Rattle.qm_store.specs.Log.{Log}
use Rattle.qm_build.specs.Reads.{operation_at, operations_within, HasOperations, SpellsAt, Spells}
use Rattle.qm_build.proofs.Decoding.{below-or-at}
use Rattle.qm_build.proofs.Onward.{none-within, one-within}

-- what is told where it is known what is told
pub from-told : {X : Type 0} (P : X → Type 0) (o : Option X) (x : X) → o ≡ Some x → IfSome o P → P x
from-told P None x is p = absurd (none-some x is)
from-told P (Some y) x is p = subst P (same_Some y x is) p

pub use-told : {X : Type 0} {P : X → Type 0} {G : Type 0} (o : Option X) (x : X) → o ≡ Some x → IfSome o P → ((y : X) → y ≡ x → P y → G) → G
use-told None x is p next = absurd (none-some x is)
use-told (Some y) x is p next = next y (same_Some y x is) p

pub at-told : {X : Type 0} {P : X → Type 0} (o : Option X) → ((x : X) → o ≡ Some x → P x) → IfSome o P
at-told None all = tt
at-told (Some x) all = all x refl

-- an operation below the end
pub there-is : (ops : List Operation) (at : ℕ) → at < length ops → (op : Operation) × (slice_get ops at ≡ Some op)
there-is [] at less = absurd (omega (arith, less))
there-is (op ∷ ops) zero less = (op, refl)
there-is (op ∷ ops) (suc at) less = there-is ops at (omega (arith, less))

module _ (form : Form) (s : Stored) where
  pub same-spelled : (at : ℕ) (a b : Operation) → SpellsAt form s at a → SpellsAt form s at b → a ≡ b
  same-spelled at a b one two =
      IsSpelling-once form one.item a b one.spells (subst (λ bs. IsSpelling form bs b) (same_Some two.item one.item (sym two.here ∙ one.here)) two.spells)

  pub spelled-operation : (at : ℕ) (op : Operation) → SpellsAt form s at op → operation_at form s at ≡ Some op
  spelled-operation at op one =
      ap (option_and_then (decoded form)) one.here ∙ ap (decoded form) (sym one.spells.spelled) ∙ decoded-spelling form op one.spells.of

  pub spelled-some : (at : ℕ) (op : Operation) → SpellsAt form s at op → is_none (operation_at form s at) ≡ false
  spelled-some at op one = ap is_none (spelled-operation at op one)

  -- one location more
  pub spelled-more : (from at : ℕ) (op : Operation) → ((i : ℕ) → from ≤ i → i < at → (q : Operation) × SpellsAt form s i q) → SpellsAt form s at op → (i : ℕ) → from ≤ i → i < at + 1 → (q : Operation) × SpellsAt form s i q
  spelled-more from at op before here i low less = by (below-or-at i at (omega (arith, less)))
    where
      by : (i < at) ⊎ (i ≡ at) → (q : Operation) × SpellsAt form s i q
      by (inl less) = before i low less
      by (inr same) = (op, subst (λ n. SpellsAt form s n op) (sym same) here)

  last-of : (ops : List Operation) (op : Operation) (j : ℕ) (q : Operation) → slice_get (ops ++ op ∷ []) j ≡ Some q → (slice_get ops j ≡ Some q) ⊎ ((j ≡ length ops) × (op ≡ q))
  last-of [] op zero q is = inr (refl, same_Some op q is)
  last-of [] op (suc j) q is = absurd (none-some q is)
  last-of (x ∷ ops) op zero q is = inl is
  last-of (x ∷ ops) op (suc j) q is = by (last-of ops op j q is)
    where
      by : (slice_get ops j ≡ Some q) ⊎ ((j ≡ length ops) × (op ≡ q)) → (slice_get ops j ≡ Some q) ⊎ ((suc j ≡ suc (length ops)) × (op ≡ q))
      by (inl there) = inl there
      by (inr (end, same)) = inr (ap suc end, same)

  -- those within so many locations are all there, each at its own
  within-spelled : (from n : ℕ) → s.start ≤ from → ((i : ℕ) → from ≤ i → i < from + n → (q : Operation) × SpellsAt form s i q)
      → (length (operations_within form s from (from + n)) ≡ n) × ((j : ℕ) (op : Operation) → slice_get (operations_within form s from (from + n)) j ≡ Some op → SpellsAt form s (from + j) op)
  within-spelled from zero first each =
      let here : from + 0 ≡ from = omega arith in
      subst (λ to. (length (operations_within form s from to) ≡ 0) × ((j : ℕ) (op : Operation) → slice_get (operations_within form s from to) j ≡ Some op → SpellsAt form s (from + j) op)) (sym here)
      (subst (λ os. (length (filter_map (λ item. item) os) ≡ 0) × ((j : ℕ) (op : Operation) → slice_get (filter_map (λ item. item) os) j ≡ Some op → SpellsAt form s (from + j) op)) (sym (none-within form s from)) (refl, (λ j op is. absurd (none-some op is))))
  within-spelled from (suc n) first each =
      let before = within-spelled from n first (λ i low less. each i low (omega (arith, less))) in
      let op = (each (from + n) (omega arith) (omega arith)).0 in
      let here = (each (from + n) (omega arith) (omega arith)).1 in
      let next : from + n + 1 ≡ from + suc n = omega arith in
      let more = one-within form s from (from + n) op first (omega arith) (spelled-operation (from + n) op here) in
      subst (λ to. (length (operations_within form s from to) ≡ suc n) × ((j : ℕ) (op : Operation) → slice_get (operations_within form s from to) j ≡ Some op → SpellsAt form s (from + j) op)) next
      (subst (λ ops. (length ops ≡ suc n) × ((j : ℕ) (op : Operation) → slice_get ops j ≡ Some op → SpellsAt form s (from + j) op)) (sym more) (
        (let long = length-append (operations_within form s from (from + n)) (op ∷ []) in omega (arith, long, before.0)),
        (λ j q is. by op here before.0 before.1 j q (last-of (operations_within form s from (from + n)) op j q is)),
      ))
    where
      by : (op : Operation) → SpellsAt form s (from + n) op → length (operations_within form s from (from + n)) ≡ n
          → ((j : ℕ) (op : Operation) → slice_get (operations_within form s from (from + n)) j ≡ Some op → SpellsAt form s (from + j) op)
          → (j : ℕ) (q : Operation) → (slice_get (operations_within form s from (from + n)) j ≡ Some q) ⊎ ((j ≡ length (operations_within form s from (from + n))) × (op ≡ q)) → SpellsAt form s (from + j) q
      by op here long before j q (inl there) = before j q there
      by op here long before j q (inr (end, same)) =
          let place : from + n ≡ from + j = omega (arith, end, long) in
          subst (λ i. SpellsAt form s i q) place (subst (SpellsAt form s (from + n)) same here)

  -- with something before them they stand at their locations
  abbrev pub padded : ℕ → List Operation → List Operation
  padded zero ops = ops
  padded (suc n) ops = delete [] ∷ padded n ops

  pub padded-long : (n : ℕ) (ops : List Operation) → length (padded n ops) ≡ n + length ops
  padded-long zero ops = omega arith
  padded-long (suc n) ops = let rest = padded-long n ops in omega (arith, rest)

  pub padded-drop : (n : ℕ) (ops : List Operation) → drop n (padded n ops) ≡ ops
  padded-drop zero ops = refl
  padded-drop (suc n) ops = padded-drop n ops

  padded-at : (n : ℕ) (ops : List Operation) (at : ℕ) → n ≤ at → slice_get (padded n ops) at ≡ slice_get ops (at - n)
  padded-at zero ops at low = let same : at ≡ at - 0 = omega arith in ap (slice_get ops) same
  padded-at (suc n) ops zero low = absurd (omega (arith, low))
  padded-at (suc n) ops (suc at) low = let same : at - n ≡ suc at - suc n = omega arith in padded-at n ops at (omega (arith, low)) ∙ ap (slice_get ops) same

  -- the items from a location on spell what they spell
  pub store-spells : (from to : ℕ) → s.start ≤ from → from ≤ to → ((i : ℕ) → from ≤ i → i < to → (q : Operation) × SpellsAt form s i q)
      → (to ≡ length (padded from (operations_within form s from to))) × Spells form s from (padded from (operations_within form s from to))
  store-spells from to first low each =
      let end : from + (to - from) ≡ to = omega (arith, low) in
      let all = subst (λ e. (length (operations_within form s from e) ≡ to - from) × ((j : ℕ) (op : Operation) → slice_get (operations_within form s from e) j ≡ Some op → SpellsAt form s (from + j) op)) end
      (within-spelled from (to - from) first (λ i more less. each i more (omega (arith, less, low)))) in (
        (let long = padded-long from (operations_within form s from to) in omega (arith, long, all.0, low)),
        (λ at op more is.
            let place : from + (at - from) ≡ at = omega (arith, more) in
            subst (λ i. SpellsAt form s i op) place (all.1 (at - from) op (sym (padded-at from (operations_within form s from to) at more) ∙ is))),
      )

-- the items of a list's spellings spell it
drop-get : {X : Type 0} (n : ℕ) (xs : List X) (i : ℕ) → slice_get (drop n xs) i ≡ slice_get xs (n + i)
drop-get zero xs i = let same : i ≡ 0 + i = omega arith in ap (slice_get xs) same
drop-get (suc n) [] i = refl
drop-get (suc n) (x ∷ xs) i = let same : suc n + i ≡ suc (n + i) = omega arith in drop-get n xs i ∙ sym (ap (slice_get (x ∷ xs)) same)

take-get : {X : Type 0} (n : ℕ) (xs : List X) (i : ℕ) → i < n → slice_get (take n xs) i ≡ slice_get xs i
take-get zero xs i low = absurd (omega (arith, low))
take-get (suc n) [] i low = refl
take-get (suc n) (x ∷ xs) zero low = refl
take-get (suc n) (x ∷ xs) (suc i) low = take-get n xs i (omega (arith, low))

pub list-spells : {C D : Type 0} (members : store.Ghosts C) (shape : Shape) (bytes : D → Bytes) (hash : Bytes → Bytes) (form : Form) (log : Log C D) (ops : List Operation) (s : Stored) (from : ℕ)
    → HasOperations members shape bytes hash form log ops → members.told log.store ≡ Some s → s.start ≡ members.start log.store → log.tree.start ≤ from → Spells form s from ops
list-spells members shape bytes hash form log ops s from has told start low at op more is =
    let list = map (spelling form) ops in
    let held = from-told (λ (h : Stored). take (length list - log.tree.start) h.items ≡ drop log.tree.start list) (members.told log.store) s told has.logged.items in
    let within = slice_get_within ops at op is in
    let long : length list ≡ length ops = length-map ops (spelling form) in
    let start_is : s.start ≡ log.tree.start = start ∙ sym has.logged.start in
    let place : log.tree.start + (at - s.start) ≡ at = omega (arith, start_is, low, more) in
    let short : at - s.start < length list - log.tree.start = omega (arith, start_is, low, more, within, long) in
    record {
      item = spelling form op;
      here = sym (take-get (length list - log.tree.start) s.items (at - s.start) short) ∙ ap (λ l. slice_get l (at - s.start)) held ∙ drop-get log.tree.start list (at - s.start) ∙ ap (slice_get list) place
          ∙ slice_get-map (spelling form) ops at ∙ ap (option_map (spelling form)) is;
      spells = record { of = subst (IsOf form) (get_or_from_slice_get ops at op op is) (has.of at op within); spelled = refl };
    }
