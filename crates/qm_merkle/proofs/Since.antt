-- Layers that begin at so many leaves or later, and the lists that these lead through.
use Rattle.std.proofs.Common.{◌≡◌, ℕ, ◌<◌, ◌≤◌, Bool, true, false, List, [], ◌∷◌, length, arith, ap, sym, ◌∙◌, refl, subst, All, Contains, ⊎_elim}
use Rattle.std.specs.Prelude.{nat_le, filter}
use Rattle.std.proofs.lemmas.Bool.{cases_lt, cond-true, cond-false, cond_both, le-leb}
use Rattle.std.proofs.lemmas.List.Elements.{All-nil, All-cons}
use Rattle.std.proofs.lemmas.Bool.Decides.{leb_tells}
use Rattle.qm_model.specs.Operations.{Bytes}
use Rattle.qm_model.specs.Trees.{Shape}
use Rattle.qm_model.specs.Families.{Births, IsFamily, HasPeaks}
use Rattle.qm_model.proofs.Chains.{Contains-more}
use Rattle.qm_merkle.specs.Batches.{Layer, AreLinked, IsHistory, stops, layers_since, stops_since, lists_since}
use Rattle.qm_merkle.proofs.Histories.{first_or_other}
use Rattle.qm_merkle.proofs.Putting.{since-here, since-past, stops-below, lists-below, history-count}

less-leb : (n m : ℕ) → m < n → nat_le n m ≡ false
less-leb n m less = ⊎_elim
    (λ (high : (nat_le n m ≡ true) × (n ≤ m)). absurd (omega arith))
    (λ (low : (nat_le n m ≡ false) × (m < n)). low.0)
    (leb_tells n m)

leb-less : (n m : ℕ) → nat_le n m ≡ true → n ≤ m
leb-less n m is = ⊎_elim
    (λ (high : (nat_le n m ≡ true) × (n ≤ m)). high.1)
    (λ (low : (nat_le n m ≡ false) × (m < n)). absurd (cc (low.0, is)))
    (leb_tells n m)

-- a filter that keeps the first element, or none
filter-first : {X : Type 0} (test : X → Bool) (x : X) (xs : List X) → test x ≡ true → filter test (x ∷ xs) ≡ x ∷ filter test xs
filter-first test x xs passes = cond-true (test x) (x ∷ filter test xs) (filter test xs) passes

filter-none : {X : Type 0} (test : X → Bool) (xs : List X) → ((x : X) → Contains xs x → test x ≡ false) → filter test xs ≡ []
filter-none test [] fails = refl
filter-none test (x ∷ xs) fails =
    cond-false (test x) (x ∷ filter test xs) (filter test xs) (fails x (0, omega arith, refl))
    ∙ filter-none test xs (λ y found. fails y (Contains-more xs x y found))

-- an element that passes is kept
contains-passing : {X : Type 0} (test : X → Bool) (xs : List X) (x : X) → Contains xs x → test x ≡ true → Contains (filter test xs) x
contains-passing test [] x found passes = absurd (omega (arith, found.1))
contains-passing test (y ∷ ys) x found passes = ⊎_elim
    (λ (here : y ≡ x). subst (λ l. Contains l x) (sym (filter-first test y ys (ap test here ∙ passes))) (0, omega arith, here))
    (λ (more : Contains ys x).
    let rest = contains-passing test ys x more passes in
    cond_both (test y) (y ∷ filter test ys) (filter test ys) (λ l. Contains l x) (λ kept. Contains-more (filter test ys) y x rest) (λ gone. rest))
    (first_or_other y ys x found)

-- what holds of those that pass
all-passing : {X : Type 0} (test : X → Bool) (P : X → Type 0) (xs : List X) → ((x : X) → Contains xs x → test x ≡ true → P x) → All P (filter test xs)
all-passing test P [] holds = All-nil P
all-passing test P (x ∷ xs) holds =
    let rest = all-passing test P xs (λ y found passes. holds y (Contains-more xs x y found) passes) in
    cond_both (test x) (x ∷ filter test xs) (filter test xs) (All P) (λ kept. All-cons P x (filter test xs) (holds x (0, omega arith, refl) kept) rest) (λ gone. rest)

-- a stop, or a list, of so many leaves or more is one of those
pub stop-since : (leaves : ℕ) (stops : List ℕ) (n : ℕ) → Contains stops n → leaves ≤ n → Contains (stops_since leaves stops) n
stop-since leaves stops n found within = contains-passing (nat_le leaves) stops n found (le-leb leaves n within)

pub list-since : {X : Type 0} (leaves : ℕ) (lists : List (List X)) (list : List X) → Contains lists list → leaves ≤ length list → Contains (lists_since leaves lists) list
list-since leaves lists list found within = contains-passing (λ l. nat_le leaves (length l)) lists list found (le-leb leaves (length list) within)

-- and of those there is no other
pub lists-since : {X : Type 0} (leaves : ℕ) (P : List X → Type 0) (lists : List (List X)) → ((list : List X) → Contains lists list → leaves ≤ length list → P list) → All P (lists_since leaves lists)
lists-since leaves P lists holds = all-passing (λ l. nat_le leaves (length l)) P lists (λ list found passes. holds list found (leb-less leaves (length list) passes))

-- the first list is one of those
pub first-since : {X : Type 0} (leaves : ℕ) (new : List X) (lists : List (List X)) → leaves ≤ length new → lists_since leaves (new ∷ lists) ≡ new ∷ lists_since leaves lists
first-since leaves new lists within = filter-first (λ list. nat_le leaves (length list)) new lists (le-leb leaves (length new) within)

-- every layer begins at no leaves or later
pub since-all : {D : Type 0} (layers : List (Layer D)) → layers_since 0 layers ≡ layers
since-all [] = refl
since-all (layer ∷ older) = since-here 0 layer older (omega arith) ∙ ap (λ rest. layer ∷ rest) (since-all older)

module _ (shape : Shape) {D : Type 0} where
  -- they are linked
  pub linked-since : (leaves n : ℕ) (layers : List (Layer D)) → AreLinked shape n layers → AreLinked shape n (layers_since leaves layers)
  linked-since leaves n [] linked = tt
  linked-since leaves n (layer ∷ older) linked = ⊎_elim
      (λ (before : layer.tree.start < leaves). subst (AreLinked shape n) (sym (since-past leaves layer older before)) tt)
      (λ (from : leaves ≤ layer.tree.start). subst (AreLinked shape n) (sym (since-here leaves layer older from)) (linked.0, linked.1, linked-since leaves layer.tree.start older linked.2))
      (cases_lt layer.tree.start leaves)

  -- their stops are those at the leaves or past these
  pub stops-since : (leaves n : ℕ) (layers : List (Layer D)) → AreLinked shape n layers → leaves ≤ n → stops n (layers_since leaves layers) ≡ stops_since leaves (stops n layers)
  stops-since leaves n [] linked within = sym (filter-first (nat_le leaves) n [] (le-leb leaves n within))
  stops-since leaves n (layer ∷ older) linked within = ⊎_elim
      (λ (before : layer.tree.start < leaves).
      ap (stops n) (since-past leaves layer older before)
      ∙ ap (λ rest. n ∷ rest) (sym (filter-none (nat_le leaves) (stops layer.tree.start older)
      (λ x found. less-leb leaves x (omega (arith, stops-below shape layer.tree.start older x linked.2 found)))))
      ∙ sym (filter-first (nat_le leaves) n (stops layer.tree.start older) (le-leb leaves n within)))
      (λ (from : leaves ≤ layer.tree.start).
      ap (stops n) (since-here leaves layer older from)
      ∙ ap (λ rest. n ∷ rest) (stops-since leaves layer.tree.start older linked.2 from)
      ∙ sym (filter-first (nat_le leaves) n (stops layer.tree.start older) (le-leb leaves n within)))
      (cases_lt layer.tree.start leaves)

  module _ (births : Births) (family : IsFamily shape births) (peaked : HasPeaks shape) (bytes : D → Bytes) (hash : Bytes → Bytes) where
    -- they lead through the lists of as many leaves or more
    pub history-since : (leaves n : ℕ) (layers : List (Layer D)) (new : List Bytes) (lists : List (List Bytes)) → AreLinked shape n layers → leaves ≤ length new → IsHistory shape bytes hash layers (new ∷ lists) →
        IsHistory shape bytes hash (layers_since leaves layers) (lists_since leaves (new ∷ lists))
    history-since leaves n [] new [] linked within history = subst (IsHistory shape bytes hash []) (sym (first-since leaves new [] within)) tt
    history-since leaves n [] new (more ∷ lists) linked within history = absurd history
    history-since leaves n (layer ∷ older) new [] linked within history = absurd history
    history-since leaves n (layer ∷ older) new (old ∷ lists) linked within history = ⊎_elim
        (λ (before : layer.tree.start < leaves).
        let none : lists_since leaves (old ∷ lists) ≡ [] = filter-none (λ list. nat_le leaves (length list)) (old ∷ lists)
        (λ list found. less-leb leaves (length list) (omega (arith, history.0.start, lists-below shape births family peaked bytes hash layer.tree.start older old lists list linked.2 history.1 found))) in
        subst (λ ls. IsHistory shape bytes hash ls (lists_since leaves (new ∷ old ∷ lists))) (sym (since-past leaves layer older before))
        (subst (IsHistory shape bytes hash []) (sym (first-since leaves new (old ∷ lists) within ∙ ap (λ rest. new ∷ rest) none)) tt))
        (λ (from : leaves ≤ layer.tree.start).
        let next : leaves ≤ length old = omega (arith, history.0.start) in
        let first = first-since leaves old lists next in
        let rest = subst (IsHistory shape bytes hash (layers_since leaves older)) first (history-since leaves layer.tree.start older old lists linked.2 next history.1) in
        subst (λ ls. IsHistory shape bytes hash ls (lists_since leaves (new ∷ old ∷ lists))) (sym (since-here leaves layer older from))
        (subst (IsHistory shape bytes hash (layer ∷ layers_since leaves older)) (sym (first-since leaves new (old ∷ lists) within ∙ ap (λ rest. new ∷ rest) first)) (history.0, rest)))
        (cases_lt layer.tree.start leaves)

    -- and so do those of a batch
    pub batch-since : (leaves n : ℕ) (layer : Layer D) (older : List (Layer D)) (lists : List (List Bytes)) → AreLinked shape n (layer ∷ older) → leaves ≤ layer.tree.leaves → IsHistory shape bytes hash (layer ∷ older) lists →
        IsHistory shape bytes hash (layers_since leaves (layer ∷ older)) (lists_since leaves lists)
    batch-since leaves n layer older [] linked within history = absurd history
    batch-since leaves n layer older (new ∷ lists) linked within history =
        history-since leaves n (layer ∷ older) new lists linked (omega (arith, history-count shape births family peaked bytes hash layer older new lists history)) history
