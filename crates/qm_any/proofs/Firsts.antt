-- The first of a list's steps: those that are not applied yet, and the newest.
use Rattle.std.proofs.Common.{◌≡◌, ◌∙◌, ◌≤◌, ◌<◌, ◌+◌, ◌++◌, ◌∷◌, ℕ, List, [], true, false, ap, ap₂, sym, subst, arith, append_assoc, length, take, drop, map, get_or, ⊎_elim}
use Rattle.std.specs.Prelude.{nat_le}
use Rattle.std.proofs.lemmas.Bool.Decides.{leb_tells}
use Rattle.std.proofs.lemmas.List.{take_all, append-nil, map_more, drop_more}
use Rattle.std.proofs.Math.ListN.{drop_of_length-le}
use Rattle.std.proofs.Math.Seq.{drop-append_seam}
use Rattle.qm_model.specs.Batches.{Chain, own_operations}
use Rattle.qm_model.specs.Operations.{Operation}
use Rattle.qm_step.specs.Layers.{Layer, LeadThrough}
use Rattle.qm_any.specs.Databases.{Made, AreAgreed, AreJoined, bases, bases_of, unapplied}
use Rattle.qm_any.proofs.Unapplied.{unapplied-more, unapplied-none}

module _ {X : Type 0} (value : X → Layer) (n : ℕ) (steps : List X) where
  -- the first steps, so many, are not applied
  abbrev Passed : ℕ → Type 0
  Passed i = unapplied n (map value steps) ≡ map value (take i steps) ++ unapplied n (map value (drop i steps))

  from-here : (i : ℕ) (x : X) → i < length steps → x ≡ get_or steps i x → drop i steps ≡ x ∷ drop (i + 1) steps
  from-here i x within is = drop_more steps i x within ∙ ap (λ y. y ∷ drop (i + 1) steps) (sym is)

  -- nor is the next, if it starts where the list ends or later
  pub passed-one : (i : ℕ) (x : X) → i < length steps → x ≡ get_or steps i x → n ≤ (value x).base → Passed i → Passed (i + 1)
  passed-one i x within is from so_far =
      let front = map value (take i steps) in
      let rest = map value (drop (i + 1) steps) in
      let high = ⊎_elim (λ (h : (nat_le n (value x).base ≡ true) × (n ≤ (value x).base)). h.0) (λ (l : (nat_le n (value x).base ≡ false) × ((value x).base < n)). absurd (omega (arith, l.1, from))) (leb_tells n (value x).base) in
      so_far
      ∙ ap (λ xs. front ++ unapplied n (map value xs)) (from-here i x within is)
      ∙ ap (λ ls. front ++ ls) (unapplied-more n (value x) rest high)
      ∙ sym (append_assoc front (value x ∷ []) (unapplied n rest))
      ∙ ap (λ ls. ls ++ unapplied n rest) (ap (λ y. front ++ value y ∷ []) is ∙ sym (map_more value steps i x within))

  -- and these are all, if the next starts before
  pub passed-before : (i : ℕ) (x : X) → i < length steps → x ≡ get_or steps i x → (value x).base < n → Passed i → map value (take i steps) ≡ unapplied n (map value steps)
  passed-before i x within is before so_far =
      let front = map value (take i steps) in
      let rest = map value (drop (i + 1) steps) in
      let low = ⊎_elim (λ (h : (nat_le n (value x).base ≡ true) × (n ≤ (value x).base)). absurd (omega (arith, h.1, before))) (λ (l : (nat_le n (value x).base ≡ false) × ((value x).base < n)). l.0) (leb_tells n (value x).base) in
      sym (so_far
      ∙ ap (λ xs. front ++ unapplied n (map value xs)) (from-here i x within is)
      ∙ ap (λ ls. front ++ ls) (unapplied-none n (value x) rest low)
      ∙ append-nil front)

  -- or if there is no next
  pub passed-all : (i : ℕ) → length steps ≤ i → Passed i → map value steps ≡ unapplied n (map value steps)
  passed-all i past so_far =
      sym (so_far ∙ ap₂ (λ xs ys. map value xs ++ unapplied n (map value ys)) (take_all i steps past) (drop_of_length-le steps past) ∙ append-nil (map value steps))

module _ {X D : Type 0} (value : X → Layer) (batch : Made D) where
  -- the newest step of a batch puts its own operations after its base
  pub own-count : (steps : List X) (x : X) → map value steps ≡ batch.layers → AreAgreed batch → x ≡ get_or steps 0 x → batch.bounds.base.size + length (value x).operations ≡ batch.bounds.tip.size
  own-count [] x same agreed is = absurd (omega (arith, ap length (subst (λ ls. take 1 (bases ls) ≡ batch.bounds.base.size ∷ []) (sym same) agreed.own)))
  own-count (y ∷ ys) x same agreed is =
      let own : (value y).base ∷ [] ≡ batch.bounds.base.size ∷ [] = subst (λ ls. take 1 (bases ls) ≡ batch.bounds.base.size ∷ []) (sym same) agreed.own in
      let joined = subst (AreJoined batch.bounds.tip.size) (sym same) agreed.joined in
      omega (arith, ap (λ ns. get_or ns 0 0) own, ap (λ z. length (value z).operations) is, joined.0)

  -- which are what its list has after that base
  pub own-behind : (steps : List X) (x : X) (chain : Chain) (tip : List Operation) → map value steps ≡ batch.layers → LeadThrough batch.layers tip (bases_of chain) → x ≡ get_or steps 0 x → (value x).operations ≡ own_operations chain tip
  own-behind [] x chain tip same leads is = absurd (subst (λ ls. LeadThrough ls tip (bases_of chain)) (sym same) leads)
  own-behind (y ∷ ys) x chain tip same leads is =
      let step = subst (λ ls. LeadThrough ls tip (bases_of chain)) (sym same) leads in
      ap (λ z. (value z).operations) is ∙ sym (ap (drop (length chain.base)) step.0.list ∙ drop-append_seam chain.base (value y).operations)
