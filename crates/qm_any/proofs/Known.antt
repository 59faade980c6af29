-- The lists of a chain, and where steps start from them.
use Rattle.std.proofs.Common.{◌≡◌, ◌∙◌, ap, ap₂, sym, subst, refl, inl, inr, arith, ◌≤◌, ℕ, zero, suc, List, [], ◌∷◌, ◌++◌, length, map, take, get_or}
use Rattle.std.specs.Prelude.{Contains}
use Rattle.std.proofs.lemmas.List.{length-map}
use Rattle.qm_model.specs.Operations.{Bytes, Operation}
use Rattle.qm_model.specs.Batches.{Commitment, Chain, Kept, IsKnown, IsOnChain, boundary_list, oldest_base, commitment}
use Rattle.qm_model.proofs.Chains.{Contains-first, Contains-more}
use Rattle.qm_step.specs.Bases.{IsBase}
use Rattle.qm_step.specs.Layers.{LeadOver}
use Rattle.qm_any.specs.Layouts.{Hashing, list_root}
use Rattle.qm_any.specs.Databases.{Made, IsMade, base_of, AreLinked, bases_of, kept_by, child_boundary, child_tips, list_commitment}

-- what a list has, the images have
pub contains-mapped : {X Y : Type 0} (f : X → Y) (xs : List X) (x : X) → Contains xs x → Contains (map f xs) (f x)
contains-mapped f [] x has = absurd (omega (arith, has.1))
contains-mapped f (y ∷ xs) x (zero, within, is) = (0, omega arith, ap f is)
contains-mapped f (y ∷ xs) x (suc k, within, is) = Contains-more (map f xs) (f y) (f x) (contains-mapped f xs x (k, omega arith, is))

-- what a list's first elements contain, it contains
take-contains : {A : Type 0} (n : ℕ) (xs : List A) (x : A) → Contains (take n xs) x → Contains xs x
take-contains zero xs x (i, within, is) = absurd (omega arith)
take-contains (suc n) [] x h = h
take-contains (suc n) (y ∷ ys) x (zero, within, is) = (0, omega arith, is)
take-contains (suc n) (y ∷ ys) x (suc i, within, is) = Contains-more ys y x (take-contains n ys x (i, omega arith, is))

-- the same with one more in front
more-contains : {A : Type 0} (y : A) (n : ℕ) (xs : List A) (x : A) → Contains (y ∷ take n xs) x → Contains (y ∷ xs) x
more-contains y n xs x h = take-contains (suc n) (y ∷ xs) x h

-- the first of the views are the views of the first
take-views : {A B : Type 0} (f : A → B) (n : ℕ) (xs : List A) → map f (take n xs) ≡ take n (map f xs)
take-views f zero xs = refl
take-views f (suc n) [] = refl
take-views f (suc n) (x ∷ xs) = ap (λ rest. f x ∷ rest) (take-views f n xs)

-- the oldest base is a list from which a step starts
oldest-in : (base : List Operation) (kept : List Kept) → Contains (base ∷ map (λ (k : Kept). k.base) kept) (oldest_base base kept)
oldest-in base [] = Contains-first base []
oldest-in base (k ∷ ks) = Contains-more (k.base ∷ map (λ (k : Kept). k.base) ks) base (oldest_base k.base ks) (oldest-in k.base ks)

-- each kept tip is the base of the newer one
tip-in : (base : List Operation) (kept : List Kept) (list : List Operation) → AreLinked base kept → Contains (map (λ (k : Kept). k.tip) kept) list → Contains (base ∷ map (λ (k : Kept). k.base) kept) list
tip-in base [] list linked (i, within, is) = absurd (omega arith)
tip-in base (k ∷ ks) list linked (zero, within, is) = (0, omega arith, sym linked.0 ∙ is)
tip-in base (k ∷ ks) list linked (suc i, within, is) = Contains-more (k.base ∷ map (λ (k : Kept). k.base) ks) base list (tip-in k.base ks list linked.1 (i, omega arith, is))

-- the first of linked ancestors are linked
linked-take : (n : ℕ) (base : List Operation) (kept : List Kept) → AreLinked base kept → AreLinked base (take n kept)
linked-take zero base kept linked = tt
linked-take (suc n) base [] linked = tt
linked-take (suc n) base (k ∷ ks) linked = (linked.0, linked-take n k.base ks linked.1)

-- a list on a chain is one from which a step starts
pub on_chain-base : (list : List Operation) (chain : Chain) → AreLinked chain.base chain.kept → IsOnChain list chain → Contains (bases_of chain) list
on_chain-base list chain linked (inl is) = subst (Contains (bases_of chain)) (sym is) (oldest-in chain.base chain.kept)
on_chain-base list chain linked (inr found) = tip-in chain.base chain.kept list linked found

-- a list that a batch knows is its tip or one of these
pub known-base : (list : List Operation) (chain : Chain) (tip : List Operation) → AreLinked chain.base chain.kept → IsKnown list chain tip → Contains (tip ∷ bases_of chain) list
known-base list chain tip linked (inl is) = subst (Contains (tip ∷ bases_of chain)) (sym is) (Contains-first tip (bases_of chain))
known-base list chain tip linked (inr on) = Contains-more (bases_of chain) tip list (on_chain-base list chain linked on)

-- what a child keeps is linked
pub child-linked : (keep : ℕ) (above : Chain) (tip : List Operation) → AreLinked above.base above.kept → AreLinked tip (kept_by keep above tip)
child-linked keep above tip linked = linked-take keep tip (record { base = above.base; tip = tip } ∷ above.kept) (refl, linked)

-- and starts from the first lists from which the parent's steps start
pub child-bases : (keep : ℕ) (above : Chain) (tip : List Operation) → map (λ k. k.base) (kept_by keep above tip) ≡ take keep (bases_of above)
child-bases keep above tip = take-views (λ (k : Kept). k.base) keep (record { base = above.base; tip = tip } ∷ above.kept)

module _ (root : List Operation → Bytes) where
  -- what stands for kept tips and the boundary, from the newest on: that of the boundary if only so many are kept
  boundary-at : (base : List Operation) (kept : List Kept) (n : ℕ) (d : Commitment) → AreLinked base kept → n ≤ length kept
      → get_or (map (λ (k : Kept). commitment root k.tip) kept ++ commitment root (oldest_base base kept) ∷ []) n d ≡ commitment root (oldest_base base (take n kept))
  boundary-at base [] zero d linked few = refl
  boundary-at base [] (suc n) d linked few = absurd (omega arith)
  boundary-at base (k ∷ ks) zero d linked few = ap (commitment root) linked.0
  boundary-at base (k ∷ ks) (suc n) d linked few = boundary-at k.base ks n d linked.1 (omega arith)

  -- and those of the kept tips
  tips-at : (kept : List Kept) (n : ℕ) (last : Commitment) → n ≤ length kept
      → take n (map (λ (k : Kept). commitment root k.tip) kept ++ last ∷ []) ≡ map (λ (k : Kept). commitment root k.tip) (take n kept)
  tips-at kept zero last few = refl
  tips-at [] (suc n) last few = absurd (omega arith)
  tips-at (k ∷ ks) (suc n) last few = ap (λ rest. commitment root k.tip ∷ rest) (tips-at ks n last (omega arith))

module _ {D : Type 0} {hashing : Hashing D} where
  -- a list that a merkleized batch knows is one on the way to its tip
  pub made-base : (batch : Made D) (list : List Operation) (chain : Chain) (tip : List Operation) → IsMade hashing batch chain tip → IsKnown list chain tip → LeadOver batch.layers list tip
  made-base batch list chain tip made known = record { older = bases_of chain; steps = made.steps; among = known-base list chain tip made.linked known }

  -- the parent of a child knows its base list, to which its steps lead over a list on the child's chain
  pub child-base : (parent : Made D) (keep : ℕ) (list : List Operation) (chain above : Chain) → IsMade hashing parent above chain.base → chain.kept ≡ kept_by keep above chain.base → IsOnChain list chain
      → IsBase (base_of parent) list chain.base
  child-base parent keep list chain above made kept on =
      let linked = subst (AreLinked chain.base) (sym kept) (child-linked keep above chain.base made.linked) in
      let bases = ap (map (λ (k : Kept). k.base)) kept ∙ child-bases keep above chain.base in
      record {
        leads = record {
          older = bases_of above;
          steps = made.steps;
          among = more-contains chain.base keep (bases_of above) list (subst (λ bs. Contains (chain.base ∷ bs) list) bases (on_chain-base list chain linked on));
        };
        size = ap (λ k. k.size) made.bounds.tip;
        floor = made.lowest;
        live = made.live;
      }

  -- so many are no more than the chain keeps
  kept-few : (parent : Made D) (n : ℕ) (above : Chain) (tip : List Operation) → suc n ≤ suc (length parent.bounds.ancestors) → IsMade hashing parent above tip → n ≤ length above.kept
  kept-few parent n above tip few made =
      let count : length parent.bounds.ancestors ≡ length above.kept = ap length made.bounds.ancestors ∙ length-map above.kept (λ (k : Kept). commitment (list_root hashing) k.tip) in
      omega (arith, few, count)

  -- what stands for the boundary of a child's chain, and for its kept tips
  pub child-boundary : (parent : Made D) (keep : ℕ) (chain above : Chain) → keep ≤ suc (length parent.bounds.ancestors) → IsMade hashing parent above chain.base → chain.kept ≡ kept_by keep above chain.base
      → child_boundary keep parent.bounds ≡ list_commitment hashing (boundary_list chain)
  child-boundary parent zero chain above few made kept = made.bounds.tip ∙ ap (λ ks. list_commitment hashing (oldest_base chain.base ks)) (sym kept)
  child-boundary parent (suc n) chain above few made kept =
      ap₂ (λ tips db. get_or (tips ++ db ∷ []) n parent.bounds.db) made.bounds.ancestors made.bounds.db
      ∙ boundary-at (list_root hashing) above.base above.kept n parent.bounds.db made.linked (kept-few parent n above chain.base few made)
      ∙ ap (λ ks. list_commitment hashing (oldest_base chain.base ks)) (sym kept)

  pub child-tips : (parent : Made D) (keep : ℕ) (chain above : Chain) → keep ≤ suc (length parent.bounds.ancestors) → IsMade hashing parent above chain.base → chain.kept ≡ kept_by keep above chain.base
      → child_tips keep parent.bounds ≡ map (λ (k : Kept). list_commitment hashing k.tip) chain.kept
  child-tips parent zero chain above few made kept = ap (map (λ (k : Kept). list_commitment hashing k.tip)) (sym kept)
  child-tips parent (suc n) chain above few made kept =
      ap₂ (λ tip rest. tip ∷ rest) made.bounds.tip
      (ap₂ (λ tips db. take n (tips ++ db ∷ [])) made.bounds.ancestors made.bounds.db
      ∙ tips-at (list_root hashing) above.kept n (list_commitment hashing (boundary_list above)) (kept-few parent n above chain.base few made))
      ∙ ap (map (λ (k : Kept). list_commitment hashing k.tip)) (sym kept)
