-- The trees that batches keep, over a log at one of their lists.
use Rattle.std.proofs.Common.{◌≡◌, ℕ, ◌≤◌, ◌+◌, List, [], ◌∷◌, ◌++◌, length, refl, sym, ◌∙◌, ap, ap₂, subst, arith, Contains, All, Option, Some, None, IfSome, Result, Ok, Err, IfOk}
use Rattle.std.proofs.lemmas.List.{length-append}
use Rattle.std.proofs.lemmas.List.Elements.{All-nil, All-cons, All-contains, All-weaker}
use Rattle.qm_model.specs.Operations.{Bytes}
use Rattle.qm_model.specs.Trees.{Shape}
use Rattle.qm_model.proofs.Chains.{Contains-first, Contains-more}
use Rattle.qm_merkle.specs.Batches.{Layer, Batch, all_layers, stops, stops_since, lists_since, IsHistory}
use Rattle.qm_merkle.proofs.Since.{list-since, lists-since, first-since, stops-since}
use Rattle.qm_store.specs.Log.{digests_from}
use Rattle.qm_store.specs.KeptTrees.{KeptTree, IsAdding, IsKeptTree, layers_of, leaves_of}
use Rattle.qm_store.proofs.Leaves.{digests_from-append, length-digests_from}

-- a list of one has no other
pub only-one : {A : Type 0} (x y : A) → Contains (x ∷ []) y → x ≡ y
only-one x y found = All-contains (λ z. x ≡ z) (x ∷ []) y (All-cons (λ z. x ≡ z) x [] refl (All-nil (λ z. x ≡ z))) found

-- with no layers there is one stop
pub rest-stop : {D : Type 0} (leaves n : ℕ) (layers : List (Layer D)) → layers ≡ [] → Contains (stops leaves layers) n → leaves ≡ n
rest-stop leaves n layers none reach = only-one leaves n (subst (λ l. Contains (stops leaves l) n) none reach)

-- the tree of a batch
pub tree-of : {D : Type 0} (tree : KeptTree D) (leaves : ℕ) (held : Option (Batch D)) (batch : Batch D) → tree ≡ record { leaves = leaves; layers = layers_of held } → held ≡ Some batch → IfSome held (λ b. b.newest.tree.leaves ≡ leaves)
    → tree ≡ record { leaves = batch.newest.tree.leaves; layers = all_layers batch }
tree-of {D = D} tree leaves held batch view is count =
    let made : ℕ → Option (Batch D) → KeptTree D = λ n o. record { leaves = n; layers = layers_of o } in
    view ∙ ap₂ made (sym (subst (λ o. IfSome o (λ b. b.newest.tree.leaves ≡ leaves)) is count)) is

-- the tree of none
pub rest-of : {D : Type 0} (tree : KeptTree D) (leaves : ℕ) (held : Option (Batch D)) → tree ≡ record { leaves = leaves; layers = layers_of held } → held ≡ None → tree ≡ record { leaves = leaves; layers = [] }
rest-of {D = D} tree leaves held view is =
    let made : Option (Batch D) → KeptTree D = λ o. record { leaves = leaves; layers = layers_of o } in
    view ∙ ap made is

-- the stops of a first batch after it
pub rest-stops : {D E : Type 0} (shape : Shape) (made : Result (Batch D) E) (tree : KeptTree D) (n boundary : ℕ) → tree.layers ≡ [] → tree.leaves ≡ n → boundary ≤ n
    → IfOk made (λ b. b.older ≡ []) → IfOk made (λ b. b.newest.tree.start ≡ n) → IfOk made (λ b. stops b.newest.tree.leaves (all_layers b) ≡ b.newest.tree.leaves ∷ stops_since boundary (stops tree.leaves tree.layers))
rest-stops shape (Err e) tree n boundary none last within older start = tt
rest-stops {D = D} shape (Ok b) tree n boundary none last within older start =
    ap (λ ns. b.newest.tree.leaves ∷ ns) (ap₂ stops start older ∙ stops-since shape {D = D} boundary n [] tt within ∙ ap (stops_since boundary) (sym (ap₂ stops last none)))

module _ (hash : Bytes → Bytes) (shape : Shape) where
  -- lists of the same leaves have the same leaves with more after them
  behind-same : (xs ys more : List Bytes) → digests_from hash shape 0 xs ≡ digests_from hash shape 0 ys → digests_from hash shape 0 (xs ++ more) ≡ digests_from hash shape 0 (ys ++ more)
  behind-same xs ys more same =
      let long : length xs ≡ length ys = sym (length-digests_from hash shape 0 xs) ∙ ap length same ∙ length-digests_from hash shape 0 ys in
      digests_from-append hash shape 0 xs more ∙ ap₂ (λ ds n. ds ++ digests_from hash shape (0 + n) more) same long ∙ sym (digests_from-append hash shape 0 ys more)

  module _ {D : Type 0} (bytes : D → Bytes) where
    -- if there are no layers there is one list
    one-list : (leaves : List Bytes) (lists : List (List Bytes)) → IsHistory {D = D} shape bytes hash [] (leaves ∷ lists) → lists ≡ []
    one-list leaves [] history = refl
    one-list leaves (more ∷ lists) history = absurd history

    -- so the list of a history is each that it contains
    pub rest-list : (layers : List (Layer D)) (new list : List Bytes) (lists : List (List Bytes)) → layers ≡ [] → IsHistory shape bytes hash layers (new ∷ lists) → Contains (new ∷ lists) list → new ≡ list
    rest-list layers new list lists none history found =
        let alone = one-list new lists (subst (λ l. IsHistory shape bytes hash l (new ∷ lists)) none history) in
        only-one new list (subst (λ l. Contains (new ∷ l) list) alone found)

    -- so the tree of a list in it is the only one, and grows as that of any other list of the same leaves
    pub rest-grown : (layers : List (Layer D)) (list base more : List Bytes) (lists : List (List Bytes)) (boundary : ℕ) → layers ≡ [] → boundary ≤ length list → IsHistory shape bytes hash layers (leaves_of hash shape base ∷ lists)
        → Contains (leaves_of hash shape base ∷ lists) (leaves_of hash shape list)
        → (leaves_of hash shape (list ++ more) ∷ leaves_of hash shape list ∷ []) ≡ (leaves_of hash shape (base ++ more) ∷ lists_since boundary (leaves_of hash shape base ∷ lists))
    rest-grown layers list base more lists boundary none within history found =
        let own = leaves_of hash shape base in
        let alone = one-list own lists (subst (λ l. IsHistory shape bytes hash l (own ∷ lists)) none history) in
        let are : own ≡ leaves_of hash shape list = only-one own (leaves_of hash shape list) (subst (λ l. Contains (own ∷ l) (leaves_of hash shape list)) alone found) in
        let long : boundary ≤ length own = omega (arith, within, ap length are, length-digests_from hash shape 0 list) in
        ap₂ (λ d l. d ∷ l) (behind-same list base more (sym are)) (ap (λ d. d ∷ []) (sym are) ∙ sym (first-since boundary own [] long) ∙ ap (λ l. lists_since boundary (own ∷ l)) (sym alone))

    module _ (tree : KeptTree D) (list : List Bytes) (older : List (List Bytes)) (kept : IsKeptTree bytes hash shape tree list older) where
      -- the layers lead through the leaves of each of the lists
      pub kept-among : (log : List Bytes) → Contains (list ∷ older) log → Contains (leaves_of hash shape list ∷ kept.lists) (leaves_of hash shape log)
      kept-among log found =
          let own = leaves_of hash shape list in
          let among : List Bytes → Type 0 = λ l. Contains (own ∷ kept.lists) (leaves_of hash shape l) in
          All-contains among (list ∷ older) log (All-cons among list older (Contains-first own kept.lists) kept.through) found

      -- its layers lead to its leaves, and through those of each of the lists
      pub kept-through : (layers : List (Layer D)) → tree.layers ≡ layers → (log : List Bytes) → Contains (list ∷ older) log
          → IsHistory shape bytes hash layers (leaves_of hash shape list ∷ kept.lists) × Contains (leaves_of hash shape list ∷ kept.lists) (leaves_of hash shape log)
      kept-through layers are log found = (subst (λ l. IsHistory shape bytes hash l (leaves_of hash shape list ∷ kept.lists)) are kept.history, kept-among log found)

      -- of a tree at rest all lists have the same leaves
      pub rest-same : (log : List Bytes) → tree.layers ≡ [] → Contains (list ∷ older) log → leaves_of hash shape log ≡ leaves_of hash shape list
      rest-same log none found =
          let own = leaves_of hash shape list in
          let alone = one-list own kept.lists (subst (λ l. IsHistory shape bytes hash l (own ∷ kept.lists)) none kept.history) in
          sym (only-one own (leaves_of hash shape log) (subst (λ l. Contains (own ∷ l) (leaves_of hash shape log)) alone (kept-among log found)))

      -- a tree that leads through fewer lists
      pub kept-fewer : (fewer : List (List Bytes)) → All (Contains older) fewer → IsKeptTree bytes hash shape tree list fewer
      kept-fewer fewer among =
          let through : List Bytes → Type 0 = λ l. Contains (leaves_of hash shape list ∷ kept.lists) (leaves_of hash shape l) in
          record {
            leaves = kept.leaves;
            lists = kept.lists;
            history = kept.history;
            adding = kept.adding;
            through = All-weaker (Contains older) through (λ l found. All-contains through older l kept.through found) fewer among;
          }

      -- the tree with items' leaves after it, that leads through the lists of as many items as a boundary or more
      pub kept-grown : (next : KeptTree D) (more : List Bytes) (boundary : ℕ) → next.leaves ≡ tree.leaves + length more
          → IsHistory shape bytes hash next.layers (leaves_of hash shape (list ++ more) ∷ lists_since boundary (leaves_of hash shape list ∷ kept.lists)) → All (IsAdding shape) next.layers
          → IsKeptTree bytes hash shape next (list ++ more) (lists_since boundary (list ∷ older))
      kept-grown next more boundary long history adding =
          let own = leaves_of hash shape list in
          let new = leaves_of hash shape (list ++ more) in
          let rest = lists_since boundary (own ∷ kept.lists) in
          record {
            leaves = omega (arith, long, kept.leaves, length-append list more);
            lists = rest;
            history = history;
            adding = adding;
            through = lists-since boundary (λ l. Contains (new ∷ rest) (leaves_of hash shape l)) (list ∷ older)
                (λ l found within. Contains-more rest new (leaves_of hash shape l)
                (list-since boundary (own ∷ kept.lists) (leaves_of hash shape l) (kept-among l found) (omega (arith, within, length-digests_from hash shape 0 l))));
          }
