-- Layers are put into a tree.
use Rattle.std.proofs.Common.{◌≡◌, ◌≢◌, ℕ, zero, suc, ◌+◌, ◌-◌, ◌<◌, ◌≤◌, true, false, List, [], ◌∷◌, ◌++◌, length, map, take, drop, get_or, arith, ap, ap₂, sym, ◌∙◌, refl, subst, Option, Some, None, All, Contains, MatchOption, ⊎_elim, le_refl}
use Rattle.std.specs.Prelude.{slice_get, option_map, if◌then◌else◌, nat_le, ⊤}
use Rattle.std.specs.Option.{option_or}
use Rattle.std.specs.Ordering.{nat_cmp, is_eq}
use Rattle.std.specs.Map.{keys_of}
use Rattle.std.specs.BTreeMap.{is_at}
use Rattle.std.specs.List.Sorted.{IsStrictlySortedBy}
use Rattle.std.proofs.Math.ListN.{set}
use Rattle.std.proofs.lemmas.Bool.{cases_eq, cases_lt, le-leb}
use Rattle.std.proofs.lemmas.Bool.Decides.{leb_tells}
use Rattle.std.proofs.lemmas.Cmp.{nat_cmp_total, eq_by_cmp_equiv}
use Rattle.std.proofs.lemmas.Option.{same_Some, slice_get_past, slice_get_within, get_or_from_slice_get}
use Rattle.std.proofs.lemmas.Map.{lookup-none}
use Rattle.std.proofs.lemmas.Map.Entries.{lookup_head, lookup_tail, none_past_head}
use Rattle.std.proofs.lemmas.Map.Keys.{IsDistinct-from_sorted, sorted_tail}
use Rattle.qm_model.specs.Operations.{Bytes}
use Rattle.qm_model.specs.Trees.{Shape, Node, peaks, peak_positions, digest_of}
use Rattle.qm_model.specs.Families.{Births, IsFamily, HasPeaks}
use Rattle.qm_merkle.specs.Mems.{Kept, IsWhole, Stands, Gives, node_at}
use Rattle.qm_merkle.specs.Batches.{Layer, Batch, all_layers, AreLinked, IsHistory, stops, layers_since, found_at, layer_at, layers_at}
use Rattle.qm_merkle.proofs.Numbering.{stands_past}
use Rattle.qm_merkle.proofs.Lookups.{node_at-past}
use Rattle.qm_merkle.proofs.Growth.{slice_get-left, slice_get-right}
use Rattle.qm_merkle.proofs.Histories.{first_or_other, option_or-assoc, layer_at-past, layer_at-before, layers_lead}

-- an element that was replaced, and the others
slice_get-set : {X : Type 0} (xs : List X) (i : ℕ) (x : X) → i < length xs → slice_get (set xs i x) i ≡ Some x
slice_get-set [] i x lt = absurd (omega arith)
slice_get-set (y ∷ xs) zero x lt = refl
slice_get-set (y ∷ xs) (suc i) x lt = slice_get-set xs i x (omega arith)

slice_get-set_other : {X : Type 0} (xs : List X) (i j : ℕ) (x : X) → j ≢ i → slice_get (set xs i x) j ≡ slice_get xs j
slice_get-set_other [] i j x ne = refl
slice_get-set_other (y ∷ xs) zero zero x ne = absurd (ne refl)
slice_get-set_other (y ∷ xs) zero (suc j) x ne = refl
slice_get-set_other (y ∷ xs) (suc i) zero x ne = refl
slice_get-set_other (y ∷ xs) (suc i) (suc j) x ne = slice_get-set_other xs i j x (λ e. ne (ap suc e))

same_number : (n : ℕ) → is_eq (nat_cmp n n) ≡ true
same_number n = grind arith

other_number : (n p : ℕ) → n ≢ p → is_eq (nat_cmp n p) ≡ false
other_number n p ne = grind arith

module _ {D : Type 0} where
  abbrev pub AreSorted : List (ℕ × D) → Type 0
  AreSorted entries = IsStrictlySortedBy nat_cmp (keys_of entries)

  found_at-here : (p : ℕ) (d : D) (rest : List (ℕ × D)) → found_at ((p, d) ∷ rest) p ≡ Some d
  found_at-here p d rest = lookup_head (is_at (nat_cmp p)) (p, d) rest (same_number p)

  found_at-other : (p n : ℕ) (d : D) (rest : List (ℕ × D)) → n ≢ p → found_at ((p, d) ∷ rest) n ≡ found_at rest n
  found_at-other p n d rest ne = lookup_tail (is_at (nat_cmp n)) (p, d) rest (other_number n p ne)

  found_at-later : (p : ℕ) (d : D) (rest : List (ℕ × D)) → AreSorted ((p, d) ∷ rest) → found_at rest p ≡ None
  found_at-later p d rest sorted =
      lookup-none (is_at (nat_cmp p)) rest
      (none_past_head (eq_by_cmp_equiv nat_cmp_total) p (p, d) rest (IsDistinct-from_sorted nat_cmp (p ∷ keys_of rest) sorted) (same_number p))

  -- nodes that stand from a position on, when the entries up to the rest have replaced theirs
  pub record AreReplaced (size : ℕ) (entries : List (ℕ × D)) (old : List D) (rest : List (ℕ × D)) (nodes : List D) : Type 0 where
    pub sorted : AreSorted rest
    pub each : (i : ℕ) → i < length old → option_or (found_at rest (size + i)) (slice_get nodes i) ≡ option_or (found_at entries (size + i)) (slice_get old i)

  module _ (size p : ℕ) (d : D) (entries rest next : List (ℕ × D)) (old nodes : List D) (replaced : AreReplaced size entries old rest nodes) (is : rest ≡ (p, d) ∷ next) where
    sorted_here : AreSorted ((p, d) ∷ next)
    sorted_here = subst AreSorted is replaced.sorted

    each_here : (i : ℕ) → i < length old → option_or (found_at ((p, d) ∷ next) (size + i)) (slice_get nodes i) ≡ option_or (found_at entries (size + i)) (slice_get old i)
    each_here i lt = ap (λ es. option_or (found_at es (size + i)) (slice_get nodes i)) (sym is) ∙ replaced.each i lt

    -- the first of the rest replaces a node
    pub one_replaced : size ≤ p → p - size < length nodes → AreReplaced size entries old next (set nodes (p - size) d)
    one_replaced from lt = record {
      sorted = sorted_tail nat_cmp p (keys_of next) sorted_here;
      each = λ i within. ⊎_elim
          (λ (here : size + i ≡ p).
          let at : i ≡ p - size = omega arith in
          ap₂ option_or (ap (found_at next) here ∙ found_at-later p d next sorted_here) (ap (slice_get (set nodes (p - size) d)) at ∙ slice_get-set nodes (p - size) d lt)
          ∙ sym (ap (λ o. option_or o (slice_get nodes i)) (ap (found_at ((p, d) ∷ next)) here ∙ found_at-here p d next)) ∙ each_here i within)
          (λ (other : size + i ≢ p).
          ap₂ option_or (sym (found_at-other p (size + i) d next other)) (slice_get-set_other nodes (p - size) i d (λ e. other (omega arith))) ∙ each_here i within)
          (cases_eq (size + i) p);
    }

    -- it stands elsewhere
    pub none_replaced : ((i : ℕ) → i < length old → size + i ≢ p) → AreReplaced size entries old next nodes
    none_replaced apart = record {
      sorted = sorted_tail nat_cmp p (keys_of next) sorted_here;
      each = λ i lt. ap (λ o. option_or o (slice_get nodes i)) (sym (found_at-other p (size + i) d next (apart i lt))) ∙ each_here i lt;
    }

  -- the newest layer begins at the leaves or later, or before
  pub since-here : (leaves : ℕ) (layer : Layer D) (older : List (Layer D)) → leaves ≤ layer.tree.start → layers_since leaves (layer ∷ older) ≡ layer ∷ layers_since leaves older
  since-here leaves layer older from = ap (λ b. if b then layer ∷ layers_since leaves older else []) (le-leb _ _ from)

  pub since-past : (leaves : ℕ) (layer : Layer D) (older : List (Layer D)) → layer.tree.start < leaves → layers_since leaves (layer ∷ older) ≡ []
  since-past leaves layer older before = ⊎_elim
      (λ (high : (nat_le leaves layer.tree.start ≡ true) × (leaves ≤ layer.tree.start)). absurd (omega arith))
      (λ (low : (nat_le leaves layer.tree.start ≡ false) × (layer.tree.start < leaves)). ap (λ b. if b then layer ∷ layers_since leaves older else []) low.0)
      (leb_tells leaves layer.tree.start)

  module _ {R : Type 0} (value : R → Layer D) (leaves : ℕ) where
    -- of these layers, the first that begins before the leaves, and one that does not
    pub since-none : (xs : List R) (i : ℕ) (x : R) → i < length xs → x ≡ get_or xs i x → (value x).tree.start < leaves →
        take i (map value xs) ≡ take i (map value xs) ++ layers_since leaves (drop i (map value xs))
    since-none [] i x lt is before = absurd (omega arith)
    since-none (y ∷ xs) zero x lt is before = sym (since-past leaves (value y) (map value xs) (subst (λ z. (value z).tree.start < leaves) is before))
    since-none (y ∷ xs) (suc i) x lt is before = ap (λ zs. value y ∷ zs) (since-none xs i x (omega arith) is before)

    pub since-next : (xs : List R) (i : ℕ) (x : R) → i < length xs → x ≡ get_or xs i x → leaves ≤ (value x).tree.start →
        take (suc i) (map value xs) ++ layers_since leaves (drop (suc i) (map value xs)) ≡ take i (map value xs) ++ layers_since leaves (drop i (map value xs))
    since-next [] i x lt is from = absurd (omega arith)
    since-next (y ∷ xs) zero x lt is from = sym (since-here leaves (value y) (map value xs) (subst (λ z. leaves ≤ (value z).tree.start) is from))
    since-next (y ∷ xs) (suc i) x lt is from = ap (λ zs. value y ∷ zs) (since-next xs i x (omega arith) is from)

-- all the elements, written anew
pub written : {X : Type 0} (xs ys : List X) (n : ℕ) → length xs ≡ length ys → n ≡ length ys → take n (xs ++ drop (length xs) ys) ≡ xs
written [] [] n same all = ap (λ k. take k []) all
written [] (y ∷ ys) n same all = absurd (omega arith)
written (x ∷ xs) [] n same all = absurd (omega arith)
written (x ∷ xs) (y ∷ ys) n same all = ap (λ k. take k (x ∷ (xs ++ drop (length xs) ys))) all ∙ ap (λ zs. x ∷ zs) (written xs ys (length ys) (omega arith) refl)

pub all_at : {X : Type 0} (P : X → Type 0) (xs : List X) (i : ℕ) (x : X) → All P xs → slice_get xs i ≡ Some x → P x
all_at P xs i x all at = subst P (get_or_from_slice_get xs i x x at) (all i x (slice_get_within xs i x at))

option_or-none : {X : Type 0} (o : Option X) → option_or o None ≡ o
option_or-none None = refl
option_or-none (Some x) = refl

module _ (shape : Shape) {D : Type 0} (layer : Layer D) where
  -- the nodes of a tree that ends where the layer begins, after the layer is put in
  pub put-nodes : (size : ℕ) (old replaced new : List D) → size + length old ≡ shape.size layer.tree.start → length replaced ≡ length old →
      ((i : ℕ) → i < length old → slice_get replaced i ≡ option_or (found_at layer.replaced (size + i)) (slice_get old i)) → new ≡ replaced ++ layer.tree.nodes →
      (i : ℕ) → slice_get new i ≡ option_or (layer_at shape layer (size + i)) (slice_get old i)
  put-nodes size old replaced new end same each is i =
      ap (λ xs. slice_get xs i) is
      ∙ ⊎_elim
      (λ (low : i < length old).
      slice_get-left replaced layer.tree.nodes i (omega arith) ∙ each i low ∙ ap (λ o. option_or o (slice_get old i)) (sym (layer_at-before shape layer (size + i) (omega arith))))
      (λ (high : length old ≤ i).
      let k = size + i - shape.size layer.tree.start in
      let past : shape.size layer.tree.start ≤ size + i = omega arith in
      let at : i ≡ length replaced + k = omega arith in
      ap (slice_get (replaced ++ layer.tree.nodes)) at ∙ slice_get-right replaced layer.tree.nodes k ∙ sym (layer_at-past shape layer (size + i) past ∙ node_at-past shape layer.tree (size + i) past)
      ∙ sym (ap (option_or (layer_at shape layer (size + i))) (slice_get_past old i high) ∙ option_or-none (layer_at shape layer (size + i))))
      (cases_lt i (length old))

module _ (shape : Shape) {D : Type 0} where
  stops-first : (n : ℕ) (layers : List (Layer D)) → Contains (stops n layers) n
  stops-first n [] = (0, omega arith, refl)
  stops-first n (layer ∷ older) = (0, omega arith, refl)

  pub stops-below : (n : ℕ) (layers : List (Layer D)) (leaves : ℕ) → AreLinked shape n layers → Contains (stops n layers) leaves → leaves ≤ n
  stops-below n [] leaves linked found = ⊎_elim (λ (here : n ≡ leaves). omega arith) (λ (no : Contains [] leaves). absurd (omega (arith, no.1))) (first_or_other n [] leaves found)
  stops-below n (layer ∷ older) leaves linked found = ⊎_elim
      (λ (here : n ≡ leaves). omega arith)
      (λ (more : Contains (stops layer.tree.start older) leaves). omega (arith, linked.0, linked.1.order, stops-below layer.tree.start older leaves linked.2 more))
      (first_or_other n (stops layer.tree.start older) leaves found)

  -- where layers over a tree of so many leaves end
  abbrev pub top_of : ℕ → List (Layer D) → ℕ
  top_of leaves [] = leaves
  top_of leaves (layer ∷ older) = layer.tree.leaves

  -- each layer begins where the older one ends, and the oldest at the leaves
  abbrev pub AreChained : ℕ → List (Layer D) → Type 0
  AreChained leaves [] = ⊤
  AreChained leaves (layer ∷ older) = IsWhole shape layer.tree × (layer.tree.start ≡ top_of leaves older) × AreChained leaves older

  pub chained : (leaves n : ℕ) (layers : List (Layer D)) → AreLinked shape n layers → Contains (stops n layers) leaves → AreChained leaves (layers_since leaves layers) × (top_of leaves (layers_since leaves layers) ≡ n)
  chained leaves n [] linked found = (tt, ⊎_elim (λ (here : n ≡ leaves). sym here) (λ (no : Contains [] leaves). absurd (omega (arith, no.1))) (first_or_other n [] leaves found))
  chained leaves n (layer ∷ older) linked found = ⊎_elim
      (λ (before : layer.tree.start < leaves).
      let none = since-past leaves layer older before in
      let top : leaves ≡ n = ⊎_elim
      (λ (here : n ≡ leaves). sym here)
      (λ (more : Contains (stops layer.tree.start older) leaves). absurd (omega (arith, stops-below layer.tree.start older leaves linked.2 more)))
      (first_or_other n (stops layer.tree.start older) leaves found) in
      (subst (AreChained leaves) (sym none) tt, ap (top_of leaves) none ∙ top))
      (λ (from : leaves ≤ layer.tree.start).
      let is = since-here leaves layer older from in
      let reach : Contains (stops layer.tree.start older) leaves = ⊎_elim
      (λ (here : n ≡ leaves).
      let same : layer.tree.start ≡ leaves = omega (arith, linked.0, linked.1.order) in
      subst (Contains (stops layer.tree.start older)) same (stops-first layer.tree.start older))
      (λ (more : Contains (stops layer.tree.start older) leaves). more)
      (first_or_other n (stops layer.tree.start older) leaves found) in
      let rest = chained leaves layer.tree.start older linked.2 reach in
      (subst (AreChained leaves) (sym is) (linked.1, sym rest.1, rest.0), ap (top_of leaves) is ∙ linked.0))
      (cases_lt layer.tree.start leaves)

  chained-drop : (leaves : ℕ) (layers : List (Layer D)) (k : ℕ) → AreChained leaves layers → AreChained leaves (drop k layers)
  chained-drop leaves layers zero chain = chain
  chained-drop leaves [] (suc k) chain = tt
  chained-drop leaves (layer ∷ older) (suc k) chain = chained-drop leaves older k chain.2

  top-drop : (leaves : ℕ) (layers : List (Layer D)) (k : ℕ) → AreChained leaves layers → top_of leaves (drop k layers) ≤ top_of leaves layers
  top-drop leaves layers zero chain = le_refl (top_of leaves layers)
  top-drop leaves [] (suc k) chain = le_refl leaves
  top-drop leaves (layer ∷ older) (suc k) chain = omega (arith, top-drop leaves older k chain.2, chain.1, chain.0.order)

  top-above : (leaves : ℕ) (layers : List (Layer D)) → AreChained leaves layers → leaves ≤ top_of leaves layers
  top-above leaves [] chain = le_refl leaves
  top-above leaves (layer ∷ older) chain = omega (arith, top-above leaves older chain.2, chain.1, chain.0.order)

  -- a layer that is next to be put in, after the older ones
  pub record IsNext (leaves : ℕ) (layers older : List (Layer D)) (layer : Layer D) : Type 0 where
    pub is : layers ≡ layer ∷ older
    pub whole : IsWhole shape layer.tree
    pub start : layer.tree.start ≡ top_of leaves older
    pub low : leaves ≤ layer.tree.start
    pub high : layer.tree.leaves ≤ top_of leaves layers
    pub chain : AreChained leaves older

  pub is_next : (leaves : ℕ) (layers older : List (Layer D)) (layer : Layer D) → AreChained leaves layers → layers ≡ layer ∷ older → IsNext leaves layers older layer
  is_next leaves layers older layer chain is =
      let here : AreChained leaves (layer ∷ older) = subst (AreChained leaves) is chain in
      record {
        is = is;
        whole = here.0;
        start = here.1;
        low = omega (arith, top-above leaves older here.2, here.1);
        high = omega (arith, ap (top_of leaves) is);
        chain = here.2;
      }

  pub since-at : {R : Type 0} (value : R → Layer D) (leaves : ℕ) (xs : List R) (k : ℕ) (x : R) → k < length (layers_since leaves (map value xs)) → x ≡ get_or xs k x →
      drop k (layers_since leaves (map value xs)) ≡ value x ∷ drop (suc k) (layers_since leaves (map value xs))
  since-at value leaves [] k x lt at = absurd (omega arith)
  since-at value leaves (y ∷ xs) zero x lt at = ⊎_elim
      (λ (before : (value y).tree.start < leaves). absurd (omega (arith, ap length (since-past leaves (value y) (map value xs) before))))
      (λ (from : leaves ≤ (value y).tree.start).
      let is = since-here leaves (value y) (map value xs) from in
      is ∙ ap (λ z. value z ∷ layers_since leaves (map value xs)) (sym at) ∙ sym (ap (λ zs. value x ∷ drop 1 zs) is))
      (cases_lt (value y).tree.start leaves)
  since-at value leaves (y ∷ xs) (suc k) x lt at = ⊎_elim
      (λ (before : (value y).tree.start < leaves). absurd (omega (arith, ap length (since-past leaves (value y) (map value xs) before))))
      (λ (from : leaves ≤ (value y).tree.start).
      let is = since-here leaves (value y) (map value xs) from in
      ap (drop (suc k)) is ∙ since-at value leaves xs k x (omega (arith, ap length is)) at ∙ sym (ap (λ zs. value x ∷ drop (suc (suc k)) zs) is))
      (cases_lt (value y).tree.start leaves)

  -- none of a batch's
  pub none_since : (leaves : ℕ) (batch : Batch D) → batch.newest.tree.start < leaves → layers_since leaves (all_layers batch) ≡ []
  none_since leaves batch before = since-past leaves batch.newest batch.older before

  -- pins and nodes of a tree of so many leaves, before and after layers are put in
  pub record ArePut (leaves : ℕ) (positions : List ℕ) (size : ℕ) (old_pins old_nodes : List D) (layers : List (Layer D)) (pins nodes : List D) : Type 0 where
    pub pinned : length pins ≡ length old_pins
    pub full : size + length nodes ≡ shape.size (top_of leaves layers)
    pub pins_at : (i p : ℕ) → slice_get positions i ≡ Some p → slice_get pins i ≡ option_or (layers_at shape layers p) (slice_get old_pins i)
    pub nodes_at : (i : ℕ) → slice_get nodes i ≡ option_or (layers_at shape layers (size + i)) (slice_get old_nodes i)

  pub none_put : (leaves : ℕ) (positions : List ℕ) (size : ℕ) (pins nodes : List D) (layers : List (Layer D)) → layers ≡ [] → size + length nodes ≡ shape.size leaves → ArePut leaves positions size pins nodes layers pins nodes
  none_put leaves positions size pins nodes layers none full =
      subst (λ ls. ArePut leaves positions size pins nodes ls pins nodes) (sym none) (record { pinned = refl; full = full; pins_at = λ i p at. refl; nodes_at = λ i. refl })

  pub one_put : (leaves : ℕ) (positions : List ℕ) (size : ℕ) (old_pins old_nodes : List D) (layers older : List (Layer D)) (layer : Layer D) (pins nodes new_pins new_nodes : List D) → layers ≡ layer ∷ older →
      ArePut leaves positions size old_pins old_nodes older pins nodes → length new_pins ≡ length pins → size + length new_nodes ≡ shape.size layer.tree.leaves →
      ((i p : ℕ) → slice_get positions i ≡ Some p → slice_get new_pins i ≡ option_or (layer_at shape layer p) (slice_get pins i)) →
      ((i : ℕ) → slice_get new_nodes i ≡ option_or (layer_at shape layer (size + i)) (slice_get nodes i)) →
      ArePut leaves positions size old_pins old_nodes layers new_pins new_nodes
  one_put leaves positions size old_pins old_nodes layers older layer pins nodes new_pins new_nodes is put pinned full pins_at nodes_at =
      subst (λ ls. ArePut leaves positions size old_pins old_nodes ls new_pins new_nodes) (sym is) (record {
        pinned = pinned ∙ put.pinned;
        full = full;
        pins_at = λ i p at.
            pins_at i p at ∙ ap (option_or (layer_at shape layer p)) (put.pins_at i p at) ∙ sym (option_or-assoc (layer_at shape layer p) (layers_at shape older p) (slice_get old_pins i));
        nodes_at = λ i.
            nodes_at i ∙ ap (option_or (layer_at shape layer (size + i))) (put.nodes_at i) ∙ sym (option_or-assoc (layer_at shape layer (size + i)) (layers_at shape older (size + i)) (slice_get old_nodes i));
      })

  module _ {R : Type 0} (value : R → Layer D) (start : ℕ) (newest : Layer D) (xs : List R) (batch : Batch D) (view : ◌≡◌ {A = Batch D} (record { start = start; newest = newest; older = map value xs }) batch) (leaves : ℕ)
      (linked : AreLinked shape newest.tree.leaves (newest ∷ map value xs)) (stop : Contains (stops batch.newest.tree.leaves (all_layers batch)) leaves) where
    reach : Contains (stops newest.tree.leaves (newest ∷ map value xs)) leaves
    reach = subst (λ b. Contains (stops b.newest.tree.leaves (all_layers b)) leaves) (sym view) stop

    -- the newest layer is the last to be put in
    pub newest_next : (layer : Layer D) → layer ≡ newest → leaves ≤ layer.tree.start → IsNext leaves (layers_since leaves (newest ∷ map value xs)) (layers_since leaves (map value xs)) layer
    newest_next layer same from =
        let from_here : leaves ≤ newest.tree.start = omega (arith, ap (λ l. l.tree.start) same) in
        is_next leaves (layers_since leaves (newest ∷ map value xs)) (layers_since leaves (map value xs)) layer (chained leaves newest.tree.leaves (newest ∷ map value xs) linked reach).0
        (since-here leaves newest (map value xs) from_here ∙ ap (λ l. l ∷ layers_since leaves (map value xs)) (sym same))

    -- and the one at k comes before
    pub older_next : (k : ℕ) (x : R) (layer : Layer D) → leaves ≤ newest.tree.start → k < length (layers_since leaves (map value xs)) → x ≡ get_or xs k x → layer ≡ value x →
        IsNext leaves (drop k (layers_since leaves (map value xs))) (drop (suc k) (layers_since leaves (map value xs))) layer × (layer.tree.leaves ≤ newest.tree.leaves)
    older_next k x layer from lt at same =
        let newest_is = newest_next newest refl from in
        let layers = layers_since leaves (map value xs) in
        let next = is_next leaves (drop k layers) (drop (suc k) layers) layer (chained-drop leaves layers k newest_is.chain)
        (since-at value leaves xs k x lt at ∙ ap (λ l. l ∷ drop (suc k) layers) (sym same)) in
        (next, omega (arith, next.high, top-drop leaves layers k newest_is.chain, newest_is.start, newest_is.whole.order))

    -- if none is to be put in, the leaves are the newest's
    pub none_next : newest.tree.start < leaves → leaves ≡ newest.tree.leaves
    none_next before = sym (ap (top_of leaves) (since-past leaves newest (map value xs) before)) ∙ (chained leaves newest.tree.leaves (newest ∷ map value xs) linked reach).1

  pub same_put : (leaves : ℕ) (layers : List (Layer D)) (nodes : List D) (qs ps : List ℕ) (s t : ℕ) (ds es xs ys us vs : List D) → qs ≡ ps → s ≡ t → ds ≡ es → xs ≡ ys → us ≡ vs →
      ArePut leaves qs s ds xs layers us nodes → ArePut leaves ps t es ys layers vs nodes
  same_put leaves layers nodes qs ps s t ds es xs ys us vs positions size pins old new put =
      subst (λ z. ArePut leaves z t es ys layers vs nodes) positions
      (subst (λ z. ArePut leaves qs z es ys layers vs nodes) size
      (subst (λ z. ArePut leaves qs s z ys layers vs nodes) pins
      (subst (λ z. ArePut leaves qs s ds z layers vs nodes) old
      (subst (λ z. ArePut leaves qs s ds xs layers z nodes) new put))))

-- with the layers that a tree lacks, its nodes have their new digests
module _ (shape : Shape) (births : Births) (family : IsFamily shape births) (peaked : HasPeaks shape) {D : Type 0} (bytes : D → Bytes) (hash : Bytes → Bytes) where
  pub lists-below : (n : ℕ) (layers : List (Layer D)) (new : List Bytes) (lists : List (List Bytes)) (list : List Bytes) → AreLinked shape n layers → IsHistory shape bytes hash layers (new ∷ lists) → Contains (new ∷ lists) list → length list ≤ length new
  lists-below n [] new [] list linked history found =
      ⊎_elim (λ (here : new ≡ list). omega (arith, ap length here)) (λ (no : Contains [] list). absurd (omega (arith, no.1))) (first_or_other new [] list found)
  lists-below n [] new (more ∷ lists) list linked history found = absurd history
  lists-below n (layer ∷ older) new [] list linked history found = absurd history
  lists-below n (layer ∷ older) new (old ∷ lists) list linked history found = ⊎_elim
      (λ (here : new ≡ list). omega (arith, ap length here))
      (λ (more : Contains (old ∷ lists) list).
      omega (arith, lists-below layer.tree.start older old lists list linked.2 history.1 more, history.0.start, history.0.stands.count, linked.1.order))
      (first_or_other new (old ∷ lists) list found)

  -- those layers lead from lists of which the tree's is one
  pub record HasPast (leaves : ℕ) (layers : List (Layer D)) (new : List Bytes) (lists : List (List Bytes)) : Type 0 where
    pub past : List (List Bytes)
    pub history : IsHistory shape bytes hash (layers_since leaves layers) (new ∷ past)
    pub has : (n : ℕ) (list : List Bytes) → AreLinked shape n layers → leaves ≡ length list → Contains (new ∷ lists) list → Contains (new ∷ past) list

  has_past : (leaves : ℕ) (layers : List (Layer D)) (new : List Bytes) (lists : List (List Bytes)) → IsHistory shape bytes hash layers (new ∷ lists) → HasPast leaves layers new lists
  has_past leaves [] new [] history = record { past = []; history = tt; has = λ n list linked is found. found }
  has_past leaves [] new (more ∷ lists) history = absurd history
  has_past leaves (layer ∷ older) new [] history = absurd history
  has_past leaves (layer ∷ older) new (old ∷ lists) history = ⊎_elim
      (λ (before : layer.tree.start < leaves). record {
        past = [];
        history = subst (λ ls. IsHistory shape bytes hash ls (new ∷ [])) (sym (since-past leaves layer older before)) tt;
        has = λ n list linked is found. ⊎_elim
            (λ (here : new ≡ list). (0, omega arith, here))
            (λ (more : Contains (old ∷ lists) list). absurd (omega (arith, lists-below layer.tree.start older old lists list linked.2 history.1 more, history.0.start)))
            (first_or_other new (old ∷ lists) list found);
      })
      (λ (from : leaves ≤ layer.tree.start).
      let rest = has_past leaves older old lists history.1 in
      record {
        past = old ∷ rest.past;
        history = subst (λ ls. IsHistory shape bytes hash ls (new ∷ old ∷ rest.past)) (sym (since-here leaves layer older from)) (history.0, rest.history);
        has = λ n list linked is found. ⊎_elim
            (λ (here : new ≡ list). (0, omega arith, here))
            (λ (more : Contains (old ∷ lists) list).
            let at = rest.has layer.tree.start list linked.2 is more in
            (suc at.0, omega (arith, at.1), at.2))
            (first_or_other new (old ∷ lists) list found);
      })
      (cases_lt layer.tree.start leaves)

  pub history-count : (layer : Layer D) (older : List (Layer D)) (new : List Bytes) (lists : List (List Bytes)) → IsHistory shape bytes hash (layer ∷ older) (new ∷ lists) → layer.tree.leaves ≡ length new
  history-count layer older new [] history = absurd history
  history-count layer older new (old ∷ lists) history = history.0.stands.count

  module _ (kept : Kept D) (whole : IsWhole shape kept) (n : ℕ) (layers : List (Layer D)) (linked : AreLinked shape n layers) (new : List Bytes) (lists : List (List Bytes)) (list : List Bytes)
      (history : IsHistory shape bytes hash layers (new ∷ lists)) (found : Contains (new ∷ lists) list) (stands : Stands shape bytes hash kept list) where
    now_at : (x : Node) (o : Option D) → shape.birth x ≤ length new → (shape.birth x ≤ kept.leaves → Gives bytes o (digest_of hash shape list x)) →
        Gives bytes (option_or (layers_at shape (layers_since kept.leaves layers) (shape.position x)) o) (digest_of hash shape new x)
    now_at x o born old =
        let past = has_past kept.leaves layers new lists history in
        read (layers_at shape (layers_since kept.leaves layers) (shape.position x))
        (layers_lead shape births family bytes hash (layers_since kept.leaves layers) list new past.past past.history (past.has n list linked stands.count found) x born)
      where
        read : (put : Option D) → MatchOption put ((shape.birth x ≤ length list) × (digest_of hash shape list x ≡ digest_of hash shape new x)) (λ d. bytes d ≡ digest_of hash shape new x) →
            Gives bytes (option_or put o) (digest_of hash shape new x)
        read None match = old (omega (arith, match.0, stands.count)) ∙ ap Some match.1
        read (Some d) match = ap Some match

    pins_now : (xs : List Node) (ds es : List D) → map bytes ds ≡ map (digest_of hash shape list) xs → length es ≡ length ds → All (λ x. shape.birth x ≤ length new) xs →
        ((i p : ℕ) → slice_get (map shape.position xs) i ≡ Some p → slice_get es i ≡ option_or (layers_at shape (layers_since kept.leaves layers) p) (slice_get ds i)) → map bytes es ≡ map (digest_of hash shape new) xs
    pins_now [] [] [] same long born at = refl
    pins_now [] [] (e ∷ es) same long born at = absurd (omega arith)
    pins_now [] (d ∷ ds) es same long born at = cc
    pins_now (x ∷ xs) [] es same long born at = cc
    pins_now (x ∷ xs) (d ∷ ds) [] same long born at = absurd (omega arith)
    pins_now (x ∷ xs) (d ∷ ds) (e ∷ es) same long born at =
        let head : bytes d ≡ digest_of hash shape list x = cc in
        let tail : map bytes ds ≡ map (digest_of hash shape list) xs = cc in
        let is : ◌≡◌ {A = Option Bytes} (Some (bytes e)) (Some (digest_of hash shape new x)) =
        ap (option_map bytes) (at 0 (shape.position x) refl) ∙ now_at x (Some d) (born 0 x (omega arith)) (λ early. ap Some head) in
        ap₂ (λ a b. a ∷ b) (same_Some (bytes e) (digest_of hash shape new x) is) (pins_now xs ds es tail (omega arith) (λ k y lt. born (suc k) y (omega arith)) (λ i p here. at (suc i) p here))

    pub stands-put : (next : Kept D) → next.start ≡ kept.start → next.leaves ≡ length new → kept.leaves ≤ next.leaves →
        ArePut shape kept.leaves (peak_positions shape kept.start) (shape.size kept.start) kept.pins kept.nodes (layers_since kept.leaves layers) next.pins next.nodes → Stands shape bytes hash next new
    stands-put next start leaves more put = record {
      count = leaves;
      pins = pins_now (peaks shape kept.start) kept.pins next.pins stands.pins put.pinned
          (λ k d lt. omega (arith, peaked.born kept.start (omega (arith, whole.order, whole.few)) k d lt, whole.order))
          put.pins_at ∙ ap (λ m. map (digest_of hash shape new) (peaks shape m)) (sym start);
      nodes = λ x late born.
          let new_late : kept.start < shape.birth x = omega arith in
          let past = stands_past shape births family x kept.start new_late in
          let past_next = stands_past shape births family x next.start late in
          let i = shape.position x - shape.size kept.start in
          let at : shape.size kept.start + i ≡ shape.position x = omega arith in
          ap (option_map bytes) (node_at-past shape next (shape.position x) past_next ∙ ap (λ m. slice_get next.nodes (shape.position x - shape.size m)) start
          ∙ put.nodes_at i ∙ ap₂ (λ p o. option_or (layers_at shape (layers_since kept.leaves layers) p) o) at (sym (node_at-past shape kept (shape.position x) past)))
          ∙ now_at x (node_at shape kept (shape.position x)) (omega arith) (λ early. stands.nodes x new_late early);
    }
