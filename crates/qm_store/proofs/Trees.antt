-- Trees that begin at a store's start, and grow by a batch of leaves.
use Rattle.std.proofs.Common.{◌≡◌, ℕ, suc, ◌^◌, ◌≤◌, ◌<◌, ◌⊎◌, inl, inr, zero, Bool, true, false, cond, List, [], ◌∷◌, ◌++◌, length, map, take, drop, get_or, arith, ap, ap₂, sym, ◌∙◌, refl, subst, All, Contains, Result, Ok, Err, IfOk}
use Rattle.std.specs.Prelude.{◌↔◌, IsSome, nat_le}
use Rattle.std.proofs.lemmas.List.Elements.{All-nil, All-cons, All-head, All-tail, All-map}
use Rattle.std.specs.List.{concat}
use Rattle.std.proofs.lemmas.List.{length-take-le, length-map}
use Rattle.qm_model.specs.Operations.{Bytes}
use Rattle.qm_model.specs.Trees.{Shape, Node, peaks, digest_of}
use Rattle.qm_model.specs.Families.{Births, IsFamily, HasPeaks}
use Rattle.qm_merkle.specs.Mems.{Kept, Stands}
use Rattle.qm_model.proofs.Chains.{Contains-first}
use Rattle.qm_merkle.specs.Batches.{Draft, Layer, Batch, stops, all_layers, layer_at, layers_since, leaves_of, replaced_from, drafted, IsOver, IsHistory}
use Rattle.qm_store.specs.KeptTrees.{IsAdding}
use Rattle.qm_store.specs.Log.{digests_from, head_over}
use Rattle.qm_store.proofs.Leaves.{pieces-same, length-digests_from, sized-digest, sized-leaves}

-- what holds of a value by two facts
pub if_both : {X E : Type 0} (r : Result X E) (P Q R : X → Type 0) → ((x : X) → P x → Q x → R x) → IfOk r P → IfOk r Q → IfOk r R
if_both (Ok x) P Q R make p q = make x p q
if_both (Err e) P Q R make p q = tt

-- a batch with no older ones begins where its tree ends
pub begins : {D : Type 0} (batch : Batch D) (n : ℕ) → batch.older ≡ [] → batch.newest.tree.start ≡ n → Contains (stops batch.newest.tree.leaves (all_layers batch)) n
begins batch n alone start =
    subst (λ older. Contains (batch.newest.tree.leaves ∷ stops batch.newest.tree.start older) n) (sym alone) (1, omega arith, start)

-- if no leaf is replaced, no node is over one
not-over : (D : Type 0) (h index : ℕ) → IsOver {D = D} [] h index → ⊥
not-over D zero index is = absurd (cc is)
not-over D (suc h) index (inl is) = not-over D h _ is
not-over D (suc h) index (inr is) = not-over D h _ is

-- so the batch of a draft that replaces none adds nodes alone
pub adds : {D E : Type 0} (shape : Shape) (draft : Draft D) (r : Result (Batch D) E) → draft.replaced ≡ []
    → IfOk r (λ b. b.newest.tree.start ≡ draft.base) → IfOk r (λ b. b.newest.tree.leaves ≡ leaves_of draft)
    → IfOk r (λ b. (x : Node) → shape.birth x ≤ leaves_of draft → (IsSome (layer_at shape b.newest (shape.position x)) ↔ ((draft.base < shape.birth x) ⊎ IsOver draft.replaced x.height x.index)))
    → IfOk r (λ b. IsAdding shape b.newest)
adds shape draft (Err e) none start leaves own = tt
adds {D = D} shape draft (Ok b) none start leaves own = λ x born there.
    by x ((own x (omega (arith, born, leaves))).0 there)
  where
    by : (x : Node) → (draft.base < shape.birth x) ⊎ IsOver draft.replaced x.height x.index → b.newest.tree.start < shape.birth x
    by x (inl late) = omega (arith, late, start)
    by x (inr over) = absurd (not-over D x.height x.index (subst (λ (rs : List (ℕ × D)). IsOver rs x.height x.index) none over))

-- layers that add nodes alone, of which only some are kept
adding-since : {D : Type 0} (shape : Shape) (boundary : ℕ) (layers : List (Layer D)) → All (IsAdding shape) layers → All (IsAdding shape) (layers_since boundary layers)
adding-since shape boundary [] are = are
adding-since {D = D} shape boundary (layer ∷ older) are =
    by (nat_le boundary layer.tree.start) (All-head (IsAdding shape) layer older are) (adding-since shape boundary older (All-tail (IsAdding shape) layer older are))
  where
    by : (b : Bool) → IsAdding shape layer → All (IsAdding shape) (layers_since boundary older) → All (IsAdding shape) (cond b (layer ∷ layers_since boundary older) [])
    by true first rest = All-cons (IsAdding shape) layer (layers_since boundary older) first rest
    by false first rest = All-nil (IsAdding shape)

-- a batch whose newest layer does, over older ones that do
pub adds-over : {D E : Type 0} (shape : Shape) (boundary : ℕ) (layers : List (Layer D)) (r : Result (Batch D) E) → All (IsAdding shape) layers
    → IfOk r (λ b. b.older ≡ layers_since boundary layers) → IfOk r (λ b. IsAdding shape b.newest) → IfOk r (λ b. All (IsAdding shape) (all_layers b))
adds-over shape boundary layers (Err e) are older newest = tt
adds-over shape boundary layers (Ok b) are older newest =
    All-cons (IsAdding shape) b.newest b.older newest (subst (All (IsAdding shape)) (sym older) (adding-since shape boundary layers are))

pub adds-first : {D E : Type 0} (shape : Shape) (r : Result (Batch D) E) → IfOk r (λ b. b.older ≡ []) → IfOk r (λ b. IsAdding shape b.newest) → IfOk r (λ b. All (IsAdding shape) (all_layers b))
adds-first shape (Err e) older newest = tt
adds-first shape (Ok b) older newest = All-cons (IsAdding shape) b.newest b.older newest (subst (All (IsAdding shape)) (sym older) (All-nil (IsAdding shape)))

module _ {D : Type 0} (bytes : D → Bytes) where
  replaced_from-none : (i : ℕ) (list : List Bytes) → replaced_from {D = D} bytes [] i list ≡ list
  replaced_from-none i [] = refl
  replaced_from-none i (x ∷ list) = ap (λ rest. x ∷ rest) (replaced_from-none (suc i) list)

  -- a draft that replaces nothing
  pub drafted-added : (draft : Draft D) (list : List Bytes) (added : List D) → draft.replaced ≡ [] → draft.added ≡ added → drafted bytes draft list ≡ list ++ map bytes added
  drafted-added draft list added none is =
      ap₂ (λ a b. replaced_from bytes a 0 list ++ map bytes b) none is ∙ ap (λ l. l ++ map bytes added) (replaced_from-none 0 list)

  module _ (shape : Shape) (births : Births) (family : IsFamily shape births) (peaked : HasPeaks shape) (hash : Bytes → Bytes) where
    -- the tree with the pins of a head stands for the items before
    pub stands-pruned : (size : ℕ) → ((d : D) → length (bytes d) ≡ size) → ((m : Bytes) → length (hash m) ≡ size) → (tree : Kept D) (n : ℕ) (list : List Bytes) (head : Bytes) → head ≡ head_over shape hash n (digests_from hash shape 0 (take n list)) →
        n ≤ 2 ^ 62 → n ≤ length list → tree.start ≡ n → tree.leaves ≡ n → length tree.pins ≡ length (peaks shape n) → concat (map bytes tree.pins) ≡ head → Stands shape bytes hash tree (digests_from hash shape 0 (take n list))
    stands-pruned size sized hashed tree n list head told few within start leaves long spelled =
        let before = digests_from hash shape 0 (take n list) in
        let row = map (digest_of hash shape before) (peaks shape n) in
        let count : length before ≡ n = length-digests_from hash shape 0 (take n list) ∙ length-take-le n list within in
        let same : map bytes tree.pins ≡ row =
        pieces-same size (map bytes tree.pins) row (All-map (λ b. length b ≡ size) bytes tree.pins (λ k d lt. sized (get_or tree.pins k d)))
        (All-map (λ b. length b ≡ size) (digest_of hash shape before) (peaks shape n)
        (λ k d lt. sized-digest hash size hashed shape before (sized-leaves hash size hashed shape 0 (take n list)) (get_or (peaks shape n) k d).height (get_or (peaks shape n) k d).index
        (omega (arith, family.inside (get_or (peaks shape n) k d), peaked.born n few k d lt, count))))
        (length-map tree.pins bytes ∙ long ∙ sym (length-map (peaks shape n) (digest_of hash shape before))) (spelled ∙ told) in
        record {
          count = leaves ∙ sym count;
          pins = same ∙ ap (λ m. map (digest_of hash shape before) (peaks shape m)) (sym start);
          nodes = λ x late born. absurd (omega arith);
        }

-- a batch that adds leaves to a tree
module _ {D : Type 0} (draft : Draft D) (start base : ℕ) (added : List D) (is : draft ≡ record { start = start; base = base; layers = []; replaced = []; added = added }) where
  pub new_reach : Contains (stops draft.base draft.layers) base
  new_reach = subst (λ (d : Draft D). Contains (stops d.base d.layers) base) (sym is) (Contains-first base [])

  pub new_history : (hash : Bytes → Bytes) (shape : Shape) (bytes : D → Bytes) (list : List Bytes) → IsHistory shape bytes hash draft.layers (list ∷ [])
  new_history hash shape bytes list = subst (λ (d : Draft D). IsHistory shape bytes hash d.layers (list ∷ [])) (sym is) tt

  pub new_drafted : (bytes : D → Bytes) (list : List Bytes) → drafted bytes draft list ≡ list ++ map bytes added
  new_drafted bytes list = drafted-added bytes draft list added (ap (λ (d : Draft D). d.replaced) is) (ap (λ (d : Draft D). d.added) is)
