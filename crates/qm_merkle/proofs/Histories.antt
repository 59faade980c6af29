-- What layers have of nodes, over the lists that they lead through.
use Rattle.std.proofs.Common.{◌≡◌, ◌⊎◌, ℕ, zero, suc, ◌-◌, ◌^◌, ◌<◌, ◌≤◌, true, false, List, [], ◌∷◌, length, map, drop, get_or, arith, ap, ap₂, sym, ◌∙◌, refl, Option, Some, None, IsSome, Contains, MatchOption, ⊎_elim, inl, inr, subst}
use Rattle.std.specs.Prelude.{slice_get, option_map, is_some, nat_le, if◌then◌else◌}
use Rattle.std.specs.Option.{option_or}
use Rattle.std.specs.List.{AllZip}
use Rattle.std.proofs.lemmas.Bool.{cases_lt}
use Rattle.std.proofs.lemmas.Bool.Decides.{leb_tells}
use Rattle.qm_model.specs.Operations.{Bytes}
use Rattle.qm_model.specs.Trees.{Shape, Node, digest_of}
use Rattle.qm_model.specs.Families.{Births, IsFamily, HasPeaks}
use Rattle.qm_merkle.specs.Mems.{Kept, IsWhole, Gives, Stands, node_at}
use Rattle.qm_merkle.specs.Batches.{Layer, found_at, layer_at, layers_at, stops, AreLinked, Leads, IsHistory, AreThere, AreRead}
use Rattle.qm_merkle.proofs.Numbering.{stands_below, stands_past}
use Rattle.qm_merkle.proofs.Lookups.{is_some-slice_get, node_at-past, held}
use Rattle.qm_merkle.proofs.Standing.{node_held, gives}

-- lists whose elements have the same values, one by one
pub values-same : {R X : Type 0} (value : R → X) (xs ys : List R) → AllZip (λ x y. value y ≡ value x) xs ys → map value ys ≡ map value xs
values-same value [] [] same = refl
values-same value [] (y ∷ ys) same = absurd same
values-same value (x ∷ xs) [] same = absurd same
values-same value (x ∷ xs) (y ∷ ys) same = ap₂ (λ a b. a ∷ b) same.0 (values-same value xs ys same.1)

-- an element is the first one, or one of the others
pub first_or_other : {X : Type 0} (y : X) (ys : List X) (x : X) → Contains (y ∷ ys) x → (y ≡ x) ⊎ Contains ys x
first_or_other y ys x found = at found.0 found.1 found.2
  where
    at : (k : ℕ) → k < length (y ∷ ys) → get_or (y ∷ ys) k x ≡ x → (y ≡ x) ⊎ Contains ys x
    at zero lt is = inl is
    at (suc k) lt is = inr (k, omega arith, is)

-- the first of two digests that is there
pub chosen : {D : Type 0} (first other : Option D) (P : Type 0) (Q : D → Type 0) → MatchOption first (MatchOption other P Q) Q → MatchOption (option_or first other) P Q
chosen None other P Q match = match
chosen (Some d) other P Q match = match

pub weakened : {D : Type 0} (found : Option D) (P R : Type 0) (Q S : D → Type 0) → MatchOption found P Q → (P → R) → ((d : D) → Q d → S d) → MatchOption found R S
weakened None P R Q S match none some = none match
weakened (Some d) P R Q S match none some = some d match

pub is_some-first : {D : Type 0} (first other : Option D) → IsSome first → IsSome (option_or first other)
is_some-first None other there = absurd (no there)
  where
    no : false ≡ true → ⊥
    no e = cc
is_some-first (Some d) other there = refl

pub is_some-other : {D : Type 0} (first other : Option D) → IsSome other → IsSome (option_or first other)
is_some-other None other there = there
is_some-other (Some d) other there = refl

pub option_or-assoc : {D : Type 0} (a b c : Option D) → option_or (option_or a b) c ≡ option_or a (option_or b c)
option_or-assoc None b c = refl
option_or-assoc (Some d) b c = refl

module _ (shape : Shape) {D : Type 0} where
  -- the first layer, and the older ones
  pub layers_at-next : {R : Type 0} (value : R → Layer D) (xs : List R) (i : ℕ) (x : R) (p : ℕ) → i < length xs → x ≡ get_or xs i x →
      layers_at shape (map value (drop i xs)) p ≡ option_or (layer_at shape (value x) p) (layers_at shape (map value (drop (suc i) xs)) p)
  layers_at-next value [] i x p lt is = absurd (omega arith)
  layers_at-next value (y ∷ xs) zero x p lt is = ap (λ z. option_or (layer_at shape (value z) p) (layers_at shape (map value xs) p)) (sym is)
  layers_at-next value (y ∷ xs) (suc i) x p lt is = layers_at-next value xs i x p (omega arith) is

  -- a layer has its tree's nodes from its start on, and what it replaces before
  pub layer_at-past : (layer : Layer D) (p : ℕ) → shape.size layer.tree.start ≤ p → layer_at shape layer p ≡ node_at shape layer.tree p
  layer_at-past layer p le = ⊎_elim
      (λ (high : (nat_le (shape.size layer.tree.start) p ≡ true) × (shape.size layer.tree.start ≤ p)).
      ap (λ b. if b then slice_get layer.tree.nodes (p - shape.size layer.tree.start) else found_at layer.replaced p) high.0 ∙ sym (node_at-past shape layer.tree p le))
      (λ (low : (nat_le (shape.size layer.tree.start) p ≡ false) × (p < shape.size layer.tree.start)). absurd (omega arith))
      (leb_tells (shape.size layer.tree.start) p)

  pub layer_at-before : (layer : Layer D) (p : ℕ) → p < shape.size layer.tree.start → layer_at shape layer p ≡ found_at layer.replaced p
  layer_at-before layer p lt = ⊎_elim
      (λ (high : (nat_le (shape.size layer.tree.start) p ≡ true) × (shape.size layer.tree.start ≤ p)). absurd (omega arith))
      (λ (low : (nat_le (shape.size layer.tree.start) p ≡ false) × (p < shape.size layer.tree.start)).
      ap (λ b. if b then slice_get layer.tree.nodes (p - shape.size layer.tree.start) else found_at layer.replaced p) low.0)
      (leb_tells (shape.size layer.tree.start) p)

  module _ (births : Births) (family : IsFamily shape births) where
    -- a layer has each node that is born past its start
    pub layer_added : (layer : Layer D) → IsWhole shape layer.tree → (x : Node) → layer.tree.start < shape.birth x → shape.birth x ≤ layer.tree.leaves → IsSome (layer_at shape layer (shape.position x))
    layer_added layer whole x late born =
        let p = shape.position x in
        let from = stands_past shape births family x layer.tree.start late in
        let below = stands_below shape births family x layer.tree.leaves born in
        ap is_some (layer_at-past layer p from ∙ node_at-past shape layer.tree p from)
        ∙ is_some-slice_get layer.tree.nodes (p - shape.size layer.tree.start) (omega (arith, from, below, whole.full))

    module _ (peaked : HasPeaks shape) (mem : Kept D) (whole : IsWhole shape mem) where
      -- layers over a tree have each node, if the tree is at one of their lists
      pub there : (layers : List (Layer D)) (base : ℕ) → AreLinked shape base layers → Contains (stops base layers) mem.leaves → AreThere shape layers mem base
      there [] base linked stop x born bare =
          let at : base ≡ mem.leaves = only (first_or_other base [] mem.leaves stop) in
          (held shape births family peaked mem whole (shape.position x) (node_at shape mem (shape.position x)) refl).1 (node_held shape births family peaked mem whole x (omega arith) bare)
        where
          only : (base ≡ mem.leaves) ⊎ Contains {X = ℕ} [] mem.leaves → base ≡ mem.leaves
          only = ⊎_elim (λ e. e) (λ none. absurd (omega (arith, none.1)))
      there (layer ∷ older) base linked stop x born bare =
          let p = shape.position x in
          let had = node_at shape mem p in
          let own = layer_at shape layer p in
          let rest = layers_at shape older p in
          ⊎_elim
          (λ (late : layer.tree.start < shape.birth x). is_some-first (option_or own rest) had (is_some-first own rest (layer_added layer linked.1 x late (omega (arith, linked.0)))))
          (λ (early : shape.birth x ≤ layer.tree.start). ⊎_elim
          (λ (here : base ≡ mem.leaves). is_some-other (option_or own rest) had
          ((held shape births family peaked mem whole p had refl).1 (node_held shape births family peaked mem whole x (omega arith) bare)))
          (λ (lower : Contains (stops layer.tree.start older) mem.leaves).
          ap is_some (option_or-assoc own rest had) ∙ is_some-other own (option_or rest had) (there older layer.tree.start linked.2 lower x early bare))
          (first_or_other base (stops layer.tree.start older) mem.leaves stop))
          (cases_lt layer.tree.start (shape.birth x))

      -- the tree's leaves are no more than those of the newest list
      pub reached : (layers : List (Layer D)) (base : ℕ) → AreLinked shape base layers → Contains (stops base layers) mem.leaves → mem.leaves ≤ base
      reached [] base linked stop = ⊎_elim (λ (here : base ≡ mem.leaves). omega arith) (λ none. absurd (omega (arith, none.1))) (first_or_other base [] mem.leaves stop)
      reached (layer ∷ older) base linked stop = ⊎_elim (λ (here : base ≡ mem.leaves). omega arith)
          (λ lower. omega (arith, reached older layer.tree.start linked.2 lower, linked.1.order, linked.0))
          (first_or_other base (stops layer.tree.start older) mem.leaves stop)

    module _ (bytes : D → Bytes) (hash : Bytes → Bytes) where
      -- the newest list has as many leaves as the layers say
      pub tip_count : (mem : Kept D) (layers : List (Layer D)) (base : ℕ) (list new : List Bytes) (lists : List (List Bytes)) → AreLinked shape base layers → Contains (stops base layers) mem.leaves →
          IsHistory shape bytes hash layers (new ∷ lists) → Contains (new ∷ lists) list → Stands shape bytes hash mem list → length new ≡ base
      tip_count mem [] base list new [] linked stop history found stands = ⊎_elim
          (λ (here : base ≡ mem.leaves). ⊎_elim (λ (same : new ≡ list). omega (arith, ap length same, stands.count)) (λ none. absurd (omega (arith, none.1))) (first_or_other new [] list found))
          (λ none. absurd (omega (arith, none.1))) (first_or_other base [] mem.leaves stop)
      tip_count mem [] base list new (more ∷ lists) linked stop history found stands = absurd history
      tip_count mem (layer ∷ older) base list new [] linked stop history found stands = absurd history
      tip_count mem (layer ∷ older) base list new (old ∷ lists) linked stop history found stands = sym history.0.stands.count ∙ linked.0

      -- what a layer has of a node leads from the old list to the new one
      pub leads_at : (layer : Layer D) (old new : List Bytes) → Leads shape bytes hash layer old new → (x : Node) → shape.birth x ≤ length new →
          MatchOption (layer_at shape layer (shape.position x)) ((shape.birth x ≤ length old) × (digest_of hash shape old x ≡ digest_of hash shape new x)) (λ d. bytes d ≡ digest_of hash shape new x)
      leads_at layer old new leads x born =
          let p = shape.position x in
          let P = (shape.birth x ≤ length old) × (digest_of hash shape old x ≡ digest_of hash shape new x) in
          let Q = λ (d : D). bytes d ≡ digest_of hash shape new x in
          ⊎_elim
          (λ (late : layer.tree.start < shape.birth x).
          given (layer_at shape layer p) P (digest_of hash shape new x)
          (ap (option_map bytes) (layer_at-past layer p (stands_past shape births family x layer.tree.start late)) ∙ leads.stands.nodes x late (omega (arith, leads.stands.count))))
          (λ (early : shape.birth x ≤ layer.tree.start).
          let low : shape.birth x ≤ length old = omega (arith, leads.start) in
          subst (λ o. MatchOption o P Q) (sym (layer_at-before layer p (stands_below shape births family x layer.tree.start early)))
          (weakened (found_at layer.replaced p) (digest_of hash shape old x ≡ digest_of hash shape new x) P Q Q (leads.replaced x low) (λ same. (low, same)) (λ d is. is)))
          (cases_lt layer.tree.start (shape.birth x))
        where
          given : (found : Option D) (P : Type 0) (digest : Bytes) → Gives bytes found digest → MatchOption found P (λ d. bytes d ≡ digest)
          given None P digest is = cc
          given (Some d) P digest is = cc

      -- so does what layers have of it, from each of their lists to the newest
      pub layers_lead : (layers : List (Layer D)) (list new : List Bytes) (lists : List (List Bytes)) → IsHistory shape bytes hash layers (new ∷ lists) → Contains (new ∷ lists) list → (x : Node) → shape.birth x ≤ length new →
          MatchOption (layers_at shape layers (shape.position x)) ((shape.birth x ≤ length list) × (digest_of hash shape list x ≡ digest_of hash shape new x)) (λ d. bytes d ≡ digest_of hash shape new x)
      layers_lead [] list new [] history found x born = subst (λ l. (shape.birth x ≤ length l) × (digest_of hash shape l x ≡ digest_of hash shape new x)) (only (first_or_other new [] list found)) (born, refl)
        where
          only : (new ≡ list) ⊎ Contains {X = List Bytes} [] list → new ≡ list
          only = ⊎_elim (λ e. e) (λ none. absurd (omega (arith, none.1)))
      layers_lead [] list new (more ∷ lists) history found x born = absurd history
      layers_lead (layer ∷ older) list new [] history found x born = absurd history
      layers_lead (layer ∷ older) list new (old ∷ lists) history found x born =
          let p = shape.position x in
          let O = (shape.birth x ≤ length old) × (digest_of hash shape old x ≡ digest_of hash shape new x) in
          let P = (shape.birth x ≤ length list) × (digest_of hash shape list x ≡ digest_of hash shape new x) in
          let Q = λ (d : D). bytes d ≡ digest_of hash shape new x in
          let R = λ (d : D). bytes d ≡ digest_of hash shape old x in
          chosen (layer_at shape layer p) (layers_at shape older p) P Q
          (weakened (layer_at shape layer p) O (MatchOption (layers_at shape older p) P Q) Q Q (leads_at layer old new history.0 x born)
          (λ below. ⊎_elim
          (λ (here : new ≡ list).
          weakened (layers_at shape older p) ((shape.birth x ≤ length old) × (digest_of hash shape old x ≡ digest_of hash shape old x)) P R Q
          (layers_lead older old old lists history.1 (0, omega arith, refl) x below.0)
          (λ same. subst (λ l. (shape.birth x ≤ length l) × (digest_of hash shape l x ≡ digest_of hash shape new x)) here (born, refl)) (λ d is. is ∙ below.1))
          (λ (further : Contains (old ∷ lists) list).
          weakened (layers_at shape older p) ((shape.birth x ≤ length list) × (digest_of hash shape list x ≡ digest_of hash shape old x)) P R Q
          (layers_lead older list old lists history.1 further x below.0)
          (λ same. (same.0, same.1 ∙ below.1)) (λ d is. is ∙ below.1))
          (first_or_other new (old ∷ lists) list found))
          (λ d is. is))

      -- over a tree that stands for one of the lists, layers give the nodes of the newest
      pub seen : (peaked : HasPeaks shape) (mem : Kept D) (layers : List (Layer D)) (list new : List Bytes) (lists : List (List Bytes)) → IsWhole shape mem → IsHistory shape bytes hash layers (new ∷ lists) → Contains (new ∷ lists) list →
          Stands shape bytes hash mem list → AreRead shape bytes hash layers mem new
      seen peaked mem layers list new lists whole history found stands x born bare =
          let p = shape.position x in
          let few : mem.start ≤ 2 ^ 62 = omega (arith, whole.order, whole.few) in
          read (layers_at shape layers p) (node_at shape mem p) (digest_of hash shape list x) (digest_of hash shape new x) (shape.birth x ≤ length list)
          (layers_lead layers list new lists history found x born)
          (λ low. gives shape births family peaked bytes hash mem list stands x few (omega (arith, stands.count)) bare)
        where
          read : (found had : Option D) (old digest : Bytes) (low : Type 0) → MatchOption found (low × (old ≡ digest)) (λ d. bytes d ≡ digest) → (low → Gives bytes had old) → Gives bytes (option_or found had) digest
          read None had old digest low match at = at match.0 ∙ ap Some match.1
          read (Some d) had old digest low match at = ap Some match
