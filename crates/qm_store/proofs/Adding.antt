-- What layers that add nodes alone have: the nodes that are born after the oldest of their lists, and no others.
use Rattle.std.proofs.Common.{◌≡◌, ◌↔◌, ℕ, ◌-◌, ◌<◌, ◌≤◌, true, false, List, [], ◌∷◌, length, arith, ap, subst, sym, ◌∙◌, refl, Option, Some, None, IsSome, Contains, All, ⊎_elim}
use Rattle.std.specs.Prelude.{is_some, IfSome, MatchOption}
use Rattle.std.specs.Option.{option_or}
use Rattle.std.proofs.lemmas.Bool.{cases_lt}
use Rattle.std.proofs.lemmas.Option.{slice_get_past}
use Rattle.std.proofs.lemmas.List.Elements.{All-contains, All-head, All-tail}
use Rattle.qm_model.specs.Operations.{Bytes}
use Rattle.qm_model.specs.Trees.{Shape, Node, digest_of}
use Rattle.qm_model.specs.Families.{Births, IsFamily}
use Rattle.qm_model.proofs.Chains.{Contains-first}
use Rattle.qm_merkle.specs.Batches.{Layer, layer_at, layers_at, stops, AreLinked, IsHistory}
use Rattle.qm_merkle.proofs.Numbering.{sizes, standing, stands_past}
use Rattle.qm_merkle.proofs.Lookups.{is_some-slice_get, node_at-past}
use Rattle.qm_merkle.proofs.Histories.{first_or_other, is_some-first, layer_at-past, layers_lead}
use Rattle.qm_store.specs.KeptTrees.{IsAdding}
use Rattle.qm_store.proofs.Kept.{only-one}

is-none : {X : Type 0} (o : Option X) → (IsSome o → ⊥) → o ≡ None
is-none None none = refl
is-none (Some x) none = absurd (none refl)

nothing : false ≡ true → ⊥
nothing some = cc

-- layers go through the newest list
stops-first : {D : Type 0} (n : ℕ) (layers : List (Layer D)) → Contains (stops n layers) n
stops-first n [] = (0, omega arith, refl)
stops-first n (layer ∷ older) = (0, omega arith, refl)

module _ (shape : Shape) (births : Births) (family : IsFamily shape births) {D : Type 0} where
  -- below its start a layer that adds nodes alone has none
  none-before : (layer : Layer D) → layer.tree.start ≤ layer.tree.leaves → IsAdding shape layer → (p : ℕ) → p < shape.size layer.tree.start → layer_at shape layer p ≡ None
  none-before layer order adding p early =
      let x = standing shape births family layer.tree.start p early in
      is-none (layer_at shape layer p)
      (λ some. absurd (omega (arith, x.2, adding x.0 (omega (arith, x.2, order)) (subst (λ q. IsSome (layer_at shape layer q)) (sym x.1) some))))

  -- past the size of the newest list layers have none
  none-past : (layers : List (Layer D)) (leaves : ℕ) → AreLinked shape leaves layers → (p : ℕ) → shape.size leaves ≤ p → layers_at shape layers p ≡ None
  none-past [] leaves linked p past = refl
  none-past (layer ∷ older) leaves linked p past =
      let start = layer.tree.start in
      let ordered : shape.size start ≤ shape.size leaves = sizes shape births family start leaves (omega (arith, linked.0, linked.1.order)) in
      let late : shape.size start ≤ p = omega (arith, past, ordered) in
      let own : layer_at shape layer p ≡ None = layer_at-past shape layer p late ∙ node_at-past shape layer.tree p late
      ∙ slice_get_past layer.tree.nodes (p - shape.size start) (omega (arith, past, ordered, linked.1.full, ap shape.size linked.0)) in
      ap (λ o. option_or o (layers_at shape older p)) own ∙ none-past older start linked.2 p late

  -- a layer over older ones that have the nodes from a size on
  over-between : (layer : Layer D) (older : List (Layer D)) (leaves boundary : ℕ) → AreLinked shape leaves (layer ∷ older) → IsAdding shape layer → boundary ≤ layer.tree.start
      → (p : ℕ) → IsSome (layers_at shape older p) ↔ ((shape.size boundary ≤ p) × (p < shape.size layer.tree.start)) → IsSome (layers_at shape (layer ∷ older) p) ↔ ((shape.size boundary ≤ p) × (p < shape.size leaves))
  over-between layer older leaves boundary linked adding least p rest =
      let start = layer.tree.start in
      let ordered : shape.size start ≤ shape.size leaves = sizes shape births family start leaves (omega (arith, linked.0, linked.1.order)) in
      ⊎_elim
      (λ (early : p < shape.size start).
      let same : layers_at shape (layer ∷ older) p ≡ layers_at shape older p = ap (λ o. option_or o (layers_at shape older p)) (none-before layer linked.1.order adding p early) in (
        λ some. let within = rest.0 (subst (λ o. IsSome o) same some) in (within.0, omega (arith, early, ordered)),
        λ within. subst (λ o. IsSome o) (sym same) (rest.1 (within.0, early)),
      ))
      (λ (late : shape.size start ≤ p).
      let own = layer_at-past shape layer p late ∙ node_at-past shape layer.tree p late in
      ⊎_elim
      (λ (low : p < shape.size leaves).
      let there : IsSome (layer_at shape layer p) =
      ap is_some own ∙ is_some-slice_get layer.tree.nodes (p - shape.size start) (omega (arith, late, low, linked.1.full, ap shape.size linked.0)) in
      (λ some. (omega (arith, late, sizes shape births family boundary start least), low), λ within. is_some-first (layer_at shape layer p) (layers_at shape older p) there))
      (λ (high : shape.size leaves ≤ p).
      (λ some. absurd (nothing (subst (λ o. IsSome o) (none-past (layer ∷ older) leaves linked p high) some)), λ within. absurd (omega (arith, within.1, high))))
      (cases_lt p (shape.size leaves)))
      (cases_lt p (shape.size start))

  -- if layers go through a list of so many leaves and through none of fewer, they have the nodes from its size on, up to that of the newest
  pub added-between : (layers : List (Layer D)) (leaves boundary : ℕ) → AreLinked shape leaves layers → All (IsAdding shape) layers → Contains (stops leaves layers) boundary → All (λ n. boundary ≤ n) (stops leaves layers)
      → (p : ℕ) → IsSome (layers_at shape layers p) ↔ ((shape.size boundary ≤ p) × (p < shape.size leaves))
  added-between [] leaves boundary linked adding reach above p =
      let at : leaves ≡ boundary = only-one leaves boundary reach in
      (λ some. absurd (nothing some), λ within. absurd (omega (arith, within.0, within.1, ap shape.size at)))
  added-between (layer ∷ older) leaves boundary linked adding reach above p =
      let start = layer.tree.start in
      let past = All-tail (λ n. boundary ≤ n) leaves (stops start older) above in
      let least : boundary ≤ start = All-contains (λ n. boundary ≤ n) (stops start older) start past (stops-first start older) in
      let lower : Contains (stops start older) boundary = ⊎_elim
      (λ (newest : leaves ≡ boundary). subst (Contains (stops start older)) (omega (arith, newest, least, linked.0, linked.1.order)) (stops-first start older))
      (λ (further : Contains (stops start older) boundary). further)
      (first_or_other leaves (stops start older) boundary reach) in
      over-between layer older leaves boundary linked (All-head (IsAdding shape) layer older adding) least p
      (added-between older start boundary linked.2 (All-tail (IsAdding shape) layer older adding) lower past p)

  -- each has its digest over the newest list
  pub added-digest : (bytes : D → Bytes) (hash : Bytes → Bytes) (layers : List (Layer D)) (leaves : ℕ) (new : List Bytes) (lists : List (List Bytes)) → AreLinked shape leaves layers → length new ≡ leaves → IsHistory shape bytes hash layers (new ∷ lists)
      → (x : Node) → IfSome (layers_at shape layers (shape.position x)) (λ d. bytes d ≡ digest_of hash shape new x)
  added-digest bytes hash layers leaves new lists linked long history x =
      let Q : D → Type 0 = λ d. bytes d ≡ digest_of hash shape new x in
      ⊎_elim
      (λ (late : leaves < shape.birth x). subst (λ o. IfSome o Q) (sym (none-past layers leaves linked (shape.position x) (stands_past shape births family x leaves late))) tt)
      (λ (born : shape.birth x ≤ leaves).
      if-there (layers_at shape layers (shape.position x)) ((shape.birth x ≤ length new) × (digest_of hash shape new x ≡ digest_of hash shape new x)) Q
      (layers_lead shape births family bytes hash layers new new lists history (Contains-first new lists) x (omega (arith, born, long))))
      (cases_lt leaves (shape.birth x))
    where
      if-there : (o : Option D) (P : Type 0) (Q : D → Type 0) → MatchOption o P Q → IfSome o Q
      if-there None P Q match = tt
      if-there (Some d) P Q match = match
