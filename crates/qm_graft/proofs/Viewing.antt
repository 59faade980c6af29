-- Which node stands at a position, and what its value is.
use Rattle.std.proofs.Common.{◌≡◌, ◌+◌, ◌-◌, ◌*◌, ◌^◌, ◌<◌, ◌≤◌, ℕ, zero, suc, if◌then◌else◌, nat_lt, List, length, Option, Some, None, IfSome, arith, refl, sym, ◌∙◌, ap, ap₂, subst, ⊎_elim}
use Rattle.std.specs.Prelude.{unwrap_or}
use Rattle.std.proofs.Math.Nat.{pow-suc}
use Rattle.std.proofs.lemmas.Bool.{cases_lt, lt-ltb, le-ltb, le-leb}
use Rattle.qm_model.specs.Operations.{Bytes}
use Rattle.qm_model.specs.Trees.{Node, Shape, end_of, node_digest, digest, digest_of}
use Rattle.qm_model.specs.Families.{Births, IsFamily}
use Rattle.qm_model.specs.Grafted.{raised, lowered, grafted_shape, chunk_values, value_over, grafted_value}
use Rattle.qm_model.proofs.GraftedLemmas.{length-chunk_values, value_is_digest}
use Rattle.qm_merkle.proofs.Numbering.{stands_below}
use Rattle.qm_proofs.specs.Proofs.{Tells}
use Rattle.qm_graft.specs.Grafting.{fits, kept_shape}
use Rattle.qm_graft.specs.Trees.{Stands}

module _ (shape : Shape) (births : Births) (family : IsFamily shape births) where
  -- no node stands after the last one
  pub stands_inside : (leaves at : ℕ) (x : Node) → Stands shape leaves at x → at < shape.size leaves
  stands_inside leaves at x stands = omega (arith, stands.0, stands_below shape births family x leaves stands.1)

-- where the node stands in the grafted tree, if it is there
abbrev pub lowered_place : Shape → ℕ → Node → Option ℕ
lowered_place shape g node = if nat_lt node.height g then None else Some (shape.position (lowered g node))

-- what it says of a node's height, and of where it is
pub is_high : (shape : Shape) (g : ℕ) (node : Node) (p : ℕ) → Some p ≡ lowered_place shape g node → (g ≤ node.height) × (p ≡ shape.position (lowered g node))
is_high shape g node p is = ⊎_elim
    (λ (low : node.height < g). absurd (some_none p (is ∙ ap (λ b. if b then None else Some (shape.position (lowered g node))) (lt-ltb node.height g low))))
    (λ (high : g ≤ node.height). (high, ap (λ o. unwrap_or o 0) (is ∙ ap (λ b. if b then None else Some (shape.position (lowered g node))) (le-ltb node.height g high))))
    (cases_lt node.height g)
  where
    some_none : (p : ℕ) → Some p ≡ None → ⊥
    some_none p e = absurd (cc)

pub is_low : (shape : Shape) (g : ℕ) (node : Node) → None ≡ lowered_place shape g node → node.height < g
is_low shape g node is = ⊎_elim
    (λ (low : node.height < g). low)
    (λ (high : g ≤ node.height). absurd (none_some (shape.position (lowered g node)) (is ∙ ap (λ b. if b then None else Some (shape.position (lowered g node))) (le-ltb node.height g high))))
    (cases_lt node.height g)
  where
    none_some : (p : ℕ) → None ≡ Some p → ⊥
    none_some p e = absurd (cc)

-- The numbers of the grafted tree's nodes are those of the nodes that they stand for, as far as these fit.
pub kept-digest : (hash : Bytes → Bytes) (shape : Shape) (g : ℕ) (values : List Bytes) (h i : ℕ) → suc i * 2 ^ (h + g) ≤ 2 ^ 62 → digest hash (kept_shape shape g) values h i ≡ digest hash (grafted_shape shape g) values h i
kept-digest hash shape g values zero i within = refl
kept-digest hash shape g values (suc h) i within =
    let wide : suc i * 2 ^ (suc h + g) ≡ suc i * (2 ^ (h + g) * 2) = let up : suc h + g ≡ suc (h + g) = omega arith in ap (λ n. suc i * 2 ^ n) up ∙ ap (λ z. suc i * z) (pow-suc 2 (h + g)) in
    let number : (if fits g (record { height = suc h; index = i }) then shape.number (record { height = suc h + g; index = i }) else 0) ≡ shape.number (record { height = suc h + g; index = i }) =
    ap (λ b. if b then shape.number (record { height = suc h + g; index = i }) else 0) (le-leb (suc i * 2 ^ (suc h + g)) (2 ^ 62) within) in
    ap (λ n. node_digest hash n (digest hash (kept_shape shape g) values h (2 * i)) (digest hash (kept_shape shape g) values h (2 * i + 1))) number
    ∙ ap₂ (node_digest hash (shape.number (record { height = suc h + g; index = i }))) (kept-digest hash shape g values h (2 * i) (omega (arith, wide, within))) (kept-digest hash shape g values h (2 * i + 1) (omega (arith, wide, within)))

module _ {D : Type 0} (bytes : D → Bytes) (hash : Bytes → Bytes) (shape : Shape) (births : Births) (family : IsFamily shape births) (g : ℕ) (leaves : List Bytes) (chunks : ℕ → Bytes) where
  -- below the height of chunks a digest, and from there on a value
  low_value : (x : Node) → x.height < g → grafted_value hash shape g leaves chunks x ≡ digest_of hash shape leaves x
  low_value x low = ap (λ b. if b then digest_of hash shape leaves x else value_over hash shape g leaves chunks (x.height - g) x.index) (lt-ltb x.height g low)

  high_value : (x : Node) → g ≤ x.height → grafted_value hash shape g leaves chunks x ≡ value_over hash shape g leaves chunks (x.height - g) x.index
  high_value x high = ap (λ b. if b then digest_of hash shape leaves x else value_over hash shape g leaves chunks (x.height - g) x.index) (le-ltb x.height g high)

  -- the digest of a node in the grafted tree
  lowered_value : (count : ℕ) (x : Node) → g ≤ x.height → shape.birth (lowered g x) ≤ count → end_of x ≤ 2 ^ 62 →
      digest_of hash (kept_shape shape g) (chunk_values hash shape g leaves chunks 0 count) (lowered g x) ≡ value_over hash shape g leaves chunks (x.height - g) x.index
  lowered_value count x high born within =
      let up : x.height - g + g ≡ x.height = omega (arith, high) in
      kept-digest hash shape g (chunk_values hash shape g leaves chunks 0 count) (x.height - g) x.index (subst (λ h. suc x.index * 2 ^ h ≤ 2 ^ 62) (sym up) within)
      ∙ value_is_digest hash shape g leaves chunks count (x.height - g) x.index (omega (arith, family.inside (lowered g x), born))

  module _ (held : ℕ → Option D) where
    pub tells_low : Tells shape bytes hash held leaves → (x : Node) → x.height < g → shape.birth x ≤ length leaves → (given : Option D) → given ≡ held (shape.position x) → IfSome given (λ d. bytes d ≡ grafted_value hash shape g leaves chunks x)
    tells_low tells x low born given is =
        subst (λ (o : Option D). IfSome o (λ d. bytes d ≡ grafted_value hash shape g leaves chunks x)) (sym is)
        (subst (λ (v : Bytes). IfSome (held (shape.position x)) (λ d. bytes d ≡ v)) (sym (low_value x low)) (tells x born))

    pub tells_high : length leaves ≤ 2 ^ 62 → (count : ℕ) → ((x : Node) → shape.birth (raised g x) ≤ length leaves → shape.birth x ≤ count) → Tells (kept_shape shape g) bytes hash held (chunk_values hash shape g leaves chunks 0 count) →
        (x : Node) → g ≤ x.height → shape.birth x ≤ length leaves → (given : Option D) → given ≡ held (shape.position (lowered g x)) → IfSome given (λ d. bytes d ≡ grafted_value hash shape g leaves chunks x)
    tells_high few count grown tells x high born given is =
        let up : x.height - g + g ≡ x.height = omega (arith, high) in
        let there : shape.birth (lowered g x) ≤ count = grown (lowered g x) (subst (λ h. shape.birth (record { height = h; index = x.index }) ≤ length leaves) (sym up) born) in
        let long = length-chunk_values hash shape g leaves chunks 0 count in
        subst (λ (o : Option D). IfSome o (λ d. bytes d ≡ grafted_value hash shape g leaves chunks x)) (sym is)
        (subst (λ (v : Bytes). IfSome (held (shape.position (lowered g x))) (λ d. bytes d ≡ v)) (lowered_value count x high there (omega (arith, family.inside x, born, few)) ∙ sym (high_value x high)) (tells (lowered g x) (omega (arith, there, long))))
