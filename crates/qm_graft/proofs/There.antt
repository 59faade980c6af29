-- Which node stands at a position, as the definitions look for it, and what is held of it.
use Rattle.std.proofs.Common.{◌≡◌, ◌-◌, ◌<◌, ◌≤◌, ℕ, zero, suc, if◌then◌else◌, Option, None, arith, sym, ◌∙◌, ap, ⊎_elim}
use Rattle.std.proofs.lemmas.Bool.{cases_lt, lt-ltb, le-ltb, lt-leb, le-leb}
use Rattle.qm_model.specs.Trees.{Node, Shape}
use Rattle.qm_model.specs.Families.{Births, IsFamily}
use Rattle.qm_model.specs.Grafted.{lowered}
use Rattle.qm_merkle.proofs.Numbering.{sizes, place}
use Rattle.qm_graft.specs.Trees.{Stands, leaf_before, node_there, held_of, held_at}
use Rattle.qm_graft.proofs.Viewing.{stands_inside}

module _ (shape : Shape) (births : Births) (family : IsFamily shape births) where
  leaf_is : (n l at : ℕ) → l < n → shape.size l ≤ at → at < shape.size (suc l) → leaf_before shape n at ≡ l
  leaf_is zero l at low from to = absurd (omega (arith, low))
  leaf_is (suc n) l at low from to = ⊎_elim
      (λ (before : at < shape.size n).
      let fewer : l < n = ⊎_elim (λ (less : l < n). less) (λ (more : n ≤ l). absurd (omega (arith, sizes shape births family n l more, from, before))) (cases_lt l n) in
      ap (λ b. if b then n else leaf_before shape n at) (lt-leb (shape.size n) at before) ∙ leaf_is n l at fewer from to)
      (λ (past : shape.size n ≤ at).
      let least : n ≤ l = ⊎_elim (λ (less : l < n). absurd (omega (arith, sizes shape births family (suc l) n less, to, past))) (λ (more : n ≤ l). more) (cases_lt l n) in
      let same : n ≡ l = omega (arith, least, low) in
      ap (λ b. if b then n else leaf_before shape n at) (le-leb (shape.size n) at past) ∙ same)
      (cases_lt at (shape.size n))

  there_is : (leaves at : ℕ) (x : Node) → Stands shape leaves at x → node_there shape births leaves at ≡ x
  there_is leaves at x stands =
      let p = place shape births family x in
      let low : p.before < leaves = omega (arith, p.birth, stands.1) in
      let from : shape.size p.before ≤ at = omega (arith, p.at, stands.0) in
      let to : at < shape.size (suc p.before) = omega (arith, p.at, stands.0, p.low, family.sized p.before) in
      let number : at - shape.size p.before ≡ p.number = omega (arith, p.at, stands.0) in
      ap (λ (l : ℕ). births.born l (at - shape.size l)) (leaf_is leaves p.before at low from to) ∙ ap (births.born p.before) number ∙ sym p.is

  module _ {D : Type 0} (operations grafted : ℕ → Option D) (g leaves at : ℕ) where
    pub held_none : shape.size leaves ≤ at → held_at shape births operations grafted leaves g at ≡ None
    held_none behind = ap (λ b. if b then held_of shape operations grafted g (node_there shape births leaves at) else None) (le-ltb at (shape.size leaves) behind)

    held_stands : (x : Node) → Stands shape leaves at x → held_at shape births operations grafted leaves g at ≡ held_of shape operations grafted g x
    held_stands x stands =
        ap (λ b. if b then held_of shape operations grafted g (node_there shape births leaves at) else None) (lt-ltb at (shape.size leaves) (stands_inside shape births family leaves at x stands))
        ∙ ap (held_of shape operations grafted g) (there_is leaves at x stands)

    pub held_low : (x : Node) → Stands shape leaves at x → x.height < g → held_at shape births operations grafted leaves g at ≡ operations at
    held_low x stands low =
        held_stands x stands ∙ ap (λ b. if b then operations (shape.position x) else grafted (shape.position (lowered g x))) (lt-ltb x.height g low) ∙ ap operations stands.0

    pub held_high : (x : Node) → Stands shape leaves at x → g ≤ x.height → held_at shape births operations grafted leaves g at ≡ grafted (shape.position (lowered g x))
    held_high x stands high =
        held_stands x stands ∙ ap (λ b. if b then operations (shape.position x) else grafted (shape.position (lowered g x))) (le-ltb x.height g high)
