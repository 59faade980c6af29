use Rattle.std.proofs.Common.{◌≡◌, ◌+◌, ◌-◌, ◌*◌, ℕ, arith, ap₂, ◌∙◌}
use Rattle.qm_model.specs.Trees.{Node}
use Rattle.qm_merkle.specs.Mems.{left_of, right_of}
use Rattle.qm_merkle.proofs.Growth.{index_within, left_within, right_within}
use Rattle.qm_merkle.proofs.family.halves.Goals as goal

pub overflow_mul-index : goal.overflow_mul-index
overflow_mul-index c = omega (arith, index_within c.args.node c.requires.within)

-- a node by its height and index
made : (h i k j : ℕ) (x : Node) → x ≡ record { height = h; index = i } → h ≡ k → i ≡ j → x ≡ record { height = k; index = j }
made h i k j x is height index = is ∙ ap₂ (λ (a b : ℕ). record { height = a; index = b }) height index

pub returns-clause-inside : goal.returns-clause-inside
returns-clause-inside c =
    let x = c.args.node in
    let left : c.new.result ≡ left_of x = made _ _ (x.height - 1) (2 * x.index) c.new.result c.new.ensures (omega (arith, c.height-height.ensures)) (omega (arith, c.index-index.ensures)) in
    let right : c.new-2.result ≡ right_of x = made _ _ (x.height - 1) (2 * x.index + 1) c.new-2.result c.new-2.ensures (omega (arith, c.height-height.ensures)) (omega (arith, c.index-index.ensures)) in (
      omega (arith, left_within x c.new.result left c.requires.high, c.requires.within),
      omega (arith, right_within x c.new-2.result right c.requires.high, c.requires.within),
    )
