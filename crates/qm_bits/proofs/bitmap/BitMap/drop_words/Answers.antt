use Rattle.std.proofs.Common.{◌≡◌, ◌-◌, ◌*◌, ◌∙◌, ap, sym, subst, drop, arith}
use Rattle.qm_bits.specs.Words.{bits_of, AreHeld}
use Rattle.qm_bits.proofs.Held.{long, held_behind, are_behind}
use Rattle.qm_bits.proofs.bitmap.BitMap.drop_words.Goals as goal

pub drop_first-requires : goal.drop_first-requires
drop_first-requires c =
    let count = long c.self.inside.length c.self.inside.words.items c.args.self.now c.self.view_is in
    omega (arith, c.requires, c.self.invariant.within)

pub overflow_sub-self : goal.overflow_sub-self
overflow_sub-self c =
    let count = long c.self.inside.length c.self.inside.words.items c.args.self.now c.self.view_is in
    omega (arith, c.requires)

pub invariant_of-self : goal.invariant_of-self
invariant_of-self c =
    let same : 64 * c.args.count ≡ c.args.count * 64 = omega arith in
    subst (λ ws. AreHeld (c.self.inside.length - c.args.count * 64) ws) (sym c.drop_first.ensures)
    (subst (λ k. AreHeld (c.self.inside.length - k) (drop c.args.count c.self.inside.words.items)) same
    (are_behind c.self.inside.length c.self.inside.words.items c.args.self.now c.self.view_is c.self.invariant c.args.count c.requires))

pub returns : goal.returns
returns c =
    let same : c.args.count * 64 ≡ 64 * c.args.count = omega arith in
    ap (λ ws. bits_of (c.self.inside.length - c.args.count * 64) ws) c.drop_first.ensures
    ∙ ap (λ k. bits_of (c.self.inside.length - k) (drop c.args.count c.self.inside.words.items)) same
    ∙ held_behind c.self.inside.length c.self.inside.words.items c.args.self.now c.self.view_is c.args.count

pub overflow_mul-self : goal.overflow_mul-self
overflow_mul-self c =
    let count = long c.self.inside.length c.self.inside.words.items c.args.self.now c.self.view_is in
    omega (arith, c.requires, c.self.invariant.bounded)
