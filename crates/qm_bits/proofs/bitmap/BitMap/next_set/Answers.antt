use Rattle.std.proofs.Common.{◌∙◌, ap, sym, length, arith}
use Rattle.qm_bits.specs.Words.{is_set}
use Rattle.qm_bits.proofs.Held.{long, held_bit}
use Rattle.qm_bits.proofs.bitmap.BitMap.next_set.Goals as goal

pub next_set-requires-clause-within : goal.next_set-requires-clause-within
next_set-requires-clause-within c =
    let count = long c.self.inside.length c.self.inside.words.items c.args.self.now c.self.view_is in
    omega (arith, c.requires.within, c.self.invariant.within, ap length c.deref.ensures.value)

pub returns-clause-clear : goal.returns-clause-clear
returns-clause-clear c = λ i from before.
    held_bit c.self.inside.length c.self.inside.words.items c.args.self.now c.self.view_is c.self.invariant i
    ∙ ap (λ ws. is_set ws i) (sym c.deref.ensures.value)
    ∙ c.next_set.ensures.clear i from before

pub returns-clause-set : goal.returns-clause-set
returns-clause-set c = λ before.
    held_bit c.self.inside.length c.self.inside.words.items c.args.self.now c.self.view_is c.self.invariant c.next_set.result
    ∙ ap (λ ws. is_set ws c.next_set.result) (sym c.deref.ensures.value)
    ∙ c.next_set.ensures.set before

pub next_set-requires-clause-small : goal.next_set-requires-clause-small
next_set-requires-clause-small c =
    let count = long c.self.inside.length c.self.inside.words.items c.args.self.now c.self.view_is in
    omega (arith, c.requires.within, c.self.invariant.bounded)
