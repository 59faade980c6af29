use Rattle.std.proofs.Common.{◌∙◌, arith}
use Rattle.qm_bits.proofs.Held.{long, held_more}
use Rattle.qm_bits.proofs.bitmap.BitMap.extend_to.Goals as goal

pub invariant_of-self-2 : goal.invariant_of-self-2
invariant_of-self-2 c =
    let count = long c.self.inside.length c.self.inside.words.items c.args.self.now c.self.view_is in
    record {
      within = c.in_ok-hold.ensures.ok;
      clear = λ i past. c.hold.ensures.same i ∙ c.self.invariant.clear i (omega (arith, c.requires.not_below));
      bounded = c.requires.bounded;
    }

pub returns-clause-ok : goal.returns-clause-ok
returns-clause-ok c = held_more c.self.inside.length c.self.inside.words.items c.args.self.now c.self.view_is c.hold.new.words.items c.args.len c.requires.not_below c.hold.ensures.same c.self.invariant.clear
