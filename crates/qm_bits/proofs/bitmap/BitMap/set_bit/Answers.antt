use Rattle.std.proofs.Common.{◌∙◌, arith}
use Rattle.qm_bits.proofs.Held.{long, held_set}
use Rattle.qm_bits.proofs.bitmap.BitMap.set_bit.Goals as goal

pub put-requires : goal.put-requires
put-requires c =
    let count = long c.self.inside.length c.self.inside.words.items c.args.self.now c.self.view_is in
    omega (arith, c.requires, c.self.invariant.within)

pub invariant_of-self : goal.invariant_of-self
invariant_of-self c =
    let count = long c.self.inside.length c.self.inside.words.items c.args.self.now c.self.view_is in
    record {
      within = omega (arith, c.put.ensures.len, c.self.invariant.within);
      clear = λ i past. c.put.ensures.others i (λ same. absurd (omega (arith, same, c.requires))) ∙ c.self.invariant.clear i past;
      bounded = c.self.invariant.bounded;
    }

pub returns : goal.returns
returns c = held_set c.self.inside.length c.self.inside.words.items c.args.self.now c.self.view_is c.put.new.words.items c.args.at c.args.value c.requires c.put.ensures.here c.put.ensures.others
