use Rattle.std.proofs.Common.{◌∙◌, ap, arith, length}
use Rattle.qm_bits.specs.Words.{is_set}
use Rattle.qm_bits.proofs.Held.{long, bit_is}
use Rattle.qm_bits.proofs.bitmap.BitMap.get_bit.Goals as goal

pub get-requires : goal.get-requires
get-requires c =
    let count = long c.self.inside.length c.self.inside.words.items c.args.self.now c.self.view_is in
    omega (arith, c.requires, c.self.invariant.within, ap length c.deref.ensures.value)

pub returns : goal.returns
returns c = c.get.ensures ∙ ap (λ ws. is_set ws c.args.at) c.deref.ensures.value ∙ bit_is c.self.inside.length c.self.inside.words.items c.args.self.now c.self.view_is c.args.at c.requires
