use Rattle.std.proofs.Common.{◌*◌, ◌+◌, ◌∙◌, ap, sym, drop}
use Rattle.std.proofs.lemmas.Result.{IfOk-weaker}
use Rattle.qm_bits.specs.Words.{is_set}
use Rattle.qm_bits.proofs.Held.{held_from}
use Rattle.qm_bits.proofs.bitmap.BitMap.bytes.Goals as goal

pub returns : goal.returns
returns c = IfOk-weaker c.bytes.result _ _
    (λ bytes made. made (drop (64 * c.args.first) c.args.self.now)
    (λ i within. held_from c.self.inside.length c.self.inside.words.items c.args.self.now c.self.view_is c.self.invariant (64 * c.args.first) i ∙ ap (λ ws. is_set ws (64 * c.args.first + i)) (sym c.deref.ensures.value)))
    c.bytes.ensures
