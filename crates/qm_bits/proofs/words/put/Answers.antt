use Rattle.std.proofs.Common.{◌≡◌, ◌/◌, ◌∙◌, ap, get_or, arith, rules}
use Rattle.std.proofs.lemmas.List.{get_or_read}
use Rattle.std.specs.Int.{bit_at}
use Rattle.qm_bits.proofs.Places.{changed_here, changed_other}
use Rattle.qm_bits.proofs.words.put.Goals as goal

pub returns-clause-here : goal.returns-clause-here
returns-clause-here c = changed_here c.args.words.now.items c.args.at c.with_bit.result c.args.value c.requires c.with_bit.ensures.here

pub returns-clause-others : goal.returns-clause-others
returns-clause-others c =
    let word : c.index.result.now ≡ get_or c.args.words.now.items (c.args.at / 64) 0 = get_or_read c.args.words.now.items (c.args.at / 64) c.index.result.now (omega arith) (search rules) 0 in
    changed_other c.args.words.now.items c.args.at c.with_bit.result c.requires (λ i low apart. c.with_bit.ensures.others i low apart ∙ ap (λ w. bit_at w i) word)
