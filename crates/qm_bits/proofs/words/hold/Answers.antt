use Rattle.std.proofs.Common.{◌-◌, ◌∙◌, ap, replicate, ◌++◌, vec_len, arith}
use Rattle.std.proofs.lemmas.List.{take_all}
use Rattle.qm_bits.specs.Words.{is_set}
use Rattle.qm_bits.proofs.Places.{with_clear}
use Rattle.qm_bits.proofs.words.hold.Goals as goal

pub returns-in_ok-resize-clause-same : goal.returns-in_ok-resize-clause-same
returns-in_ok-resize-clause-same c = λ i.
    ap (λ ws. is_set ws i) (c.in_ok-resize.ensures.items ∙ ap (λ ws. ws ++ replicate (c.div_ceil-count.result - vec_len c.args.words.now) 0) (take_all c.div_ceil-count.result c.args.words.now.items (omega arith)))
    ∙ with_clear c.args.words.now.items (c.div_ceil-count.result - vec_len c.args.words.now) i
