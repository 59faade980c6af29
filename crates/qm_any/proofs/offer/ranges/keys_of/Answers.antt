use Rattle.std.proofs.Common.{◌∙◌, ap, map}
use Rattle.qm_any.proofs.ScannedKeys.{keys-of_pairs}
use Rattle.qm_base.specs.Views.{limit_of}
use Rattle.qm_any.proofs.offer.ranges.keys_of.Goals as goal

pub returns-clause-keys : goal.returns-clause-keys
returns-clause-keys g c = λ list stands.
    let key = g.U.Key.ByteString.bytes in
    c.in_ok-firsts.ensures ∙ ap (map (λ p. p.0)) (c.in_ok-pairs.ensures.pairs list stands) ∙ keys-of_pairs (limit_of key c.args.low.now) (limit_of key c.args.high.now) list
