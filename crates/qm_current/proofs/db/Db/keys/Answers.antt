use Rattle.std.proofs.Common.{◌∙◌, ap, map}
use Rattle.qm_base.specs.Views.{limit_of}
use Rattle.qm_any.proofs.ScannedKeys.{keys-of_pairs}
use Rattle.qm_current.proofs.db.Db.keys.Goals as goal

pub returns : goal.returns
returns g c = record {
  value = λ list.
      ap (map (λ p. p.0)) (c.stream_range.ensures.value list) ∙ keys-of_pairs (limit_of g.U.Key.ByteString.bytes c.args.low) (limit_of g.U.Key.ByteString.bytes c.args.high) list;
  lent = c.stream_range.ensures.lent;
  same = c.stream_range.ensures.same;
}
