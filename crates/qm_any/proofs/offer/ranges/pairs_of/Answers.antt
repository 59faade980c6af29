use Rattle.std.proofs.Common.{◌≡◌, ◌≤◌, ◌∙◌, ap, ap₂, map, length, subst, arith}
use Rattle.std.specs.Prelude.{IfOk}
use Rattle.qm_model.specs.Ranges.{pairs_in}
use Rattle.qm_base.specs.Views.{limit_of, pair_view}
use Rattle.qm_batch.specs.Scans.{left_of}
use Rattle.qm_any.proofs.OfferedRanges.{few-pairs}
use Rattle.qm_any.proofs.offer.ranges.pairs_of.Goals as goal

pub returns-clause-pairs : goal.returns-clause-pairs
returns-clause-pairs g c = λ list stands.
    let key = g.U.Key.ByteString.bytes in
    let view = pair_view key g.U.Value.ByteString.bytes in
    let whole : left_of g.I.Unordered.index_key c.new-scan.result list ≡ pairs_in (limit_of key c.args.low.now) (limit_of key c.args.high.now) list =
    ap (λ s. left_of g.I.Unordered.index_key s list) c.new-scan.ensures ∙ ap₂ (λ l h. pairs_in l h list) (ap (limit_of key) c.in_ok-low.ensures) (ap (limit_of key) c.in_ok-high.ensures) in
    let few : length (left_of g.I.Unordered.index_key c.new-scan.result list) ≤ c.active_keys-live.result =
    omega (arith, ap length whole, few-pairs (limit_of key c.args.low.now) (limit_of key c.args.high.now) list, c.active_keys-live.ensures, stands.live) in
    subst (λ xs. IfOk c.collected.result (λ pairs. map view pairs.items ≡ xs)) whole (c.collected.ensures.pairs list stands few)
