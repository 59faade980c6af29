-- The values of the reads so far, and one more.
use Rattle.std.proofs.Common.{◌∙◌, ◌∷◌, [], ap, map}
use Rattle.std.specs.Prelude.{option_map}
use Rattle.std.proofs.lemmas.List.{map-append, take_all}
use Rattle.std.proofs.lemmas.Result.{IfOk-from_err}
use Rattle.qm_step.proofs.MovesLoops.{taken-more}
use Rattle.qm_step.specs.Views.{read_view}
use Rattle.qm_any.specs.Databases.{read_under}
use Rattle.qm_any.proofs.db.values_of.Goals as goal

pub returns-in_err-values : goal.returns-in_err-values
returns-in_err-values g c = IfOk-from_err c.from_residual.result _ c.from_residual.ensures.0

pub returns-in_err-value : goal.returns-in_err-value
returns-in_err-value g c = IfOk-from_err c.from_residual-in_err-value.result _ c.from_residual-in_err-value.ensures.0

pub returns-in_err-push : goal.returns-in_err-push
returns-in_err-push g c = IfOk-from_err c.from_residual-in_err-push.result _ c.from_residual-in_err-push.ensures.0

pub loop-read-init : goal.loop-read-init
loop-read-init g c = ap (map (option_map g.U.Value.ByteString.bytes)) c.in_ok-values.ensures.items

pub loop-read-preserved : goal.loop-read-preserved
loop-read-preserved g c =
    let value = option_map g.U.Value.ByteString.bytes in
    taken-more (λ r. read_under c.args.writes.now (g.U.Key.ByteString.bytes r.key) (option_map (read_view g.U.Update.view) r.found)) c.args.reads.now c.loop-read.read-index c.read-item.result
    (map value c.loop-read.values.items) (map value c.push.new.self.items) (value c.in_ok-value.value) c.loop-read-test.true c.read-item.is
    (ap (map value) c.in_ok-push.ensures.items ∙ map-append value c.loop-read.values.items (c.in_ok-value.value ∷ [])) c.in_ok-value.ensures c.loop-read.invariant

pub returns : goal.returns
returns g c =
    c.loop-read.invariant
    ∙ ap (map (λ r. read_under c.args.writes.now (g.U.Key.ByteString.bytes r.key) (option_map (read_view g.U.Update.view) r.found))) (take_all c.loop-read.read-index c.args.reads.now c.loop-read-test.false)
