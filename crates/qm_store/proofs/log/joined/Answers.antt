use Rattle.std.proofs.Common.{◌∙◌, ◌++◌, map, ap, ap₂, add-one}
use Rattle.std.specs.List.{concat}
use Rattle.std.proofs.lemmas.List.{take_all}
use Rattle.std.proofs.lemmas.Result.{IfOk-from_err}
use Rattle.qm_store.proofs.Heads.{joined_next}
use Rattle.qm_store.proofs.log.joined.Goals as goal

pub loop-digest-preserved : goal.loop-digest-preserved
loop-digest-preserved g c =
    c.in_ok-extend_from_slice.ensures.items ∙ ap₂ (λ a b. a ++ b) c.loop-digest.invariant c.bytes.ensures
    ∙ rw add-one (joined_next g.D.Digest.bytes c.args.digests.now c.loop-digest.digest-index c.digest-item.result c.loop-digest-test.true c.digest-item.is)

pub returns-in_err-extend_from_slice : goal.returns-in_err-extend_from_slice
returns-in_err-extend_from_slice g c = IfOk-from_err c.from_residual.result _ c.from_residual.ensures.0

pub returns : goal.returns
returns g c = c.loop-digest.invariant ∙ ap (λ ds. concat (map g.D.Digest.bytes ds)) (take_all c.loop-digest.digest-index c.args.digests.now c.loop-digest-test.false)
