use Rattle.std.proofs.Common.{◌∙◌, ap, sym, map}
use Rattle.qm_step.specs.Nearest.{last_key, limit_view}
use Rattle.qm_step.specs.Views.{change_view, changes_view}
use Rattle.qm_step.proofs.LastKeys.{change-key}
use Rattle.qm_step.proofs.Steps.{map-twice}
use Rattle.qm_batch.proofs.neighbours.left.last_of.Goals as goal

pub returns : goal.returns
returns g c =
    let key = g.U.Key.ByteString.bytes in
    let value = g.U.Value.ByteString.bytes in
    c.last_before.ensures
    ∙ ap (last_key (limit_view c.args.limit))
    (ap (map (λ e. key e.0)) c.entries.ensures.value ∙ sym (map-twice change-key (λ e. (key e.0, change_view value e.1)) c.deref.result.now)
    ∙ ap (map change-key) (ap (changes_view key value) c.deref.ensures ∙ c.diff.ensures))
