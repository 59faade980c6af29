use Rattle.std.proofs.Common.{◌∙◌, ap}
use Rattle.qm_step.specs.Views.{changes_view}
use Rattle.qm_step.proofs.Entries.{change-found}
use Rattle.qm_batch.proofs.read.entry_in.Goals as goal

pub returns : goal.returns
returns g c =
    let key = g.U.Key.ByteString.bytes in
    let value = g.U.Value.ByteString.bytes in
    change-found key value c.get.result c.deref.result.now c.args.key.now (c.args.layer.now).changes c.get.ensures (ap (changes_view key value) c.deref.ensures ∙ c.diff.ensures)
