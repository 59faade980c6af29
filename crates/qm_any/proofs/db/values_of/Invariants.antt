use Rattle.std.proofs.Common.{◌≡◌, take, map}
use Rattle.std.specs.Prelude.{option_map}
use Rattle.qm_step.specs.Views.{read_view}
use Rattle.qm_any.specs.Databases.{read_under}
use Rattle.qm_any.proofs.db.values_of.Given as goal

-- the values of the keys so far
abbrev pub invariant-loop-read : goal.invariant-loop-read
invariant-loop-read g l =
    map (option_map g.U.Value.ByteString.bytes) l.values.items
    ≡ map (λ r. read_under l.writes (g.U.Key.ByteString.bytes r.key) (option_map (read_view g.U.Update.view) r.found)) (take l.read-index l.reads)
