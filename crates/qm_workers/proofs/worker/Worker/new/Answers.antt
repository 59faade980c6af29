use Rattle.std.proofs.Common.{ap, map, refl}
use Rattle.qm_workers.specs.Working.{move_of}
use Rattle.qm_workers.proofs.worker.Worker.new.Goals as goal

pub returns : goal.returns
returns g c = record {
  entries = c.requires;
  located = c.new-2.ensures.empty;
  coming = ap (map (move_of g.K.ByteString.bytes)) c.new-3.ensures.items;
  live = refl;
  failed = refl;
  known = c.in_ok-keys.ensures;
}
