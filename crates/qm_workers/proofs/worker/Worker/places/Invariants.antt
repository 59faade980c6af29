use Rattle.std.proofs.Common.{◌≡◌, ◌++◌, ◌-◌, map}
use Rattle.qm_workers.proofs.worker.Worker.places.Given as goal

abbrev pub invariant-loop-location : goal.invariant-loop-location
invariant-loop-location g l = l.places.items ++ map (λ at. at - l.floor) l.location-iterator ≡ map (λ at. at - l.floor) l.self.located.keys
