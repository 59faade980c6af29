use Rattle.std.proofs.Common.{◌≡◌, ◌+◌, length}
use Rattle.qm_workers.specs.Working.{work_of, Goes}
use Rattle.qm_workers.proofs.worker.WorkerTurning.turn.Given as goal

abbrev pub invariant-loop : goal.invariant-loop
invariant-loop g l =
    let old = work_of g.I.Unordered.entries g.K.ByteString.bytes l.initial.self in
    let now = work_of g.I.Unordered.entries g.K.ByteString.bytes l.self in record {
      goes : Goes g.I.Unordered.index_key old now;
      long : length now.coming + l.counter ≡ length old.coming;
      start : l.counter ≡ 0 → now ≡ old;
    }
