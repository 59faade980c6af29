use Rattle.std.proofs.Common.{◌≡◌, All, vec_len}
use Rattle.qm_workers.specs.Working.{work_of, IsNew}
use Rattle.qm_workers.proofs.sharing.hire.Given as goal

abbrev pub invariant-loop-worker : goal.invariant-loop-worker
invariant-loop-worker g l = record {
  long : vec_len l.crew ≡ l.worker;
  new : All (λ w. IsNew (work_of g.I.Unordered.entries g.K.ByteString.bytes w)) l.crew.items;
}
