use Rattle.std.specs.Prelude.{sum_by}
use Rattle.qm_build.specs.Reads.{KeepsLog}
use Rattle.qm_workers.specs.Working.{work_of, left_of}
use Rattle.qm_workers.proofs.Answering.{AreWorked}
use Rattle.qm_workers.proofs.round.round.Given as goal

abbrev pub invariant-loop-alloc : goal.invariant-loop-alloc
invariant-loop-alloc g l = record {
  ready : g.T.Runs.ready l.run;
  read : KeepsLog g.C.Store g.F.Family.shape g.H.Digest.Digest.bytes g.H.Hasher.hash l.initial.log l.log;
  worked : AreWorked g.C.Store g.U.Update.form g.I.Unordered.index_key l.initial.log (work_of g.I.Unordered.entries g.U.Key.ByteString.bytes) l.initial.crew l.crew;
}

abbrev pub decreases-loop-alloc : goal.decreases-loop-alloc
decreases-loop-alloc g l = sum_by (λ w. left_of g.I.Unordered.index_key (work_of g.I.Unordered.entries g.U.Key.ByteString.bytes w)) l.crew
