use Rattle.std.proofs.Common.{arith}
use Rattle.std.proofs.lemmas.List.Elements.{All-push, All-same}
use Rattle.qm_workers.specs.Working.{work_of, IsNew}
use Rattle.qm_workers.proofs.sharing.hire.Goals as goal

pub loop-worker-preserved : goal.loop-worker-preserved
loop-worker-preserved g c =
    let before = c.loop-worker.invariant in
    let pushed = c.in_ok-push.ensures in
    record {
      long = omega (arith, before.long, pushed.len);
      new = All-same (λ w. IsNew (work_of g.I.Unordered.entries g.K.ByteString.bytes w)) c.push.new.self.items _ pushed.items
          (All-push (λ w. IsNew (work_of g.I.Unordered.entries g.K.ByteString.bytes w)) c.loop-worker.crew.items c.in_ok-new.field-0 before.new c.in_ok-new.ensures);
    }
