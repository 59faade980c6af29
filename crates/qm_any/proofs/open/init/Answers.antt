use Rattle.qm_any.specs.Layouts.{layout_of}
use Rattle.qm_any.proofs.CrashingOpened.{opened-safe}
use Rattle.qm_any.proofs.open.init.Goals as goal

pub returns-clause-crashes : goal.returns-clause-crashes
returns-clause-crashes g c = λ rules log.
    opened-safe g.C.Store (layout_of g.N.Chunks.LEN g.H.Digest.Digest.bytes g.H.Hasher g.F.Family g.U.Update g.I.Unordered) g.H.Digest.Digest.SIZE rules c.args.max_size c.args.store log c.init_with.result c.init_with.ensures.opens
