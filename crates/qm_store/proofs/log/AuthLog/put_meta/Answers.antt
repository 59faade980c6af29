use Rattle.std.proofs.Common.{refl}
use Rattle.qm_model.specs.StoreModel.{with_metadata, IsOldOrNew, ReadsAs}
use Rattle.qm_store.proofs.Called.{IsCalled, called}
use Rattle.qm_store.proofs.log.AuthLog.put_meta.Given
use Rattle.qm_store.proofs.log.AuthLog.put_meta.Goals.{After-log_after}
use Rattle.qm_store.proofs.log.AuthLog.put_meta.Goals as goal

all : (g : Given.Over) (c : After-log_after g) → IsCalled g.C.Store g.F.Family.shape g.H.Digest.Digest.bytes g.H.Hasher.hash (with_metadata c.args.name.now c.args.entries.now) (λ s. ReadsAs s.stable (IsOldOrNew (with_metadata c.args.name.now c.args.entries.now) s)) c.log_after.result c.args.self
all g c =
    let done = c.put_meta-done in
    let store = c.self.inside.store in
    called g.C.Store g.F.Family.shape g.H.Digest.Digest.bytes g.H.Hasher.hash (with_metadata c.args.name.now c.args.entries.now) (λ s. ReadsAs s.stable (IsOldOrNew (with_metadata c.args.name.now c.args.entries.now) s)) c.log_after.result (record { store = store; tree = c.self.inside.tree }) c.args.self done.new.self done.result
    c.self.view_is (λ s. refl) (g.met.C.Store.told_start store) (g.met.C.Store.told_end store) done.ensures.ok done.ensures.ok_end done.ensures.err done.ensures.same_start done.ensures.within done.ensures.cause done.ensures.counted
    c.log_after.ensures.ok c.log_after.ensures.err

pub returns : goal.returns
returns g c = record {
  stands = (all g c).stands;
  tree = (all g c).tree;
  put = (all g c).become;
  refused = (all g c).refused;
  given = (all g c).given;
  later = (all g c).later;
}
