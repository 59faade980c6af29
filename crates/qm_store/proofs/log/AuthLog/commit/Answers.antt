use Rattle.std.proofs.Common.{refl}
use Rattle.qm_model.specs.StoreModel.{settled, IsImage, ReadsAs}
use Rattle.qm_store.proofs.Called.{IsCalled, called}
use Rattle.qm_store.proofs.log.AuthLog.commit.Given
use Rattle.qm_store.proofs.log.AuthLog.commit.Goals.{After-log_after}
use Rattle.qm_store.proofs.log.AuthLog.commit.Goals as goal

all : (g : Given.Over) (c : After-log_after g) → IsCalled g.C.Store g.F.Family.shape g.H.Digest.Digest.bytes g.H.Hasher.hash settled (λ s. ReadsAs s.stable (IsImage s)) c.log_after.result c.args.self
all g c =
    let done = c.commit-done in
    let store = c.self.inside.store in
    called g.C.Store g.F.Family.shape g.H.Digest.Digest.bytes g.H.Hasher.hash settled (λ s. ReadsAs s.stable (IsImage s)) c.log_after.result (record { store = store; tree = c.self.inside.tree }) c.args.self done.new.self done.result
    c.self.view_is (λ s. refl) (g.met.C.Store.told_start store) (g.met.C.Store.told_end store) done.ensures.ok done.ensures.ok_end done.ensures.err done.ensures.same_start done.ensures.within done.ensures.cause done.ensures.counted
    c.log_after.ensures.ok c.log_after.ensures.err

pub returns : goal.returns
returns g c = record {
  stands = (all g c).stands;
  tree = (all g c).tree;
  committed = (all g c).become;
  refused = (all g c).refused;
  given = (all g c).given;
  later = (all g c).later;
}
