use Rattle.std.proofs.Common.{subst}
use Rattle.qm_model.specs.StoreModel.{destroyed, DestroyLeaves, Becomes, Leaves}
use Rattle.qm_merkle.proofs.Standing.{peaks-none}
use Rattle.qm_any.specs.Layouts.{hashing_of}
use Rattle.qm_any.proofs.Crashing.{destroyed-safe, undestroyed-safe}
use Rattle.qm_any.proofs.db.Db.destroy.Goals as goal

pub returns-in-Ok-clause-crashes : goal.returns-in-Ok-clause-crashes
returns-in-Ok-clause-crashes g c = λ rules log.
    let told = g.C.Store.told in
    let hashing = hashing_of g.H.Digest.Digest.bytes g.H.Hasher g.F.Family g.U.Update in
    let bare = peaks-none g.F.Family.shape g.F.Family.births g.met.F.Family.numbered g.met.F.Family.peaked in
    destroyed-safe g.C.Store hashing g.H.Digest.Digest.SIZE rules bare log (told c.args.self.log.store) (told c.destroy.new.self)
    (subst (λ s. Becomes (told s) (told c.destroy.new.self) destroyed) c.close-store.ensures c.in-Ok.ensures.ok)

pub returns-in-Err-clause-crashes_failing : goal.returns-in-Err-clause-crashes_failing
returns-in-Err-clause-crashes_failing g c = λ rules log.
    let told = g.C.Store.told in
    let hashing = hashing_of g.H.Digest.Digest.bytes g.H.Hasher g.F.Family g.U.Update in
    let bare = peaks-none g.F.Family.shape g.F.Family.births g.met.F.Family.numbered g.met.F.Family.peaked in
    undestroyed-safe g.C.Store hashing g.H.Digest.Digest.SIZE rules bare log (told c.args.self.log.store) (told c.destroy.new.self)
    (subst (λ s. Leaves (told s) (told c.destroy.new.self) DestroyLeaves) c.close-store.ensures c.in-Err.ensures.err)
