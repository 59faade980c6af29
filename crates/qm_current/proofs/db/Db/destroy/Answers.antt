use Rattle.std.proofs.Common.{ap, subst, sym}
use Rattle.qm_model.specs.Own.{no_log}
use Rattle.qm_model.specs.StoreModel.{destroyed, DestroyLeaves, Becomes, Leaves}
use Rattle.qm_store.specs.Given.{store_given}
use Rattle.qm_offer.specs.Crashing.{IsSafe}
use Rattle.qm_any.specs.Databases as anys
use Rattle.qm_any.specs.Lasting.{HasLeftDestroyed, IsGivenUp}
use Rattle.qm_any.specs.Layouts.{layout_of}
use Rattle.qm_current.specs.Applying.{store_in}
use Rattle.qm_current.specs.Databases.{Database}
use Rattle.qm_current.proofs.Crashing.{e, enough-of, laws, places-of, destroyed-safe, undestroyed-safe}
use Rattle.qm_current.proofs.Lasting.{lifted}
use Rattle.qm_current.proofs.db.Db.destroy.Goals as goal

pub returns-in-Ok-clause-crashes : goal.returns-in-Ok-clause-crashes
returns-in-Ok-clause-crashes g c = λ rules log.
    let members = g.C.Store in
    let layout = layout_of g.N.Chunks.LEN g.H.Digest.Digest.bytes g.H.Hasher g.F.Family g.U.Update g.I.Unordered in
    let places = places-of g.F.Family.shape g.F.Family.births g.met.F.Family.numbered g.met.F.Family.peaked in
    let some = enough-of g.N.Chunks.LEN g.met.N.Chunks.least in
    let any_is = ap (λ (d : Database g.row.C.Denot g.row.H-Digest.Denot). d.any) c.self.view_is in
    destroyed-safe members (store_in {C = g.row.C.Denot} {D = g.row.H-Digest.Denot}) (e layout g.H.Digest.Digest.SIZE c.args.self.name rules g.F.Family.births places some) (laws layout g.H.Digest.Digest.SIZE c.args.self.name rules g.F.Family.births places some) places.bare log
    (members.told c.args.self.any.log.store) (members.told c.in-Ok.store)
    (subst (λ (d : anys.Database g.row.C.Denot g.row.H-Digest.Denot). Becomes (members.told d.log.store) (members.told c.in-Ok.store) destroyed) any_is c.in-Ok.ensures.destroyed.told)

pub returns-clause-crashes_failing : goal.returns-clause-crashes_failing
returns-clause-crashes_failing g c = λ rules log.
    let members = g.C.Store in
    let layout = layout_of g.N.Chunks.LEN g.H.Digest.Digest.bytes g.H.Hasher g.F.Family g.U.Update g.I.Unordered in
    let places = places-of g.F.Family.shape g.F.Family.births g.met.F.Family.numbered g.met.F.Family.peaked in
    let some = enough-of g.N.Chunks.LEN g.met.N.Chunks.least in
    let any_is = ap (λ (d : Database g.row.C.Denot g.row.H-Digest.Denot). d.any) c.self.view_is in
    let old = c.self.inside.any.log.store in
    let up = subst (IsGivenUp members (HasLeftDestroyed members) old) (sym c.given_up.ensures) (lifted members (HasLeftDestroyed members) old c.in-Err.refusal c.in-Err.ensures.refused) in
    subst (λ given. IsSafe members (e layout g.H.Digest.Digest.SIZE c.args.self.name rules g.F.Family.births places some) log no_log c.args.self.any.log.store (store_given store_in given)) (sym up.given)
    (undestroyed-safe members (store_in {C = g.row.C.Denot} {D = g.row.H-Digest.Denot}) (e layout g.H.Digest.Digest.SIZE c.args.self.name rules g.F.Family.births places some) (laws layout g.H.Digest.Digest.SIZE c.args.self.name rules g.F.Family.births places some) places.bare log
    (members.told c.args.self.any.log.store) (members.told up.store)
    (subst (λ (d : anys.Database g.row.C.Denot g.row.H-Digest.Denot). Leaves (members.told d.log.store) (members.told up.store) DestroyLeaves) any_is up.left.told))
