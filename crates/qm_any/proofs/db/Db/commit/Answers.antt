use Rattle.std.proofs.Common.{ap, arith, map, subst}
use Rattle.qm_model.proofs.Results.{err-both, ok-each, ok-four}
use Rattle.qm_model.specs.Forms.{spelling}
use Rattle.qm_model.specs.StoreModel.{settled}
use Rattle.qm_store.specs.Log.{IsLog}
use Rattle.qm_any.specs.Databases.{IsDatabase}
use Rattle.qm_any.specs.Layouts.{layout_of, hashing_of}
use Rattle.qm_any.specs.Lasting.{HasLasted, HasLeftStable, IsGivenUp}
use Rattle.qm_any.proofs.Lasting.{ok-three, still-told, ok-over, err-over, relogged, lasted, given-up}
use Rattle.qm_any.proofs.Crashing.{settled-safe}
use Rattle.qm_any.proofs.db.Db.commit.Goals as goal

pub returns-clause-stands : goal.returns-clause-stands
returns-clause-stands g c = λ list is.
    let layout = layout_of g.N.Chunks.LEN g.H.Digest.Digest.bytes g.H.Hasher g.F.Family g.U.Update g.I.Unordered in
    let state = c.into_parts-log.result.1 in
    let old = c.into_parts-log.result.0 in
    let was = subst (λ db. IsDatabase g.C.Store layout db list) c.into_parts-log.ensures.whole is in
    ok-over g.C.Store state c.commit.result c.over.result (λ db. IsDatabase g.C.Store layout db list) c.over.ensures
    (ok-three c.commit.result (c.commit.ensures.stands (map (spelling g.U.Update.form) list) was.lent.logged) c.commit.ensures.committed c.commit.ensures.tree
    (λ log stands become same. relogged g.C.Store layout state old log list (omega (arith, ap (λ t. t.start) same, was.low)) (still-told (g.C.Store.told old.store) (g.C.Store.told log.store) settled become.told) stands was))

pub returns-clause-committed : goal.returns-clause-committed
returns-clause-committed g c =
    let hashing = hashing_of g.H.Digest.Digest.bytes g.H.Hasher g.F.Family g.U.Update in
    let state = c.into_parts-log.result.1 in
    let old = c.into_parts-log.result.0 in
    ok-over g.C.Store state c.commit.result c.over.result (HasLasted g.C.Store hashing settled c.args.self) c.over.ensures
    (ok-four c.commit.result (ok-each (IsLog g.C.Store hashing.shape hashing.bytes hashing.hash old) (λ items log. IsLog g.C.Store hashing.shape hashing.bytes hashing.hash log items) c.commit.result c.commit.ensures.stands) c.commit.ensures.tree c.commit.ensures.committed c.commit.ensures.later
    (λ log stands tree become later. lasted g.C.Store hashing settled c.args.self state old log c.into_parts-log.ensures.whole stands tree become later))

pub returns-clause-refused : goal.returns-clause-refused
returns-clause-refused g c =
    let state = c.into_parts-log.result.1 in
    let old = c.into_parts-log.result.0 in
    err-over g.C.Store state c.commit.result c.over.result (IsGivenUp g.C.Store (HasLeftStable g.C.Store) c.args.self.log.store) c.over.ensures
    (err-both c.commit.result c.commit.ensures.refused c.commit.ensures.given
    (λ r refused never. given-up g.C.Store (HasLeftStable g.C.Store) c.args.self state old r c.into_parts-log.ensures.whole refused never))

pub returns-clause-crashes : goal.returns-clause-crashes
returns-clause-crashes g c = λ rules log.
    settled-safe g.C.Store (hashing_of g.H.Digest.Digest.bytes g.H.Hasher g.F.Family g.U.Update) g.H.Digest.Digest.SIZE rules log c.args.self c.over.result (returns-clause-committed g c) (returns-clause-refused g c)
