use Rattle.std.proofs.Common.{ap, arith, map, subst}
use Rattle.qm_model.proofs.Results.{err-both, ok-each, ok-four}
use Rattle.qm_model.specs.Forms.{spelling}
use Rattle.qm_model.specs.StoreModel.{with_metadata, IsOldOrNew, ReadsAs}
use Rattle.qm_store.specs.Log.{IsLog, HasLeft}
use Rattle.qm_any.specs.Databases.{IsDatabase}
use Rattle.qm_any.specs.Layouts.{layout_of, hashing_of}
use Rattle.qm_any.specs.Lasting.{HasLasted, IsGivenUp}
use Rattle.qm_any.proofs.Lasting.{ok-three, still-told, ok-over, err-over, relogged, lasted, given-up}
use Rattle.qm_any.proofs.db.Db.put_meta.Goals as goal

pub returns-clause-stands : goal.returns-clause-stands
returns-clause-stands g c = λ list is.
    let layout = layout_of g.N.Chunks.LEN g.H.Digest.Digest.bytes g.H.Hasher g.F.Family g.U.Update g.I.Unordered in
    let state = c.into_parts-log.result.1 in
    let old = c.into_parts-log.result.0 in
    let was = subst (λ db. IsDatabase g.C.Store layout db list) c.into_parts-log.ensures.whole is in
    ok-over g.C.Store state c.put_meta.result c.over.result (λ db. IsDatabase g.C.Store layout db list) c.over.ensures
    (ok-three c.put_meta.result (c.put_meta.ensures.stands (map (spelling g.U.Update.form) list) was.lent.logged) c.put_meta.ensures.put c.put_meta.ensures.tree
    (λ log stands become same. relogged g.C.Store layout state old log list (omega (arith, ap (λ t. t.start) same, was.low)) (still-told (g.C.Store.told old.store) (g.C.Store.told log.store) (with_metadata c.args.name.now c.args.entries.now) become.told) stands was))

pub returns-clause-put : goal.returns-clause-put
returns-clause-put g c =
    let hashing = hashing_of g.H.Digest.Digest.bytes g.H.Hasher g.F.Family g.U.Update in
    let state = c.into_parts-log.result.1 in
    let old = c.into_parts-log.result.0 in
    ok-over g.C.Store state c.put_meta.result c.over.result (HasLasted g.C.Store hashing (with_metadata c.args.name.now c.args.entries.now) c.args.self) c.over.ensures
    (ok-four c.put_meta.result (ok-each (IsLog g.C.Store hashing.shape hashing.bytes hashing.hash old) (λ items log. IsLog g.C.Store hashing.shape hashing.bytes hashing.hash log items) c.put_meta.result c.put_meta.ensures.stands) c.put_meta.ensures.tree c.put_meta.ensures.put c.put_meta.ensures.later
    (λ log stands tree become later. lasted g.C.Store hashing (with_metadata c.args.name.now c.args.entries.now) c.args.self state old log c.into_parts-log.ensures.whole stands tree become later))

pub returns-clause-refused : goal.returns-clause-refused
returns-clause-refused g c =
    let state = c.into_parts-log.result.1 in
    let old = c.into_parts-log.result.0 in
    err-over g.C.Store state c.put_meta.result c.over.result (IsGivenUp g.C.Store (HasLeft g.C.Store (λ s. ReadsAs s.stable (IsOldOrNew (with_metadata c.args.name.now c.args.entries.now) s))) c.args.self.log.store) c.over.ensures
    (err-both c.put_meta.result c.put_meta.ensures.refused c.put_meta.ensures.given
    (λ r refused never. given-up g.C.Store (HasLeft g.C.Store (λ s. ReadsAs s.stable (IsOldOrNew (with_metadata c.args.name.now c.args.entries.now) s))) c.args.self state old r c.into_parts-log.ensures.whole refused never))
