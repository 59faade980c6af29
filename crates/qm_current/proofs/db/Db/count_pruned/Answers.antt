use Rattle.std.proofs.Common.{◌≡◌, ◌∙◌, ap, arith, subst, sym}
use Rattle.qm_model.proofs.Results.{ok-then}
use Rattle.qm_model.specs.StoreModel.{with_metadata}
use Rattle.qm_graft.specs.Grafting.{grafting}
use Rattle.qm_roots.specs.Canonical.{MayGo}
use Rattle.qm_store.specs.declared.refusal.Given.TheVariants as given
use Rattle.qm_bits.specs.Bitmaps.{Bitmap}
use Rattle.qm_any.specs.Layouts.{hashing_of, layout_of}
use Rattle.qm_current.specs.Databases.{Database}
use Rattle.qm_current.specs.Lasting.{AreEntries}
use Rattle.qm_current.proofs.Lasting.{counted-now, lacking, lasted-joined, of, over-counted, over-stands, over-uncounted}
use Rattle.qm_current.proofs.db.Db.count_pruned.Goals as goal

pub counting-requires-clause-start : goal.counting-requires-clause-start
counting-requires-clause-start g c =
    let same : c.pruned_chunks.result ≡ c.self.inside.any.activity.pruned = c.pruned_chunks.ensures ∙ ap (λ (m : Bitmap). m.pruned) c.bitmap.ensures in
    omega (arith, same, c.self.invariant.forgotten)

pub counting-requires-clause-may_go : goal.counting-requires-clause-may_go
counting-requires-clause-may_go g c =
    let same : c.pruned_chunks.result ≡ c.self.inside.any.activity.pruned = c.pruned_chunks.ensures ∙ ap (λ (m : Bitmap). m.pruned) c.bitmap.ensures in
    subst (λ n. MayGo g.F.Family.shape (grafting g.N.Chunks.LEN) n c.self.inside.canonical.size) (c.self.invariant.forgotten ∙ sym same) c.tree.ensures.sized.may_go

pub over-requires : goal.over-requires
over-requires g c =
    let hashing = hashing_of g.H.Digest.Digest.bytes g.H.Hasher g.F.Family g.U.Update in
    let own = c.self.inside in
    ok-then c.put_meta.result c.put_meta.ensures.put (λ any last. lasted-joined g.C.Store hashing (with_metadata own.name.now c.deref.result.now) g.N.Chunks.LEN (of own.any own.canonical own.instance own.name.now) any last c.self.invariant)

pub returns-in-Ok : goal.returns-in-Ok
returns-in-Ok g c =
    let members = g.C.Store in
    let layout = layout_of g.N.Chunks.LEN g.H.Digest.Digest.bytes g.H.Hasher g.F.Family g.U.Update g.I.Unordered in
    let own = c.self.inside in
    let done = c.put_meta.result in
    let same : c.pruned_chunks.result ≡ own.any.activity.pruned = c.pruned_chunks.ensures ∙ ap (λ (m : Bitmap). m.pruned) c.bitmap.ensures in
    let counts : AreEntries layout own.canonical own.any.activity.pruned c.deref.result.now =
    subst (AreEntries layout own.canonical own.any.activity.pruned) (sym c.deref.ensures.value)
    (subst (λ n. AreEntries layout own.canonical n c.in-Ok.entries.items) same
    (record { count_is = c.in-Ok.ensures.count; pins = λ list is. c.in-Ok.ensures.pins g.H.Hasher.hash g.U.Update.form list is })) in
    let put = over-counted members layout c.args.self own.any own.canonical own.instance own.name.now c.self.view_is done c.over.result c.over.ensures c.deref.result.now counts c.put_meta.ensures.put in
    record {
      stands = λ list is. over-stands members layout c.args.self own.any own.canonical own.instance own.name.now c.self.view_is done c.over.result c.over.ensures list (c.put_meta.ensures.stands list) is;
      counted = ok-then c.over.result put (λ db put. counted-now members layout (λ s. s) c.args.self db put);
      put = put;
      refused = over-uncounted members layout c.args.self own.any own.canonical own.instance own.name.now c.self.view_is done c.over.result c.over.ensures c.deref.result.now counts c.put_meta.ensures.refused;
    }

pub returns-in-Err : goal.returns-in-Err
returns-in-Err g c =
    let members = g.C.Store in
    let layout = layout_of g.N.Chunks.LEN g.H.Digest.Digest.bytes g.H.Hasher g.F.Family g.U.Update g.I.Unordered in
    record {
      stands = λ list is. tt;
      counted = tt;
      put = tt;
      refused = lacking members layout c.args.self.any.activity.pruned c.args.self c.out_of_memory.result (c.out_of_memory.ensures.given ∙ ap (λ (d : Database g.row.C.Denot g.row.H-Digest.Denot). given.Store d.any.log.store) c.self.view_is) c.out_of_memory.ensures.error;
    }
