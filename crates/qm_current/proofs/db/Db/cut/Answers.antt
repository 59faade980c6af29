use Rattle.std.proofs.Common.{◌≡◌, ◌⊎◌, ◌≤◌, ◌*◌, ◌/◌, ◌^◌, ◌∙◌, ap, arith, inl, subst, sym}
use Rattle.std.specs.Prelude.{max, min, IfErr, IfOk, IfSome}
use Rattle.qm_model.proofs.GraftedLemmas.{boundary_most}
use Rattle.qm_model.proofs.Results.{ok-then}
use Rattle.qm_model.specs.Grafted.{sync_boundary}
use Rattle.qm_model.specs.Live.{floor}
use Rattle.qm_model.specs.StoreModel.{end_of, with_metadata, IsOldOrNew, ReadsAs}
use Rattle.qm_bits.specs.Bitmaps.{Bitmap}
use Rattle.qm_graft.specs.Grafting.{grafting}
use Rattle.qm_graft.proofs.Fitting.{grafting-some, grafting-span}
use Rattle.qm_store.specs.declared.refusal.Given.TheVariants as given
use Rattle.qm_store.specs.Log.{HasLeft}
use Rattle.qm_roots.specs.Canonical.{MayGo}
use Rattle.qm_any.specs.Databases as anys
use Rattle.qm_any.specs.Lasting.{IsGivenUp}
use Rattle.qm_any.specs.Layouts.{layout_of}
use Rattle.qm_current.specs.Databases.{Database, IsDatabase}
use Rattle.qm_current.specs.Lasting.{boundary_of, chunks_after, AreEntries, HasLeftPruned, HasLeftUncounted, HasPruned}
use Rattle.qm_current.proofs.Lasting.{lacking, left-more, lifted, of, ok-over, put-left, put-stable}
use Rattle.qm_current.proofs.Pruning.{counted-cut, fewer-before, go-after, over-cut, over-cut-joined, over-uncut}
use Rattle.qm_current.proofs.db.Db.cut.Given
use Rattle.qm_current.proofs.db.Db.cut.Goals as goal

module _ (g : Given.Over) where
  -- a location up to the boundary is one up to the floor, and up to the end
  within : (db : Database g.row.C.Denot g.row.H-Digest.Denot) (to : _) → to ≤ boundary_of g.F.Family.shape g.N.Chunks.LEN db → (to ≤ db.any.floor) × (to ≤ db.any.commitment.size)
  within db to low =
      let most = boundary_most g.F.Family.shape (grafting g.N.Chunks.LEN) (min db.any.floor db.any.commitment.size) db.any.commitment.size in
      (omega (arith, low, most), omega (arith, low, most))

pub forgetting-requires-clause-start : goal.forgetting-requires-clause-start
forgetting-requires-clause-start g c =
    let own = c.self.inside in
    let size = g.N.Chunks.LEN in
    let chunks : c.whole_chunks-chunks.result ≡ max own.any.activity.pruned (c.args.to / (8 * size)) = c.whole_chunks-chunks.ensures ∙ ap (λ (m : Bitmap). max m.pruned (c.args.to / (8 * size))) c.bitmap.ensures in
    subst (λ n. own.canonical.tree.start ≤ n) (sym chunks) (fewer-before own.canonical.tree.start own.any.activity.pruned (c.args.to / (8 * size)) c.self.invariant.forgotten)

pub forgetting-requires-clause-may_go : goal.forgetting-requires-clause-may_go
forgetting-requires-clause-may_go g c =
    let own = c.self.inside in
    let shape = g.F.Family.shape in
    let size = g.N.Chunks.LEN in
    let height = grafting size in
    let power = g.met.N.Chunks.power in
    let span : 2 ^ height ≡ 8 * size = grafting-span size power.0 power.1 in
    let some = grafting-some size g.met.N.Chunks.least in
    let chunks : c.whole_chunks-chunks.result ≡ max own.any.activity.pruned (c.args.to / (8 * size)) = c.whole_chunks-chunks.ensures ∙ ap (λ (m : Bitmap). max m.pruned (c.args.to / (8 * size))) c.bitmap.ensures in
    let low = subst (λ (d : Database g.row.C.Denot g.row.H-Digest.Denot). c.args.to ≤ boundary_of shape size d) (sym c.self.view_is) c.requires.within in
    let goes = subst (λ n. MayGo shape height n own.canonical.size) c.self.invariant.forgotten c.tree.ensures.sized.may_go in
    subst (λ n. MayGo shape height n own.canonical.size) (sym chunks)
    (go-after shape height (8 * size) span (λ few more less. g.met.F.Graftable.rising height few more some less) (min own.any.floor own.any.commitment.size) own.canonical.size own.any.activity.pruned c.args.to goes
    (subst (λ n. c.args.to ≤ sync_boundary shape height (min own.any.floor own.any.commitment.size) n) (sym c.self.invariant.size_is) low))

pub prune_bits-requires : goal.prune_bits-requires
prune_bits-requires g c =
    let low = within g c.args.self c.args.to c.requires.within in
    let same = ap (λ (d : Database g.row.C.Denot g.row.H-Digest.Denot). d.any.commitment.size) c.self.view_is in
    let put = ap (λ (d : anys.Database g.row.C.Denot g.row.H-Digest.Denot). d.commitment.size) c.in-Ok-put_meta.ensures.put.rest in
    record { size = omega (arith, low.1, same, put) }

pub prune_log-requires-clause-size : goal.prune_log-requires-clause-size
prune_log-requires-clause-size g c =
    let low = within g c.args.self c.args.to c.requires.within in
    let same = ap (λ (d : Database g.row.C.Denot g.row.H-Digest.Denot). d.any.commitment.size) c.self.view_is in
    let put = ap (λ (d : anys.Database g.row.C.Denot g.row.H-Digest.Denot). d.commitment.size) c.in-Ok-put_meta.ensures.put.rest in
    let bits = ap (λ (d : anys.Database g.row.C.Denot g.row.H-Digest.Denot). d.commitment.size) c.prune_bits.ensures.pruned in
    omega (arith, low.1, same, put, bits)

pub prune_log-requires-clause-stable : goal.prune_log-requires-clause-stable
prune_log-requires-clause-stable g c =
    let told = g.C.Store.told in
    let own = c.self.inside in
    let put = c.in-Ok-put_meta.any in
    let stable = subst (λ (d : Database g.row.C.Denot g.row.H-Digest.Denot). IfSome (told d.any.log.store) (λ s. s.stable ≡ end_of s)) (sym c.self.view_is) c.requires.stable in
    subst (λ (d : anys.Database g.row.C.Denot g.row.H-Digest.Denot). IfSome (told d.log.store) (λ s. s.stable ≡ end_of s)) (sym c.prune_bits.ensures.pruned)
    (put-stable (told own.any.log.store) (told put.log.store) own.name.now c.deref.result.now c.in-Ok-put_meta.ensures.put.store.told stable)

pub over-requires : goal.over-requires
over-requires g c =
    let layout = layout_of g.N.Chunks.LEN g.H.Digest.Digest.bytes g.H.Hasher g.F.Family g.U.Update g.I.Unordered in
    let size = g.N.Chunks.LEN in
    let own = c.self.inside in
    let to = c.args.to in
    let old : Database g.row.C.Denot g.row.H-Digest.Denot = of own.any own.canonical own.instance own.name.now in
    let kept = c.forgetting.new.canonical in
    let chunks : c.whole_chunks-chunks.result ≡ chunks_after size to old = c.whole_chunks-chunks.ensures ∙ ap (λ (m : Bitmap). max m.pruned (to / (8 * size))) c.bitmap.ensures in
    let counts : AreEntries layout own.canonical (chunks_after size to old) c.deref.result.now =
    subst (AreEntries layout own.canonical (chunks_after size to old)) (sym c.deref.ensures.value)
    (subst (λ n. AreEntries layout own.canonical n c.in-Ok.entries.items) chunks
    (record { count_is = c.in-Ok.ensures.count; pins = λ list is. c.in-Ok.ensures.pins g.H.Hasher.hash g.U.Update.form list is })) in
    let low = within g c.args.self to c.requires.within in
    let same = ap (λ (d : Database g.row.C.Denot g.row.H-Digest.Denot). d.any.commitment.size) c.self.view_is in
    over-cut-joined g.C.Store layout to old kept c.in-Ok-put_meta.any c.prune_bits.result c.deref.result.now counts c.in-Ok-put_meta.ensures.put c.prune_bits.ensures.pruned c.prune_log.result
    (omega (arith, g.met.N.Chunks.least)) (omega (arith, low.1, same)) c.self.invariant (c.in-Ok.ensures.start ∙ chunks) c.in-Ok.ensures.rest c.prune_log.ensures.pruned

pub returns-in-Ok-put_meta : goal.returns-in-Ok-put_meta
returns-in-Ok-put_meta g c =
    let members = g.C.Store in
    let layout = layout_of g.N.Chunks.LEN g.H.Digest.Digest.bytes g.H.Hasher g.F.Family g.U.Update g.I.Unordered in
    let size = g.N.Chunks.LEN in
    let own = c.self.inside in
    let to = c.args.to in
    let old : Database g.row.C.Denot g.row.H-Digest.Denot = of own.any own.canonical own.instance own.name.now in
    let kept = c.forgetting.new.canonical in
    let done = c.prune_log.result in
    let result = c.over.result in
    let chunks : c.whole_chunks-chunks.result ≡ chunks_after size to old = c.whole_chunks-chunks.ensures ∙ ap (λ (m : Bitmap). max m.pruned (to / (8 * size))) c.bitmap.ensures in
    let counts : AreEntries layout own.canonical (chunks_after size to old) c.deref.result.now =
    subst (AreEntries layout own.canonical (chunks_after size to old)) (sym c.deref.ensures.value)
    (subst (λ n. AreEntries layout own.canonical n c.in-Ok.entries.items) chunks
    (record { count_is = c.in-Ok.ensures.count; pins = λ list is. c.in-Ok.ensures.pins g.H.Hasher.hash g.U.Update.form list is })) in
    let pruned =
    subst (λ (db : Database g.row.C.Denot g.row.H-Digest.Denot). IfOk result (HasPruned members layout (λ s. s) to db)) c.self.view_is
    (over-cut members layout to old kept c.in-Ok-put_meta.any c.prune_bits.result c.deref.result.now counts c.in-Ok-put_meta.ensures.put c.prune_bits.ensures.pruned done result c.over.ensures c.prune_log.ensures.pruned
    (c.in-Ok.ensures.start ∙ chunks) c.in-Ok.ensures.rest) in
    record {
      stands = λ list is.
          let at = subst (λ (db : Database g.row.C.Denot g.row.H-Digest.Denot). IsDatabase members layout db list) (sym c.self.view_is) is in
          let low = within g c.args.self to c.requires.within in
          let below : to ≤ floor list = omega (arith, low.0, is.any.floor) in
          ok-over kept own.instance own.name.now done result (λ db. IsDatabase members layout db list) c.over.ensures
          (ok-then done (c.prune_log.ensures.stands list below (c.prune_bits.ensures.stands list below (c.in-Ok-put_meta.ensures.stands list at.any)))
          (λ x there. record { any = there; canonical = c.in-Ok.ensures.stands g.H.Hasher.hash g.U.Update.form list at.canonical }));
      counted = ok-then result pruned (λ db cut. counted-cut members layout (λ s. s) to c.args.self db cut);
      pruned = pruned;
      refused =
          subst (λ (db : Database g.row.C.Denot g.row.H-Digest.Denot).
          IfErr result (IsGivenUp members (λ _ new. HasLeftUncounted members layout (λ s. s) (chunks_after size to db) db new ⊎ HasLeftPruned members layout (λ s. s) to db new) db.any.log.store)) c.self.view_is
          (over-uncut members layout to old kept c.in-Ok-put_meta.any c.prune_bits.result c.deref.result.now counts c.in-Ok-put_meta.ensures.put c.prune_bits.ensures.pruned done result c.over.ensures c.prune_log.ensures.refused);
    }

pub returns-in-Err : goal.returns-in-Err
returns-in-Err g c =
    let members = g.C.Store in
    let layout = layout_of g.N.Chunks.LEN g.H.Digest.Digest.bytes g.H.Hasher g.F.Family g.U.Update g.I.Unordered in
    let size = g.N.Chunks.LEN in
    let own = c.self.inside in
    let to = c.args.to in
    let old : Database g.row.C.Denot g.row.H-Digest.Denot = of own.any own.canonical own.instance own.name.now in
    let entries = c.deref.result.now in
    let chunks : c.whole_chunks-chunks.result ≡ chunks_after size to old = c.whole_chunks-chunks.ensures ∙ ap (λ (m : Bitmap). max m.pruned (to / (8 * size))) c.bitmap.ensures in
    let counts : AreEntries layout own.canonical (chunks_after size to old) entries =
    subst (AreEntries layout own.canonical (chunks_after size to old)) (sym c.deref.ensures.value)
    (subst (λ n. AreEntries layout own.canonical n c.in-Ok.entries.items) chunks
    (record { count_is = c.in-Ok.ensures.count; pins = λ list is. c.in-Ok.ensures.pins g.H.Hasher.hash g.U.Update.form list is })) in
    let Left = HasLeft members (λ s. ReadsAs s.stable (IsOldOrNew (with_metadata own.name.now entries) s)) in
    let up = subst (IsGivenUp members Left own.any.log.store) (sym c.given_up.ensures) (lifted members Left own.any.log.store c.in-Err.refusal c.in-Err.ensures.refused) in
    record {
      stands = λ list is. tt;
      counted = tt;
      pruned = tt;
      refused =
          subst (λ (db : Database g.row.C.Denot g.row.H-Digest.Denot).
          IsGivenUp members (λ _ new. HasLeftUncounted members layout (λ s. s) (chunks_after size to db) db new ⊎ HasLeftPruned members layout (λ s. s) to db new) db.any.log.store c.given_up.result) c.self.view_is
          (left-more members Left (λ _ new. HasLeftUncounted members layout (λ s. s) (chunks_after size to old) old new ⊎ HasLeftPruned members layout (λ s. s) to old new) own.any.log.store c.given_up.result
          (λ new left. inl (put-left members layout (chunks_after size to old) old entries new counts left)) up);
    }

pub returns-in_default : goal.returns-in_default
returns-in_default g c =
    let members = g.C.Store in
    let layout = layout_of g.N.Chunks.LEN g.H.Digest.Digest.bytes g.H.Hasher g.F.Family g.U.Update g.I.Unordered in
    let self = c.args.self in
    let chunks = chunks_after g.N.Chunks.LEN c.args.to self in
    record {
      stands = λ list is. tt;
      counted = tt;
      pruned = tt;
      refused =
          left-more members (λ _. HasLeftUncounted members layout (λ s. s) chunks self) (λ _ new. HasLeftUncounted members layout (λ s. s) chunks self new ⊎ HasLeftPruned members layout (λ s. s) c.args.to self new) self.any.log.store c.out_of_memory.result
          (λ new left. inl left)
          (lacking members layout chunks self c.out_of_memory.result (c.out_of_memory.ensures.given ∙ ap (λ (d : Database g.row.C.Denot g.row.H-Digest.Denot). given.Store d.any.log.store) c.self.view_is) c.out_of_memory.ensures.error);
    }
