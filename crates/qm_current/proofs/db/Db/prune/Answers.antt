use Rattle.std.proofs.Common.{◌≡◌, ◌⊎◌, ◌∙◌, ◌≤◌, ◌^◌, Err, arith, ap, ap₂, inl, inr, refl, subst, sym}
use Rattle.qm_graft.proofs.Fitting.{grafting-span}
use Rattle.qm_model.proofs.Results.{err-then, ok-then}
use Rattle.qm_model.specs.StoreModel.{settled}
use Rattle.qm_any.specs.Databases as anys
use Rattle.qm_any.specs.Lasting.{HasLeftStable, IsGivenUp}
use Rattle.qm_any.specs.Layouts.{layout_of}
use Rattle.qm_any.proofs.Lasting.{all-stable}
use Rattle.qm_current.specs.Databases.{Database}
use Rattle.qm_current.specs.Lasting.{boundary_from, boundary_of, chunks_after, HasLeftPruned, HasLeftUncounted, HasPruned}
use Rattle.qm_current.proofs.Applying.{on-ok}
use Rattle.qm_current.proofs.Crashing.{enough-of, places-of}
use Rattle.qm_current.proofs.CrashingPruned.{pruned-safe, unmoved-safe}
use Rattle.qm_current.proofs.Lasting.{cause-behind, left-more}
use Rattle.qm_current.proofs.Pruning.{left-behind, pruned-behind}
use Rattle.qm_current.proofs.db.Db.prune.Goals as goal

pub cut-requires-clause-within : goal.cut-requires-clause-within
cut-requires-clause-within g c =
    let shape = g.F.Family.shape in
    let size = g.N.Chunks.LEN in
    let rest = c.in-Ok.ensures.committed.any.rest in
    let same = ap₂ (λ floor n. boundary_from shape size floor n) (ap (λ (d : anys.Database g.row.C.Denot g.row.H-Digest.Denot). d.floor) rest) (ap (λ (d : anys.Database g.row.C.Denot g.row.H-Digest.Denot). d.commitment.size) rest) in
    omega (arith, c.if-get-boundary.false, c.get.ensures, c.get-in-Ok.ensures, c.get-boundary.ensures, c.sync_boundary.ensures.exact, same)

pub cut-requires-clause-stable : goal.cut-requires-clause-stable
cut-requires-clause-stable g c = all-stable (g.C.Store.told c.args.self.any.log.store) (g.C.Store.told c.in-Ok.db.any.log.store) c.in-Ok.ensures.committed.any.store.told

pub returns-in-Ok : goal.returns-in-Ok
returns-in-Ok g c =
    let members = g.C.Store in
    let layout = layout_of g.N.Chunks.LEN g.H.Digest.Digest.bytes g.H.Hasher g.F.Family g.U.Update g.I.Unordered in
    let size = g.N.Chunks.LEN in
    let self = c.args.self in
    let middle = c.in-Ok.db in
    let last = c.in-Ok.ensures.committed in
    let to = c.get-in-Ok.result in
    let low : c.args.loc ≤ boundary_of g.F.Family.shape size self = omega (arith, c.if-get-boundary.false, c.get.ensures, c.get-boundary.ensures, c.sync_boundary.ensures.exact) in
    let pruned = ok-then c.cut.result c.cut.ensures.pruned (λ db cut. subst (λ t. HasPruned members layout settled t self db) c.get-in-Ok.ensures (pruned-behind members layout settled to self middle db last cut)) in
    let refused = err-then c.cut.result c.cut.ensures.refused (λ r given.
    subst (λ t. IsGivenUp members (λ old new. HasLeftStable members old new ⊎ (HasLeftUncounted members layout settled (chunks_after size t self) self new ⊎ HasLeftPruned members layout settled t self new)) self.any.log.store r) c.get-in-Ok.ensures
    (cause-behind members layout settled
    (λ _ new. HasLeftUncounted members layout (λ s. s) (chunks_after size to middle) middle new ⊎ HasLeftPruned members layout (λ s. s) to middle new)
    (λ old new. HasLeftStable members old new ⊎ (HasLeftUncounted members layout settled (chunks_after size to self) self new ⊎ HasLeftPruned members layout settled to self new))
    self middle r last (λ new left. inr (left-behind members layout settled to self middle new last left)) given)) in
    record {
      stands = λ list is. c.cut.ensures.stands list (c.in-Ok.ensures.stands list is);
      counted = c.cut.ensures.counted;
      pruned = pruned;
      boundary = λ list is. sym c.sync_boundary.ensures.exact ∙ c.sync_boundary.ensures.list list is;
      fits = on-ok c.cut.result low;
      beyond = err-then c.cut.result c.cut.ensures.refused (λ r given past. absurd (omega (arith, low, past)));
      refused = err-then c.cut.result refused (λ r given within. given);
      crashes = λ rules log is counted.
          pruned-safe layout g.H.Digest.Digest.SIZE self.name rules g.F.Family.births (places-of g.F.Family.shape g.F.Family.births g.met.F.Family.numbered g.met.F.Family.peaked) (enough-of size g.met.N.Chunks.least) members self refl log is counted g.met.H.Hasher.sized
          (subst (λ (d : Database g.row.C.Denot g.row.H-Digest.Denot). members.start d.any.log.store ≡ d.any.log.tree.start) c.self.view_is c.bounds.ensures.first)
          (subst (λ (d : Database g.row.C.Denot g.row.H-Digest.Denot). d.any.commitment.size ≤ 2 ^ 62) c.self.view_is c.bounds.ensures.few) (g.met.C.Store.told_start self.any.log.store) (let power = g.met.N.Chunks.power in grafting-span size power.0 power.1) c.args.loc
          (omega (arith, low, c.sync_boundary.ensures.exact, c.sync_boundary.ensures.list log.list is)) c.cut.result pruned refused;
    }

pub returns-in-Err : goal.returns-in-Err
returns-in-Err g c =
    let members = g.C.Store in
    let layout = layout_of g.N.Chunks.LEN g.H.Digest.Digest.bytes g.H.Hasher g.F.Family g.U.Update g.I.Unordered in
    let size = g.N.Chunks.LEN in
    let self = c.args.self in
    let to = c.args.loc in
    let low : to ≤ boundary_of g.F.Family.shape size self = omega (arith, c.if-get-boundary.false, c.get.ensures, c.get-boundary.ensures, c.sync_boundary.ensures.exact) in
    let refused =
    left-more members (HasLeftStable members) (λ old new. HasLeftStable members old new ⊎ (HasLeftUncounted members layout settled (chunks_after size to self) self new ⊎ HasLeftPruned members layout settled to self new)) self.any.log.store c.in-Err.refusal
    (λ new left. inl left) c.in-Err.ensures.refused in
    record {
      stands = λ list is. tt;
      counted = tt;
      pruned = tt;
      boundary = λ list is. sym c.sync_boundary.ensures.exact ∙ c.sync_boundary.ensures.list list is;
      fits = tt;
      beyond = λ past. absurd (omega (arith, low, past));
      refused = λ within. refused;
      crashes = λ rules log is counted.
          pruned-safe layout g.H.Digest.Digest.SIZE self.name rules g.F.Family.births (places-of g.F.Family.shape g.F.Family.births g.met.F.Family.numbered g.met.F.Family.peaked) (enough-of size g.met.N.Chunks.least) members self refl log is counted g.met.H.Hasher.sized
          (subst (λ (d : Database g.row.C.Denot g.row.H-Digest.Denot). members.start d.any.log.store ≡ d.any.log.tree.start) c.self.view_is c.bounds.ensures.first)
          (subst (λ (d : Database g.row.C.Denot g.row.H-Digest.Denot). d.any.commitment.size ≤ 2 ^ 62) c.self.view_is c.bounds.ensures.few) (g.met.C.Store.told_start self.any.log.store) (let power = g.met.N.Chunks.power in grafting-span size power.0 power.1) to
          (omega (arith, low, c.sync_boundary.ensures.exact, c.sync_boundary.ensures.list log.list is)) (Err c.in-Err.refusal) tt refused;
    }

pub returns-then-get-boundary-clause-crashes : goal.returns-then-get-boundary-clause-crashes
returns-then-get-boundary-clause-crashes g c = λ rules log is counted.
    let layout = layout_of g.N.Chunks.LEN g.H.Digest.Digest.bytes g.H.Hasher g.F.Family g.U.Update g.I.Unordered in
    unmoved-safe layout g.H.Digest.Digest.SIZE c.args.self.name rules g.F.Family.births (places-of g.F.Family.shape g.F.Family.births g.met.F.Family.numbered g.met.F.Family.peaked) (enough-of g.N.Chunks.LEN g.met.N.Chunks.least) g.C.Store log c.args.self.any.log.store
