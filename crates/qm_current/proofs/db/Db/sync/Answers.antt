use Rattle.std.proofs.Common.{◌⊎◌, inl, inr, refl, Err}
use Rattle.qm_model.proofs.Results.{err-then, ok-then}
use Rattle.qm_model.specs.StoreModel.{settled}
use Rattle.qm_any.specs.Lasting.{HasLeftStable}
use Rattle.qm_any.specs.Layouts.{layout_of}
use Rattle.qm_current.specs.Lasting.{HasLeftUncounted}
use Rattle.qm_current.proofs.Lasting.{cause-behind, counted-behind, left-more, pruned-same, uncounted-behind}
use Rattle.qm_current.proofs.Crashing.{enough-of, places-of, synced-safe}
use Rattle.qm_current.proofs.db.Db.sync.Goals as goal

pub returns-in-Ok : goal.returns-in-Ok
returns-in-Ok g c =
    let members = g.C.Store in
    let layout = layout_of g.N.Chunks.LEN g.H.Digest.Digest.bytes g.H.Hasher g.F.Family g.U.Update g.I.Unordered in
    let self = c.args.self in
    let middle = c.in-Ok.db in
    let last = c.in-Ok.ensures.synced in
    let synced = ok-then c.count_pruned.result c.count_pruned.ensures.put (λ db put. counted-behind members layout settled self middle db last put) in
    let refused = err-then c.count_pruned.result c.count_pruned.ensures.refused (λ r up.
    cause-behind members layout settled (λ _. HasLeftUncounted members layout (λ s. s) middle.any.activity.pruned middle) (λ old new. HasLeftStable members old new ⊎ HasLeftUncounted members layout settled self.any.activity.pruned self new) self middle r last
    (λ new left. inr (uncounted-behind members layout settled self.any.activity.pruned middle.any.activity.pruned self middle new last (pruned-same members layout settled self middle last) left)) up) in
    record {
      stands = λ list is. c.count_pruned.ensures.stands list (c.in-Ok.ensures.stands list is);
      counted = c.count_pruned.ensures.counted;
      synced = synced;
      refused = refused;
      crashes = λ rules log is counted.
          synced-safe layout g.H.Digest.Digest.SIZE self.name rules g.F.Family.births (places-of g.F.Family.shape g.F.Family.births g.met.F.Family.numbered g.met.F.Family.peaked) (enough-of g.N.Chunks.LEN g.met.N.Chunks.least) members self refl log is counted g.met.H.Hasher.sized
          c.count_pruned.result synced refused;
    }

pub returns-in-Err : goal.returns-in-Err
returns-in-Err g c =
    let members = g.C.Store in
    let layout = layout_of g.N.Chunks.LEN g.H.Digest.Digest.bytes g.H.Hasher g.F.Family g.U.Update g.I.Unordered in
    let self = c.args.self in
    let refused = left-more members (HasLeftStable members) (λ old new. HasLeftStable members old new ⊎ HasLeftUncounted members layout settled self.any.activity.pruned self new) self.any.log.store c.in-Err.refusal (λ new left. inl left) c.in-Err.ensures.refused in
    record {
      stands = λ list is. tt;
      counted = tt;
      synced = tt;
      refused = refused;
      crashes = λ rules log is counted.
          synced-safe layout g.H.Digest.Digest.SIZE self.name rules g.F.Family.births (places-of g.F.Family.shape g.F.Family.births g.met.F.Family.numbered g.met.F.Family.peaked) (enough-of g.N.Chunks.LEN g.met.N.Chunks.least) members self refl log is counted g.met.H.Hasher.sized
          (Err c.in-Err.refusal) tt refused;
    }
