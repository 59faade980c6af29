use Rattle.std.proofs.Common.{map, subst, sym, arith}
use Rattle.qm_model.specs.Forms.{spelling}
use Rattle.qm_model.specs.StoreModel.{pruned}
use Rattle.qm_model.proofs.Results.{err-then}
use Rattle.qm_any.specs.Databases.{IsDatabase}
use Rattle.qm_any.specs.Layouts.{layout_of, hashing_of}
use Rattle.qm_any.specs.Lasting.{HasPrunedLog, HasLeftPruned, IsGivenUp}
use Rattle.qm_any.proofs.Lasting.{ok-two, ok-three, still-told, ok-over, err-over, relogged, has-kept, has-pruned, cut-given-up}
use Rattle.qm_any.proofs.db.Db.prune_log.Goals as goal

pub returns-then-to-start : goal.returns-then-to-start
returns-then-to-start g c =
    record {
      stands = λ list low is.
          let layout = layout_of g.N.Chunks.LEN g.H.Digest.Digest.bytes g.H.Hasher g.F.Family g.U.Update g.I.Unordered in
          subst (λ db. IsDatabase g.C.Store layout db list) (sym c.over.ensures) (subst (λ db. IsDatabase g.C.Store layout db list) c.into_parts-log.ensures.whole is);
      pruned =
          let hashing = hashing_of g.H.Digest.Digest.bytes g.H.Hasher g.F.Family g.U.Update in
          subst (HasPrunedLog g.C.Store hashing c.args.to c.args.self) (sym c.over.ensures)
          (has-kept g.C.Store hashing c.args.to c.args.self c.into_parts-log.result.1 c.into_parts-log.result.0 c.into_parts-log.ensures.whole (omega (arith, c.if-to-start.true, c.bounds-start.ensures.start)));
      refused = tt;
    }

pub returns : goal.returns
returns g c =
    record {
      stands = λ list low is.
          let layout = layout_of g.N.Chunks.LEN g.H.Digest.Digest.bytes g.H.Hasher g.F.Family g.U.Update g.I.Unordered in
          let state = c.into_parts-log.result.1 in
          let old = c.into_parts-log.result.0 in
          let was = subst (λ db. IsDatabase g.C.Store layout db list) c.into_parts-log.ensures.whole is in
          ok-over g.C.Store state c.prune.result c.over-2.result (λ db. IsDatabase g.C.Store layout db list) c.over-2.ensures
          (ok-three c.prune.result (c.prune.ensures.stands (map (spelling g.U.Update.form) list) was.lent.logged) c.prune.ensures.pruned c.prune.ensures.start
          (λ log stands cut first. relogged g.C.Store layout state old log list (omega (arith, first, low)) (still-told (g.C.Store.told old.store) (g.C.Store.told log.store) (pruned c.args.to cut.0) cut.1) stands was));
      pruned =
          let hashing = hashing_of g.H.Digest.Digest.bytes g.H.Hasher g.F.Family g.U.Update in
          let state = c.into_parts-log.result.1 in
          let old = c.into_parts-log.result.0 in
          ok-over g.C.Store state c.prune.result c.over-2.result (HasPrunedLog g.C.Store hashing c.args.to c.args.self) c.over-2.ensures
          (ok-three c.prune.result c.prune.ensures.start c.prune.ensures.size (ok-two {R = λ log. _ × _} c.prune.result c.prune.ensures.pruned c.prune.ensures.later (λ log cut later. (cut, later)))
          (λ log first size made. has-pruned g.C.Store hashing c.args.to c.args.self state old log made.0.0 c.into_parts-log.ensures.whole (omega (arith, c.if-to-start.false, c.bounds-start.ensures.start)) first size made.0.1 made.0.2 made.1));
      refused =
          let hashing = hashing_of g.H.Digest.Digest.bytes g.H.Hasher g.F.Family g.U.Update in
          let state = c.into_parts-log.result.1 in
          let old = c.into_parts-log.result.0 in
          err-over g.C.Store state c.prune.result c.over-2.result (IsGivenUp g.C.Store (λ _. HasLeftPruned g.C.Store hashing (λ s. s) c.args.to c.args.self.log) c.args.self.log.store) c.over-2.ensures
          (err-then c.prune.result c.prune.ensures.refused
          (λ r refused. cut-given-up g.C.Store hashing c.args.to refused.0 c.args.self state old r c.into_parts-log.ensures.whole c.requires.stable (omega (arith, c.if-to-start.false, c.bounds-start.ensures.start)) refused.1 refused.2));
    }
