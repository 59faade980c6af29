use Rattle.std.proofs.Common.{◌≡◌, ◌∙◌, ◌≤◌, List, ℕ, length, ap, sym, subst, arith, IfOk}
use Rattle.std.proofs.lemmas.Result.{on_ok_weaker, on_err_weaker}
use Rattle.qm_model.proofs.Results.{ok-then, err-then}
use Rattle.qm_model.specs.StoreModel.{pruned, Becomes}
use Rattle.qm_merkle.specs.Mems.{Stands}
use Rattle.qm_store.specs.Log.{Log, IsLog, IsHead, IsRefused, HasLeftPruned, digests_from}
use Rattle.qm_store.proofs.Heads.{head_kept}
use Rattle.qm_store.proofs.Stores.{ok-both, after-ok, refused-after, refused-whole, log-pruned}
use Rattle.qm_store.proofs.log.AuthLog.prune.Given
use Rattle.qm_store.proofs.log.AuthLog.prune.Goals.{After-drop-head}
use Rattle.qm_store.proofs.log.AuthLog.prune.Goals as goal

-- the bytes that the store gets are the head there, of each list that the log stands for
head : (g : Given.Over) (c : After-drop-head g) (list : List (List ℕ)) → IsLog g.C.Store g.F.Family.shape g.H.Digest.Digest.bytes g.H.Hasher.hash c.args.self list
    → IsHead g.F.Family.shape g.H.Digest.Digest.bytes g.H.Hasher.hash c.args.to (digests_from g.H.Hasher.hash g.F.Family.shape 0 list) c.deref.result.now
head g c list is =
    let shape = g.F.Family.shape in
    let bytes = g.H.Digest.Digest.bytes in
    let hash = g.H.Hasher.hash in
    let leaves = digests_from hash shape 0 list in
    let stands = subst (λ log. Stands shape bytes hash log.tree leaves) (sym c.self.view_is) is.tree in
    subst (IsHead shape bytes hash c.args.to leaves) (sym c.deref.ensures.value) (c.in-Ok.ensures.head hash leaves stands)

pub returns-in-Ok : goal.returns-in-Ok
returns-in-Ok g c = record {
  stands = λ list is.
      let members = g.C.Store in
      let shape = g.F.Family.shape in
      let bytes = g.H.Digest.Digest.bytes in
      let hash = g.H.Hasher.hash in
      let to = c.args.to in
      let tree = c.forget.new.tree in
      let old : Log g.row.C.Denot g.row.H-Digest.Denot = record { store = c.self.inside.store; tree = c.self.inside.tree } in
      let new : Log g.row.C.Denot g.row.H-Digest.Denot = record { store = c.prune-done.new.self; tree = tree } in
      let was = subst (λ l. IsLog members shape bytes hash l list) (sym c.self.view_is) is in
      let from : old.tree.start ≤ to = omega (arith, ap (λ l. l.tree.start) c.self.view_is, c.requires.start) in
      let within : to ≤ length list = omega (arith, c.requires.size, is.size) in
      let stands = c.in-Ok.ensures.stands hash (digests_from hash shape 0 list) was.tree in
      after-ok c.prune-done.result c.log_after.result new.store tree (λ log. IsLog members shape bytes hash log list) c.log_after.ensures.ok
      (ok-both {Q = Becomes (members.told old.store) (members.told new.store) (pruned to c.deref.result.now)} {R = IsLog members shape bytes hash new list} c.prune-done.result c.prune-done.ensures.ok_start c.prune-done.ensures.ok
      (λ first made.
      log-pruned members shape bytes hash old new list was (g.met.C.Store.told_start old.store) (g.met.C.Store.told_end old.store) to c.deref.result.now stands c.in-Ok.ensures.start first from within made));
  pruned =
      let members = g.C.Store in
      let cut = c.deref.result.now in
      let store = c.self.inside.store in
      let made = subst (λ s. IfOk c.log_after.result (λ log. Becomes (members.told s) (members.told log.store) (pruned c.args.to cut))) (ap (λ l. l.store) c.self.view_is)
      (after-ok c.prune-done.result c.log_after.result c.prune-done.new.self c.forget.new.tree (λ log. Becomes (members.told store) (members.told log.store) (pruned c.args.to cut)) c.log_after.ensures.ok c.prune-done.ensures.ok) in
      ok-then c.log_after.result made (λ log is. (cut, is, head g c));
  refused =
      let members = g.C.Store in
      let cut = c.deref.result.now in
      let old : Log g.row.C.Denot g.row.H-Digest.Denot = record { store = c.self.inside.store; tree = c.self.inside.tree } in
      err-then c.log_after.result
      (refused-after members (HasLeftPruned members c.args.to cut) old c.prune-done.new.self c.prune-done.result c.log_after.result c.log_after.ensures.err
      (on_err_weaker c.prune-done.result (λ told. record { within = c.prune-done.ensures.within; told = told }) c.prune-done.ensures.err) c.prune-done.ensures.cause c.prune-done.ensures.counted)
      (λ r refused. (cut, subst (λ log. IsRefused members (HasLeftPruned members c.args.to cut) log r.given r.error) c.self.view_is refused, head g c));
  start = ok-then c.log_after.result c.log_after.ensures.ok (λ log is. ap (λ t. t.start) is.2 ∙ c.in-Ok.ensures.start);
  size = ok-then c.log_after.result c.log_after.ensures.ok (λ log is. ap (λ t. t.leaves) is.2 ∙ c.in-Ok.ensures.leaves ∙ ap (λ l. l.tree.leaves) c.self.view_is);
  end =
      let members = g.C.Store in
      after-ok c.prune-done.result c.log_after.result c.prune-done.new.self c.forget.new.tree (λ log. members.«end» log.store ≡ members.«end» c.args.self.store) c.log_after.ensures.ok
      (on_ok_weaker c.prune-done.result (λ ends. ends ∙ ap (λ l. members.«end» l.store) c.self.view_is) c.prune-done.ensures.ok_end);
  later =
      let members = g.C.Store in
      let done = c.prune-done in
      let later = subst (λ l. members.faults l.store ≤ members.faults done.new.self) c.self.view_is done.ensures.cause.later in
      ok-then c.log_after.result c.log_after.ensures.ok (λ log is. subst (λ s. members.faults c.args.self.store ≤ members.faults s) (sym is.1) later);
}

pub returns-in-Err : goal.returns-in-Err
returns-in-Err g c = record {
  refused =
      let members = g.C.Store in
      let shape = g.F.Family.shape in
      let bytes = g.H.Digest.Digest.bytes in
      let hash = g.H.Hasher.hash in
      let tree = c.self.inside.tree in
      let same = ap (λ t. record { store = c.self.inside.store; tree = t }) c.in-Err.ensures.err ∙ c.self.view_is in
      let from : tree.start ≤ c.args.to = omega (arith, ap (λ l. l.tree.start) c.self.view_is, c.requires.start) in
      let within : c.args.to ≤ tree.leaves = omega (arith, ap (λ l. l.tree.leaves) c.self.view_is, c.requires.size) in
      let kept = head_kept shape g.F.Family.births g.met.F.Family.numbered g.met.F.Family.peaked bytes tree c.args.to c.in-Err.ensures.whole from within in (
        kept.0,
        refused-whole members (HasLeftPruned members c.args.to kept.0) c.args.self _ same,
        λ list is.
            let leaves = digests_from hash shape 0 list in
            kept.1 hash leaves (subst (λ log. Stands shape bytes hash log.tree leaves) (sym c.self.view_is) is.tree),
      );
  stands = λ list is. tt;
  start = tt;
  size = tt;
  end = tt;
  pruned = tt;
  later = tt;
}
