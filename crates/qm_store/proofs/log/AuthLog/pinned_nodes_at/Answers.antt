use Rattle.std.proofs.Common.{◌≡◌, ◌≤◌, ◌<◌, None, OnOk, IfErr, arith, refl, sym, subst}
use Rattle.qm_model.specs.Trees.{peak_positions}
use Rattle.qm_merkle.specs.Mems.{Stands, node_at}
use Rattle.qm_proofs.specs.Proofs.{first_lacked}
use Rattle.qm_store.specs.Log.{IsLacked, digests_from}
use Rattle.qm_store.proofs.Exits.{unlike}
use Rattle.qm_store.proofs.log.AuthLog.pinned_nodes_at.Goals as goal

pub returns-then-leaves-count : goal.returns-then-leaves-count
returns-then-leaves-count g c =
    let past = subst (λ n. n < c.args.count) c.bounds-leaves.ensures.size c.if-leaves-count.true in
    record {
      value = λ list is. tt;
      range = λ _. refl;
      held = tt;
      cause = λ within. absurd (omega (arith, past, within));
      whole = λ from within. absurd (omega (arith, past, within));
    }

pub returns : goal.returns
returns g c =
    let shape = g.F.Family.shape in
    let positions = peak_positions shape c.args.count in
    let made = c.kept_peaks in
    record {
      value = λ list is.
          let leaves = digests_from g.H.Hasher.hash shape 0 list in
          made.ensures.value g.H.Hasher.hash leaves (subst (λ log. Stands shape g.H.Digest.Digest.bytes g.H.Hasher.hash log.tree leaves) (sym c.self.view_is) is.tree);
      range = λ past. absurd (unlike c.args.self.now.tree.leaves c.bounds-leaves.result.1 c.args.count c.bounds-leaves.ensures.size c.if-leaves-count.false past);
      held = subst (λ log. OnOk made.result (first_lacked (node_at shape log.tree) positions ≡ None)) c.self.view_is made.ensures.held;
      cause = λ within. subst (λ log. IfErr made.result (IsLacked (node_at shape log.tree) positions)) c.self.view_is made.ensures.cause;
      whole = λ from within. made.ensures.whole (subst (λ log. log.tree.start ≤ c.args.count) (sym c.self.view_is) from);
    }
