use Rattle.std.proofs.Common.{◌∙◌, ◌^◌, ◌≡◌, ◌≤◌, ap, sym, subst}
use Rattle.qm_store.proofs.log.AuthLog.bounds.Goals as goal

pub returns : goal.returns
returns g c =
    let start = c.get.ensures ∙ c.bounds-start.ensures.start in
    let leaves = c.get-2.ensures ∙ c.bounds-start.ensures.leaves in
    record {
      start = start ∙ ap (λ l. l.tree.start) c.self.view_is;
      size = leaves ∙ ap (λ l. l.tree.leaves) c.self.view_is;
      order = subst (λ n. n ≤ c.get-2.result) (sym start) (subst (λ n. c.self.inside.tree.start ≤ n) (sym leaves) c.bounds-start.ensures.whole.order);
      limit = subst (λ n. n ≤ 2 ^ 62) (sym leaves) c.bounds-start.ensures.whole.few;
      first = subst (λ l. g.C.Store.start l.store ≡ l.tree.start) c.self.view_is (sym c.self.invariant.0);
      past = subst (λ l. l.tree.leaves ≤ g.C.Store.«end» l.store) c.self.view_is c.self.invariant.1;
    }
