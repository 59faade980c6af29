use Rattle.std.proofs.Common.{◌≡◌, ◌+◌, ◌∙◌, length, ◌≤◌, map, ap, sym, subst}
use Rattle.qm_model.proofs.Results.{ok-then, err-then}
use Rattle.qm_store.specs.Log.{Log, IsLog, HasGrown, HasGrownPart}
use Rattle.qm_store.proofs.Stores.{refused-whole, log-stored}
use Rattle.qm_store.proofs.log.AuthLog.append_batch.Goals as goal

pub returns-in-Ok : goal.returns-in-Ok
returns-in-Ok g c = record {
  stands = λ list is.
      let members = g.C.Store in
      let shape = g.F.Family.shape in
      let bytes = g.H.Digest.Digest.bytes in
      let hash = g.H.Hasher.hash in
      let old : Log g.row.C.Denot g.row.H-Digest.Denot = record { store = c.self.inside.store; tree = c.self.inside.tree } in
      let was = subst (λ l. IsLog members shape bytes hash l list) (sym c.self.view_is) is in
      let last = subst (λ l. members.«end» l.store ≡ l.tree.leaves) (sym c.self.view_is) c.requires.last in
      log-stored members shape bytes hash old c.add_items.new.tree c.stored.result list (map (λ v. v.items) c.args.items.now) was (c.in-Ok.ensures.stands list was.tree) c.in-Ok.ensures.start
      c.stored.ensures.tree c.stored.ensures.grown (g.met.C.Store.told_start old.store) (g.met.C.Store.told_end old.store) last (g.met.C.Store.ordered old.store);
  refused =
      err-then c.stored.result c.stored.ensures.refused (λ r refused. refused c.args.self (sym (ap (λ l. l.store) c.self.view_is)));
  start = ok-then c.stored.result c.stored.ensures.tree (λ log same. ap (λ t. t.start) same ∙ c.in-Ok.ensures.start ∙ ap (λ l. l.tree.start) c.self.view_is);
  grown =
      let members = g.C.Store in
      ok-then c.stored.result c.stored.ensures.grown (λ log grown. subst (λ l. HasGrown members l.store log.store (map (λ v. v.items) c.args.items.now)) c.self.view_is grown);
  later =
      let members = g.C.Store in
      ok-then c.stored.result c.stored.ensures.later (λ log later. subst (λ l. members.faults l.store ≤ members.faults log.store) c.self.view_is later);
  size = ok-then c.stored.result c.stored.ensures.tree (λ log same. ap (λ t. t.leaves) same ∙ c.in-Ok.ensures.leaves ∙ ap (λ l. l.tree.leaves + length c.args.items.now) c.self.view_is);
}

pub returns-in-Err : goal.returns-in-Err
returns-in-Err g c = record {
  refused =
      let same = ap (λ t. record { store = c.self.inside.store; tree = t }) c.in-Err.ensures.err ∙ c.self.view_is in
      refused-whole g.C.Store (λ old new. HasGrownPart g.C.Store old new (map (λ v. v.items) c.args.items.now)) c.args.self _ same;
  stands = λ list is. tt;
  start = tt;
  size = tt;
  grown = tt;
  later = tt;
}
